-- Clauses 3 and 4 of Demand3 for every call of a session: what the memory calls read is the target's, and what they write is there.
-- Serves the proofs only.
use Rattle.std.specs.Prelude.{ℕ, ◌+◌, ◌<◌, Bool, not, ◌≡◌, List, [], leb, length, get_or, Ok, Err, Some, None}
use Rattle.std.proofs.Math.Bool.{true, false}
use Rattle.std.proofs.Common.{true≢false, sym, ◌∙◌, subst, arith, eqb-true}
use Rattle.std.proofs.lemmas.Bool.{false≢true, not-true}
use Rattle.std.proofs.Math.Path.{refl}
use Rattle.wire.specs.Bytes.{le_bytes}
use Rattle.wire.specs.Wire.{Wire, Memory, memory_of, play, Ending, ended, spent, succeeds}
use Rattle.call_memory.specs.Memory.{mem_from, mem, memory_job}
use Rattle.call.specs.Job.{Job, exec}
use Rattle.target.specs.declared.Target.{Target}
use Rattle.target.specs.declared.Act.{Act}
use Rattle.session_rules.specs.Refusals.{unless, admitted, aligned, ranged}
use Rattle.session_rules.specs.declared.Refusal.{Refusal}
use Rattle.session_rules.specs.declared.Refusal.TheVariants as R
use Rattle.session_rules.specs.Refusals.{Check}
use Rattle.session_rules.specs.declared.Facts.{Facts}
use Rattle.session_calls.specs.Calls.{facts_of, is_connect}
use Rattle.session_calls.specs.Session.{ROOM, Lent, ran, succeeded, check_of, session_tree, lost_in}
use Rattle.session_calls.specs.Plan.{alone, plan_tree}
use Rattle.session_calls.specs.Laws.Plan.{alone_tree}
use Rattle.session_calls.specs.declared.SessionCall.{SessionCall}
use Rattle.session_calls.specs.declared.SessionCall.TheVariants as S
use Rattle.agreement.specs.History.{Item, Moment, Made, made_if, made}
use Rattle.agreement.specs.Demand3.{Bytes, Typed, Reads, Writes, old, value_bytes, MemoryKept}
use Rattle.agreement.specs.Laws.Kept.{Kept}
use Rattle.agreement.specs.Laws.Safe.{Post, Stand, Safe, Holds, lives}
use Rattle.agreement.specs.Laws.Progress.{Progress, progress_none}
use Rattle.agreement.specs.Laws.Bytewise.{byte_in, progress_partly, progress_whole}
use Rattle.agreement.specs.Laws.Got.{held_byte}
use Rattle.agreement.proofs.Runs.{Idle}
use Rattle.agreement.proofs.ReadTurns.{ReadSpent, ReadEnds, read_mem}
use Rattle.agreement.proofs.WriteTurns.{Partly, WriteSpent, WriteEnds, write_mem}
use Rattle.agreement.proofs.OneWord.{WordEnds, word_read, word_written}

-- refused: nothing changed, no success
refused_reads : (r : Refusal) (x : Moment) (i : Item) (acts : List Act) (addr n : ℕ) (given : List ℕ)
    → Reads (made_if (Err r) x i acts) addr n given
refused_reads r x i acts addr n given = record { same = λ a. refl; whole = λ h. absurd (false≢true h); gives = λ h. absurd (false≢true h) }

refused_writes : (r : Refusal) (x : Moment) (i : Item) (acts : List Act) (addr : ℕ) (new : List ℕ) → Writes (made_if (Err r) x i acts) addr new
refused_writes r x i acts addr new = record { whole = λ h. absurd (false≢true h); partly = λ a. old refl }

-- the checks that passed
never_passes : {X : Type 0} (r : Refusal) → ◌≡◌ {A = Check} (Err r) (Ok tt) → X
never_passes r h = let z : ◌≡◌ {A = ℕ} 0 1 = cc in absurd (omega arith)

passed : (a b c : Bool) → unless a R.NoSession (unless b R.Align (unless c R.Range (Ok tt))) ≡ (Ok tt) → (a ≡ true) × (b ≡ true) × (c ≡ true)
passed true true true h = (refl, refl, refl)
passed true true false h = never_passes R.Range h
passed true false c h = never_passes R.Align h
passed false b c h = never_passes R.NoSession h

opened : (is_open : Bool) (c : SessionCall) → is_connect c ≡ false → admitted is_open (facts_of c).kind ≡ true → is_open ≡ true
opened true c n h = refl
opened false c n h = absurd (true≢false (sym h ∙ n))

-- the room and the buffer that a memory call begins with
begins : (x : Moment) → Kept x → x.standing.is_open ≡ true → (room b : List ℕ) → length room ≡ ROOM
    → Idle x.target.base (memory_of x.standing.remembered room b) x.target
begins x k o room b z = record { port = k.port; agree = k.agree o; size = z; width = k.formed.width.0; start = refl }

-- What the end of a call says, whatever it is.
module _ (base : ℕ) (mem₀ : List ℕ) (addr : ℕ) (m : Memory) (t : Target) (mem : List ℕ) (b : Bool) where
  -- of a read: the memory stayed, and what a success gives is in it
  record ReadOff (n : ℕ) (ok : Bool) (given : List ℕ) : Type 0 where
    start : t.base ≡ base
    same : mem ≡ mem₀
    whole : ok ≡ true → length given ≡ n
    gives : ok ≡ true → (i : ℕ) → i < length given → byte_in base mem₀ (addr + i) ≡ Some (get_or given i 0)

  word_off : Bytes mem₀ → (e : Ending) → Holds (WordEnds base mem₀ addr) (ReadSpent base mem₀) e m t mem b → ReadOff 4 (succeeds e) (value_bytes (ran e))
  word_off bytes (ended (Ok v)) h = record {
    start = h.0.0;
    same = h.0.1;
    whole = λ s. refl;
    gives = λ s. held_byte base mem₀ bytes addr v
        h.1;
  }
  word_off bytes (ended (Err e)) h = record { start = h.0; same = h.1; whole = λ s. absurd (false≢true s); gives = λ s. absurd (false≢true s) }
  word_off bytes spent h = record { start = h.0; same = h.1; whole = λ s. absurd (false≢true s); gives = λ s. absurd (false≢true s) }

  mem_off : (len : ℕ) (e : Ending) → Holds (ReadEnds base mem₀ addr len) (ReadSpent base mem₀) e m t mem b → ReadOff len (succeeds e) m.buf
  mem_off len (ended (Ok v)) h = record { start = h.0.0; same = h.0.1; whole = λ s. h.1; gives = λ s i l. h.2 i (omega (arith, h.1)) }
  mem_off len (ended (Err e)) h = record { start = h.0; same = h.1; whole = λ s. absurd (false≢true s); gives = λ s. absurd (false≢true s) }
  mem_off len spent h = record { start = h.0; same = h.1; whole = λ s. absurd (false≢true s); gives = λ s. absurd (false≢true s) }

  -- of a write: how far it has come
  record WriteOff (new : List ℕ) (ok : Bool) : Type 0 where
    start : t.base ≡ base
    partly : Partly base mem₀ addr new mem
    whole : ok ≡ true → Progress base mem₀ addr new (length new) mem

  write_off : (new : List ℕ) (e : Ending) → Holds (WriteEnds base mem₀ addr new) (WriteSpent base mem₀ addr new) e m t mem b → WriteOff new (succeeds e)
  write_off new (ended (Ok v)) h = record { start = h.0; partly = (length new, h.1); whole = λ s. h.1 }
  write_off new (ended (Err e)) h = record { start = h.0; partly = h.1; whole = λ s. absurd (false≢true s) }
  write_off new spent h = record { start = h.0; partly = h.1; whole = λ s. absurd (false≢true s) }

module _ (d : Made) (addr : ℕ) (m : Memory) (b : Bool) where
  reads : (n : ℕ) (given : List ℕ)
      → ReadOff d.before.target.base d.before.mem addr m d.after.target d.after.mem b n (succeeded d.came.ending) given → Reads d addr n given
  reads n given o = record { same = λ a. rw (o.start, o.same) refl; whole = o.whole; gives = o.gives }

  writes : (new : List ℕ)
      → WriteOff d.before.target.base d.before.mem addr m d.after.target d.after.mem b new (succeeded d.came.ending) → Writes d addr new
  writes new o = record {
    whole = λ s. progress_whole d addr new o.start (o.whole s);
    partly = progress_partly d addr new o.start o.partly.0 o.partly.1;
  }

-- A call that was not refused, over its line.
module _ (x : Moment) (n : ℕ) (l : Lent) (acts : List Act) (c : SessionCall) (addr : ℕ) where
  abbrev over : Made
  over = made_if (Ok tt) x (record { call = c; budget = n; lent = l }) acts

  abbrev tree : Wire
  tree = session_tree x.standing c l

  abbrev base : ℕ
  base = x.target.base

  abbrev memory : Memory
  memory = (play tree over.answers).memory

  abbrev ending : Ending
  ending = (play tree over.answers).ending

  abbrev lost : Bool
  lost = lost_in tree over.answers

  abbrev Lives : Post → Stand → Type 0
  Lives Q S = Safe Q S tree x.target x.mem false

  lived : (Q : Post) (S : Stand) → Lives Q S → Holds Q S ending memory over.after.target over.after.mem lost
  lived Q S h = lives Q S tree n acts x.target x.mem false h

  over_word : Bytes x.mem → Lives (WordEnds base x.mem addr) (ReadSpent base x.mem) → Reads over addr 4 (value_bytes over.came.ending)
  over_word bytes h =
      reads over addr memory lost 4 (value_bytes over.came.ending)
      (word_off base x.mem addr memory over.after.target over.after.mem lost bytes ending (lived _ _ h))

  over_mem : (len : ℕ) → Lives (ReadEnds base x.mem addr len) (ReadSpent base x.mem) → Reads over addr len over.came.lent.buf
  over_mem len h =
      reads over addr memory lost len over.came.lent.buf
      (mem_off base x.mem addr memory over.after.target over.after.mem lost len ending (lived _ _ h))

  over_write : (new : List ℕ) → Lives (WriteEnds base x.mem addr new) (WriteSpent base x.mem addr new) → Writes over addr new
  over_write new h =
      writes over addr memory lost new
      (write_off base x.mem addr memory over.after.target over.after.mem lost new ending (lived _ _ h))

-- Each call that passes its checks. The session was open, so that the call begins with agreement.
module _ (x : Moment) (k : Kept x) (n : ℕ) (l : Lent) (typed : Typed l) (acts : List Act) where
  abbrev item : SessionCall → Item
  item c = record { call = c; budget = n; lent = l }

  abbrev buf : List ℕ
  buf = l.buf

  abbrev start : Memory
  start = memory_of x.standing.remembered l.room buf

  abbrev Passes : SessionCall → Type 0
  Passes c = check_of x.standing c l ≡ (Ok tt)

  -- refused, or not
  either : (c : SessionCall) (P : Made → Type 0) → ((r : Refusal) → P (made_if (Err r) x (item c) acts))
      → (Passes c → P (made_if (Ok tt) x (item c) acts)) → P (made x (item c) acts)
  either c P f g = go (check_of x.standing c l) refl
    where
      go : (k : Check) → check_of x.standing c l ≡ k → P (made_if k x (item c) acts)
      go (Err r) h = f r
      go (Ok tt) h = g h

  -- what the facts of the call say then
  record Checked (f : Facts) : Type 0 where
    open' : admitted x.standing.is_open f.kind ≡ true
    even : aligned f.align f.addr ≡ true
    below : ranged f.spans f.addr (length buf) ≡ true

  checks : (c : SessionCall) → Passes c → Checked (facts_of c)
  checks c h =
      let f = facts_of c in
      let p = passed (admitted x.standing.is_open f.kind) (aligned f.align f.addr) (ranged f.spans f.addr (length buf)) h in
      record { open' = p.0; even = p.1; below = p.2 }

  idle : (c : SessionCall) → is_connect c ≡ false → Passes c → Idle x.target.base start x.target
  idle c q h = begins x k (opened x.standing.is_open c q (checks c h).open') l.room buf typed.room

  -- the tree of a plan of one job
  alone_safe : (Q : Post) (S : Stand) (j : Job) → Safe Q S (exec j start) x.target x.mem false
      → Safe Q S (plan_tree (alone j) 0 start) x.target x.mem false
  alone_safe Q S j h = subst (λ (w : Wire). Safe Q S w x.target x.mem false) (sym (alone_tree j 0 start)) h

  -- a range that ends below 2^32 is not refused again
  in_range_lem : (read : Bool) (addr : ℕ) → not (leb 0x100000000 (addr + length buf)) ≡ true
      → mem_from read (addr + length buf) (length buf) (length buf) ≡ mem read addr (length buf)
  in_range_lem read addr h = rw (not-true (leb 0x100000000 (addr + length buf)) h) refl

  ranged_safe : (Q : Post) (S : Stand) (read : Bool) (addr : ℕ) → not (leb 0x100000000 (addr + length buf)) ≡ true
      → Safe Q S (exec (mem_from read (addr + length buf) (length buf) (length buf)) start) x.target x.mem false
      → Safe Q S (plan_tree (alone (mem read addr (length buf))) 0 start) x.target x.mem false
  ranged_safe Q S read addr h s =
      alone_safe Q S _ (subst (λ (j : Job). Safe Q S (exec j start) x.target x.mem false) (in_range_lem read addr h) s)

  call_kept : (c : SessionCall) → MemoryKept c (made x (item c) acts)
  unfolding memory_job
  call_kept S.ConnectSwd = tt
  call_kept (S.ReadWord addr) =
      let c = S.ReadWord addr in
      either c (MemoryKept c) (λ r. refused_reads r x (item c) acts addr 4 [])
      (λ h. over_word x n l acts c addr k.formed.bytes (alone_safe _ _ _
      (word_read x.target.base x.mem addr (eqb-true _ _ (checks c h).even) start x.target (idle c refl h))))
  call_kept (S.WriteWord addr w) =
      let c = S.WriteWord addr w in
      either c (MemoryKept c) (λ r. refused_writes r x (item c) acts addr (le_bytes w))
      (λ h. over_write x n l acts c addr (le_bytes w) (alone_safe _ _ _
      (word_written x.target.base x.mem addr (eqb-true _ _ (checks c h).even) start x.target (idle c refl h) w)))
  call_kept (S.ReadMem addr) =
      let c = S.ReadMem addr in
      either c (MemoryKept c) (λ r. refused_reads r x (item c) acts addr (length buf) buf)
      (λ h. over_mem x n l acts c addr (length buf) (ranged_safe _ _ true addr (checks c h).below
      (read_mem x.target.base x.mem addr (length buf) k.formed.bytes start x.target x.mem
      (record { idle = idle c refl h; same = refl; sized = refl; got = λ i l. absurd (omega arith) }))))
  call_kept (S.WriteMem addr) =
      let c = S.WriteMem addr in
      either c (MemoryKept c) (λ r. refused_writes r x (item c) acts addr buf)
      (λ h. over_write x n l acts c addr buf (ranged_safe _ _ false addr (checks c h).below
      (write_mem x.target.base x.mem addr buf k.formed.bytes typed.bytes start x.target x.mem
      (record { idle = idle c refl h; buffer = refl; progress = progress_none x.target.base x.mem addr buf }))))
  call_kept (S.Core c) = tt
  call_kept (S.Fpb c) = tt

-- every call of a session keeps clauses 3 and 4
pub memory_kept : (x : Moment) (i : Item) (acts : List Act) → Kept x → Typed i.lent → MemoryKept i.call (made x i acts)
memory_kept x i acts k typed = call_kept x k i.budget i.lent typed acts i.call
