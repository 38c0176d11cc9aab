-- Over every line a sound job keeps what is remembered in agreement with the target, until an answer is lost. This is one
-- induction over the jobs, whatever call they are of. Serves the proofs only.
use Prim.Native.Nat.{ℕ, zero, suc, ◌+◌, ◌-◌}
use Rattle.std.specs.Prelude.{Bool, ◌&&◌, cond, List, ◌≡◌}
use Rattle.std.proofs.Math.Bool.{true, false}
use Rattle.std.proofs.lemmas.Bool.{false≢true}
use Rattle.std.proofs.Math.Path.{refl}
use Rattle.std.proofs.Common.{arith, eqb-true}
use Rattle.std.proofs.Math.Dec.{eqb}
use Rattle.wire.specs.Wire.{Memory}
use Rattle.wire.specs.declared.Call.{Call}
use Rattle.wire_memap.specs.Action.{Action, ◌>>◌, return, transferring}
use Rattle.wire_memap.specs.Ports.{SELECT, RDBUFF, TAR, DRW, CSW_DEFAULT, a32, dp_read, dp_write, ap_access, ap_write, ap_read, ensure_csw}
use Rattle.wire_memap.specs.Words.{flush, read_word_of, write_word, read_words, write_words, pull, push, push_all, row_at}
use Rattle.wire_memap.specs.Ops.{perform}
use Rattle.wire_memap.specs.declared.Op.{Op}
use Rattle.wire_memap.specs.declared.Op.TheVariants as O
use Rattle.call.specs.Change.{fresh, changed}
use Rattle.call.specs.Job.{Job, ends, op, keep, exec}
use Rattle.call.specs.declared.Change.{Change}
use Rattle.call.specs.declared.Change.TheVariants as C
use Rattle.target.specs.Decode.{row_of}
use Rattle.target.specs.Fields.{with_select}
use Rattle.target.specs.Deliver.{Reply, ok, fault, transfer as delivered}
use Rattle.target.specs.declared.Target.{Target}
use Rattle.agreement.specs.Demand3.{Agree, is_transfer}
use Rattle.agreement.specs.Laws.Safe.{Stand, Post, Safe}
use Rattle.agreement.specs.Laws.Facts.{Leaves, Steady, Quiet, steady, quiet, over, leaves}
use Rattle.agreement.specs.Laws.Transfer.{Spot, Stops, Triple, ToldBy, Implies}
use Rattle.agreement.specs.Laws.Transfer.{transfers, others, returns, chooses, places, binds, looks, from, to}
use Rattle.agreement.specs.Laws.Ports.{Rest, Keeps, stops, lost_anyhow, steady_keeps, still_keeps, keeps_selected}
use Rattle.agreement.specs.Laws.Ports.{writes_select, accesses, ensures, tars, steadily, dp_reads, flushes}
use Rattle.agreement.specs.Laws.Sound.{Stage, any, forgotten, zeroed, none, writes, unsound, calm, effect, effect_of, Admits, next, Sound}

-- whatever the rest
abbrev pub Whatever : Rest → Type 0
Whatever r = Unit {0}

abbrev pub Agreed : Stand
Agreed = Keeps Whatever

abbrev pub Ends : Post
Ends o = Agreed

stopping : Stops Agreed Agreed
stopping = stops (λ m t mem b k. k)

abbrev Agreeing : Bool → Spot
Agreeing b m t mem = Agreed m t mem b

-- an action that leaves agreement where it finds it
abbrev Fine : Bool → Action → Type 0
Fine b a = Triple Ends Agreed Agreed b (Agreeing b) a (λ _. Agreeing b)

-- the engine's words and buffer do not matter
agreed_with : {m n : Memory} {t : Target} {mem : List ℕ} {b : Bool} → n.remembered ≡ m.remembered → Agreed m t mem b → Agreed n t mem b
agreed_with e k = record { port = rw e k.port; agree = rw e k.agree; rest = tt }

module _ {b : Bool} where
  -- a transfer that writes neither SELECT nor CSW
  fine_steady : (request word : ℕ) → Steady request → Fine b (transferring request word)
  fine_steady request word g = transfers stopping (λ m t mem k. record {
    now = k;
    sent = lost_anyhow tt k;
    told = go m t mem k (delivered t mem request word).reply _ _ (leaves t mem request word);
  })
    where
      go : (m : Memory) (t : Target) (mem : List ℕ) → Agreed m t mem b → (r : Reply) (u : Target) (n : List ℕ)
          → Leaves (Steady request) (Quiet request) t mem u n → ToldBy r Agreed b (λ _. Agreeing b) m u n
      go m t mem k (ok v) u n l = steady_keeps l g tt k
      go m t mem k fault u n l = steady_keeps l g tt k

  fine_drw : (request word : ℕ) → Steady request → Fine b (ap_access request DRW word)
  fine_drw request word g =
      accesses stopping (λ _ _ _ k. k) (λ m t mem k _. keeps_selected m t mem k) request DRW word (omega arith)
      (from (λ _ _ _ p. p.0) (fine_steady request word g))

  fine_read : Fine b (dp_read RDBUFF)
  fine_read = dp_reads stopping RDBUFF tt tt

  fine_flush : Fine b flush
  fine_flush = flushes stopping

  -- CSW and TAR, and then a
  fine_at : (addr : ℕ) (a : Action) → Fine b a → Fine b (ensure_csw CSW_DEFAULT >> (ap_write TAR addr >> a))
  fine_at addr a x = binds (ensures stopping) (λ _. binds (tars stopping addr) (λ _. from (λ _ _ _ p. p.keeps) x))

  fine_pull : (last more : ℕ) → Fine b (pull last more)
  unfolding pull
  fine_pull last zero = binds fine_read (λ v. places λ _ _ _ k. agreed_with refl k)
  fine_pull last (suc more) =
      binds (fine_steady 0xF 0 tt) (λ v. binds {G = λ _. Agreeing b} (places λ _ _ _ k. agreed_with refl k) (λ _. fine_pull last more))

  fine_push : (last more : ℕ) → Fine b (push last more)
  unfolding push
  fine_push last zero = fine_flush
  fine_push last (suc more) =
      looks λ m. from (λ _ _ _ p. p.1) (binds (fine_steady 0xD (row_at (last - more) m) tt) (λ _. fine_push last more))

  fine_read_word : (addr : ℕ) → Fine b (read_word_of addr)
  fine_read_word addr = fine_at addr (ap_read DRW) (binds (fine_drw 0xF 0 tt) (λ _. fine_read))

  fine_write_word : (addr word : ℕ) → Fine b (write_word addr word)
  fine_write_word addr word = fine_at addr _ (binds (binds (fine_drw 0xD word tt) (λ _. returns {v = 0} λ _ _ _ k. k)) (λ _. fine_flush))

  fine_read_words : (addr n last : ℕ) → Fine b (read_words addr n last)
  fine_read_words addr n last =
      fine_at addr _ (chooses (eqb n 0) (λ _. returns λ _ _ _ k. k) (λ _. binds (fine_drw 0xF 0 tt) (λ _. fine_pull last (n - 1))))

  fine_write_words : (addr n last : ℕ) → Fine b (write_words addr n last)
  fine_write_words addr n last =
      fine_at addr (push_all last n)
      (looks λ m. from (λ _ _ _ p. p.1) (binds (fine_drw 0xD (row_at (last - (n - 1)) m) tt) (λ _. fine_push last (n - 1))))

-- SELECT that is not remembered
abbrev UNKNOWN : ℕ
UNKNOWN = fresh.select

-- what a stage says of SELECT as it is remembered and as it is
abbrev Reached : Stage → Bool → ℕ → ℕ → Type 0
Reached any b here there = Unit {0}
Reached forgotten b here there = here ≡ UNKNOWN
Reached zeroed b here there = (here ≡ UNKNOWN) × (b ≡ false → there ≡ 0)

abbrev At : Stage → Bool → Spot
At s b m t mem = Agreed m t mem b × Reached s b m.remembered.select t.select

-- an operation at a stage leads to the next
abbrev Leads : Bool → Stage → Action → Stage → Type 0
Leads b s a n = Triple Ends Agreed Agreed b (At s b) a (λ _. At n b)

and_both : (x y : Bool) → x && y ≡ true → (x ≡ true) × (y ≡ true)
and_both true y h = (refl, h)
and_both false y h = absurd (false≢true h)

calm_both : (q : ℕ) → calm q ≡ true → Steady q × Quiet q
calm_both q h =
    let x = and_both (over steady (row_of q)) (over quiet (row_of q)) h in
    (rw x.0 tt, rw x.1 tt)

module _ {b : Bool} where
  -- the words' operations may leave any stage
  anyhow : (s : Stage) {a : Action} → Fine b a → Leads b s a any
  anyhow s x = to (λ _ _ _ _ k. (k, tt)) (from (λ _ _ _ p. p.0) x)

  leads_calm : (s : Stage) (request word : ℕ) → calm request ≡ true → Leads b s (transferring request word) s
  leads_calm s request word c =
      let g = calm_both request c in
      steadily stopping (λ _ _ _ p. p.0) request word g.0 g.1
      (λ m t mem u n l p. (still_keeps l g.0 g.1 p.0, rw (l.select g.0) p.1))

  -- SELECT written as 0 where it is forgotten
  leads_zero : (s : Stage) (request word : ℕ) → eqb request SELECT && eqb word 0 ≡ true → Admits writes s
      → Leads b s (transferring request word >> return 0) zeroed
  leads_zero s request word e h =
      let x = and_both (eqb request SELECT) (eqb word 0) e in
      rw (eqb-true request SELECT x.0, eqb-true word 0 x.1)
      (binds (writes_select stopping (λ _ _ _ p. p.0) 0 (go s h)) (λ _. returns λ _ _ _ p. p))
    where
      zero_at : {m : Memory} {t : Target} {mem : List ℕ} → Agreed m t mem b → m.remembered.select ≡ UNKNOWN → At zeroed b m (with_select t 0) mem
      zero_at k f =
          (record { port = k.port; rest = tt; agree = λ x. record { select = λ y. absurd (y f); csw = (k.agree x).csw } }, (f, λ _. refl))

      go : (s : Stage) → Admits writes s → Implies (At s b) (λ m t mem. At zeroed b m (with_select t 0) mem)
      go any h m t mem p = absurd h
      go forgotten h m t mem p = zero_at p.0 p.1
      go zeroed h m t mem p = zero_at p.0 p.1.0

  leads_read : (s : Stage) (addr : ℕ) (c : Bool) → calm (2 + a32 addr) ≡ c → Admits (cond c none unsound) s
      → Leads b s (dp_read addr) (next (cond c none unsound) s)
  leads_read s addr true e h = leads_calm s (2 + a32 addr) 0 e
  leads_read s addr false e h = absurd h

  leads_write : (s : Stage) (addr word : ℕ) (c : Bool) → calm (a32 addr) ≡ c → (z : Bool) → eqb (a32 addr) SELECT && eqb word 0 ≡ z
      → Admits (cond c none (cond z writes unsound)) s → Leads b s (dp_write addr word) (next (cond c none (cond z writes unsound)) s)
  leads_write s addr word true e z f h = binds (leads_calm s (a32 addr) word e) (λ _. returns λ _ _ _ p. p)
  leads_write s addr word false e true f h = leads_zero s (a32 addr) word f h
  leads_write s addr word false e false f h = absurd h

  leads_other : (s : Stage) (c : Call) (x : Bool) → is_transfer c ≡ x → Admits (cond x unsound none) s
      → Leads b s (perform (O.Other c)) (next (cond x unsound none) s)
  unfolding perform
  leads_other s c true e h = absurd h
  leads_other s c false e h = others stopping c e (λ _ _ _ p. p.0) (λ _ _ _ p. p)

  leads : (w : Op) (s : Stage) → Admits (effect w) s → Leads b s (perform w) (next (effect w) s)
  unfolding perform
  leads (O.DpRead addr) s h = leads_read s addr (calm (2 + a32 addr)) refl h
  leads (O.DpWrite addr word) s h = leads_write s addr word (calm (a32 addr)) refl (eqb (a32 addr) SELECT && eqb word 0) refl h
  leads (O.ApRead addr) s h = absurd h
  leads (O.ApWrite addr word) s h = absurd h
  leads (O.ReadWord addr) s h = anyhow s (fine_read_word addr)
  leads (O.WriteWord addr word) s h = anyhow s (fine_write_word addr word)
  leads (O.ReadWords addr n last) s h = anyhow s (fine_read_words addr n last)
  leads (O.WriteWords addr n last) s h = anyhow s (fine_write_words addr n last)
  leads (O.Other c) s h = leads_other s c (is_transfer c) refl h

-- what is forgotten claims nothing
pub forgetful : {apsel : ℕ} {t : Target} → Agree (record { select = UNKNOWN; csw = false; apsel = apsel }) t
forgetful = record { select = λ h. absurd (h refl); csw = λ h. absurd (false≢true h) }

keeps_on : (c : Change) (s : Stage) {m : Memory} {t : Target} {mem : List ℕ} {b : Bool} → Admits (effect_of c) s → At s b m t mem
    → At (next (effect_of c) s) b (changed c m) t mem
keeps_on C.Nothing s h p = (agreed_with refl p.0, p.1)
keeps_on C.New s h p = (record { port = refl; agree = λ x. forgetful; rest = tt }, refl)
keeps_on C.Forget s h p = (record { port = p.0.port; agree = λ x. forgetful; rest = tt }, refl)
keeps_on C.SelectZero any h p = absurd h
keeps_on C.SelectZero forgotten h p = absurd h
keeps_on C.SelectZero zeroed h p =
    (record { port = p.0.port; rest = tt; agree = λ x. record { select = λ _. p.1.1 x; csw = (p.0.agree x).csw } }, tt)
keeps_on (C.Apsel a) s h p = absurd h
keeps_on (C.StoreWords at n) s h p = (agreed_with refl p.0, p.1)
keeps_on (C.StorePart at skip count word) s h p = (agreed_with refl p.0, p.1)
keeps_on (C.LoadWords at n) s h p = (agreed_with refl p.0, p.1)
keeps_on (C.Patch at skip count word) s h p = (agreed_with refl p.0, p.1)
keeps_on (C.Put at word) s h p = (agreed_with refl p.0, p.1)
keeps_on (C.Registers registers) s h p = (agreed_with refl p.0, p.1)
keeps_on (C.Frame registers) s h p = (agreed_with refl p.0, p.1)

-- the induction
job_at : (j : Job) (s : Stage) → Sound j s → (m : Memory) (t : Target) (mem : List ℕ) (b : Bool) → At s b m t mem
    → Safe Ends Agreed (exec j m) t mem b
unfolding Sound exec Safe
job_at (ends o) s h m t mem b p = p.0
job_at (op w good bad) s h m t mem b p =
    (leads w s h.0).runs (record {
      value = λ v q. job_at (good v) (next (effect w) s) (h.1 v) _ _ _ b q;
      fails = λ e k. job_at (bad e) any (h.2 e) _ _ _ _ (k, tt);
    }) p
job_at (keep c j) s h m t mem b p = job_at j (next (effect_of c) s) h.1 (changed c m) t mem b (keeps_on c s h.0 p)

pub job_safe : (j : Job) → Sound j any → (m : Memory) (t : Target) (mem : List ℕ) (b : Bool) → Agreed m t mem b
    → Safe Ends Agreed (exec j m) t mem b
job_safe j h m t mem b k = job_at j any h m t mem b (k, tt)
