-- What an access and an operation in flight stand for. Serves the proofs only: each phase names what follows its transfer.
use Rattle.std.specs.Prelude.{ℕ, zero, suc, ◌+◌, ◌-◌, ◌%◌, ◌<◌, ◌≤◌, Bool, true, false, List, ◌≡◌, refl, eqb, ltb, set, get_or, Ok, Err, Option, None, Some}
use Rattle.std.proofs.Common.{true≢false, sym, ap, subst, ◌∙◌, arith, le-leb, eq-eqb, ne_eqb, ltb-true, ltb-false, eqb-true, length-set}
use Rattle.std.proofs.lemmas.Bool.{lt-leb}
use Rattle.wire.specs.Wire.{Wire, Memory, follow}
use Rattle.wire.specs.Outcomes.{Answer}
use Rattle.wire_transfer.specs.Count.{Counted}
use Rattle.wire_transfer.specs.Transfer.{raw}
use Rattle.wire_transfer.specs.Laws.Flight as W
use Rattle.wire.specs.declared.Call.{Call}
use Rattle.wire.specs.Laws.Numbers.{less}
use Rattle.wire.specs.Laws.Rows.{none_below, none_from, past_rows, past, from_least}
use Rattle.wire_transfer.specs.Laws.Flight.{Sized, transfer_of, transfer_tree, begun, begun_is, begun_sized, begun_counted}
use Rattle.wire.specs.declared.ArmError.{ArmError}
use Rattle.wire.specs.Outcomes.{Outcome}
use Rattle.wire_memap.specs.Action.{Then, Action, on_value, ◌>>◌, return, cond, transferring, remember, remembering}
use Rattle.wire_memap.specs.Ports.{select_of, selected, csw_known, ap_access, ap_write, ap_read, dp_read, ensure_csw, dp_reading, dp_writing, ap_reading, ap_writing, CSW_DEFAULT, SELECT, RDBUFF, TAR, DRW}
use Rattle.wire_memap.specs.Words.{flush, place, pull, push, push_all, row_at}
use Rattle.wire_memap.specs.Laws.Doing.{UNIT, LAST_READ, PULL, PUSH, CSW_SENT, TAR_SENT, FIRST}
use Rattle.wire_memap.specs.Laws.Doing.{Phase, Kind, Task, Doing, Reach, OpSized, phase_of, kind_of, task_of, doing_of, reach_of, remembered_of, stands, by_words}
use Rattle.wire_memap.specs.Laws.Doing as P

-- a value that is not handed on
abbrev pub unit : Then → Then
unit k = on_value (λ (_ : ℕ). return 0) k

abbrev pub next : Action → Then → Then
next p k = on_value (λ (_ : ℕ). p) k

-- what follows the transfer of an access, which is SELECT's or its own
abbrev pub stage_after : Bool → Reach → Then → Then
stage_after true r k = unit (next (remember (selected r.select)) (next (transferring r.request r.word) k))
stage_after false r k = k

abbrev pub reach_after : Reach → Then → Then
reach_after r k m o = stage_after r.selecting r k m o

-- what a task does once TAR stands; n: how many words
abbrev pub data_at : Kind → Task → ℕ → Action
data_at P.ReadWord t n = ap_read DRW
data_at P.WriteWord t n = ap_write DRW t.word >> flush
data_at P.ReadWords t n = cond (eqb n 0) (return 0) (ap_access (ap_reading DRW) DRW 0 >> pull t.last (n - 1))
data_at P.WriteWords t n = push_all t.last n

abbrev pub at_tar : Task → ℕ → Action
at_tar t n = ap_write TAR t.addr >> data_at t.kind t n

abbrev pub ensuring_task : Task → ℕ → Action
ensuring_task t n = ensure_csw CSW_DEFAULT >> at_tar t n

-- what follows the access of each phase; l: n before the data, then how many more
abbrev pub phase_after : Phase → Task → ℕ → Then → Then
phase_after P.Only t l k = k
phase_after P.Unit t l k = unit k
phase_after P.Posted t l k = next (dp_read RDBUFF) k
phase_after P.Csw t l k = unit (next (remember csw_known) (next (at_tar t l) k))
phase_after P.Tar t l k = unit (next (data_at t.kind t l) k)
phase_after P.Sent t l k = unit (next flush k)
phase_after P.First t l k = next (pull t.last (l - 1)) k
phase_after P.Pull t l k = on_value (λ v. place (t.last - l) v >> pull t.last (l - 1)) k
phase_after P.Last t l k = on_value (place t.last) k
phase_after P.Push t l k = next (push t.last (l - 1)) k

abbrev pub op_after : Doing → Then → Then
op_after d k m o = phase_after d.phase d.task d.left k m o

-- an operation in flight: the words of its transport call and its own
abbrev pub started_tree : List ℕ → List ℕ → Then → Memory → Wire
started_tree t m k s = transfer_tree s (transfer_of t) (reach_after (reach_of m) (op_after (doing_of m) k) s)

abbrev pub went_tree : Option Outcome → List ℕ → List ℕ → List ℕ → List ℕ → Then → Wire
went_tree None t m ws b k = started_tree t m k (stands m ws b)
went_tree (Some o) t m ws b k = k (stands m ws b) o

abbrev pub WentCounted : Option Outcome → List ℕ → Type 0
WentCounted None t = Counted t
WentCounted (Some o) t = Unit {0}

-- an error behind SELECT ends the access, and every phase hands it on
pub stage_fails : (b : Bool) (r : Reach) (k : Then) (m : Memory) (e : ArmError) → stage_after b r k m (Err e) ≡ k m (Err e)
stage_fails true r k m e = refl
stage_fails false r k m e = refl

pub fails : (p : Phase) (t : Task) (l : ℕ) (k : Then) (m : Memory) (e : ArmError) → phase_after p t l k m (Err e) ≡ k m (Err e)
fails P.Only t l k m e = refl
fails P.Unit t l k m e = refl
fails P.Posted t l k m e = refl
fails P.Csw t l k m e = refl
fails P.Tar t l k m e = refl
fails P.Sent t l k m e = refl
fails P.First t l k m e = refl
fails P.Pull t l k m e = refl
fails P.Last t l k m e = refl
fails P.Push t l k m e = refl

-- one word, at a count that the code takes down by one
pub pull_more : (last l : ℕ) (k : Then) (m : Memory) → (l ≡ 0 → ⊥)
    → pull last l k m ≡ transferring (ap_reading DRW) 0 (on_value (λ v. place (last - l) v >> pull last (l - 1)) k) m
unfolding pull
pull_more last zero k m h = absurd (h refl)
pull_more last (suc l) k m h = ap (λ (j : ℕ). transferring (ap_reading DRW) 0 (on_value (λ v. place (last - suc l) v >> pull last j) k) m) (less l)

pub push_more : (last l : ℕ) (k : Then) (m : Memory) → (l ≡ 0 → ⊥)
    → push last l k m ≡ transferring (ap_writing DRW) (row_at (last - (l - 1)) m) (next (push last (l - 1)) k) m
unfolding push
push_more last zero k m h = absurd (h refl)
push_more last (suc l) k m h = ap (λ (j : ℕ). transferring (ap_writing DRW) (row_at (last - j) m) (next (push last j) k) m) (less l)

-- the words of an operation in flight are as many as they must be
abbrev pub Fits : List ℕ → List ℕ → Type 0
Fits t m = Sized t × OpSized m

-- The action p, where m₀ has what is remembered and ws are the words of a run, is in flight in the words t and m.
pub record Begins (p : Action) (m₀ ws t m : List ℕ) : Type 0 where
  pub tree : (b : List ℕ) (k : Then) → p k (stands m₀ ws b) ≡ started_tree t m k (stands m ws b)
  pub fits : Fits t m
  pub counted : Counted t

-- The tree w goes on as r, in the words t and m and the row ws.
pub record Goes (w : List ℕ → Then → Wire) (r : Option Outcome) (t m ws : List ℕ) : Type 0 where
  pub tree : (b : List ℕ) (k : Then) → w b k ≡ went_tree r t m ws b k
  pub fits : Fits t m
  pub counted : WentCounted r t

pub moves : {p : Action} {m₀ ws t m : List ℕ} → Begins p m₀ ws t m → Goes (λ b k. p k (stands m₀ ws b)) None t m ws
moves g = record { tree = g.tree; fits = g.fits; counted = g.counted }

-- the stores of `selecting`
abbrev pub waiting : ℕ → ℕ → ℕ → ℕ → List ℕ → List ℕ
waiting phase request word select m = set (set (set (set m 0 (phase % 16 + 16)) 6 request) 7 word) 8 select

-- an access that is begun in a phase of what the words m say
abbrev pub in_phase : ℕ → List ℕ → Then → Then
in_phase n m k = phase_after (phase_of n) (task_of m) (get_or m 1 0) k

-- whether SELECT stands already for the register at addr
abbrev pub known : ℕ → List ℕ → Bool
known addr m = eqb (select_of (remembered_of m) addr) (get_or m 9 0)

-- The words of an access that is begun: its own transfer is in flight, or SELECT's before it.
pub record Accessed (n request addr word : ℕ) (t₀ m₀ t m : List ℕ) : Type 0 where
  pub transfer : t ≡ cond (known addr m₀) (begun request word t₀) (begun (dp_writing SELECT) (select_of (remembered_of m₀) addr) t₀)
  pub op : m ≡ cond (known addr m₀) (set m₀ 0 n) (waiting n request word (select_of (remembered_of m₀) addr) m₀)

mod16 : (n : ℕ) → n < 16 → n % 16 ≡ n
mod16 n l = omega (arith, l)

mod16_up : (n : ℕ) → n < 16 → (n + 16) % 16 ≡ n
mod16_up n l = omega (arith, l)

pub direct_begins : (n request word : ℕ) (t m ws : List ℕ) → n < 16 → Fits t m
    → Begins (λ k. transferring (request % 256) word (in_phase n m k)) m ws (begun request word t) (set m 0 n)
direct_begins n request word t m ws l f = record {
  tree = λ b k. by_words
      (λ m. transferring (request % 256) word (in_phase n m k) (stands m ws b) ≡ started_tree (begun request word t) (set m 0 n) k (stands (set m 0 n) ws b))
      (λ m₀ m₁ m₂ m₃ m₄ m₅ m₆ m₇ m₈ m₉ m₁₀ m₁₁. rw (mod16 n l) (rw (lt-leb 16 n l) (begun_is request word t f.0 _ _)))
      m f.1;
  fits = (begun_sized request word t f.0, length-set m 0 n ∙ f.1);
  counted = begun_counted request word t f.0;
}

select_begins : (n request word s : ℕ) (t m ws : List ℕ) → n < 16 → Fits t m
    → Begins (λ k. transferring (dp_writing SELECT) s (stage_after true (record { selecting = true; select = s; request = request % 256; word = word }) (in_phase n m k))) m ws
    (begun (dp_writing SELECT) s t) (waiting n request word s m)
select_begins n request word s t m ws l f = record {
  tree = λ b k. by_words
      (λ m. transferring (dp_writing SELECT) s (stage_after true (record { selecting = true; select = s; request = request % 256; word = word }) (in_phase n m k)) (stands m ws b)
      ≡ started_tree (begun (dp_writing SELECT) s t) (waiting n request word s m) k (stands (waiting n request word s m) ws b))
      (λ m₀ m₁ m₂ m₃ m₄ m₅ m₆ m₇ m₈ m₉ m₁₀ m₁₁. rw (mod16 n l) (rw (mod16_up n l) (rw (le-leb 16 (n + 16) (omega arith)) (begun_is (dp_writing SELECT) s t f.0 _ _))))
      m f.1;
  fits = (begun_sized (dp_writing SELECT) s t f.0, by_words (λ m. OpSized (waiting n request word s m)) (λ _ _ _ _ _ _ _ _ _ _ _ _. refl) m f.1);
  counted = begun_counted (dp_writing SELECT) s t f.0;
}

pub begins_as : {p : Action} {m₀ ws t m u v : List ℕ} → (u ≡ t) × (v ≡ m) → Begins p m₀ ws t m → Begins p m₀ ws u v
begins_as {p} {m₀} {ws} {t} {m} {u} {v} e g =
    subst (λ (x : List ℕ). Begins p m₀ ws x v) (sym e.0) (subst (λ (x : List ℕ). Begins p m₀ ws t x) (sym e.1) g)

-- the same action
pub begins_of : {p q : Action} {m₀ ws t m : List ℕ} → ((b : List ℕ) (k : Then) → p k (stands m₀ ws b) ≡ q k (stands m₀ ws b)) → Begins q m₀ ws t m → Begins p m₀ ws t m
begins_of e g = record { tree = λ b k. e b k ∙ g.tree b k; fits = g.fits; counted = g.counted }

-- an access where SELECT stands already, and one where it does not
pub access_known : (n request addr word s : ℕ) (t m : List ℕ) {u v : List ℕ} → s ≡ select_of (remembered_of m) addr → s ≡ get_or m 9 0
    → (u ≡ begun request word t) × (v ≡ set m 0 n) → Accessed n request addr word t m u v
access_known n request addr word s t m is e g = record {
  transfer = simp (eq-eqb _ _ (sym is ∙ e)) g.0;
  op = simp (eq-eqb _ _ (sym is ∙ e)) g.1;
}

pub access_selects : (n request addr word s : ℕ) (t m : List ℕ) {u v : List ℕ} → s ≡ select_of (remembered_of m) addr → (s ≡ get_or m 9 0 → ⊥)
    → (u ≡ begun (dp_writing SELECT) s t) × (v ≡ waiting n request word s m) → Accessed n request addr word t m u v
access_selects n request addr word s t m is e g = record {
  transfer = simp (ne_eqb _ _ (λ q. e (is ∙ q))) (g.0 ∙ ap (λ (x : ℕ). begun (dp_writing SELECT) x t) is);
  op = simp (ne_eqb _ _ (λ q. e (is ∙ q))) (g.1 ∙ ap (λ (x : ℕ). waiting n request word x m) is);
}

pub accesses : {n request addr word : ℕ} {t₀ m₀ t m : List ℕ} → Accessed n request addr word t₀ m₀ t m → n < 16 → Fits t₀ m₀
    → (ws : List ℕ) → Begins (λ k. ap_access (request % 256) addr word (in_phase n m₀ k)) m₀ ws t m
accesses {n} {request} {addr} {word} {t₀} {m₀} {t} {m} g l f ws = by_known (known addr m₀) refl g.transfer g.op
  where
    by_known : (x : Bool) → known addr m₀ ≡ x
        → t ≡ cond x (begun request word t₀) (begun (dp_writing SELECT) (select_of (remembered_of m₀) addr) t₀)
        → m ≡ cond x (set m₀ 0 n) (waiting n request word (select_of (remembered_of m₀) addr) m₀)
        → Begins (λ k. ap_access (request % 256) addr word (in_phase n m₀ k)) m₀ ws t m
    by_known true e u v = begins_as (u, v) (begins_of (λ b k. simp e) (direct_begins n request word t₀ m₀ ws l f))
    by_known false e u v = begins_as (u, v) (begins_of (λ b k. simp e) (select_begins n request word (select_of (remembered_of m₀) addr) t₀ m₀ ws l f))

-- The action p, begun in the words t₀ and m₀ over the row ws, is in flight in t and m; and the same over every row.
abbrev pub BegunAt : Action → List ℕ → List ℕ → List ℕ → List ℕ → List ℕ → Type 0
BegunAt p ws t₀ m₀ t m = Fits t₀ m₀ → Begins p m₀ ws t m

abbrev pub Begun : Action → List ℕ → List ℕ → List ℕ → List ℕ → Type 0
Begun p t₀ m₀ t m = (ws : List ℕ) → BegunAt p ws t₀ m₀ t m

-- a run of reads: RDBUFF, or one word more
pub pull_ends : (t m : List ℕ) {u v : List ℕ} (more : ℕ) → more ≡ 0 → (u ≡ begun (dp_reading RDBUFF) 0 t) × (v ≡ set m 0 LAST_READ) → Begun (pull (get_or m 2 0) more) t m u v
unfolding pull
pull_ends t m more z g ws f = begins_as g (begins_of (λ b k. rw z refl) (direct_begins LAST_READ (dp_reading RDBUFF) 0 t m ws (omega arith) f))

pub pull_goes : (t m : List ℕ) {u v : List ℕ} (more : ℕ) → (more ≡ 0 → ⊥) → (u ≡ begun (ap_reading DRW) 0 t) × (v ≡ set (set m 1 more) 0 PULL)
    → Begun (pull (get_or m 2 0) more) t m u v
pull_goes t m more z g ws f = begins_as g (record { tree = λ b k. here b k ∙ there.tree b k; fits = there.fits; counted = there.counted })
  where
    m₁ : List ℕ
    m₁ = set m 1 more

    there : Begins (λ k. transferring (ap_reading DRW) 0 (in_phase PULL m₁ k)) m₁ ws (begun (ap_reading DRW) 0 t) (set m₁ 0 PULL)
    there = direct_begins PULL (ap_reading DRW) 0 t m₁ ws (omega arith) (f.0, length-set m 1 more ∙ f.1)

    here : (b : List ℕ) (k : Then) → pull (get_or m 2 0) more k (stands m ws b) ≡ transferring (ap_reading DRW) 0 (in_phase PULL m₁ k) (stands m₁ ws b)
    here b k = by_words (λ m. pull (get_or m 2 0) more k (stands m ws b) ≡ transferring (ap_reading DRW) 0 (in_phase PULL (set m 1 more) k) (stands (set m 1 more) ws b))
        (λ m₀ m₁ m₂ m₃ m₄ m₅ m₆ m₇ m₈ m₉ m₁₀ m₁₁. pull_more m₂ more k _ z) m f.1

-- a run of writes: RDBUFF, or one word more
pub push_ends : (t m ws : List ℕ) {u v : List ℕ} (more : ℕ) → more ≡ 0 → (u ≡ begun (dp_reading RDBUFF) 0 t) × (v ≡ set m 0 UNIT)
    → BegunAt (push (get_or m 2 0) more) ws t m u v
unfolding push
push_ends t m ws more z g f = begins_as g (begins_of (λ b k. rw z refl) (direct_begins UNIT (dp_reading RDBUFF) 0 t m ws (omega arith) f))

pub push_goes : (t m ws : List ℕ) {u v : List ℕ} (more w : ℕ) → (more ≡ 0 → ⊥) → w ≡ get_or ws (get_or m 2 0 - (more - 1)) 0
    → (u ≡ begun (ap_writing DRW) w t) × (v ≡ set (set m 1 more) 0 PUSH) → BegunAt (push (get_or m 2 0) more) ws t m u v
push_goes t m ws more w z e g f = begins_as g (record { tree = λ b k. here b k ∙ there.tree b k; fits = there.fits; counted = there.counted })
  where
    m₁ : List ℕ
    m₁ = set m 1 more

    there : Begins (λ k. transferring (ap_writing DRW) w (in_phase PUSH m₁ k)) m₁ ws (begun (ap_writing DRW) w t) (set m₁ 0 PUSH)
    there = direct_begins PUSH (ap_writing DRW) w t m₁ ws (omega arith) (f.0, length-set m 1 more ∙ f.1)

    here : (b : List ℕ) (k : Then) → push (get_or m 2 0) more k (stands m ws b) ≡ transferring (ap_writing DRW) w (in_phase PUSH m₁ k) (stands m₁ ws b)
    here b k = by_words (λ m. w ≡ get_or ws (get_or m 2 0 - (more - 1)) 0
        → push (get_or m 2 0) more k (stands m ws b) ≡ transferring (ap_writing DRW) w (in_phase PUSH (set m 1 more) k) (stands (set m 1 more) ws b))
        (λ m₀ m₁ m₂ m₃ m₄ m₅ m₆ m₇ m₈ m₉ m₁₀ m₁₁ e. rw e (push_more m₂ more k _ z)) m f.1 e

-- a tree that is an action goes on as the action, and one that is over ends
pub goes_of : {w : List ℕ → Then → Wire} {p : Action} {m₀ ws t m : List ℕ} → ((b : List ℕ) (k : Then) → w b k ≡ p k (stands m₀ ws b))
    → Begins p m₀ ws t m → Goes w None t m ws
goes_of e g = record { tree = λ b k. e b k ∙ g.tree b k; fits = g.fits; counted = g.counted }

pub ends_with : {w : List ℕ → Then → Wire} {o : Outcome} {t m ws : List ℕ} → Fits t m → ((b : List ℕ) (k : Then) → w b k ≡ k (stands m ws b) o)
    → Goes w (Some o) t m ws
ends_with f e = record { tree = e; fits = f; counted = tt }

-- a run of reads that has no words ends with TAR
abbrev pub empty_read : ℕ → ℕ → Bool
empty_read kind left = cond (eqb kind 2) (eqb left 0) false

abbrev pub empty : List ℕ → Bool
empty m = empty_read (get_or m 3 0) (get_or m 1 0)

-- TAR is the last access of such a run
abbrev pub ends_at_tar : ℕ → Bool → Bool
ends_at_tar phase none = cond none (eqb phase TAR_SENT) false

-- whether one more access follows the value of the one in flight
abbrev pub follows_at : ℕ → Bool → Bool
follows_at phase none = cond (ends_at_tar phase none) false (ltb LAST_READ phase)

abbrev pub following : List ℕ → Bool
following m = follows_at (get_or m 0 0) (empty m)

abbrev pub data_after : List ℕ → Action
data_after m = data_at (kind_of (get_or m 3 0)) (task_of m) (get_or m 1 0)

-- a run of reads begins with the access that asks for its first word
pub data_reads : (m ws : List ℕ) → get_or m 3 0 ≡ 2 → empty m ≡ false
    → (b : List ℕ) (k : Then) → data_after m k (stands m ws b) ≡ ap_access (ap_reading DRW) DRW 0 (in_phase FIRST m k) (stands m ws b)
data_reads m ws e h b k = simp e (simp none)
  where
    none : eqb (get_or m 1 0) 0 ≡ false
    none = simp e at h

-- a run of writes begins with the first of its words
pub data_writes : (m ws : List ℕ) (w : ℕ) → none_below 3 (get_or m 3 0) → w ≡ get_or ws (get_or m 2 0 - (get_or m 1 0 - 1)) 0
    → (b : List ℕ) (k : Then) → data_after m k (stands m ws b) ≡ ap_access (ap_writing DRW) DRW w (in_phase PUSH m k) (stands m ws b)
data_writes m ws w n e b k =
    ap (λ (x : Kind). data_at x (task_of m) (get_or m 1 0) k (stands m ws b)) (sym (past_rows P.kinds (get_or m 3 0) P.WriteWords n))
    ∙ ap (λ (x : ℕ). ap_access (ap_writing DRW) DRW x (in_phase PUSH m k) (stands m ws b)) (sym e)

-- what the code does after each answer, as trees over the words
abbrev pub tar_after : List ℕ → Action
tar_after m k s = at_tar (task_of m) (get_or m 1 0) k (remembering s (csw_known s.remembered))

abbrev pub value_tree : List ℕ → ℕ → List ℕ → List ℕ → Then → Wire
value_tree m v ws b k = phase_after (phase_of (get_or m 0 0)) (task_of m) (get_or m 1 0) k (stands m ws b) (Ok v)

abbrev pub ended_tree : List ℕ → Outcome → List ℕ → List ℕ → Then → Wire
ended_tree m o ws b k = reach_after (reach_of m) (op_after (doing_of m) k) (stands m ws b) o

abbrev pub step_tree : List ℕ → List ℕ → Answer → List ℕ → List ℕ → Then → Wire
step_tree t m a ws b k = follow (started_tree t m k (stands m ws b)) a

abbrev pub select_stands : List ℕ → List ℕ
select_stands m = set (set m 9 (get_or m 8 0)) 0 (get_or m 0 0 % 16)

pub direct_on : (n request word : ℕ) (t m ws : List ℕ) {u v : List ℕ} → n < 16 → (u ≡ begun request word t) × (v ≡ set m 0 n) → Fits t m
    → Begins (λ k. transferring (request % 256) word (in_phase n m k)) m ws u v
direct_on n request word t m ws l g f = begins_as g (direct_begins n request word t m ws l f)

-- a call that is no transfer
pub raw_begins : (c : Call) (t m u : List ℕ)
    → (Sized t → ((s : Memory) (k : Outcome → Wire) → raw s c k ≡ transfer_tree s (transfer_of u) k) × Sized u × Counted u)
    → Begun (λ k s. raw s c (k s)) t m u (set m 0 0)
raw_begins c t m u g ws f = let h = g f.0 in record {
  tree = λ b k. by_words (λ m. raw (stands m ws b) c (k (stands m ws b)) ≡ started_tree u (set m 0 0) k (stands (set m 0 0) ws b))
      (λ m₀ m₁ m₂ m₃ m₄ m₅ m₆ m₇ m₈ m₉ m₁₀ m₁₁. h.0 _ _) m f.1;
  fits = (h.1, length-set m 0 0 ∙ f.1);
  counted = h.2;
}

-- a task: TAR, or CSW before it
abbrev pub tasked : ℕ → ℕ → ℕ → ℕ → ℕ → List ℕ → List ℕ
tasked kind addr word n last m = set (set (set (set (set m 3 kind) 4 addr) 5 word) 1 n) 2 last

abbrev pub task_by : ℕ → ℕ → ℕ → ℕ → Task
task_by kind addr word last = record { kind = kind_of kind; addr = addr; word = word; last = last }

-- the same tree
pub goes_as : {w v : List ℕ → Then → Wire} {r : Option Outcome} {t m ws : List ℕ} → ((b : List ℕ) (k : Then) → w b k ≡ v b k) → Goes v r t m ws → Goes w r t m ws
goes_as e g = record { tree = λ b k. e b k ∙ g.tree b k; fits = g.fits; counted = g.counted }

-- the word v of a run of reads, in the row rs with it
pub value_pulls : (m ws : List ℕ) {rs : List ℕ} (v more : ℕ) → get_or m 0 0 ≡ PULL → rs ≡ set ws (get_or m 2 0 - get_or m 1 0) v → more ≡ get_or m 1 0 - 1
    → (b : List ℕ) (k : Then) → value_tree m v ws b k ≡ pull (get_or m 2 0) more k (stands m rs b)
value_pulls m ws {rs} v more p r e b k =
    ap (λ (n : ℕ). phase_after (phase_of n) (task_of m) (get_or m 1 0) k (stands m ws b) (Ok v)) p
    ∙ ap (λ (x : List ℕ). pull (get_or m 2 0) (get_or m 1 0 - 1) k (stands m x b)) (sym r)
    ∙ ap (λ (x : ℕ). pull (get_or m 2 0) x k (stands m rs b)) (sym e)

-- the access that asks for a run's first word answers the one before
pub value_first : (m ws : List ℕ) (v more : ℕ) → phase_of (get_or m 0 0) ≡ P.First → more ≡ get_or m 1 0 - 1
    → (b : List ℕ) (k : Then) → value_tree m v ws b k ≡ pull (get_or m 2 0) more k (stands m ws b)
value_first m ws v more p e b k =
    ap (λ (x : Phase). phase_after x (task_of m) (get_or m 1 0) k (stands m ws b) (Ok v)) p
    ∙ ap (λ (n : ℕ). pull (get_or m 2 0) n k (stands m ws b)) (sym e)

-- the value of an access, and of the SELECT before it
pub ended_value : (m ws : List ℕ) (v : ℕ) → get_or m 0 0 < 16 → (b : List ℕ) (k : Then) → ended_tree m (Ok v) ws b k ≡ value_tree m v ws b k
ended_value m ws v l b k =
    ap (λ (x : Bool). stage_after x (reach_of m) (op_after (doing_of m) k) (stands m ws b) (Ok v)) (lt-leb 16 (get_or m 0 0) l)
    ∙ ap (λ (x : ℕ). phase_after (phase_of x) (task_of m) (get_or m 1 0) k (stands m ws b) (Ok v)) (mod16 (get_or m 0 0) l)

pub ended_selects : (t m : List ℕ) {u w : List ℕ} (v : ℕ) (ws : List ℕ) → 16 ≤ get_or m 0 0
    → (u ≡ begun (get_or m 6 0) (get_or m 7 0) t) × (w ≡ select_stands m) → Fits t m → Goes (ended_tree m (Ok v) ws) None u w ws
ended_selects t m {u} {w} v ws l g f =
    subst (λ (x : List ℕ). Goes (ended_tree m (Ok v) ws) None x w ws) (sym g.0)
    (subst (λ (x : List ℕ). Goes (ended_tree m (Ok v) ws) None (begun (get_or m 6 0) (get_or m 7 0) t) x ws) (sym g.1) (record {
      tree = λ b k. by_words (λ m. 16 ≤ get_or m 0 0
          → ended_tree m (Ok v) ws b k ≡ started_tree (begun (get_or m 6 0) (get_or m 7 0) t) (select_stands m) k (stands (select_stands m) ws b))
          (λ m₀ m₁ m₂ m₃ m₄ m₅ m₆ m₇ m₈ m₉ m₁₀ m₁₁ l. simp (le-leb 16 m₀ l) (simp (lt-leb 16 (m₀ % 16) (omega arith)) (simp (twice m₀) (begun_is m₆ m₇ t f.0 _ _))))
          m f.1 l;
      fits = (begun_sized _ _ t f.0, by_words (λ m. OpSized (select_stands m)) (λ _ _ _ _ _ _ _ _ _ _ _ _. refl) m f.1);
      counted = begun_counted _ _ t f.0;
    }))
  where
    twice : (n : ℕ) → n % 16 % 16 ≡ n % 16
    twice n = omega arith

pub ended_fails : (m ws : List ℕ) (e : ArmError) (b : List ℕ) (k : Then) → ended_tree m (Err e) ws b k ≡ k (stands m ws b) (Err e)
ended_fails m ws e b k =
    stage_fails (reach_of m).selecting (reach_of m) (op_after (doing_of m) k) (stands m ws b) e
    ∙ fails (doing_of m).phase (doing_of m).task (doing_of m).left k (stands m ws b) e

-- What the value v of an operation's last access leaves: the operation's value r, and the row rs.
abbrev pub Ends : ℕ → ℕ → List ℕ → List ℕ → List ℕ → Type 0
Ends v r m ws rs = (b : List ℕ) (k : Then) → ended_tree m (Ok v) ws b k ≡ k (stands m rs b) (Ok r)

tar_last : (n : ℕ) (none : Bool) → ends_at_tar n none ≡ true → (none ≡ true) × (n ≡ TAR_SENT)
tar_last n true h = (refl, eqb-true n 7 h)
tar_last n false h = absurd (true≢false (sym h))

-- a phase after which no access follows is one of the first three, or TAR's
last_low : (n : ℕ) (none : Bool) → follows_at n none ≡ false → n ≤ 7
last_low n none = by_tar (ends_at_tar n none) refl
  where
    by_tar : (x : Bool) → ends_at_tar n none ≡ x → cond x false (ltb 2 n) ≡ false → n ≤ 7
    by_tar true e h = omega (arith, (tar_last n none e).1)
    by_tar false e h = omega (arith, ltb-false 2 n h)

-- such a phase by its number
pub ends_at : (p : Phase) (m ws : List ℕ) {rs : List ℕ} (v r : ℕ) → following m ≡ false → phase_of (get_or m 0 0) ≡ p
    → ((b : List ℕ) (k : Then) → phase_after p (task_of m) (get_or m 1 0) k (stands m ws b) (Ok v) ≡ k (stands m rs b) (Ok r)) → Ends v r m ws rs
ends_at p m ws v r h e g b k =
    ended_value m ws v (omega (arith, last_low (get_or m 0 0) (empty m) h)) b k
    ∙ ap (λ (x : Phase). phase_after x (task_of m) (get_or m 1 0) k (stands m ws b) (Ok v)) e ∙ g b k

empty_data : (m : List ℕ) (k : Then) (s : Memory) → empty m ≡ true → data_after m k s ≡ k s (Ok 0)
empty_data m k s = by_kind (eqb (get_or m 3 0) 2) refl
  where
    by_kind : (x : Bool) → eqb (get_or m 3 0) 2 ≡ x → cond x (eqb (get_or m 1 0) 0) false ≡ true → data_after m k s ≡ k s (Ok 0)
    by_kind true e h = simp (eqb-true (get_or m 3 0) 2 e) (simp h)
    by_kind false e h = absurd (true≢false (sym h))

-- neither a value that is handed on nor a run's last word
pub ends_unit : (m ws : List ℕ) (v : ℕ) → (get_or m 0 0 ≡ 0 → ⊥) → (get_or m 0 0 ≡ 2 → ⊥) → following m ≡ false → Ends v 0 m ws ws
ends_unit m ws v z l h = by_tar (ends_at_tar (get_or m 0 0) (empty m)) refl h
  where
    by_tar : (x : Bool) → ends_at_tar (get_or m 0 0) (empty m) ≡ x → cond x false (ltb 2 (get_or m 0 0)) ≡ false → Ends v 0 m ws ws
    by_tar true e g = let q = tar_last (get_or m 0 0) (empty m) e in
        ends_at P.Tar m ws v 0 h (ap phase_of q.1) (λ b k. empty_data m k (stands m ws b) q.0)
    by_tar false e g = ends_at P.Unit m ws v 0 h (ap phase_of (one (get_or m 0 0) z l (ltb-false 2 (get_or m 0 0) g))) (λ b k. refl)
      where
        one : (n : ℕ) → (n ≡ 0 → ⊥) → (n ≡ 2 → ⊥) → n ≤ 2 → n ≡ 1
        one n z l g = omega arith

-- the phases after which one follows
pub more_data : (m : List ℕ) → get_or m 0 0 ≡ TAR_SENT → following m ≡ true → empty m ≡ false
more_data m e = by_none (empty m)
  where
    by_none : (x : Bool) → follows_at (get_or m 0 0) x ≡ true → x ≡ false
    by_none true h = absurd (true≢false (sym (simp (eq-eqb (get_or m 0 0) 7 e) at h)))
    by_none false h = refl

follows_far : (n : ℕ) (x : Bool) → cond x false (ltb 2 n) ≡ true → 2 < n
follows_far n true h = absurd (true≢false (sym h))
follows_far n false h = ltb-true 2 n h

pub first_phase : (n : ℕ) (none : Bool) → follows_at n none ≡ true → none_from 3 6 n → phase_of n ≡ P.First
first_phase n none h r = sym (past P.phases n P.First (from_least 3 6 n (follows_far n (ends_at_tar n none) h) r))

-- What a function that does nothing where it answers false leaves: the tree w goes on, or all is as it was.
pub record Tries (w : List ℕ → Then → Wire) (r : Bool) (t₀ m₀ ws₀ t m ws : List ℕ) : Type 0 where
  pub moved : r ≡ true → Fits t₀ m₀ → Goes w None t m ws
  pub stays : r ≡ false → (t ≡ t₀) × (m ≡ m₀) × (ws ≡ ws₀)

pub moved_on : {w : List ℕ → Then → Wire} {t₀ m₀ ws₀ t m ws : List ℕ} → (Fits t₀ m₀ → Goes w None t m ws) → Tries w true t₀ m₀ ws₀ t m ws
moved_on g = record { moved = λ _ f. g f; stays = λ e. absurd (true≢false e) }

pub stayed : {w : List ℕ → Then → Wire} {t m ws : List ℕ} → Tries w false t m ws t m ws
stayed = record { moved = λ e f. absurd (true≢false (sym e)); stays = λ _. (refl, refl, refl) }

-- a value is that of the transport call in flight, unless that is the ABORT
pub good_step : (t m ws : List ℕ) (v : ℕ) {x : Bool} → x ≡ W.ignoring (transfer_of t).mode → x ≡ false
    → (b : List ℕ) (k : Then) → step_tree t m (Ok v) ws b k ≡ ended_tree m (Ok v) ws b k
good_step t m ws v e h b k = by_mode (transfer_of t).mode (sym e ∙ h)
  where
    by_mode : (d : W.Mode) → W.ignoring d ≡ false → follow (W.flight d (stands m ws b) (transfer_of t) (reach_after (reach_of m) (op_after (doing_of m) k) (stands m ws b))) (Ok v)
        ≡ ended_tree m (Ok v) ws b k
    by_mode W.trying q = refl
    by_mode W.aborting q = absurd (true≢false q)
    by_mode W.raw q = refl

-- the next word of a run
pub runs_reads : (t m ws : List ℕ) {u w rs : List ℕ} (v i : ℕ) → get_or m 0 0 ≡ PULL → 1 < get_or m 1 0 → i ≡ get_or m 2 0 - get_or m 1 0 → rs ≡ set ws i v
    → (u ≡ begun (ap_reading DRW) 0 t) × (w ≡ set (set m 1 (get_or m 1 0 - 1)) 0 PULL) → Fits t m → Goes (ended_tree m (Ok v) ws) None u w rs
runs_reads t m ws {rs = rs} v i p l at r g f =
    goes_of (λ b k. ended_value m ws v (omega (arith, p)) b k
    ∙ value_pulls m ws v (get_or m 1 0 - 1) p (r ∙ ap (λ (j : ℕ). set ws j v) at) refl b k)
    (pull_goes t m (get_or m 1 0 - 1) (λ z. absurd (omega (arith, z, l))) g rs f)

pub runs_writes : (t m ws : List ℕ) {u w : List ℕ} (v i x : ℕ) → get_or m 0 0 ≡ PUSH → 1 < get_or m 1 0 → i ≡ get_or m 2 0 - (get_or m 1 0 - 2) → x ≡ get_or ws i 0
    → (u ≡ begun (ap_writing DRW) x t) × (w ≡ set (set m 1 (get_or m 1 0 - 1)) 0 PUSH) → Fits t m → Goes (ended_tree m (Ok v) ws) None u w ws
runs_writes t m ws v i x p l at r g f =
    goes_of (λ b k. ended_value m ws v (omega (arith, p)) b k
    ∙ ap (λ (n : ℕ). phase_after (phase_of n) (task_of m) (get_or m 1 0) k (stands m ws b) (Ok v)) p)
    (push_goes t m ws (get_or m 1 0 - 1) x (λ z. absurd (omega (arith, z, l)))
    (r ∙ ap (λ (j : ℕ). get_or ws j 0) (at ∙ ap (λ (j : ℕ). get_or m 2 0 - j) (less_two (get_or m 1 0)))) g f)
  where
    less_two : (n : ℕ) → n - 2 ≡ n - 1 - 1
    less_two n = omega arith

-- the transport call in flight goes on, or it is over
pub step_again : (t m u ws : List ℕ) (a : Answer) {r : Option Outcome} → W.Goes (λ s k. follow (transfer_tree s (transfer_of t) k) a) r u → r ≡ None → OpSized m
    → Goes (step_tree t m a ws) None u m ws
step_again t m u ws a {r} g e h = record { tree = λ b k. again.tree (stands m ws b) _; fits = (g.sized, h); counted = again.counted }
  where
    again : W.Goes (λ s k. follow (transfer_tree s (transfer_of t) k) a) None u
    again = subst (λ (x : Option Outcome). W.Goes (λ s k. follow (transfer_tree s (transfer_of t) k) a) x u) e g

pub step_ended : (t m u ws : List ℕ) (a : Answer) (o : Outcome) {r : Option Outcome} {x : Option Outcome} {t' m' ws' : List ℕ}
    → W.Goes (λ s k. follow (transfer_tree s (transfer_of t) k) a) r u → r ≡ Some o → Goes (ended_tree m o ws) x t' m' ws' → Goes (step_tree t m a ws) x t' m' ws'
step_ended t m u ws a o {r} g e h = goes_as (λ b k. ended.tree (stands m ws b) _) h
  where
    ended : W.Goes (λ s k. follow (transfer_tree s (transfer_of t) k) a) (Some o) u
    ended = subst (λ (x : Option Outcome). W.Goes (λ s k. follow (transfer_tree s (transfer_of t) k) a) x u) e g

-- a request is a byte
pub byte_request : (n r a : ℕ) → r ≡ a → r ≤ 12 → n ≤ 3 → (n + r) % 256 ≡ n + a
byte_request n r a e l h = omega (arith, e, l, h)

pub byte_address : (r a : ℕ) → r ≡ a → r ≤ 12 → r % 256 ≡ a
byte_address r a e l = omega (arith, e, l)
