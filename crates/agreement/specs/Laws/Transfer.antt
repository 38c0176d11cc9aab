-- Rules for actions over the line: one transfer, a transport call that is none, and what chains them. Serves the proofs only.
-- An action that is answered Ok has lost nothing: what holds after it speaks of the same `lost` as what holds before it.
use Prim.Native.Nat.{ℕ, zero, suc}
use Rattle.std.specs.Prelude.{Bool, ◌||◌, cond, List, ◌≡◌, refl, eqb, Ok, Err}
use Rattle.std.proofs.Math.Bool.{true, false}
use Rattle.std.proofs.Common.{true≢false, ap, ne_eqb}
use Rattle.session_phase.specs.Laws.Phase.{or_none}
use Rattle.wire.specs.Wire.{Wire, Memory}
use Rattle.wire_transfer.specs.Transfer.{clear_sticky_errors, after_answer, tries, transfer, raw, raw_outcome}
use Rattle.wire.specs.declared.Call.{Call}
use Rattle.wire.specs.declared.Call.TheVariants as C
use Rattle.wire.specs.declared.DapError.TheVariants.{SwdError}
use Rattle.wire.specs.declared.ArmError.{ArmError}
use Rattle.wire.specs.declared.ArmError.TheVariants as E
use Rattle.wire.specs.declared.Remembered.{Remembered}
use Rattle.wire_memap.specs.Action.{Then, Action, ◌>>=◌, return, transferring, remembering, remember}
use Rattle.wire_memap.specs.Words.{placed, place}
use Rattle.target.specs.Deliver.{Delivery, Reply, ok, fault, answer_of, deliver, untouched, transfer as delivered}
use Rattle.target.specs.Line.{line, ack_of, error_of}
use Rattle.target.specs.Laws.Line.{loss_no_wait, loss_no_fault}
use Rattle.target.specs.declared.Target.{Target}
use Rattle.target.specs.declared.Loss.{Loss}
use Rattle.target.specs.declared.Loss.TheVariants as L
use Rattle.target.specs.declared.Act.{Act}
use Rattle.target.specs.declared.Act.TheVariants.{Deliver, Wait, Lose}
use Rattle.session_phase.specs.Phase.{loss}
use Rattle.agreement.specs.Demand3.{is_transfer}
use Rattle.agreement.specs.Laws.Safe.{Stand, Post, Safe}

-- of the memory, the target and its memory
abbrev pub Spot : Type 1
Spot = Memory → Target → List ℕ → Type 0

-- F stands wherever an action may stop: then S holds, and neither an ABORT that is delivered nor a loss takes F away.
pub record Stops (S F : Stand) : Type 0 where
  pub spends : {m : Memory} {t : Target} {mem : List ℕ} {b : Bool} → F m t mem b → S m t mem b
  pub aborts : {m : Memory} {t : Target} {mem : List ℕ} {b : Bool} → F m t mem b
      → F m (delivered t mem 0 0x1E).target (delivered t mem 0 0x1E).mem b
  pub loses : {m : Memory} {t : Target} {mem : List ℕ} {b : Bool} → F m t mem b → F m t mem true

-- what follows an action is safe, after its value and wherever it stopped
pub record Follows (Q : Post) (S F : Stand) (b : Bool) (G : ℕ → Spot) (k : Then) : Type 0 where
  pub value : (v : ℕ) {m : Memory} {t : Target} {mem : List ℕ} → G v m t mem → Safe Q S (k m (Ok v)) t mem b
  pub fails : (e : ArmError) {m : Memory} {t : Target} {mem : List ℕ} {lost : Bool} → F m t mem lost → Safe Q S (k m (Err e)) t mem lost

-- from P the action a comes to G with its value, or stops at F
pub record Triple (Q : Post) (S F : Stand) (b : Bool) (P : Spot) (a : Action) (G : ℕ → Spot) : Type 0 where
  pub runs : {k : Then} → Follows Q S F b G k → {m : Memory} {t : Target} {mem : List ℕ} → P m t mem → Safe Q S (a k m) t mem b

-- what a delivered transfer has to leave, by the reply
abbrev pub ToldBy : Reply → Stand → Bool → (ℕ → Spot) → Spot
ToldBy (ok v) F b G m t mem = G v m t mem
ToldBy fault F b G m t mem = F m t mem b

abbrev pub Told : Stand → Bool → (ℕ → Spot) → Memory → Delivery → Type 0
Told F b G m d = ToldBy d.reply F b G m d.target d.mem

-- what a transfer needs: F before it, F where it was delivered and its answer lost, and what its reply leaves
pub record Sends (F : Stand) (b : Bool) (G : ℕ → Spot) (request word : ℕ) (m : Memory) (t : Target) (mem : List ℕ) : Type 0 where
  pub now : F m t mem b
  pub sent : F m (delivered t mem request word).target (delivered t mem request word).mem true
  pub told : Told F b G m (delivered t mem request word)

or_true : (a : Bool) → a || true ≡ true
or_true true = refl
or_true false = refl

no_wait : (n : ℕ) → eqb (ack_of n) 2 ≡ false
no_wait n = ne_eqb (ack_of n) 2 (λ h. loss_no_wait (L.Ack n) (ap (λ (k : ℕ). Err (SwdError k)) h))

-- an error that the line makes is a loss
lost_is : (x : Loss) → loss (error_of x) ≡ true
lost_is (L.Ack n) = rw (no_wait n, ne_eqb (ack_of n) 4 (λ h. loss_no_fault (L.Ack n) (ap (λ (k : ℕ). Err (SwdError k)) h)))
lost_is L.NotSupported = refl
lost_is L.Other = refl

module _ {Q : Post} {S F : Stand} {b : Bool} {G : ℕ → Spot} {k : Then} (stops : Stops S F) (follows : Follows Q S F b G k) (m : Memory) where
  abort_safe : (e : ArmError) (t : Target) (mem : List ℕ) (lost : Bool) → F m t mem lost → Safe Q S (clear_sticky_errors m e (k m)) t mem lost
  unfolding Safe
  abort_safe e t mem lost p = (stops.spends p, go)
    where
      go : (act : Act) → Safe Q S (k m (Err e)) (line t mem (C.Transfer 0 0x1E) act).target (line t mem (C.Transfer 0 0x1E) act).mem lost
      go Deliver = follows.fails e (stops.aborts p)
      go Wait = follows.fails e p
      go (Lose true x) = follows.fails e (stops.aborts p)
      go (Lose false x) = follows.fails e p

  lost_safe : (again : Wire) (x : Loss) (t : Target) (mem : List ℕ) → F m t mem true
      → Safe Q S (after_answer m again (k m) (error_of x)) t mem (b || loss (error_of x))
  lost_safe again x t mem p = rw (lost_is x, or_true b) (go x)
    where
      go : (x : Loss) → Safe Q S (after_answer m again (k m) (error_of x)) t mem true
      go (L.Ack n) = rw (no_wait n) (abort_safe (E.Transfer (ack_of n)) t mem true p)
      go L.NotSupported = abort_safe E.NotSupported t mem true p
      go L.Other = abort_safe E.Internal t mem true p

  told_safe : (again : Wire) (r : Reply) (t : Target) (mem : List ℕ) → ToldBy r F b G m t mem
      → Safe Q S (after_answer m again (k m) (answer_of r)) t mem (b || loss (answer_of r))
  told_safe again (ok v) t mem g = rw (or_none b) (follows.value v g)
  told_safe again fault t mem g = rw (or_none b) (abort_safe (E.Transfer 4) t mem b g)

  module _ {request word : ℕ} {t : Target} {mem : List ℕ} (s : Sends F b G request word m t mem) where
    tries_safe : (n : ℕ) → Safe Q S (tries n m (C.Transfer request word) (k m)) t mem b
    unfolding Safe tries
    tries_safe zero = follows.fails E.Wait s.now
    tries_safe (suc n) = (stops.spends s.now, go (tries_safe n))
      where
        go : Safe Q S (tries n m (C.Transfer request word) (k m)) t mem b → (act : Act)
            → Safe Q S (after_answer m (tries n m (C.Transfer request word) (k m)) (k m) (line t mem (C.Transfer request word) act).answer)
            (line t mem (C.Transfer request word) act).target (line t mem (C.Transfer request word) act).mem
            (b || loss (line t mem (C.Transfer request word) act).answer)
        go again Deliver = told_safe _ (delivered t mem request word).reply _ _ s.told
        go again Wait = rw (or_none b) again
        go again (Lose true x) = lost_safe _ x _ _ s.sent
        go again (Lose false x) = lost_safe _ x t mem (stops.loses s.now)

    transfer_safe : Safe Q S (transfer m request word (k m)) t mem b
    unfolding transfer
    transfer_safe = tries_safe 65

  -- a transport call that is no transfer
  module _ {t : Target} {mem : List ℕ} (p : F m t mem b) (g : G 0 m t mem) where
    raw_lost : (x : Loss) → Safe Q S (k m (raw_outcome (error_of x))) t mem (b || loss (error_of x))
    raw_lost x = rw (lost_is x, or_true b) (go x)
      where
        go : (x : Loss) → Safe Q S (k m (raw_outcome (error_of x))) t mem true
        go (L.Ack n) = follows.fails (E.Transfer (ack_of n)) (stops.loses p)
        go L.NotSupported = follows.fails E.NotSupported (stops.loses p)
        go L.Other = follows.fails E.Internal (stops.loses p)

    untouching : (c : Call) → is_transfer c ≡ false → deliver t mem c ≡ untouched t mem
    untouching (C.Transfer request word) h = absurd (true≢false h)
    untouching C.Connect h = refl
    untouching (C.Sequence x) h = refl
    untouching (C.Pins output select wait) h = refl
    untouching (C.WriteBits bits word) h = refl
    untouching C.OutputEnable h = refl

    raw_safe : (c : Call) → is_transfer c ≡ false → Safe Q S (raw m c (k m)) t mem b
    unfolding Safe raw
    raw_safe c h = (stops.spends p, go)
      where
        go : (act : Act) → Safe Q S (k m (raw_outcome (line t mem c act).answer)) (line t mem c act).target (line t mem c act).mem
            (b || loss (line t mem c act).answer)
        go Deliver = rw (untouching c h, or_none b) (follows.value 0 g)
        go Wait = rw (or_none b) (follows.fails (E.Transfer 2) p)
        go (Lose true x) = rw (untouching c h) (raw_lost x)
        go (Lose false x) = raw_lost x

-- wherever P, there R
abbrev pub Implies : Spot → Spot → Type 0
Implies P R = (m : Memory) (t : Target) (mem : List ℕ) → P m t mem → R m t mem

-- The rules.
module _ {Q : Post} {S F : Stand} {b : Bool} {P : Spot} {G : ℕ → Spot} where
  pub transfers : {request word : ℕ} → Stops S F → Implies P (Sends F b G request word) → Triple Q S F b P (transferring request word) G
  transfers stops s = record { runs = λ f p. transfer_safe stops f _ (s _ _ _ p) }

  pub others : Stops S F → (c : Call) → is_transfer c ≡ false → Implies P (λ m t mem. F m t mem b) → Implies P (G 0)
      → Triple Q S F b P (λ k m. raw m c (k m)) G
  others stops c h now g = record { runs = λ f p. raw_safe stops f _ (now _ _ _ p) (g _ _ _ p) c h }

  pub returns : {v : ℕ} → Implies P (G v) → Triple Q S F b P (return v) G
  returns {v} g = record { runs = λ f p. f.value v (g _ _ _ p) }

  pub chooses : {x y : Action} (c : Bool) → (c ≡ true → Triple Q S F b P x G) → (c ≡ false → Triple Q S F b P y G)
      → Triple Q S F b P (cond c x y) G
  chooses true x y = x refl
  chooses false x y = y refl

  pub remembers : (now : Remembered → Remembered)
      → Implies P (λ m t mem. G 0 (remembering m (now m.remembered)) t mem) → Triple Q S F b P (remember now) G
  remembers now g = record { runs = λ f p. f.value 0 (g _ _ _ p) }

  pub places : {i v : ℕ} → Implies P (λ m t mem. G 0 (placed m i v) t mem) → Triple Q S F b P (place i v) G
  places g = record { runs = λ f p. f.value 0 (g _ _ _ p) }

  pub binds : {H : ℕ → Spot} {x : Action} {y : ℕ → Action} → Triple Q S F b P x G → ((v : ℕ) → Triple Q S F b (G v) (y v) H)
      → Triple Q S F b P (x >>= y) H
  binds x y = record { runs = λ f p. x.runs (record { value = λ v g. (y v).runs f g; fails = f.fails }) p }

  -- an action that looks at the memory it finds
  pub looks : {x : Memory → Action} → ((m : Memory) → Triple Q S F b (λ n t mem. (n ≡ m) × P n t mem) (x m) G)
      → Triple Q S F b P (λ k m. x m k m) G
  looks x = record { runs = λ f p. (x _).runs f (refl, p) }

  -- with more before it, with less after it
  pub from : {R : Spot} {x : Action} → Implies R P → Triple Q S F b P x G → Triple Q S F b R x G
  from h x = record { runs = λ f p. x.runs f (h _ _ _ p) }

  pub to : {H : ℕ → Spot} {x : Action} → ((v : ℕ) → Implies (G v) (H v)) → Triple Q S F b P x G → Triple Q S F b P x H
  to h x = record { runs = λ f p. x.runs (record { value = λ v g. f.value v (h v _ _ _ g); fails = f.fails }) p }
