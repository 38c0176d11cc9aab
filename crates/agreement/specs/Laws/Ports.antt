-- What the accesses to SELECT, CSW and TAR keep, whatever stands in memory. Serves the proofs only.
use Rattle.std.specs.Prelude.{ℕ, ◌+◌, ◌<◌, Bool, true, false, List, ◌≡◌, refl, eqb}
use Rattle.std.proofs.Common.{true≢false, sym, ◌∙◌, arith, eqb-true}
use Rattle.std.proofs.lemmas.Bool.{eqb-false}
use Rattle.wire.specs.Wire.{Memory}
use Rattle.wire.specs.declared.Remembered.{Remembered}
use Rattle.wire_memap.specs.Action.{transferring, remembering}
use Rattle.wire_memap.specs.Ports.{SELECT, CSW, TAR, RDBUFF, CSW_DEFAULT, a32, dp_read, ap_access, ap_write, csw_known, ensure_csw}
use Rattle.wire_memap.specs.Ports.{select_of, selected, select_ap_bank}
use Rattle.wire_memap.specs.Words.{flush}
use Rattle.target.specs.Laws.Deliver.{by_row}
use Rattle.target.specs.Deliver.{Reply, ok, fault, transfer as delivered}
use Rattle.target.specs.Fields.{with_select, with_tar}
use Rattle.target.specs.declared.Target.{Target}
use Rattle.agreement.specs.Demand3.{Agree}
use Rattle.agreement.specs.Laws.Safe.{Stand, Post}
use Rattle.agreement.specs.Laws.Facts.{Leaves, Steady, Quiet, leaves, other_bank}
use Rattle.agreement.specs.Laws.Transfer.{Spot, Stops, Triple, ToldBy, Told, Implies}
use Rattle.agreement.specs.Laws.Transfer.{transfers, returns, chooses, remembers, binds, looks, from}

-- what these accesses leave alone: the engine's words and buffer, the target's width, base and memory
pub record Rest : Type 0 where
  pub words : List ℕ
  pub buf : List ℕ
  pub width : ℕ
  pub base : ℕ
  pub mem : List ℕ

abbrev pub rest_of : Memory → Target → List ℕ → Rest
rest_of m t mem = record { words = m.words; buf = m.buf; width = t.width; base = t.base; mem = mem }

-- access port 0, agreement unless an answer was lost, and M of the rest
pub record Keeps (M : Rest → Type 0) (m : Memory) (t : Target) (mem : List ℕ) (b : Bool) : Type 0 where
  pub port : m.remembered.apsel ≡ 0
  pub agree : b ≡ false → Agree m.remembered t
  pub rest : M (rest_of m t mem)

module _ {M : Rest → Type 0} {m : Memory} {t u : Target} {mem n : List ℕ} {b : Bool} where
  -- an answer that is lost: M has to be shown
  pub lost_anyhow : M (rest_of m u n) → Keeps M m t mem b → Keeps M m u n true
  lost_anyhow r k = record { port = k.port; agree = λ x. absurd (true≢false x); rest = r }

  -- SELECT and CSW stand: M has to be shown
  pub steady_keeps : {A B : Type 0} → Leaves A B t mem u n → A → M (rest_of m u n) → Keeps M m t mem b → Keeps M m u n b
  steady_keeps l g r k =
      record {
        port = k.port;
        rest = r;
        agree = λ x. record { select = λ y. l.select g ∙ (k.agree x).select y; csw = λ y. l.csw g ∙ (k.agree x).csw y };
      }

  -- memory stands, and M with it
  rest_keeps : {A B : Type 0} → Leaves A B t mem u n → B → Keeps M m t mem b → M (rest_of m u n)
  rest_keeps l h k = rw (l.width, l.base, l.memory h) k.rest

  pub lost_keeps : {A B : Type 0} → Leaves A B t mem u n → B → Keeps M m t mem b → Keeps M m u n true
  lost_keeps l h k = lost_anyhow (rest_keeps l h k) k

  pub still_keeps : {A B : Type 0} → Leaves A B t mem u n → A → B → Keeps M m t mem b → Keeps M m u n b
  still_keeps l g h k = steady_keeps l g (rest_keeps l h k) k

pub stops : {S : Stand} {M : Rest → Type 0} → ((m : Memory) (t : Target) (mem : List ℕ) (b : Bool) → Keeps M m t mem b → S m t mem b)
    → Stops S (Keeps M)
stops f = record {
  spends = λ k. f _ _ _ _ k;
  aborts = λ k. still_keeps (leaves _ _ 0 0x1E) tt tt k;
  loses = λ k. lost_anyhow k.rest k;
}

-- as Keeps with no loss but those before
abbrev pub Keeping : (Rest → Type 0) → Bool → Spot
Keeping M b m t mem = Keeps M m t mem b

-- and SELECT is remembered as 0
abbrev pub Zero : Spot → Spot
Zero P m t mem = P m t mem × (m.remembered.select ≡ 0)

-- and CSW is known
abbrev pub Known : (Rest → Type 0) → Bool → Spot
Known M b m t mem = Keeps M m t mem b × (m.remembered.csw ≡ true)

-- CSW is written
abbrev Written : (Rest → Type 0) → Bool → Spot
Written M b m t mem = Keeps M m t mem b × (b ≡ false → t.csw ≡ CSW_DEFAULT)

-- and TAR stands at a, SELECT at 0
pub record Ready (M : Rest → Type 0) (b : Bool) (a : ℕ) (m : Memory) (t : Target) (mem : List ℕ) : Type 0 where
  pub keeps : Keeps M m t mem b
  pub csw : m.remembered.csw ≡ true
  pub select : m.remembered.select ≡ 0
  pub tar : b ≡ false → t.tar ≡ a

-- P stands where SELECT was not 0, is written as 0 and is remembered so
abbrev pub Selects : Spot → Type 0
Selects P =
    (m : Memory) (t : Target) (mem : List ℕ) → P m t mem → (m.remembered.select ≡ 0 → ⊥)
    → P (remembering m (selected 0 m.remembered)) (with_select t 0) mem

-- SELECT that is remembered as 0 is 0
pub select_zero : {r : Remembered} {t : Target} → Agree r t → r.select ≡ 0 → t.select ≡ 0
select_zero {r} a z = a.select (λ h. omega arith) ∙ z

module _ {Q : Post} {S : Stand} {M : Rest → Type 0} {b : Bool} (st : Stops S (Keeps M))
    {P : Spot} (keeps : Implies P (Keeping M b)) {G : ℕ → Spot} where
  -- a transfer that does not write DRW has to show what its reply leaves
  pub quietly : (request word : ℕ) → Quiet request → Implies P (λ m t mem. Told (Keeps M) b G m (delivered t mem request word))
      → Triple Q S (Keeps M) b P (transferring request word) G
  quietly request word h g =
      transfers st (λ m t mem p. record {
        now = keeps m t mem p;
        sent = lost_keeps (leaves t mem request word) h (keeps m t mem p);
        told = g m t mem p;
      })

  pub writes_select : (word : ℕ) → Implies P (λ m t mem. G 0 m (with_select t word) mem) → Triple Q S (Keeps M) b P (transferring (a32 SELECT) word) G
  writes_select word g =
      quietly (a32 SELECT) word tt (λ m t mem p. by_row t mem (a32 SELECT) word (Told (Keeps M) b G m) (λ _. keeps m t mem p) (λ _. g m t mem p))

zero_of : (r : Remembered) (addr : ℕ) → r.apsel ≡ 0 → addr < 16 → select_of r addr ≡ 0
zero_of r addr h l = rw h (omega arith)

-- SELECT for a register of bank 0 of the memory's access port
module _ {Q : Post} {S : Stand} {M : Rest → Type 0} {b : Bool} (st : Stops S (Keeps M))
    {P : Spot} (keeps : Implies P (Keeping M b)) (stays : Selects P) (addr : ℕ) (low : addr < 16) where
  pub selects : Triple Q S (Keeps M) b P (select_ap_bank addr) (λ _. Zero P)
  selects = looks λ m. chooses (eqb (select_of m.remembered addr) m.remembered.select)
      (λ e. returns λ n t mem p. (p.1, rw p.0 (sym (eqb-true _ _ e) ∙ zeroes m n t mem p.0 p.1)))
      (λ e. binds (binds (writes_select st (λ n t mem p. keeps n t mem p.1) (select_of m.remembered addr) (written m e))
      (λ _. returns {v = 0} λ _ _ _ p. p)) (λ _. remembers (selected (select_of m.remembered addr)) (λ _ _ _ p. p)))
    where
      zeroes : (m n : Memory) (t : Target) (mem : List ℕ) → n ≡ m → P n t mem → select_of m.remembered addr ≡ 0
      zeroes m n t mem e p = zero_of m.remembered addr (rw e at (keeps n t mem p).port) low

      Chosen : Memory → Spot
      Chosen m n t mem = Zero P (remembering n (selected (select_of m.remembered addr) n.remembered)) t mem

      written : (m : Memory) → eqb (select_of m.remembered addr) m.remembered.select ≡ false
          → Implies (λ n t mem. (n ≡ m) × P n t mem) (λ n t mem. Chosen m n (with_select t (select_of m.remembered addr)) mem)
      written m e n t mem p =
          let z : select_of m.remembered addr ≡ 0 = zeroes m n t mem p.0 p.1 in
          (rw z (stays n t mem p.1 (λ h. eqb-false _ _ e (z ∙ sym (rw p.0 at h)))), z)

-- SELECT that is written and remembered agrees
pub keeps_selected : {M : Rest → Type 0} {b : Bool} (m : Memory) (t : Target) (mem : List ℕ) → Keeps M m t mem b
    → Keeps M (remembering m (selected 0 m.remembered)) (with_select t 0) mem b
keeps_selected m t mem k = record { port = k.port; rest = k.rest; agree = λ x. record { select = λ _. refl; csw = (k.agree x).csw } }

-- a transfer to such a register
module _ {Q : Post} {S : Stand} {M : Rest → Type 0} {b : Bool} (st : Stops S (Keeps M)) where
  pub accesses : {P : Spot} → Implies P (Keeping M b) → Selects P → {G : ℕ → Spot} (request addr word : ℕ) → addr < 16
      → Triple Q S (Keeps M) b (Zero P) (transferring request word) G
      → Triple Q S (Keeps M) b P (ap_access request addr word) G
  accesses keeps stays request addr word low x = binds (selects st keeps stays addr low) (λ _. x)

  -- and where TAR stands SELECT is not written any more
  pub readily : {a : ℕ} {G : ℕ → Spot} (request addr word : ℕ) → addr < 16 → Triple Q S (Keeps M) b (Ready M b a) (transferring request word) G
      → Triple Q S (Keeps M) b (Ready M b a) (ap_access request addr word) G
  readily request addr word low x =
      accesses (λ _ _ _ p. p.keeps) (λ m t mem p n. absurd (n p.select)) request addr word low (from (λ _ _ _ p. p.0) x)

  -- CSW, where SELECT is remembered as 0
  writes_csw : Triple Q S (Keeps M) b (Zero (Keeping M b)) (transferring (1 + a32 CSW) CSW_DEFAULT) (λ _. Written M b)
  writes_csw = quietly st (λ _ _ _ p. p.0) (1 + a32 CSW) CSW_DEFAULT tt (λ m t mem p.
      by_row t mem (1 + a32 CSW) CSW_DEFAULT (Told (Keeps M) b (λ _. Written M b) m)
      (λ _. p.0) (
        (λ _ _. (record { port = p.0.port; rest = p.0.rest; agree = λ x. record { select = (p.0.agree x).select; csw = λ _. refl } }, λ _. refl)),
        (λ n _. (p.0, λ x. absurd (other_bank (1 + a32 CSW) (select_zero (p.0.agree x) p.1) n))),
      ))

  pub ensures : Triple Q S (Keeps M) b (Keeping M b) (ensure_csw CSW_DEFAULT) (λ _. Known M b)
  ensures = looks λ m. chooses m.remembered.csw
      (λ e. returns λ n t mem p. (p.1, rw p.0 e))
      (λ e. from (λ _ _ _ p. p.1) (binds (binds
      (accesses (λ _ _ _ k. k) (λ m t mem k _. keeps_selected m t mem k) (1 + a32 CSW) CSW CSW_DEFAULT (omega arith) writes_csw)
      (λ _. returns {v = 0} λ _ _ _ p. p)) (λ _. remembers csw_known known)))
    where
      known : Implies (Written M b) (λ m t mem. Known M b (remembering m (csw_known m.remembered)) t mem)
      known m t mem p =
          (record { port = p.0.port; rest = p.0.rest; agree = λ x. record { select = (p.0.agree x).select; csw = λ _. p.1 x } }, refl)

  pub tars : (a : ℕ) → Triple Q S (Keeps M) b (Known M b) (ap_write TAR a) (λ _. Ready M b a)
  tars a =
      binds (accesses (λ _ _ _ p. p.0) (λ m t mem p _. (keeps_selected m t mem p.0, p.1)) (1 + a32 TAR) TAR a (omega arith) writes_tar)
      (λ _. returns λ _ _ _ p. p)
    where
      moved : Implies (Keeping M b) (λ m t mem. Keeps M m (with_tar t a) mem b)
      moved m t mem k = record { port = k.port; rest = k.rest; agree = λ x. record { select = (k.agree x).select; csw = (k.agree x).csw } }

      writes_tar : Triple Q S (Keeps M) b (Zero (Known M b)) (transferring (1 + a32 TAR) a) (λ _. Ready M b a)
      writes_tar = quietly st (λ _ _ _ p. p.0.0) (1 + a32 TAR) a tt (λ m t mem p.
          by_row t mem (1 + a32 TAR) a (Told (Keeps M) b (λ _. Ready M b a) m)
          (λ _. p.0.0) (
            (λ _ _. record { keeps = moved m t mem p.0.0; csw = p.0.1; select = p.1; tar = λ _. refl }),
            (λ n _. record {
              keeps = p.0.0;
              csw = p.0.1;
              select = p.1;
              tar = λ x. absurd (other_bank (1 + a32 TAR) (select_zero (p.0.0.agree x) p.1) n);
            }),
          ))

  -- A transfer that writes neither SELECT nor CSW nor DRW, where P stands on what it leaves.
  pub steadily : {P : Spot} → Implies P (Keeping M b) → (request word : ℕ) → Steady request → Quiet request
      → ((m : Memory) (t : Target) (mem : List ℕ) (u : Target) (n : List ℕ) → Leaves (Steady request) (Quiet request) t mem u n
      → P m t mem → P m u n)
      → Triple Q S (Keeps M) b P (transferring request word) (λ _. P)
  steadily {P} keeps request word g h moves = quietly st keeps request word h (λ m t mem p.
      go m t mem p (delivered t mem request word).reply _ _ (leaves t mem request word))
    where
      go : (m : Memory) (t : Target) (mem : List ℕ) → P m t mem → (r : Reply) (u : Target) (n : List ℕ)
          → Leaves (Steady request) (Quiet request) t mem u n → ToldBy r (Keeps M) b (λ _. P) m u n
      go m t mem p (ok v) u n l = moves m t mem u n l p
      go m t mem p fault u n l = still_keeps l g h (keeps m t mem p)

  pub dp_reads : (addr : ℕ) → Steady (2 + a32 addr) → Quiet (2 + a32 addr) → Triple Q S (Keeps M) b (Keeping M b) (dp_read addr) (λ _. Keeping M b)
  dp_reads addr g h = steadily (λ _ _ _ k. k) (2 + a32 addr) 0 g h (λ m t mem u n l k. still_keeps l g h k)

  pub flushes : Triple Q S (Keeps M) b (Keeping M b) flush (λ _. Keeping M b)
  flushes = binds (dp_reads RDBUFF tt tt) (λ _. returns λ _ _ _ k. k)
