-- A run of words in progress: SELECT, CSW and what is remembered stand as it wants them. Serves the proofs only.
use Rattle.std.specs.Prelude.{ℕ, Bool, true, false, ◌≡◌, refl, List}
use Rattle.std.proofs.Common.{true≢false, sym, ◌∙◌, eq-eqb}
use Rattle.wire.specs.Wire.{Memory}
use Rattle.wire_memap.specs.Ports.{DRW, select_of, select_ap_bank}
use Rattle.target.specs.Fields.{with_rdbuff}
use Rattle.target.specs.MemAp.{advanced, failed}
use Rattle.target.specs.declared.Target.{Target}
use Rattle.agreement.specs.Laws.Safe.{Stand, Post}
use Rattle.agreement.specs.Laws.Transfer.{Spot, Triple, Implies}
use Rattle.agreement.specs.Laws.Ports.{Rest, Keeps}
use Rattle.agreement.specs.Laws.Drw.{Poised}

-- memory that starts at `base`, and N of it
abbrev pub Stays : ℕ → (List ℕ → Type 0) → Rest → Type 0
Stays base N r = (r.base ≡ base) × N r.mem

pub record Running (base : ℕ) (buf : List ℕ) (m : Memory) (t : Target) : Type 0 where
  pub port : m.remembered.apsel ≡ 0
  pub select : m.remembered.select ≡ 0
  pub buffer : m.buf ≡ buf
  pub poised : Poised base t

-- with other words, and after accesses that leave SELECT, CSW, width and base alone
module _ {base : ℕ} {buf : List ℕ} {m : Memory} {t : Target} (r : Running base buf m t) (ws : List ℕ) where
  abbrev row : Memory
  row = record { remembered = m.remembered; words = ws; buf = m.buf }

  abbrev on : {u : Target} → Poised base u → Running base buf row u
  on p = record { port = r.port; select = r.select; buffer = r.buffer; poised = p }

  pub on_same : Running base buf row t
  on_same = on r.poised

  pub on_next : Running base buf row (advanced t)
  on_next = on (record { select = r.poised.select; csw = r.poised.csw; width = r.poised.width; start = r.poised.start })

  pub on_failed : Running base buf row (failed t)
  on_failed = on (record { select = r.poised.select; csw = r.poised.csw; width = r.poised.width; start = r.poised.start })

pub on_read : {base : ℕ} {buf : List ℕ} {m : Memory} {t : Target} (v : ℕ) → Running base buf m t → Running base buf m (with_rdbuff t v)
on_read v r = on r _ (record { select = r.poised.select; csw = r.poised.csw; width = r.poised.width; start = r.poised.start })

module _ {base : ℕ} {buf : List ℕ} {m : Memory} {t : Target} (r : Running base buf m t) (N : List ℕ → Type 0) {mem : List ℕ} where
  pub run_keeps : N mem → Keeps (Stays base N) m t mem false
  run_keeps n = record {
    port = r.port;
    agree = λ _. record { select = λ _. r.poised.select ∙ sym r.select; csw = λ _. r.poised.csw };
    rest = (r.poised.start, n);
  }

  pub run_lost : {u : Target} → u.base ≡ base → N mem → Keeps (Stays base N) m u mem true
  run_lost e n = record { port = r.port; agree = λ x. absurd (true≢false x); rest = (e, n) }

-- SELECT is 0 already, so that DRW needs no other
pub stands : {base : ℕ} {buf : List ℕ} {m : Memory} {t : Target} → Running base buf m t → select_of m.remembered DRW ≡ m.remembered.select
stands r = rw (r.port, r.select) refl

pub select_stands_lem : {Q : Post} {S F : Stand} {b : Bool} {P : Spot} (addr : ℕ)
    → Implies P (λ m t mem. select_of m.remembered addr ≡ m.remembered.select) → Triple Q S F b P (select_ap_bank addr) (λ _. P)
select_stands_lem addr h = record { runs = λ f {m} {t} {mem} p. rw (eq-eqb _ _ (h m t mem p)) (f.value 0 p) }
