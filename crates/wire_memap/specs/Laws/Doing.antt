-- The words of an operation in flight, and what they stand for: every list of words has a meaning. Serves the proofs only.
use Rattle.std.specs.Prelude.{ℕ, ◌%◌, Bool, true, false, List, [], ◌∷◌, ◌≡◌, refl, eqb, leb, length, get_or, set}
use Rattle.std.proofs.Common.{sym, ap, subst, ◌∙◌}
use Rattle.wire.specs.Wire.{Memory, memory_of}
use Rattle.wire.specs.Laws.Rows.{spelled}
use Rattle.wire.specs.declared.Remembered.{Remembered}

-- which access of an operation is in flight
pub data Phase : Type 0 where
  Only : Phase
  Unit : Phase
  Last : Phase
  Pull : Phase
  Push : Phase
  Posted : Phase
  Csw : Phase
  Tar : Phase
  Sent : Phase
  First : Phase

-- what is done once CSW and TAR stand
pub data Kind : Type 0 where
  ReadWord : Kind
  WriteWord : Kind
  ReadWords : Kind
  WriteWords : Kind

pub record Task : Type 0 where
  pub kind : Kind
  pub addr : ℕ
  pub word : ℕ
  pub last : ℕ

pub record Doing : Type 0 where
  pub phase : Phase
  pub left : ℕ
  pub task : Task

-- what follows an access's transfer: while `selecting`, the transfer `request` with `word`; `select` is what SELECT becomes
pub record Reach : Type 0 where
  pub selecting : Bool
  pub select : ℕ
  pub request : ℕ
  pub word : ℕ

-- their numbers, as far as laws name them
abbrev pub UNIT : ℕ
UNIT = 1

abbrev pub LAST_READ : ℕ
LAST_READ = 2

abbrev pub PULL : ℕ
PULL = 3

abbrev pub PUSH : ℕ
PUSH = 4

abbrev pub CSW_SENT : ℕ
CSW_SENT = 6

abbrev pub TAR_SENT : ℕ
TAR_SENT = 7

abbrev pub FIRST : ℕ
FIRST = 9

abbrev pub phases : List Phase
phases = Only ∷ Unit ∷ Last ∷ Pull ∷ Push ∷ Posted ∷ Csw ∷ Tar ∷ Sent ∷ []

abbrev pub phase_of : ℕ → Phase
phase_of n = get_or phases n First

abbrev pub kinds : List Kind
kinds = ReadWord ∷ WriteWord ∷ ReadWords ∷ []

abbrev pub kind_of : ℕ → Kind
kind_of n = get_or kinds n WriteWords

abbrev pub task_of : List ℕ → Task
task_of m = record { kind = kind_of (get_or m 3 0); addr = get_or m 4 0; word = get_or m 5 0; last = get_or m 2 0 }

-- a phase of 16 and more: SELECT is in flight
abbrev pub doing_of : List ℕ → Doing
doing_of m = record { phase = phase_of (get_or m 0 0 % 16); left = get_or m 1 0; task = task_of m }

abbrev pub reach_of : List ℕ → Reach
reach_of m = record { selecting = leb 16 (get_or m 0 0); select = get_or m 8 0; request = get_or m 6 0 % 256; word = get_or m 7 0 }

abbrev pub remembered_of : List ℕ → Remembered
remembered_of m = record { select = get_or m 9 0; csw = eqb (get_or m 10 0) 1; apsel = get_or m 11 0 % 256 }

-- what stands while an operation is in flight
abbrev pub stands : List ℕ → List ℕ → List ℕ → Memory
stands m ws buf = memory_of (remembered_of m) ws buf

abbrev pub OpSized : List ℕ → Type 0
OpSized m = length m ≡ 12

-- a list of twelve words is its twelve words
pub by_words : (Q : List ℕ → Type 0)
    → ((a b c d e f g h i j k l : ℕ) → Q (a ∷ b ∷ c ∷ d ∷ e ∷ f ∷ g ∷ h ∷ i ∷ j ∷ k ∷ l ∷ [])) → (m : List ℕ) → OpSized m → Q m
by_words Q q m s = subst Q (spelled 12 m s) (q _ _ _ _ _ _ _ _ _ _ _ _)

-- the stores of `remember`
remembered_is : (r : Remembered) {c : Bool} {a : ℕ} → c ≡ r.csw → a ≡ r.apsel → record { select = r.select; csw = c; apsel = a } ≡ r
remembered_is r {c} {a} h g =
    ap (λ (x : Bool). record { select = r.select; csw = x; apsel = a }) h ∙ ap (λ (x : ℕ). record { select = r.select; csw = r.csw; apsel = x }) g

pub record Remembers (r : Remembered) (m : List ℕ) : Type 0 where
  pub is : remembered_of m ≡ r
  pub sized : OpSized m

pub remembers_known : (r : Remembered) (a : ℕ) (m : List ℕ) → a % 256 ≡ r.apsel → r.csw ≡ true → OpSized m
    → Remembers r (set (set (set (set m 9 r.select) 10 0) 11 a) 10 1)
remembers_known r a m g h = by_words (λ m. Remembers r (set (set (set (set m 9 r.select) 10 0) 11 a) 10 1))
    (λ _ _ _ _ _ _ _ _ _ _ _ _. record { is = remembered_is r (sym h) g; sized = refl }) m

pub remembers_unknown : (r : Remembered) (a : ℕ) (m : List ℕ) → a % 256 ≡ r.apsel → r.csw ≡ false → OpSized m
    → Remembers r (set (set (set m 9 r.select) 10 0) 11 a)
remembers_unknown r a m g h = by_words (λ m. Remembers r (set (set (set m 9 r.select) 10 0) 11 a))
    (λ _ _ _ _ _ _ _ _ _ _ _ _. record { is = remembered_is r (sym h) g; sized = refl }) m
