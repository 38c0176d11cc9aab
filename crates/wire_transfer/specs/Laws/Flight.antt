-- What a transport call in flight stands for. Serves the proofs only.
use Rattle.std.specs.Prelude.{ℕ, zero, suc, ◌+◌, ◌-◌, ◌%◌, ◌<◌, ◌≤◌, List, [], ◌∷◌, ◌≡◌, refl, Bool, true, false, eqb, length, get_or, set, Err, Option, None, Some}
use Rattle.std.proofs.Common.{sym, ap, subst, ◌∙◌, arith, ne_eqb}
use Rattle.wire.specs.Bytes.{pattern_at}
use Rattle.wire.specs.Wire.{Wire, ask, tell, follow, Memory}
use Rattle.wire.specs.Outcomes.{Answer}
use Rattle.wire_transfer.specs.Count.{Counted}
use Rattle.wire.specs.Laws.Rows.{spelled}
use Rattle.wire.specs.Laws.Told.{error_of}
use Rattle.wire_transfer.specs.Transfer.{clear_sticky_errors, after_answer, tries, transfer, raw_outcome}
use Rattle.wire_transfer.specs.Transfer as T
use Rattle.wire.specs.declared.ArmError.{ArmError}
use Rattle.wire.specs.declared.ArmError.TheVariants as E
use Rattle.wire.specs.declared.Call.{Call}
use Rattle.wire.specs.declared.Call.TheVariants as C
use Rattle.wire.specs.Outcomes.{Outcome}

pub data Mode : Type 0 where
  trying : Mode
  aborting : Mode
  raw : Mode

pub record Transfer : Type 0 where
  pub mode : Mode
  pub made : ℕ
  pub call : Call
  pub error : ArmError

abbrev pub modes : List Mode
modes = trying ∷ aborting ∷ []

abbrev pub mode_of : ℕ → Mode
mode_of n = get_or modes n raw

-- a transport call by its kind, two bytes and a word
abbrev pub calls : ℕ → ℕ → ℕ → List Call
calls a b w = C.Transfer (a % 256) w ∷ C.Connect ∷ C.Sequence (pattern_at a) ∷ C.Pins (a % 256) (b % 256) w ∷ C.WriteBits (a % 256) w ∷ []

abbrev pub call_of : ℕ → ℕ → ℕ → ℕ → Call
call_of kind a b w = get_or (calls a b w) kind C.OutputEnable

abbrev pub transfer_of : List ℕ → Transfer
transfer_of t = record {
  mode = mode_of (get_or t 0 0);
  made = get_or t 1 0;
  call = call_of (get_or t 2 0) (get_or t 3 0) (get_or t 5 0) (get_or t 4 0);
  error = error_of (get_or t 5 0) (get_or t 6 0);
}

abbrev pub Sized : List ℕ → Type 0
Sized t = length t ≡ 7

-- a transfer is tried
abbrev pub Trying : List ℕ → Type 0
Trying t = Sized t × (get_or t 0 0 ≡ 0)

abbrev pub flight : Mode → Memory → Transfer → (Outcome → Wire) → Wire
flight trying m t k = ask m t.call (after_answer m (tries (65 - t.made) m t.call k) k)
flight aborting m t k = tell m t.call (k (Err t.error))
flight raw m t k = ask m t.call (λ a. k (raw_outcome a))

abbrev pub transfer_tree : Memory → Transfer → (Outcome → Wire) → Wire
transfer_tree m t k = flight t.mode m t k

abbrev pub went_tree : Memory → Option Outcome → List ℕ → (Outcome → Wire) → Wire
went_tree m None t k = transfer_tree m (transfer_of t) k
went_tree m (Some o) t k = k o

abbrev pub WentCounted : Option Outcome → List ℕ → Type 0
WentCounted None t = Counted t
WentCounted (Some o) t = Unit {0}

-- the tree w goes on as r, with the words t
pub record Goes (w : Memory → (Outcome → Wire) → Wire) (r : Option Outcome) (t : List ℕ) : Type 0 where
  pub tree : (m : Memory) (k : Outcome → Wire) → w m k ≡ went_tree m r t k
  pub sized : Sized t
  pub counted : WentCounted r t

-- the same tree goes on the same way
pub goes_as : {w v : Memory → (Outcome → Wire) → Wire} {r : Option Outcome} {t : List ℕ} → ((m : Memory) (k : Outcome → Wire) → w m k ≡ v m k) → Goes v r t → Goes w r t
goes_as e g = record { tree = λ m k. e m k ∙ g.tree m k; sized = g.sized; counted = g.counted }

-- the stores of the code
abbrev pub begun : ℕ → ℕ → List ℕ → List ℕ
begun request word t = set (set (set (set (set t 0 0) 1 1) 2 0) 3 request) 4 word

abbrev pub begun_raw : ℕ → ℕ → ℕ → ℕ → List ℕ → List ℕ
begun_raw kind a b word t = set (set (set (set (set (set t 0 2) 1 1) 2 kind) 3 a) 4 word) 5 b

abbrev pub aborts : ℕ → ℕ → List ℕ → List ℕ
aborts error ack t = set (set (set (set (set (set (set t 0 1) 1 1) 2 0) 3 0) 4 0x1E) 5 error) 6 ack

-- a list of seven words is its seven words
by_words : (Q : List ℕ → Type 0) → ((a b c d e f g : ℕ) → Q (a ∷ b ∷ c ∷ d ∷ e ∷ f ∷ g ∷ [])) → (t : List ℕ) → Sized t → Q t
by_words Q q t s = subst Q (spelled 7 t s) (q _ _ _ _ _ _ _)

-- what the stores leave
pub begun_is : (request word : ℕ) (t : List ℕ) → Sized t → (m : Memory) (k : Outcome → Wire)
    → transfer m (request % 256) word k ≡ transfer_tree m (transfer_of (begun request word t)) k
unfolding transfer tries
begun_is request word = by_words (λ t. (m : Memory) (k : Outcome → Wire) → transfer m (request % 256) word k ≡ transfer_tree m (transfer_of (begun request word t)) k)
    (λ a b c d e f g m k. refl)

pub raw_is : (kind x y word : ℕ) (t : List ℕ) → Sized t → (m : Memory) (k : Outcome → Wire)
    → T.raw m (call_of kind x y word) k ≡ transfer_tree m (transfer_of (begun_raw kind x y word t)) k
unfolding T.raw
raw_is kind x y word = by_words (λ t. (m : Memory) (k : Outcome → Wire) → T.raw m (call_of kind x y word) k ≡ transfer_tree m (transfer_of (begun_raw kind x y word t)) k)
    (λ a b c d e f g m k. refl)

pub aborts_is : (error ack : ℕ) (t : List ℕ) → Sized t → (m : Memory) (k : Outcome → Wire)
    → clear_sticky_errors m (error_of error ack) k ≡ transfer_tree m (transfer_of (aborts error ack t)) k
aborts_is error ack = by_words (λ t. (m : Memory) (k : Outcome → Wire) → clear_sticky_errors m (error_of error ack) k ≡ transfer_tree m (transfer_of (aborts error ack t)) k)
    (λ a b c d e f g m k. refl)

pub begun_sized : (request word : ℕ) (t : List ℕ) → Sized t → Sized (begun request word t)
begun_sized request word = by_words (λ t. Sized (begun request word t)) (λ a b c d e f g. refl)

pub begun_counted : (request word : ℕ) (t : List ℕ) → Sized t → Counted (begun request word t)
begun_counted request word = by_words (λ t. Counted (begun request word t)) (λ a b c d e f g. omega arith)

raw_sized : (kind x y word : ℕ) (t : List ℕ) → Sized t → Sized (begun_raw kind x y word t)
raw_sized kind x y word = by_words (λ t. Sized (begun_raw kind x y word t)) (λ a b c d e f g. refl)

raw_counted : (kind x y word : ℕ) (t : List ℕ) → Sized t → Counted (begun_raw kind x y word t)
raw_counted kind x y word = by_words (λ t. Counted (begun_raw kind x y word t)) (λ a b c d e f g. omega arith)

aborts_sized : (error ack : ℕ) (t : List ℕ) → Sized t → Sized (aborts error ack t)
aborts_sized error ack = by_words (λ t. Sized (aborts error ack t)) (λ a b c d e f g. refl)

aborts_counted : (error ack : ℕ) (t : List ℕ) → Sized t → Counted (aborts error ack t)
aborts_counted error ack = by_words (λ t. Counted (aborts error ack t)) (λ a b c d e f g. omega arith)

-- one try more, at a count that the code takes up by one
tries_more : (n : ℕ) (m : Memory) (c : Call) (k : Outcome → Wire) → n < 65
    → tries (65 - n) m c k ≡ ask m c (after_answer m (tries (65 - (n + 1)) m c k) k)
unfolding tries
tries_more n m c k h = ap (λ (j : ℕ). tries j m c k) more
  where
    more : 65 - n ≡ suc (65 - (n + 1))
    more = omega (arith, h)

-- what a WAIT leads to
abbrev pub waits : List ℕ → Memory → (Outcome → Wire) → Wire
waits t m k = tries (65 - (transfer_of t).made) m (transfer_of t).call k

pub waits_no_more : (t : List ℕ) → Trying t → 65 ≤ get_or t 1 0 → Goes (waits t) (Some (Err E.Wait)) t
unfolding tries
waits_no_more t h e = record { tree = λ m k. ap (λ (j : ℕ). tries j m (transfer_of t).call k) none; sized = h.0; counted = tt }
  where
    none : 65 - get_or t 1 0 ≡ 0
    none = omega (arith, e)

pub waits_again : (t : List ℕ) → Trying t → get_or t 1 0 < 65 → Goes (waits t) None (set t 1 (get_or t 1 0 + 1))
waits_again t h = by_words (λ t. get_or t 0 0 ≡ 0 → get_or t 1 0 < 65 → Goes (waits t) None (set t 1 (get_or t 1 0 + 1))) more t h.0 h.1
  where
    more : (a b c d e f g : ℕ) → a ≡ 0 → b < 65 → Goes (waits (a ∷ b ∷ c ∷ d ∷ e ∷ f ∷ g ∷ [])) None (a ∷ (b + 1) ∷ c ∷ d ∷ e ∷ f ∷ g ∷ [])
    more a b c d e f g z l = record { tree = λ m k. simp z (tries_more b m (call_of c d f e) k l); sized = refl; counted = omega (arith, l) }

-- what an answer to a try leads to
abbrev pub answered : List ℕ → Answer → Memory → (Outcome → Wire) → Wire
answered t a m k = follow (flight trying m (transfer_of t) k) a

-- any other error than WAIT
pub fails_with : (error ack : ℕ) (t : List ℕ) {e : ArmError} → error_of error ack ≡ e → Sized t → Goes (λ m k. clear_sticky_errors m e k) None (aborts error ack t)
fails_with error ack t h s = record {
  tree = λ m k. ap (λ (e : ArmError). clear_sticky_errors m e k) (sym h) ∙ aborts_is error ack t s m k;
  sized = aborts_sized error ack t s;
  counted = aborts_counted error ack t s;
}

-- by the mode
pub mode_step : (d : Mode) (t : List ℕ) (a : Answer) (r : Option Outcome) (u : List ℕ) → (transfer_of t).mode ≡ d
    → Goes (λ m k. follow (flight d m (transfer_of t) k) a) r u → Goes (λ m k. follow (transfer_tree m (transfer_of t) k) a) r u
mode_step d t a r u h g = subst (λ (e : Mode). Goes (λ m k. follow (flight e m (transfer_of t) k) a) r u) (sym h) g

-- a call that is made once, by what the code stores of it
pub raw_begun : (kind x y word : ℕ) (t : List ℕ) {u : List ℕ} {c : Call} → u ≡ begun_raw kind x y word t → Sized t → c ≡ call_of kind x y word
    → ((m : Memory) (k : Outcome → Wire) → T.raw m c k ≡ transfer_tree m (transfer_of u) k) × Sized u × Counted u
raw_begun kind x y word t {u} {c} e h is = subst (λ (u : List ℕ). ((m : Memory) (k : Outcome → Wire) → T.raw m c k ≡ transfer_tree m (transfer_of u) k) × Sized u × Counted u) (sym e)
    ((λ m k. ap (λ (c : Call). T.raw m c k) is ∙ raw_is kind x y word t h m k), raw_sized kind x y word t h, raw_counted kind x y word t h)

-- bytes come back from their words
pub transfer_back : (x : ℕ) {r word : ℕ} → x % 256 ≡ r → C.Transfer r word ≡ C.Transfer (x % 256) word
transfer_back x e = simp e refl

pub pins_back : (x y : ℕ) {o s wait : ℕ} → x % 256 ≡ o → y % 256 ≡ s → C.Pins o s wait ≡ C.Pins (x % 256) (y % 256) wait
pins_back x y e f = simp (e, f) refl

pub bits_back : (x : ℕ) {b word : ℕ} → x % 256 ≡ b → C.WriteBits b word ≡ C.WriteBits (x % 256) word
bits_back x e = simp e refl

-- whether the answer is ignored
abbrev pub ignoring : Mode → Bool
ignoring trying = false
ignoring aborting = true
ignoring raw = false

pub ignoring_is : (n : ℕ) → eqb n 1 ≡ ignoring (mode_of n)
ignoring_is zero = refl
ignoring_is (suc zero) = refl
ignoring_is (suc (suc n)) = ne_eqb (suc (suc n)) 1 (λ q. far n q)
  where
    far : (n : ℕ) → suc (suc n) ≡ 1 → ⊥
    far n q = omega (arith, q)
