-- A row of the table has its call where there are as many words as it takes, and none where there are fewer or more.
use Rattle.std.specs.Prelude.{ℕ, suc, ◌≤◌, ◌<◌, Bool, true, false, ◌≡◌, refl, eqb, leb, Option, None}
use Rattle.std.proofs.Common.{arith}
use Rattle.engine_calls.specs.declared.EngineCall.{EngineCall}
use Rattle.abi_calls.specs.Given.{only}

pub fits : {l n : ℕ} (g : Option EngineCall) → n ≤ l → l < suc n → g ≡ only (eqb l n) g
fits {l} {n} g h h' = let e : eqb l n ≡ true = grind arith in rw e refl

pub short : {l n : ℕ} (g : Option EngineCall) → l < n → None ≡ only (eqb l n) g
short {l} {n} g h = let e : eqb l n ≡ false = grind arith in rw e refl

pub long : {l n : ℕ} (g : Option EngineCall) → n < l → None ≡ only (eqb l n) g
long {l} {n} g h = let e : eqb l n ≡ false = grind arith in rw e refl

-- nor where a test before them fails
pub none : {g : Option EngineCall} (t : Bool) → None ≡ g → None ≡ only t g
none true e = e
none false e = refl

-- the word of a byte
pub narrow : (w : ℕ) {g : Option EngineCall} (t : Option EngineCall) → w ≤ 255 → t ≡ g → t ≡ only (leb w 255) g
narrow w t h e = let l : leb w 255 ≡ true = grind arith in rw l e

pub wide : (w : ℕ) (g : Option EngineCall) → 255 < w → None ≡ only (leb w 255) g
wide w g h = let l : leb w 255 ≡ false = grind arith in rw l refl
