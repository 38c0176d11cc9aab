-- Which register a request reaches: by port, direction, address and bank (01: "Words and memory" for the request bits, "The model
-- target" for the registers; ADIv5.2, chapters B2 and C2; readings 20 and 22). CTRL/STAT is the only banked register of the debug
-- port. An access port looks at APSEL, bits 31:24 of SELECT, and APBANKSEL, bits 7:4; the memory is behind AP 0, bank 0.
use Rattle.std.specs.Prelude.{List, [], ◌∷◌, ℕ, ◌+◌, ◌*◌, ◌/◌, ◌%◌, cond, get_or, eqb}
use Rattle.target.specs.declared.Register.{Register}
use Rattle.target.specs.declared.Register.TheVariants.{Dp, Ap}
use Rattle.target.specs.declared.DpRegister.TheVariants as D
use Rattle.target.specs.declared.ApRegister.TheVariants as A

-- the bank that SELECT names: DPBANKSEL for the debug port, APSEL and APBANKSEL as one number for an access port
abbrev pub bank_of : ℕ → ℕ → ℕ
bank_of request select = cond (eqb (request % 2) 0) (select % 16) (select / 0x1000000 * 16 + select / 16 % 16)

-- what a request reaches: one register at every bank, or one at bank 0 and another at every other
pub data Row : Type 0 where
  everywhere : Register → Row
  banked : Register → Register → Row

-- the sixteen requests, APnDP 1, RnW 2, A2 4, A3 8
abbrev pub rows : List Row
rows =
    -- 0x0 to 0x3: DP write, AP write, DP read and AP read at address 0x0
    everywhere (Dp D.AbortWrite) ∷ banked (Ap A.CswWrite) (Ap A.OtherWrite) ∷ everywhere (Dp D.DpidrRead) ∷ banked (Ap A.CswRead) (Ap A.OtherRead) ∷
    -- 0x4 to 0x7: the same at 0x4
    banked (Dp D.CtrlStatWrite) (Dp D.OtherWrite) ∷ banked (Ap A.TarWrite) (Ap A.OtherWrite) ∷
    banked (Dp D.CtrlStatRead) (Dp D.OtherRead) ∷ banked (Ap A.TarRead) (Ap A.OtherRead) ∷
    -- 0x8 to 0xB: at 0x8
    everywhere (Dp D.SelectWrite) ∷ everywhere (Ap A.OtherWrite) ∷ everywhere (Dp D.OtherRead) ∷ everywhere (Ap A.OtherRead) ∷
    -- 0xC to 0xF: at 0xC
    everywhere (Dp D.OtherWrite) ∷ banked (Ap A.DrwWrite) (Ap A.OtherWrite) ∷ everywhere (Dp D.RdbuffRead) ∷ banked (Ap A.DrwRead)
    (Ap A.OtherRead) ∷ []

abbrev pub at_bank : Row → ℕ → Register
at_bank (everywhere r) bank = r
at_bank (banked r s) bank = cond (eqb bank 0) r s

abbrev pub row_of : ℕ → Row
row_of request = get_or rows (request % 16) (everywhere (Dp D.OtherRead))

-- the register of a request byte: its four high bits are the probe's own and do not go over the wire
abbrev pub register_of : ℕ → ℕ → Register
register_of request select = at_bank (row_of request) (bank_of request select)
