-- Equations that a reader expects of the definitions. They serve no proof.
use Rattle.std.specs.Prelude.{false, ◌≡◌, refl, [], ℕ, ◌+◌, ◌*◌, ◌/◌, ◌%◌, ◌^◌, min, ◌≤◌}
use Rattle.std.proofs.Common.{◌∙◌, mod-lt, arith, pow_pos}
use Rattle.std.proofs.Math.Nat.{mod-add-mod}
use Rattle.std.proofs.Math.Arith.{digits_div, digits_mod}
use Rattle.target.specs.declared.Target.{Target}
use Rattle.target.specs.declared.Register.TheVariants.{Dp, Ap}
use Rattle.target.specs.declared.DpRegister.TheVariants as D
use Rattle.target.specs.declared.ApRegister.TheVariants as A
use Rattle.target.specs.Decode.{register_of}
use Rattle.target.specs.MemAp.{csw_kept, next_tar}
use Rattle.target.specs.WellFormed.{WellFormed}

-- The rest of TAR stays, and its low `width` bits gain 4 modulo 2^width (reading C1).
module _ (t : Target) (w : t.width ≤ 32) (i : t.csw / 16 % 4 ≡ 1) where
  all_of_it : min t.width 32 ≡ t.width
  all_of_it = omega arith

  rest_stays : next_tar t / 2 ^ t.width ≡ t.tar / 2 ^ t.width
  rest_stays = simp (all_of_it, i) (digits_div (t.tar / 2 ^ t.width) (mod-lt _ (pow_pos t.width)))

  low_gains : next_tar t % 2 ^ t.width ≡ (t.tar + 4) % 2 ^ t.width
  low_gains =
      simp (all_of_it, i) (digits_mod (t.tar / 2 ^ t.width) (mod-lt _ (pow_pos t.width)) ∙ mod-add-mod t.tar (2 ^ t.width) 4)

-- With ten bits, as 01 has it.
ten_bits : (t : Target) → t.width ≡ 10 → t.csw / 16 % 4 ≡ 1 → next_tar t ≡ t.tar / 1024 * 1024 + (t.tar % 1024 + 4) % 1024
ten_bits t w i = simp (w, i)

-- Every width from 10 to 32 is admitted: the premise of demand 3 is met.
abbrev of_width : ℕ → Target
of_width w =
    record {
      dpidr = 0x0BC12477;
      d = 0;
      width = w;
      base = 0;
      select = 0;
      cdbgpwrupreq = false;
      csyspwrupreq = false;
      owed = 0;
      sticky = false;
      rdbuff = 0;
      csw = 0x23000012;
      tar = 0;
    }

every_width : (w : ℕ) → 10 ≤ w → w ≤ 32 → WellFormed (of_width w) []
every_width w low high =
    record { size = refl; width = (omega arith, omega arith); start = refl; whole = refl; end = omega arith; bytes = λ i. omega arith }

-- the CSW that the engine writes reads back equal (reading 17)
csw_kept_lem : csw_kept 0x23000012 ≡ 0x23000012
csw_kept_lem = refl

-- RDBUFF and SELECT answer at every SELECT (reading 20), CTRL/STAT at DPBANKSEL 0, DRW at AP 0, bank 0
rdbuff : (select : ℕ) → register_of 0xE select ≡ Dp D.RdbuffRead
rdbuff select = refl

select_write : (select : ℕ) → register_of 0x8 select ≡ Dp D.SelectWrite
select_write select = refl

ctrl_stat_lem : register_of 0x6 0x000000F0 ≡ Dp D.CtrlStatRead
ctrl_stat_lem = refl

ctrl_stat_banked : register_of 0x6 0x00000001 ≡ Dp D.OtherRead
ctrl_stat_banked = refl

drw : register_of 0xF 0x00FFFF0F ≡ Ap A.DrwRead
drw = refl

drw_other_bank : register_of 0xF 0x00000010 ≡ Ap A.OtherRead
drw_other_bank = refl

drw_other_ap : register_of 0xF 0x01000000 ≡ Ap A.OtherRead
drw_other_ap = refl
