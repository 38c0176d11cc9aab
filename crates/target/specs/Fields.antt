-- The target with one register changed. Its record is the struct `Target` of src/lib.rt (01: "The model target"): the memory is
-- lent beside it. antt writes a record whole, so each of these names every register.
use Rattle.std.specs.Prelude.{ℕ, Bool}
use Rattle.target.specs.declared.Target.{Target}

-- a target with these registers; what it is made as (dpidr, d, width, base) stays
abbrev pub registers : Target → (select : ℕ) (debug system : Bool) (owed : ℕ) (sticky : Bool) (rdbuff csw tar : ℕ) → Target
registers t select debug system owed sticky rdbuff csw tar = record {
  dpidr = t.dpidr;
  d = t.d;
  width = t.width;
  base = t.base;
  select = select;
  cdbgpwrupreq = debug;
  csyspwrupreq = system;
  owed = owed;
  sticky = sticky;
  rdbuff = rdbuff;
  csw = csw;
  tar = tar;
}

abbrev pub with_select : Target → ℕ → Target
with_select t v = registers t v t.cdbgpwrupreq t.csyspwrupreq t.owed t.sticky t.rdbuff t.csw t.tar

abbrev pub with_requests : Target → Bool → Bool → ℕ → Target
with_requests t debug system n = registers t t.select debug system n t.sticky t.rdbuff t.csw t.tar

abbrev pub with_owed : Target → ℕ → Target
with_owed t n = registers t t.select t.cdbgpwrupreq t.csyspwrupreq n t.sticky t.rdbuff t.csw t.tar

abbrev pub with_sticky : Target → Bool → Target
with_sticky t s = registers t t.select t.cdbgpwrupreq t.csyspwrupreq t.owed s t.rdbuff t.csw t.tar

abbrev pub with_rdbuff : Target → ℕ → Target
with_rdbuff t v = registers t t.select t.cdbgpwrupreq t.csyspwrupreq t.owed t.sticky v t.csw t.tar

abbrev pub with_csw : Target → ℕ → Target
with_csw t v = registers t t.select t.cdbgpwrupreq t.csyspwrupreq t.owed t.sticky t.rdbuff v t.tar

abbrev pub with_tar : Target → ℕ → Target
with_tar t v = registers t t.select t.cdbgpwrupreq t.csyspwrupreq t.owed t.sticky t.rdbuff t.csw v
