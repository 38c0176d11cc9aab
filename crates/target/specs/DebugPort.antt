-- The debug port's registers ABORT, CTRL/STAT, DPIDR, RDBUFF and SELECT (01: "The model target"; ADIv5.2, chapter B2; readings 20 to
-- 22 and 24). `owed` counts the reads of CTRL/STAT that do not show the acks yet; it matters only while both requests stand.
use Rattle.std.specs.Prelude.{Bool, false, ◌&&◌, cond, ℕ, ◌+◌, ◌-◌, ◌/◌, ◌%◌, eqb}
use Rattle.target.specs.declared.Target.{Target}
use Rattle.target.specs.declared.Done.{Done}
use Rattle.target.specs.declared.DpRegister.{DpRegister}
use Rattle.target.specs.declared.DpRegister.TheVariants as D
use Rattle.target.specs.Fields.{with_select, with_requests, with_owed, with_sticky}

-- an access that was done: the value answered, 0 for a write, and the target after it
abbrev pub done : ℕ → Target → Done
done v t = record { value = v; target = t }

-- bits of CTRL/STAT: the requests 28 and 30, their acks 29 and 31, and STICKYERR; STKERRCLR is bit 2 of ABORT
abbrev pub CDBGPWRUPREQ : ℕ
CDBGPWRUPREQ = 0x10000000

abbrev pub CSYSPWRUPREQ : ℕ
CSYSPWRUPREQ = 0x40000000

abbrev pub ACKS : ℕ
ACKS = 0xA0000000

abbrev pub STICKYERR : ℕ
STICKYERR = 0x20

abbrev pub STKERRCLR : ℕ
STKERRCLR = 4

-- whether a word has the bit whose value is `bit`, as 4 for bit 2
abbrev pub has : ℕ → ℕ → Bool
has bit w = eqb (w / bit % 2) 1

-- whether both power-up requests stand
abbrev pub powered : Target → Bool
powered t = t.cdbgpwrupreq && t.csyspwrupreq

-- whether a read shows the acks: both requests stand and no read is owed any more
abbrev pub acked : Target → Bool
acked t = powered t && eqb t.owed 0

-- what CTRL/STAT reads as
abbrev pub ctrl_stat : Target → ℕ
ctrl_stat t =
    cond t.cdbgpwrupreq CDBGPWRUPREQ 0 + cond t.csyspwrupreq CSYSPWRUPREQ 0 + cond (acked t) ACKS 0 + cond t.sticky STICKYERR 0

-- the reads owed after a write of CTRL/STAT: d where it makes both requests 1 when they were not
abbrev pub owed_after : Target → ℕ → ℕ
owed_after t w = cond (powered t) t.owed (cond (has CDBGPWRUPREQ w && has CSYSPWRUPREQ w) t.d t.owed)

-- the target after a write of CTRL/STAT, which keeps the two requests
abbrev pub requests : Target → ℕ → Target
requests t w = with_requests t (has CDBGPWRUPREQ w) (has CSYSPWRUPREQ w) (owed_after t w)

abbrev pub reach_dp : DpRegister → Target → ℕ → Done
reach_dp D.AbortWrite t w = done 0 (with_sticky t (cond (has STKERRCLR w) false t.sticky))
reach_dp D.DpidrRead t w = done t.dpidr t
reach_dp D.CtrlStatWrite t w = done 0 (requests t w)
reach_dp D.CtrlStatRead t w = done (ctrl_stat t) (with_owed t (t.owed - 1))
reach_dp D.SelectWrite t w = done 0 (with_select t w)
reach_dp D.RdbuffRead t w = done t.rdbuff t
reach_dp D.OtherRead t w = done 0 t
reach_dp D.OtherWrite t w = done 0 t
