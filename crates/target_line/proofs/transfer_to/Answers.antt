-- The register that was decoded is the definition's, so that the transfer is the access to it (`transfer_at`).
-- It is refused, or reached through its port.
use Rattle.target.specs.Laws.Deliver.{transfer_at}
use mathlib.Core.Path.{sym, ◌∙◌}
use Rattle.target_line.proofs.transfer_to.Goals as goal

pub returns-then-is_barred : goal.returns-then-is_barred
returns-then-is_barred c =
    let a = c.args in
    let e = transfer_at a.t a.mem.now a.request a.word _ c.decode-reg.ensures in
    let p = sym c.is_barred.ensures ∙ c.if-is_barred.true in
    (rw e (simp p), rw e (simp p))

pub returns-in-Dp : goal.returns-in-Dp
returns-in-Dp c =
    let a = c.args in
    let e = transfer_at a.t a.mem.now a.request a.word _ c.decode-reg.ensures in
    let p = sym c.is_barred.ensures ∙ c.if-is_barred.false in
    let r = c.in-Dp.is in
    (rw e (simp p (simp r (simp (c.into.ensures, c.reach_dp.ensures)))), rw e (simp p (simp r)))

pub returns-in-Ap : goal.returns-in-Ap
returns-in-Ap c =
    let a = c.args in
    let e = transfer_at a.t a.mem.now a.request a.word _ c.decode-reg.ensures in
    let p = sym c.is_barred.ensures ∙ c.if-is_barred.false in
    let r = c.in-Ap.is in
    let g = c.reach_ap.ensures in
    (rw e (simp p (simp r (simp (c.into-in-Ap.ensures, g.0)))), rw e (simp p (simp r g.1)))
