-- The operation makes the definition compute to its first access, which the callee begins.
use native.Mathlib.Omega.{arith}
use Rattle.wire_memap.specs.Ops.{perform}
use Rattle.wire_memap.specs.Laws.Flight.{accesses, begins_of, direct_on, byte_request, byte_address}
use Rattle.wire_memap.proofs.op_start.Goals as goal

pub returns-in-DpRead : goal.returns-in-DpRead
unfolding perform
returns-in-DpRead c =
    λ ws f. let a = c.args in begins_of (λ b k. simp c.in-DpRead.is (simp (byte_request 2 _ _ c.a32.ensures.0 c.a32.ensures.1 (omega arith)))) (direct_on 0 _ 0 a.t.now a.m.now ws (omega arith) c.direct.ensures f)

pub returns-in-DpWrite : goal.returns-in-DpWrite
unfolding perform
returns-in-DpWrite c =
    λ ws f. let a = c.args in begins_of (λ b k. simp c.in-DpWrite.is (simp (byte_address _ _ c.a32-in-DpWrite.ensures.0 c.a32-in-DpWrite.ensures.1))) (direct_on 1 _ _ a.t.now a.m.now ws (omega arith) c.direct-in-DpWrite.ensures f)

pub returns-in-ApRead : goal.returns-in-ApRead
unfolding perform
returns-in-ApRead c =
    λ ws f. begins_of (λ b k. simp c.in-ApRead.is (simp (byte_request 3 _ _ c.a32-in-ApRead.ensures.0 c.a32-in-ApRead.ensures.1 (omega arith)))) (accesses c.access.ensures (omega arith) f ws)

pub returns-in-ApWrite : goal.returns-in-ApWrite
unfolding perform
returns-in-ApWrite c =
    λ ws f. begins_of (λ b k. simp c.in-ApWrite.is (simp (byte_request 1 _ _ c.a32-in-ApWrite.ensures.0 c.a32-in-ApWrite.ensures.1 (omega arith)))) (accesses c.access-in-ApWrite.ensures (omega arith) f ws)

pub returns-in-ReadWord : goal.returns-in-ReadWord
unfolding perform
returns-in-ReadWord c =
    λ ws f. begins_of (λ b k. simp c.in-ReadWord.is) (c.task_start.ensures ws f)

pub returns-in-WriteWord : goal.returns-in-WriteWord
unfolding perform
returns-in-WriteWord c =
    λ ws f. begins_of (λ b k. simp c.in-WriteWord.is) (c.task_start-in-WriteWord.ensures ws f)

pub returns-in-ReadWords : goal.returns-in-ReadWords
unfolding perform
returns-in-ReadWords c =
    λ ws f. begins_of (λ b k. simp c.in-ReadWords.is) (c.task_start-in-ReadWords.ensures ws f)

pub returns-in-WriteWords : goal.returns-in-WriteWords
unfolding perform
returns-in-WriteWords c =
    λ ws f. begins_of (λ b k. simp c.in-WriteWords.is) (c.task_start-in-WriteWords.ensures ws f)

pub returns-in-Other : goal.returns-in-Other
unfolding perform
returns-in-Other c =
    λ ws f. begins_of (λ b k. simp c.in-Other.is) (c.raw_start.ensures ws f)
