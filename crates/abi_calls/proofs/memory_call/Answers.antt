-- Each arm is its row of the table; no arm is left where the words are fewer or more than a row takes.
use Rattle.std.specs.Prelude.{get_or}
use Rattle.std.proofs.Common.{arith}
use Rattle.abi_calls.specs.Given.{engine_call_of}
use Rattle.abi_calls.proofs.Rows.{fits, short, long, none, narrow, wide}
use Rattle.abi_calls.proofs.memory_call.Goals as goal

pub returns-in-9-len1 : goal.returns-in-9-len1
unfolding engine_call_of
returns-in-9-len1 c = rw c.in-9-len1.is-0 (fits _ c.in-9-len1.len_at_least c.in-9-len1.len_below)

pub returns-in-10-len2 : goal.returns-in-10-len2
unfolding engine_call_of
returns-in-10-len2 c = rw c.in-10-len2.is-0 (fits _ c.in-10-len2.len_at_least c.in-10-len2.len_below)

pub returns-in-11-len1 : goal.returns-in-11-len1
unfolding engine_call_of
returns-in-11-len1 c = rw c.in-11-len1.is-0 (fits _ c.in-11-len1.len_at_least c.in-11-len1.len_below)

pub returns-in-12-len1 : goal.returns-in-12-len1
unfolding engine_call_of
returns-in-12-len1 c = rw c.in-12-len1.is-0 (fits _ c.in-12-len1.len_at_least c.in-12-len1.len_below)

pub returns-in-13-len1 : goal.returns-in-13-len1
unfolding engine_call_of
returns-in-13-len1 c = rw c.in-13-len1.is-0 (fits _ c.in-13-len1.len_at_least c.in-13-len1.len_below)

pub returns-in-14-len1 : goal.returns-in-14-len1
unfolding engine_call_of
returns-in-14-len1 c = rw c.in-14-len1.is-0 (fits _ c.in-14-len1.len_at_least c.in-14-len1.len_below)

pub returns-in-6-0-to-255 : goal.returns-in-6-0-to-255
unfolding engine_call_of
returns-in-6-0-to-255 c = rw c.in-6-0-to-255.is-0 (narrow (get_or c.args.args.now 0 0) _ (omega arith) (fits _ c.in-6-0-to-255.len_at_least c.in-6-0-to-255.len_below))

pub returns-in_default : goal.returns-in_default
unfolding engine_call_of
returns-in_default c = rw c.in_default.is-0 (none _ (short _ c.in_default.len_below))

pub returns-in_default-2 : goal.returns-in_default-2
unfolding engine_call_of
returns-in_default-2 c = rw c.in_default.is-0 (wide (get_or c.args.args.now 0 0) _ (omega arith))

pub returns-in_default-3 : goal.returns-in_default-3
unfolding engine_call_of
returns-in_default-3 c = rw c.in_default.is-0 (none _ (long _ c.in_default.len_at_least))

pub returns-in-7-0-to-255 : goal.returns-in-7-0-to-255
unfolding engine_call_of
returns-in-7-0-to-255 c = rw c.in-7-0-to-255.is-0 (narrow (get_or c.args.args.now 0 0) _ (omega arith) (fits _ c.in-7-0-to-255.len_at_least c.in-7-0-to-255.len_below))

pub returns-in_default-4 : goal.returns-in_default-4
unfolding engine_call_of
returns-in_default-4 c = rw c.in_default.is-0 (none _ (short _ c.in_default.len_below))

pub returns-in_default-5 : goal.returns-in_default-5
unfolding engine_call_of
returns-in_default-5 c = rw c.in_default.is-0 (wide (get_or c.args.args.now 0 0) _ (omega arith))

pub returns-in_default-6 : goal.returns-in_default-6
unfolding engine_call_of
returns-in_default-6 c = rw c.in_default.is-0 (none _ (long _ c.in_default.len_at_least))

pub returns-in-8-0-to-255 : goal.returns-in-8-0-to-255
unfolding engine_call_of
returns-in-8-0-to-255 c = rw c.in-8-0-to-255.is-0 (narrow (get_or c.args.args.now 0 0) _ (omega arith) (fits _ c.in-8-0-to-255.len_at_least c.in-8-0-to-255.len_below))

pub returns-in_default-7 : goal.returns-in_default-7
unfolding engine_call_of
returns-in_default-7 c = rw c.in_default.is-0 (none _ (short _ c.in_default.len_below))

pub returns-in_default-8 : goal.returns-in_default-8
unfolding engine_call_of
returns-in_default-8 c = rw c.in_default.is-0 (wide (get_or c.args.args.now 0 0) _ (omega arith))

pub returns-in_default-9 : goal.returns-in_default-9
unfolding engine_call_of
returns-in_default-9 c = rw c.in_default.is-0 (none _ (long _ c.in_default.len_at_least))

pub returns-in_default-10 : goal.returns-in_default-10
unfolding engine_call_of
returns-in_default-10 c = rw c.in_default.is-0 (short _ c.in_default.len_below)

pub returns-in_default-11 : goal.returns-in_default-11
unfolding engine_call_of
returns-in_default-11 c = rw c.in_default.is-0 (long _ c.in_default.len_at_least)

pub returns-in_default-12 : goal.returns-in_default-12
unfolding engine_call_of
returns-in_default-12 c = rw c.in_default.is-0 (short _ c.in_default.len_below)

pub returns-in_default-13 : goal.returns-in_default-13
unfolding engine_call_of
returns-in_default-13 c = rw c.in_default.is-0 (long _ c.in_default.len_at_least)

pub returns-in_default-14 : goal.returns-in_default-14
unfolding engine_call_of
returns-in_default-14 c = rw c.in_default.is-0 (short _ c.in_default.len_below)

pub returns-in_default-15 : goal.returns-in_default-15
unfolding engine_call_of
returns-in_default-15 c = rw c.in_default.is-0 (long _ c.in_default.len_at_least)

pub returns-in_default-16 : goal.returns-in_default-16
unfolding engine_call_of
returns-in_default-16 c = rw c.in_default.is-0 (short _ c.in_default.len_below)

pub returns-in_default-17 : goal.returns-in_default-17
unfolding engine_call_of
returns-in_default-17 c = rw c.in_default.is-0 (long _ c.in_default.len_at_least)

pub returns-in_default-18 : goal.returns-in_default-18
unfolding engine_call_of
returns-in_default-18 c = rw c.in_default.is-0 (short _ c.in_default.len_below)

pub returns-in_default-19 : goal.returns-in_default-19
unfolding engine_call_of
returns-in_default-19 c = rw c.in_default.is-0 (long _ c.in_default.len_at_least)

pub returns-in_default-20 : goal.returns-in_default-20
unfolding engine_call_of
returns-in_default-20 c = rw c.in_default.is-0 (short _ c.in_default.len_below)

pub returns-in_default-21 : goal.returns-in_default-21
unfolding engine_call_of
returns-in_default-21 c = rw c.in_default.is-0 (long _ c.in_default.len_at_least)
