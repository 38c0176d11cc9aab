-- Each arm is its row of the table; no arm is left where the words are fewer or more than a row takes.
use Rattle.std.specs.Prelude.{get_or}
use Rattle.std.proofs.Common.{arith}
use Rattle.abi_calls.specs.Given.{engine_call_of}
use Rattle.abi_calls.proofs.Rows.{fits, short, long, none, narrow, wide}
use Rattle.abi_calls.proofs.core_call.Goals as goal

pub returns-in-15-empty : goal.returns-in-15-empty
unfolding engine_call_of
returns-in-15-empty c = rw c.in-15-empty.is-0 (fits _ (omega arith) c.in-15-empty.len_below)

pub returns-in-16-empty : goal.returns-in-16-empty
unfolding engine_call_of
returns-in-16-empty c = rw c.in-16-empty.is-0 (fits _ (omega arith) c.in-16-empty.len_below)

pub returns-in-17-empty : goal.returns-in-17-empty
unfolding engine_call_of
returns-in-17-empty c = rw c.in-17-empty.is-0 (fits _ (omega arith) c.in-17-empty.len_below)

pub returns-in-18-empty : goal.returns-in-18-empty
unfolding engine_call_of
returns-in-18-empty c = rw c.in-18-empty.is-0 (fits _ (omega arith) c.in-18-empty.len_below)

pub returns-in-19-empty : goal.returns-in-19-empty
unfolding engine_call_of
returns-in-19-empty c = rw c.in-19-empty.is-0 (fits _ (omega arith) c.in-19-empty.len_below)

pub returns-in_default : goal.returns-in_default
unfolding engine_call_of
returns-in_default c = rw c.in_default.is-0 (long _ c.in_default.len_at_least)

pub returns-in_default-2 : goal.returns-in_default-2
unfolding engine_call_of
returns-in_default-2 c = rw c.in_default.is-0 (long _ c.in_default.len_at_least)

pub returns-in_default-3 : goal.returns-in_default-3
unfolding engine_call_of
returns-in_default-3 c = rw c.in_default.is-0 (long _ c.in_default.len_at_least)

pub returns-in_default-4 : goal.returns-in_default-4
unfolding engine_call_of
returns-in_default-4 c = rw c.in_default.is-0 (long _ c.in_default.len_at_least)

pub returns-in_default-5 : goal.returns-in_default-5
unfolding engine_call_of
returns-in_default-5 c = rw c.in_default.is-0 (long _ c.in_default.len_at_least)

pub returns-in-20-0-to-255 : goal.returns-in-20-0-to-255
unfolding engine_call_of
returns-in-20-0-to-255 c = rw c.in-20-0-to-255.is-0 (narrow (get_or c.args.args.now 0 0) _ (omega arith) (fits _ c.in-20-0-to-255.len_at_least c.in-20-0-to-255.len_below))

pub returns-in_default-6 : goal.returns-in_default-6
unfolding engine_call_of
returns-in_default-6 c = rw c.in_default.is-0 (none _ (short _ c.in_default.len_below))

pub returns-in_default-7 : goal.returns-in_default-7
unfolding engine_call_of
returns-in_default-7 c = rw c.in_default.is-0 (wide (get_or c.args.args.now 0 0) _ (omega arith))

pub returns-in_default-8 : goal.returns-in_default-8
unfolding engine_call_of
returns-in_default-8 c = rw c.in_default.is-0 (none _ (long _ c.in_default.len_at_least))

pub returns-in-21-0-to-255 : goal.returns-in-21-0-to-255
unfolding engine_call_of
returns-in-21-0-to-255 c = rw c.in-21-0-to-255.is-0 (narrow (get_or c.args.args.now 0 0) _ (omega arith) (fits _ c.in-21-0-to-255.len_at_least c.in-21-0-to-255.len_below))

pub returns-in_default-9 : goal.returns-in_default-9
unfolding engine_call_of
returns-in_default-9 c = rw c.in_default.is-0 (none _ (short _ c.in_default.len_below))

pub returns-in_default-10 : goal.returns-in_default-10
unfolding engine_call_of
returns-in_default-10 c = rw c.in_default.is-0 (wide (get_or c.args.args.now 0 0) _ (omega arith))

pub returns-in_default-11 : goal.returns-in_default-11
unfolding engine_call_of
returns-in_default-11 c = rw c.in_default.is-0 (none _ (long _ c.in_default.len_at_least))
