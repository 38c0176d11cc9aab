-- Each arm is its row of the table; no arm is left where the words are fewer or more than a row takes.
use Rattle.std.specs.Prelude.{get_or}
use Rattle.std.proofs.Common.{arith}
use Rattle.abi_calls.specs.Given.{engine_call_of}
use Rattle.abi_calls.proofs.Rows.{fits, short, long, none, narrow, wide}
use Rattle.abi_calls.proofs.function_call.Goals as goal

pub returns-in-23-len7 : goal.returns-in-23-len7
unfolding engine_call_of
returns-in-23-len7 c = rw (c.in-23-len7.is-0, c.into.ensures) (fits _ c.in-23-len7.len_at_least c.in-23-len7.len_below)

pub returns-in-24-len9 : goal.returns-in-24-len9
unfolding engine_call_of
returns-in-24-len9 c = rw (c.in-24-len9.is-0, c.into-in-24-len9.ensures) (fits _ c.in-24-len9.len_at_least c.in-24-len9.len_below)

pub returns-in-25-len8 : goal.returns-in-25-len8
unfolding engine_call_of
returns-in-25-len8 c = rw (c.in-25-len8.is-0, c.into-in-25-len8.ensures) (fits _ c.in-25-len8.len_at_least c.in-25-len8.len_below)

pub returns-in-22-0-to-255 : goal.returns-in-22-0-to-255
unfolding engine_call_of
returns-in-22-0-to-255 c = rw c.in-22-0-to-255.is-0 (narrow (get_or c.args.args.now 0 0) _ (omega arith) (narrow (get_or c.args.args.now 1 0) _ (omega arith) (fits _ c.in-22-0-to-255.len_at_least c.in-22-0-to-255.len_below)))

pub returns-in_default : goal.returns-in_default
unfolding engine_call_of
returns-in_default c = rw c.in_default.is-0 (none _ (none _ (short _ c.in_default.len_below)))

pub returns-in_default-2 : goal.returns-in_default-2
unfolding engine_call_of
returns-in_default-2 c = rw c.in_default.is-0 (none _ (wide (get_or c.args.args.now 1 0) _ (omega arith)))

pub returns-in_default-3 : goal.returns-in_default-3
unfolding engine_call_of
returns-in_default-3 c = rw c.in_default.is-0 (wide (get_or c.args.args.now 0 0) _ (omega arith))

pub returns-in_default-4 : goal.returns-in_default-4
unfolding engine_call_of
returns-in_default-4 c = rw c.in_default.is-0 (none _ (none _ (long _ c.in_default.len_at_least)))

pub returns-in_default-5 : goal.returns-in_default-5
unfolding engine_call_of
returns-in_default-5 c = rw c.in_default.is-0 (short _ c.in_default.len_below)

pub returns-in_default-6 : goal.returns-in_default-6
unfolding engine_call_of
returns-in_default-6 c = rw c.in_default.is-0 (long _ c.in_default.len_at_least)

pub returns-in_default-7 : goal.returns-in_default-7
unfolding engine_call_of
returns-in_default-7 c = rw c.in_default.is-0 (short _ c.in_default.len_below)

pub returns-in_default-8 : goal.returns-in_default-8
unfolding engine_call_of
returns-in_default-8 c = rw c.in_default.is-0 (long _ c.in_default.len_at_least)

pub returns-in_default-9 : goal.returns-in_default-9
unfolding engine_call_of
returns-in_default-9 c = rw c.in_default.is-0 (short _ c.in_default.len_below)

pub returns-in_default-10 : goal.returns-in_default-10
unfolding engine_call_of
returns-in_default-10 c = rw c.in_default.is-0 (long _ c.in_default.len_at_least)
