-- Each arm is its row of the table; no arm is left where the words are fewer or more than a row takes.
use Rattle.std.proofs.Common.{arith}
use Rattle.abi_calls.specs.Given.{engine_call_of}
use Rattle.abi_calls.proofs.Rows.{fits, short, long}
use Rattle.abi_calls.proofs.connect_call.Goals as goal

pub returns-in-1-len1 : goal.returns-in-1-len1
unfolding engine_call_of
returns-in-1-len1 c = rw c.in-1-len1.is-0 (fits _ c.in-1-len1.len_at_least c.in-1-len1.len_below)

pub returns-in-2-empty : goal.returns-in-2-empty
unfolding engine_call_of
returns-in-2-empty c = rw c.in-2-empty.is-0 (fits _ (omega arith) c.in-2-empty.len_below)

pub returns-in-3-empty : goal.returns-in-3-empty
unfolding engine_call_of
returns-in-3-empty c = rw c.in-3-empty.is-0 (fits _ (omega arith) c.in-3-empty.len_below)

pub returns-in-4-len1 : goal.returns-in-4-len1
unfolding engine_call_of
returns-in-4-len1 c = rw c.in-4-len1.is-0 (fits _ c.in-4-len1.len_at_least c.in-4-len1.len_below)

pub returns-in-5-len1 : goal.returns-in-5-len1
unfolding engine_call_of
returns-in-5-len1 c = rw c.in-5-len1.is-0 (fits _ c.in-5-len1.len_at_least c.in-5-len1.len_below)

pub returns-in_default : goal.returns-in_default
unfolding engine_call_of
returns-in_default c = rw c.in_default.is-0 (short _ c.in_default.len_below)

pub returns-in_default-2 : goal.returns-in_default-2
unfolding engine_call_of
returns-in_default-2 c = rw c.in_default.is-0 (long _ c.in_default.len_at_least)

pub returns-in_default-3 : goal.returns-in_default-3
unfolding engine_call_of
returns-in_default-3 c = rw c.in_default.is-0 (long _ c.in_default.len_at_least)

pub returns-in_default-4 : goal.returns-in_default-4
unfolding engine_call_of
returns-in_default-4 c = rw c.in_default.is-0 (long _ c.in_default.len_at_least)

pub returns-in_default-5 : goal.returns-in_default-5
unfolding engine_call_of
returns-in_default-5 c = rw c.in_default.is-0 (short _ c.in_default.len_below)

pub returns-in_default-6 : goal.returns-in_default-6
unfolding engine_call_of
returns-in_default-6 c = rw c.in_default.is-0 (long _ c.in_default.len_at_least)

pub returns-in_default-7 : goal.returns-in_default-7
unfolding engine_call_of
returns-in_default-7 c = rw c.in_default.is-0 (short _ c.in_default.len_below)

pub returns-in_default-8 : goal.returns-in_default-8
unfolding engine_call_of
returns-in_default-8 c = rw c.in_default.is-0 (long _ c.in_default.len_at_least)
