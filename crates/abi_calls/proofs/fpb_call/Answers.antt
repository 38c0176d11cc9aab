-- Each arm is its row of the table; no arm is left where the words are fewer or more than a row takes.
use Rattle.abi_calls.specs.Given.{engine_call_of}
use Rattle.abi_calls.proofs.Rows.{fits, short, long}
use Rattle.abi_calls.proofs.fpb_call.Goals as goal

pub returns-in-26-len1 : goal.returns-in-26-len1
unfolding engine_call_of
returns-in-26-len1 c = rw c.in-26-len1.is-0 (fits _ c.in-26-len1.len_at_least c.in-26-len1.len_below)

pub returns-in-27-len1 : goal.returns-in-27-len1
unfolding engine_call_of
returns-in-27-len1 c = rw c.in-27-len1.is-0 (fits _ c.in-27-len1.len_at_least c.in-27-len1.len_below)

pub returns-in-28-len1 : goal.returns-in-28-len1
unfolding engine_call_of
returns-in-28-len1 c = rw c.in-28-len1.is-0 (fits _ c.in-28-len1.len_at_least c.in-28-len1.len_below)

pub returns-in_default : goal.returns-in_default
unfolding engine_call_of
returns-in_default c = rw c.in_default.is-0 (short _ c.in_default.len_below)

pub returns-in_default-2 : goal.returns-in_default-2
unfolding engine_call_of
returns-in_default-2 c = rw c.in_default.is-0 (long _ c.in_default.len_at_least)

pub returns-in_default-3 : goal.returns-in_default-3
unfolding engine_call_of
returns-in_default-3 c = rw c.in_default.is-0 (short _ c.in_default.len_below)

pub returns-in_default-4 : goal.returns-in_default-4
unfolding engine_call_of
returns-in_default-4 c = rw c.in_default.is-0 (long _ c.in_default.len_at_least)

pub returns-in_default-5 : goal.returns-in_default-5
unfolding engine_call_of
returns-in_default-5 c = rw c.in_default.is-0 (short _ c.in_default.len_below)

pub returns-in_default-6 : goal.returns-in_default-6
unfolding engine_call_of
returns-in_default-6 c = rw c.in_default.is-0 (long _ c.in_default.len_at_least)
