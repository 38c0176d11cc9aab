-- A list of session calls over target and line, whatever the line does (01: "The session"; believed).
use Rattle.std.specs.Prelude.{ℕ, List, [], ◌∷◌, length, drop, Ok, Err}
use Rattle.wire.specs.Outcomes.{Answer}
use Rattle.target.specs.declared.Target.{Target}
use Rattle.target.specs.declared.Act.{Act}
use Rattle.target_line.specs.Talk.{Talk, talk, silent}
use Rattle.session_rules.specs.Refusals.{Check}
use Rattle.session_calls.specs.Session.{Standing, closed, Lent, Called, check_of, checked, session_tree}
use Rattle.session_calls.specs.declared.SessionCall.{SessionCall}

-- one call of a list, with its budget and what is lent for it
pub record Item : Type 0 where
  pub call : SessionCall
  pub budget : ℕ
  pub lent : Lent

-- session, target and memory between two calls
pub record Moment : Type 0 where
  pub standing : Standing
  pub target : Target
  pub mem : List ℕ

abbrev pub first : Target → List ℕ → Moment
first t mem = record { standing = closed; target = t; mem = mem }

-- a call that was made: how it found things, what was answered, what came of it, and how it left them
pub record Made : Type 0 where
  pub item : Item
  pub before : Moment
  pub answers : List Answer
  pub came : Called
  pub after : Moment

-- what the session hears during a call, and the target afterwards
abbrev pub heard_if : Check → Moment → Item → List Act → Talk
heard_if (Err r) x i acts = silent x.target x.mem
heard_if (Ok tt) x i acts = talk (session_tree x.standing i.call i.lent) i.budget acts x.target x.mem

abbrev pub left : Called → Talk → Moment
left came heard = record { standing = came.after; target = heard.target; mem = heard.mem }

-- a call, by what its checks came to
abbrev pub made_if : Check → Moment → Item → List Act → Made
made_if k x i acts =
    let heard = heard_if k x i acts in
    let came = checked k x.standing i.call i.lent heard.answers in
    record { item = i; before = x; answers = heard.answers; came = came; after = left came heard }

abbrev pub made : Moment → Item → List Act → Made
made x i acts = made_if (check_of x.standing i.call i.lent) x i acts

-- each call finds session and target as the last one left them, and the line as it goes on
unfoldable pub history : Moment → List Item → List Act → List Made
history x [] acts = []
history x (i ∷ items) acts = made x i acts ∷ history (made x i acts).after items (drop (length (made x i acts).answers) acts)

abbrev pub last_of : Moment → List Made → Moment
last_of x [] = x
last_of x (m ∷ ms) = last_of m.after ms
