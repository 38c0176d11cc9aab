-- Loops over target and line are the history of their calls, so demand 3 holds of them.
-- The idea: the answers of a loop are the line's to the transport calls of `called` over these answers, and so is `talk`, call by call.
use Rattle.std.specs.Prelude.{ℕ, zero, suc, ◌≤◌, true, cond, List, [], ◌∷◌, map, ◌≡◌, refl, length, drop, Ok, Err}
use Rattle.std.proofs.Common.{sym, ap, subst, ◌∙◌, arith}
use Rattle.wire.specs.Wire.{Wire, done, ask, tell, play, Ending, ended, spent}
use Rattle.wire.specs.declared.Call.{Call}
use Rattle.wire.specs.declared.Call.TheVariants as C
use Rattle.wire.specs.Outcomes.{Answer}
use Rattle.wire_numbers.specs.Numbers.{numbers_of}
use Rattle.wire_memap.specs.Laws.Doing.{remembered_of}
use Rattle.target.specs.Deliver.{Delivery, answer_of, deliver}
use Rattle.target.specs.Line.{Heard, heard, error_of, line}
use Rattle.target.specs.WellFormed.{WellFormed}
use Rattle.target.specs.declared.Target.{Target}
use Rattle.target.specs.declared.Act.{Act}
use Rattle.target.specs.declared.Act.TheVariants.{Deliver, Wait, Lose}
use Rattle.target_line.specs.Talk.{Talk, talk, silent, heard_first, act_now, acts_then}
use Rattle.session_phase.specs.Phase.{is_open}
use Rattle.session_rules.specs.Refusals.{Check}
use Rattle.session_calls.specs.Session.{Standing, closed, Result, refused, ran, Called, check_of, called, checked, session_tree}
use Rattle.session.specs.Answer.{standing, reported}
use Rattle.session.specs.declared.Session.{Session}
use Rattle.engine.specs.declared.NextStep.TheVariants as N
use Rattle.session.specs.declared.Reply.{Reply}
use Rattle.agreement.specs.History.{Item, Moment, first, Made, heard_if, made, history, last_of}
use Rattle.agreement.specs.Demand3.{AllTyped, Agree}
use Rattle.agreement.proofs.Theorem.{demand3}
use Rattle.session_trail.specs.Trail.{asks, Says, over, due}
use Rattle.session_trail.specs.Chain.{Shown, Loop}
use Rattle.session_trail.specs.Loops.{call_at, line_over, Loops, none, next, budget_at, result_at, item_of, items_of, moment, Shows, AllShown, empty, and, LoopsInStep}
use Rattle.session_trail.proofs.Theorem.{trail}

-- the line hears from the numbers of a transport call what it hears from the transport call
deliver_same : (t : Target) (mem : List ℕ) (c : Call) → deliver t mem (call_at (N.Make (numbers_of c))) ≡ deliver t mem c
deliver_same t mem (C.Transfer request word) = refl
deliver_same t mem C.Connect = refl
deliver_same t mem (C.Sequence p) = refl
deliver_same t mem (C.Pins output select wait) = refl
deliver_same t mem (C.WriteBits bits word) = refl
deliver_same t mem C.OutputEnable = refl

line_same : (t : Target) (mem : List ℕ) (c : Call) (act : Act) → line t mem (call_at (N.Make (numbers_of c))) act ≡ line t mem c act
line_same t mem c Deliver = ap (λ (d : Delivery). heard (answer_of d.reply) d) (deliver_same t mem c)
line_same t mem c Wait = refl
line_same t mem c (Lose delivered e) =
    ap (λ (d : Delivery). cond delivered (heard (error_of e) d) (record { answer = error_of e; target = t; mem = mem })) (deliver_same t mem c)

-- the line after one transport call: k is what it says of the others
abbrev line_then : Heard → (List Act → Target → List ℕ → Talk) → List Act → Talk
line_then h k acts = heard_first h.answer (k (acts_then acts) h.target h.mem)

over_cons : (c : Call) (seen : List Reply) (acts : List Act) (t : Target) (mem : List ℕ)
    → line_over (asks c ∷ seen) acts t mem ≡ line_then (line t mem c (act_now acts)) (line_over seen) acts
unfolding line_over
over_cons c seen acts t mem = ap (λ (h : Heard). line_then h (line_over seen) acts) (line_same t mem c (act_now acts))

over_none : (acts : List Act) (t : Target) (mem : List ℕ) → line_over [] acts t mem ≡ silent t mem
unfolding line_over
over_none acts t mem = refl

-- a budget that the call ended within, or was Spent at
abbrev Fits : Ending → (count budget : ℕ) → Type 0
Fits (ended o) count budget = count ≤ budget
Fits spent count budget = count ≡ budget

some_left : (e : Ending) (count : ℕ) → Fits e (suc count) zero → ⊥
some_left (ended o) count h = omega arith
some_left spent count h = omega arith

fits_less : (e : Ending) (count budget : ℕ) → Fits e (suc count) (suc budget) → Fits e count budget
fits_less (ended o) count budget h = omega arith
fits_less spent count budget h = omega arith

-- one transport call of a tree, whatever the tree goes on with
module _ (c : Call) (f : Answer → Wire) (a : Answer) (answers : List Answer) (n : ℕ) (acts : List Act) (t : Target) (mem : List ℕ) where
  abbrev now : Heard
  now = line t mem c (act_now acts)

  abbrev rest : List Reply
  rest = map asks (play (f a) answers).calls

  talk_then : a ∷ answers ≡ (line_over (asks c ∷ rest) acts t mem).answers
      → (answers ≡ (line_over rest (acts_then acts) now.target now.mem).answers
      → talk (f a) n (acts_then acts) now.target now.mem ≡ line_over rest (acts_then acts) now.target now.mem)
      → heard_first now.answer (talk (f now.answer) n (acts_then acts) now.target now.mem) ≡ line_over (asks c ∷ rest) acts t mem
  talk_then h go =
      let e : a ∷ answers ≡ now.answer ∷ (line_over rest (acts_then acts) now.target now.mem).answers =
      h ∙ ap (λ (k : Talk). k.answers) (over_cons c rest acts t mem) in
      let p : a ≡ now.answer = cc in
      let q : answers ≡ (line_over rest (acts_then acts) now.target now.mem).answers = cc in
      ap (λ (b : Answer). heard_first now.answer (talk (f b) n (acts_then acts) now.target now.mem)) (sym p)
      ∙ ap (heard_first now.answer) (go q) ∙ sym (over_cons c rest acts t mem)

-- what a call hears over target and line is what the line says to its transport calls
talk_over : (w : Wire) (answers : List Answer) (n : ℕ) (acts : List Act) (t : Target) (mem : List ℕ)
    → Fits (play w answers).ending (length answers) n → answers ≡ (line_over (map asks (play w answers).calls) acts t mem).answers
    → talk w n acts t mem ≡ line_over (map asks (play w answers).calls) acts t mem
unfolding talk play
talk_over (done m o) answers n acts t mem b h = sym (over_none acts t mem)
talk_over (ask m c f) [] zero acts t mem b h = sym (over_none acts t mem)
talk_over (ask m c f) [] (suc n) acts t mem b h = absurd (omega arith)
talk_over (ask m c f) (a ∷ answers) zero acts t mem b h = absurd (some_left (play (f a) answers).ending (length answers) b)
talk_over (ask m c f) (a ∷ answers) (suc n) acts t mem b h =
    talk_then c f a answers n acts t mem h
    (talk_over (f a) answers n (acts_then acts) _ _ (fits_less (play (f a) answers).ending (length answers) n b))
talk_over (tell m c w) [] zero acts t mem b h = sym (over_none acts t mem)
talk_over (tell m c w) [] (suc n) acts t mem b h = absurd (omega arith)
talk_over (tell m c w) (a ∷ answers) zero acts t mem b h = absurd (some_left (play w answers).ending (length answers) b)
talk_over (tell m c w) (a ∷ answers) (suc n) acts t mem b h =
    talk_then c (λ (b : Answer). w) a answers n acts t mem h
    (talk_over w answers n (acts_then acts) _ _ (fits_less (play w answers).ending (length answers) n b))

-- the same of a call's result; one that was refused fits every budget
abbrev FitsIn : Result → (count budget : ℕ) → Type 0
FitsIn (refused x) count budget = Unit {0}
FitsIn (ran e) count budget = Fits e count budget

heard_over : (k : Check) (x : Moment) (i : Item) (answers : List Answer) (seen : List Reply) (acts : List Act)
    → FitsIn (checked k x.standing i.call i.lent answers).ending (length answers) i.budget
    → seen ≡ map asks (checked k x.standing i.call i.lent answers).calls → answers ≡ (line_over seen acts x.target x.mem).answers
    → heard_if k x i acts ≡ line_over seen acts x.target x.mem
heard_over (Err e) x i answers seen acts b h a = rw h (sym (over_none acts x.target x.mem))
heard_over (Ok tt) x i answers seen acts b h a =
    rw h (talk_over (session_tree x.standing i.call i.lent) answers i.budget acts x.target x.mem b
    (subst (λ (l : List Reply). answers ≡ (line_over l acts x.target x.mem).answers) h a))

-- what the last reply says fits the budget of the history's call, and is its result
over_fits : (e : Result) (count budget : ℕ) → count ≤ budget → (e ≡ ran spent → count ≡ budget) → FitsIn e count budget
over_fits (refused x) count budget l h = tt
over_fits (ran (ended o)) count budget l h = l
over_fits (ran spent) count budget l h = h refl

says_fits : {k : Called} {then : Answer → Called} {r : Reply} (budget count : ℕ) → Says k then budget count r
    → FitsIn k.ending count (budget_at r.next budget count)
says_fits {k} {r = r} budget count (over l h e) =
    subst (λ (q : Reply). FitsIn k.ending count (budget_at q.next budget count)) (sym e) (over_fits k.ending count budget l h)
says_fits {k} {r = r} budget count (due d l h e f) =
    subst (λ (q : Reply). FitsIn k.ending count (budget_at q.next budget count)) (sym e)
    (subst (λ (x : Result). FitsIn x count count) (sym h) refl)

says_result : {k : Called} {then : Answer → Called} {r : Reply} (budget count : ℕ) → Says k then budget count r
    → result_at r.next count ≡ reported k.ending count
says_result budget count (over l h e) = ap (λ (q : Reply). result_at q.next count) e
says_result budget count (due d l h e f) =
    ap (λ (q : Reply). result_at q.next count) e ∙ ap (λ (x : Result). reported x count) (sym h)

-- one loop over target and line is one call of a history
module _ {s s' : Session} (x : Shown) (t : Target) (mem : List ℕ) (acts : List Act) (tr : Loop s x s')
    (heard : x.answers ≡ (line_over x.seen acts t mem).answers) where
  abbrev over' : Talk
  over' = line_over x.seen acts t mem

  abbrev as_made : Made
  as_made = made (moment s t mem) (item_of x) acts

  abbrev check : Check
  check = check_of (standing s) x.order.call x.given

  hears : heard_if check (moment s t mem) (item_of x) acts ≡ over'
  hears = heard_over check (moment s t mem) (item_of x) x.answers x.seen acts
      (says_fits x.order.budget (length x.answers) (trail tr).says) (trail tr).calls heard

  same_answers : as_made.answers ≡ x.answers
  same_answers = ap (λ (k : Talk). k.answers) hears ∙ sym heard

  same_call : as_made.came ≡ called (standing s) x.order.call x.given x.answers
  same_call = ap (λ (l : List Answer). called (standing s) x.order.call x.given l) same_answers

  moment_is : {a b : Standing} {k l : Talk} → a ≡ b → k ≡ l
      → ◌≡◌ {A = Moment} (record { standing = a; target = k.target; mem = k.mem }) (record { standing = b; target = l.target; mem = l.mem })
  moment_is h i = rw (h, i)

  same_after : as_made.after ≡ moment s' over'.target over'.mem
  same_after = moment_is (ap (λ (k : Called). k.after) same_call ∙ sym (trail tr).stands) hears

  shows : Shows as_made x
  shows = record {
    answers = same_answers;
    calls = (trail tr).calls ∙ ap (λ (k : Called). map asks k.calls) (sym same_call);
    ending = says_result x.order.budget (length x.answers) (trail tr).says
        ∙ ap (reported (called (standing s) x.order.call x.given x.answers).ending) (trail tr).count
        ∙ ap (λ (k : Called). reported k.ending (length k.calls)) (sym same_call);
    lent = (trail tr).lent ∙ ap (λ (k : Called). k.lent) (sym same_call);
  }

-- the calls ms from x on are those of xs, and they lead to z
record Leads (x : Moment) (ms : List Made) (xs : List Shown) (z : Moment) : Type 0 where
  last : last_of x ms ≡ z
  shown : AllShown ms xs

leads_more : (x y z : Moment) (i : Item) (items : List Item) (acts : List Act) (answers : List Answer) (w : Shown) (xs : List Shown)
    → (made x i acts).after ≡ y → (made x i acts).answers ≡ answers → Shows (made x i acts) w
    → Leads y (history y items (drop (length answers) acts)) xs z → Leads x (history x (i ∷ items) acts) (w ∷ xs) z
unfolding history
leads_more x y z i items acts answers w xs h a m k =
    let l : Leads (made x i acts).after (history (made x i acts).after items (drop (length (made x i acts).answers) acts)) xs z = rw (h, a) k in
    record { last = l.last; shown = and m l.shown }

leads : {s s' : Session} {t t' : Target} {mem mem' : List ℕ} {acts : List Act} {xs : List Shown} → Loops s t mem acts xs s' t' mem'
    → Leads (moment s t mem) (history (moment s t mem) (items_of xs) acts) xs (moment s' t' mem')
unfolding history
leads none = record { last = refl; shown = empty }
leads (next {s = s} {t = t} {mem = mem} {acts = acts} {x = x} {xs = xs} tr h l) =
    leads_more (moment s t mem) _ _ (item_of x) (items_of xs) acts x.answers x xs (same_after x t mem acts tr h) (same_answers x t mem acts tr h)
    (shows x t mem acts tr h) (leads l)

-- demand 3 of every loop: from a session that stands closed, every well-formed target, every line, and every list of calls, each of them
-- brought to its end or left before it
pub loops_in_step : {s s' : Session} {t t' : Target} {mem mem' : List ℕ} {acts : List Act} {xs : List Shown}
    → standing s ≡ closed → WellFormed t mem → AllTyped (items_of xs) → Loops s t mem acts xs s' t' mem'
    → LoopsInStep (first t mem) (history (first t mem) (items_of xs) acts) xs s' t' mem'
loops_in_step {s} {s'} {t} {t'} {mem} {mem'} {acts} {xs} e f b l = record {
  in_step = demand3 t mem f (items_of xs) b acts;
  last = from.last;
  shown = from.shown;
}
  where
    from : Leads (first t mem) (history (first t mem) (items_of xs) acts) xs (moment s' t' mem')
    from = subst (λ (z : Standing). Leads (record { standing = z; target = t; mem = mem })
        (history (record { standing = z; target = t; mem = mem }) (items_of xs) acts) xs (moment s' t' mem')) e (leads l)

-- clause 2 in the session's own words
pub loops_agree : {s s' : Session} {t t' : Target} {mem mem' : List ℕ} {acts : List Act} {xs : List Shown}
    → standing s ≡ closed → WellFormed t mem → AllTyped (items_of xs) → Loops s t mem acts xs s' t' mem'
    → is_open s'.phase ≡ true → Agree (remembered_of s'.state.op) t'
loops_agree e f b l =
    let r = loops_in_step e f b l in
    subst (λ (z : Moment). z.standing.is_open ≡ true → Agree z.standing.remembered z.target) r.last r.in_step.agree
