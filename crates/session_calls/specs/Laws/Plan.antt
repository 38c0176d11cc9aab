-- What a list of answers makes of a tree with another one grafted on, and that a plan of one job is that job's tree. Serves the proofs
-- only: a plan makes exactly the transport calls of its jobs, one after the other, and each finds how many were made before it.
use Rattle.std.specs.Prelude.{ℕ, suc, ◌+◌, ◌≡◌, length, drop}
use mathlib.Core.List.{List, [], ◌∷◌, ◌++◌}
use Rattle.std.proofs.Math.Path.{refl, ap, fun_ext}
use Rattle.std.proofs.Common.{sym, ◌∙◌}
use native.Mathlib.Omega.{arith}
use Rattle.wire.specs.Wire.{Wire, Memory, done, ask, tell, play, Played, made, ended, spent}
use Rattle.wire.specs.Outcomes.{Answer}
use Rattle.wire.specs.declared.Call.{Call}
use Rattle.wire.specs.Outcomes.{Outcome}
use Rattle.call.specs.Job.{Job, exec}
use Rattle.session_calls.specs.Plan.{alone, graft, plan_tree}

-- nothing is grafted on
graft_none : (n : ℕ) (w : Wire) → graft n w (λ _ m o. done m o) ≡ w
unfolding graft
graft_none n (done m o) = refl
graft_none n (ask m c f) = ap (ask m c) (fun_ext (λ (a : Answer). graft_none _ (f a)))
graft_none n (tell m c w) = ap (tell m c) (graft_none _ w)

pub alone_tree : (j : Job) (n : ℕ) (m : Memory) → plan_tree (alone j) n m ≡ exec j m
unfolding plan_tree
alone_tree j n m = graft_none n (exec j m)

-- the calls cs before those of p
abbrev pub behind : List Call → Played → Played
behind cs p = record { calls = cs ++ p.calls; memory = p.memory; ending = p.ending }

module _ (k : ℕ → Memory → Outcome → Wire) where
  -- what follows a tree that has come to p, n transport calls before it
  abbrev follows : ℕ → Played → Outcome → List Answer → Played
  follows n p o answers = behind p.calls (play (k (n + length p.calls) p.memory o) (drop (length p.calls) answers))

  no_end : {X : Type 0} (o : Outcome) → spent ≡ ended o → X
  no_end o h = let z : ◌≡◌ {A = ℕ} 0 1 = cc in absurd (omega arith)

  one_on : (n : ℕ) (c : Call) (p : Played) (o : Outcome) (a : Answer) (answers : List Answer)
      → made c (follows (suc n) p o answers) ≡ follows n (made c p) o (a ∷ answers)
  one_on n c p o a answers =
      let e : suc n + length p.calls ≡ n + suc (length p.calls) = omega arith in
      ap (λ (i : ℕ). made c (behind p.calls (play (k i p.memory o) (drop (length p.calls) answers)))) e

  -- where the first tree ends, the other goes on with the answers that are left
  pub graft_ended : (n : ℕ) (w : Wire) (answers : List Answer) (o : Outcome) → (play w answers).ending ≡ ended o
      → play (graft n w k) answers ≡ follows n (play w answers) o answers
  unfolding graft play
  graft_ended n (done m x) answers o h =
      let e : x ≡ o = cc in
      let z : n ≡ n + 0 = omega arith in
      ap (λ (y : Outcome). play (k n m y) answers) e ∙ ap (λ (i : ℕ). play (k i m o) answers) z
  graft_ended n (ask m c f) [] o h = no_end o h
  graft_ended n (ask m c f) (a ∷ answers) o h =
      ap (made c) (graft_ended _ (f a) answers o h) ∙ one_on n c (play (f a) answers) o a answers
  graft_ended n (tell m c w) [] o h = no_end o h
  graft_ended n (tell m c w) (a ∷ answers) o h =
      ap (made c) (graft_ended _ w answers o h) ∙ one_on n c (play w answers) o a answers

  -- one budget for both: Spent in the first tree is Spent
  pub graft_spent : (n : ℕ) (w : Wire) (answers : List Answer) → (play w answers).ending ≡ spent → play (graft n w k) answers ≡ play w answers
  unfolding graft play
  graft_spent n (done m o) answers h = no_end o (sym h)
  graft_spent n (ask m c f) [] h = refl
  graft_spent n (ask m c f) (a ∷ answers) h = ap (made c) (graft_spent _ (f a) answers h)
  graft_spent n (tell m c w) [] h = refl
  graft_spent n (tell m c w) (a ∷ answers) h = ap (made c) (graft_spent _ w answers h)
