-- How a run follows the tree of its call, transport call by transport call. Serves the proofs only: each law takes what the
-- code's functions ensure, and carries `Along` over one transport call.
use Rattle.std.specs.Prelude.{ℕ, suc, ◌+◌, ◌<◌, ◌≤◌, ◌≡◌, refl, List, [], ◌∷◌, map, length, drop, take, get_or, set}
use Rattle.std.proofs.Common.{sym, ap, subst, ◌∙◌, arith, add-one, drop_of_length-le, length-take, drop-cons, get_or-take}
use Rattle.wire.specs.Wire.{Wire, Memory, done, ask, tell, follow, play, Played, made, spent}
use Rattle.engine_words.specs.Laws.State.{DueIn}
use Rattle.wire.specs.declared.Call.{Call}
use Rattle.wire.specs.Outcomes.{Answer}
use Rattle.wire_numbers.specs.Log.{answer_of, code_of, call_of}
use Rattle.engine_run.specs.Run.{within, logged, Readable}

-- q is what is left of the run p after i calls; the log is l by then
pub record Along (i : ℕ) (l₀ l : List ℕ) (p q : Played) : Type 0 where
  pub calls : length p.calls ≡ i + length q.calls
  pub memory : p.memory ≡ q.memory
  pub ending : p.ending ≡ q.ending
  pub log : logged l₀ 0 p.calls ≡ logged l i q.calls
  pub readable : Readable q.calls → Readable p.calls

-- the answers after i calls
abbrev pub rest : ℕ → List ℕ → ℕ → List Answer
rest limit xs i = map answer_of (drop i (take limit xs))

abbrev pub stopped : Memory → Played
stopped m = record { calls = []; memory = m; ending = spent }

pub along_none : (l : List ℕ) (p : Played) → Along 0 l l p p
along_none l p = record { calls = omega arith; memory = refl; ending = refl; log = refl; readable = λ h. h }

-- the start, with the limit that a budget comes to
pub along_start : (w : Wire) (limit budget : ℕ) (xs l : List ℕ) → take limit xs ≡ take budget xs
    → Along 0 l l (play w (within budget xs)) (play w (rest limit xs 0))
along_start w limit budget xs l e =
    subst (λ (ys : List ℕ). Along 0 l l (play w (map answer_of ys)) (play w (rest limit xs 0))) e (along_none l (play w (rest limit xs 0)))

pub along_more : (i : ℕ) (l₀ l : List ℕ) (p q : Played) (c : Call) → call_of (code_of c) ≡ c → Along i l₀ l p (made c q)
    → Along (i + 1) l₀ (set l i (code_of c)) p q
along_more i l₀ l p q c e h =
    record {
      calls = omega arith;
      memory = h.memory;
      ending = h.ending;
      log = h.log ∙ ap (λ (n : ℕ). logged (set l i (code_of c)) n q.calls) (sym (add-one i));
      readable = λ r. h.readable (ap (λ (x : Call). x ∷ map call_of (map code_of q.calls)) e ∙ ap (λ (cs : List Call). c ∷ cs) r);
    }

rest_more : (limit : ℕ) (xs : List ℕ) (i : ℕ) → i < limit → limit ≤ length xs → rest limit xs i ≡ answer_of (get_or xs i 0) ∷ rest limit xs (i + 1)
rest_more limit xs i h g =
    ap (map answer_of) (drop-cons (take limit xs) i 0 (omega (arith, length-take limit xs)))
    ∙ ap (λ (z : ℕ). answer_of z ∷ map answer_of (drop (suc i) (take limit xs))) (get_or-take limit xs i 0 h)
    ∙ ap (λ (j : ℕ). answer_of (get_or xs i 0) ∷ rest limit xs j) (sym (add-one i))

pub rest_none : (limit : ℕ) (xs : List ℕ) (i : ℕ) → limit ≤ i → rest limit xs i ≡ []
rest_none limit xs i h = ap (map answer_of) (drop_of_length-le (take limit xs) {i = i} (omega (arith, length-take limit xs)))

-- one transport call c of the tree w, with the answer a
play_due : (w : Wire) (c : Call) (a : Answer) (l : List Answer) → DueIn w c → play w (a ∷ l) ≡ made c (play (follow w a) l)
unfolding play
play_due (done m o) c a l d = absurd d
play_due (ask m b f) c a l d = ap (λ (x : Call). made x (play (f a) l)) d
play_due (tell m b w) c a l d = ap (λ (x : Call). made x (play w l)) d

pub along_step : (w : Wire) (limit : ℕ) (xs : List ℕ) (i : ℕ) (l₀ l : List ℕ) (p : Played)
    (c : Call) (l₂ : List ℕ) (a : Answer) (v : Wire) → i < limit → limit ≤ length xs → DueIn w c
    → (l₂ ≡ set l i (code_of c)) × (call_of (code_of c) ≡ c) → a ≡ answer_of (get_or xs i 0) → follow w a ≡ v
    → Along i l₀ l p (play w (rest limit xs i)) → Along (i + 1) l₀ l₂ p (play v (rest limit xs (i + 1)))
along_step w limit xs i l₀ l p c l₂ a v h g e n x f al =
    let more : List Answer = rest limit xs (i + 1) in
    let s : rest limit xs i ≡ a ∷ more = rest_more limit xs i h g ∙ ap (λ (b : Answer). b ∷ more) (sym x) in
    let q : play w (rest limit xs i) ≡ made c (play v more) =
    ap (play w) s ∙ play_due w c a more e ∙ ap (λ (u : Wire). made c (play u more)) f in
    subst (λ (z : List ℕ). Along (i + 1) l₀ z p (play v more)) (sym n.0)
    (along_more i l₀ l p (play v more) c n.1 (subst (λ (z : Played). Along i l₀ l p z) q al))
