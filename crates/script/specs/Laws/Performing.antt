-- The listing of a run from what the run reports. Serves the proofs.
use Rattle.std.specs.Prelude.{ℕ, ◌+◌, ◌-◌, ◌≤◌, Bool, true, false, cond, ◌≡◌, refl, drop, replicate, Option, Some}
use Rattle.std.proofs.Math.Path.{ap, sym, subst}
use Rattle.std.proofs.Common.{◌∙◌, take_at}
use mathlib.Core.List.{List, [], ◌∷◌, map}
use native.Mathlib.Omega.{arith}
use Rattle.std.proofs.Math.ListN.{length, take, length-take, length-map}
use Rattle.std.proofs.lemmas.List.Edits.{sets, sets-eq}
use Rattle.std.proofs.Math.Seq.{length-sets}
use Rattle.wire.specs.Wire.{Wire, done, ask, tell, Played, play, succeeds}
use Rattle.wire.specs.Outcomes.{Answer}
use Rattle.wire.specs.declared.Remembered.{Remembered}
use Rattle.wire_numbers.specs.Log.{code_of, call_of, answer_of}
use Rattle.wire_numbers.specs.declared.CallEnding.{CallEnding}
use Rattle.call.specs.Change.{fresh}
use Rattle.engine_run.specs.declared.Ran.{Ran}
use Rattle.engine_calls.specs.Calls.{call_tree, zero_room, leaves_frame, leave}
use Rattle.engine_run.specs.Run.{within, RanAs}
use Rattle.script_lines.specs.Listing.{run_lines, listed}
use Rattle.script_lines.specs.Laws.Puts.{Puts}
use Rattle.script_lines.specs.Laws.Text.{listed_all}
use Rattle.script_lines.specs.declared.Shown.{Shown}
use Rattle.script_request.specs.declared.Buffer.{Buffer}
use Rattle.script_request.specs.declared.Buffer.TheVariants as B
use Rattle.script_request.specs.declared.Request.{Request}
use Rattle.script_form.specs.BigEndian.{byte, half, row}
use Rattle.script_request.specs.Request.{request_of, words_of, bytes_of}
use Rattle.script_form.specs.Script.{call_end, arguments, answer_count, answer_at}
use Rattle.script.specs.Output.{shown_of, is_frame, performed, request_text}

-- a run makes at most as many calls as there are answers
play_most : (w : Wire) (answers : List Answer) → length (play w answers).calls ≤ length answers
unfolding play
play_most (done m o) answers = omega arith
play_most (ask m c f) [] = omega arith
play_most (ask m c f) (a ∷ rest) = omega (arith, play_most (f a) rest)
play_most (tell m c w) [] = omega arith
play_most (tell m c w) (a ∷ rest) = omega (arith, play_most w rest)

-- the front of the log
front : (l t : List ℕ) → length t ≤ length l → take (length t) (sets l 0 t) ≡ t
front l t h = ap (λ (x : List ℕ). take (length t) x) (sets-eq t l 0 (omega arith)) ∙ take_at t _ (length t) refl

frame_eight : (leaves ok : Bool) (ws : List ℕ) → length (leave leaves ok ws (replicate 8 0)) ≡ 8
frame_eight true true ws = refl
frame_eight true false ws = refl
frame_eight false ok ws = refl

-- new is what the engine remembers at first
module _ (q : Request) (words₀ buf₀ answers : List ℕ) {new : Remembered} (fresh-new : new ≡ fresh)
    {r : Ran} {frame words buf l₀ l : List ℕ}
    (ran : RanAs q.call (play (call_tree q.call new zero_room words₀ buf₀) (within (length answers) answers)) r (replicate 8 0) words₀ frame words buf l₀ l)
    (fits : length answers ≤ length l₀) where
  h : RanAs q.call (play (call_tree q.call fresh zero_room words₀ buf₀) (within (length answers) answers)) r (replicate 8 0) words₀ frame words buf l₀ l
  h =
      subst (λ (z : Remembered). RanAs q.call (play (call_tree q.call z zero_room words₀ buf₀) (within (length answers) answers)) r (replicate 8 0) words₀
      frame words buf l₀ l) fresh-new ran

  run : Played
  run = play (call_tree q.call fresh zero_room words₀ buf₀) (within (length answers) answers)

  pub count_most : r.count ≤ length answers
  unfolding run
  count_most =
      omega (
        arith,
        h.count,
        play_most (call_tree q.call fresh zero_room words₀ buf₀) (within (length answers) answers),
        length-map (take (length answers) answers) answer_of,
        length-take (length answers) answers,
      )

  pub count_fits : r.count ≤ length l
  unfolding run
  count_fits = omega (arith, count_most, ap length h.log, length-sets l₀ 0 (map code_of run.calls))

  log_calls : map call_of (take r.count l) ≡ run.calls
  unfolding run
  log_calls =
      let n : length (map code_of run.calls) ≡ r.count = length-map run.calls code_of ∙ sym h.count in
      let e : take r.count l ≡ map code_of run.calls =
      ap (λ (x : List ℕ). take r.count x) h.log ∙ subst (λ (k : ℕ). take k (sets l₀ 0 (map code_of run.calls)) ≡ map code_of run.calls) n
      (front l₀ (map code_of run.calls) (omega (arith, count_most))) in
      ap (λ (x : List ℕ). map call_of x) e ∙ h.readable

  pub frame_length : length frame ≡ 8
  unfolding run
  frame_length = ap length h.framed ∙ frame_eight (leaves_frame q.call) (succeeds run.ending) run.memory.words

  pub performed_text : run_lines (take r.count l) r.ending (shown_of r.ending q.buffer) (cond (is_frame q.buffer) frame words) buf
      ≡ performed q words₀ buf₀ answers
  unfolding performed run
  performed_text = rw (log_calls, h.ending, h.framed, h.lent, h.buf)

-- what is shown of a run: the frame, or the words
pub frame_shown : {b : Buffer} (frame words : List ℕ) → b ≡ B.Frame → frame ≡ cond (is_frame b) frame words
frame_shown frame words e = rw e refl

pub words_shown_lem : {b : Buffer} (frame words : List ℕ) → (b ≡ B.Frame → ⊥) → words ≡ cond (is_frame b) frame words
words_shown_lem {b = B.Nothing} frame words h = refl
words_shown_lem {b = B.Words n} frame words h = refl
words_shown_lem {b = B.Bytes n} frame words h = refl
words_shown_lem {b = B.GivenWords size} frame words h = refl
words_shown_lem {b = B.GivenBytes} frame words h = refl
words_shown_lem {b = B.Frame} frame words h = absurd (h refl)

-- the listing of a run
pub shown_text_lem : (log : List ℕ) (e : CallEnding) (b : Buffer) (buf : List ℕ) {s : Shown} {shown ws out out₁ : List ℕ} {n : ℕ}
    → Puts out 0 (listed log e s ws buf) out₁ n → s ≡ shown_of e b → ws ≡ shown → length log + length ws + length buf ≤ 0xFFFFFFFF
    → Puts out 0 (run_lines log e (shown_of e b) shown buf) out₁ n
shown_text_lem log e b buf {s} {shown} {ws} {out} {out₁} {n} p hs hw few =
    subst (λ (t : List ℕ). Puts out 0 t out₁ n) (listed_all log e s ws buf few ∙ ap (λ (s : Shown). run_lines log e s ws buf) hs
    ∙ ap (λ (ws : List ℕ). run_lines log e (shown_of e b) ws buf) hw) p

-- what a request prints, from the end of its record and the answers as they were loaded
pub request_text_lem : (q : Request) (xs : List ℕ) {end n : ℕ} {loaded : List ℕ} → end ≡ call_end xs → n ≡ answer_count xs
    → loaded ≡ row (answer_at xs) 7 n end
    → performed q (words_of q.buffer (take (end - 4) (drop 4 xs))) (bytes_of q.buffer (take (end - 4) (drop 4 xs))) loaded ≡ request_text (Some q) xs
unfolding request_text
request_text_lem q xs e k h = rw (h, k, e)

-- the request of a script, from its numbers as they were read
pub script_request : (xs : List ℕ) {len number : ℕ} {r : Option Request} → len ≡ half xs 1 → number ≡ byte xs 3
    → r ≡ request_of number (take (3 + len - 4) (drop 4 xs)) → r ≡ request_of (byte xs 3) (arguments xs)
script_request xs {len} e k h =
    h ∙ ap (λ (n : ℕ). request_of n (take (3 + len - 4) (drop 4 xs))) k ∙ ap (λ (n : ℕ). request_of (byte xs 3) (take (3 + n - 4) (drop 4 xs))) e
