-- What a script prints (01: The script): `output_of` is the whole output of any input.
use Rattle.std.specs.Prelude.{ℕ, eqb, Bool, true, false, cond, List, ◌++◌, length, replicate, Option, Some, None}
use Rattle.wire.specs.Wire.{Played, play}
use Rattle.wire_numbers.specs.Results.{ending_of}
use Rattle.wire_numbers.specs.declared.CallEnding.{CallEnding}
use Rattle.call.specs.Change.{fresh}
use Rattle.engine_calls.specs.declared.EngineCall.{EngineCall}
use Rattle.engine_calls.specs.Calls.{call_tree, zero_room, words_left, frame_left}
use Rattle.engine_run.specs.Run.{within}
use Rattle.script_lines.specs.declared.Shown.{Shown}
use Rattle.script_lines.specs.declared.Shown.TheVariants as S
use Rattle.script_lines.specs.Listing.{call_lines, result_line, shown_text, malformed_text}
use Rattle.script_form.specs.BigEndian.{byte}
use Rattle.script_request.specs.Request.{request_of, words_of, bytes_of}
use Rattle.script_form.specs.Script.{well_formed, arguments, answers}
use Rattle.script_request.specs.declared.Buffer.{Buffer}
use Rattle.script_request.specs.declared.Buffer.TheVariants as B
use Rattle.script_request.specs.declared.Request.{Request}

-- what is shown behind the result: of calls 11 and 13 the buffer, however they ended; of call 23 its frame if it succeeds
abbrev pub shown_of : CallEnding → Buffer → Shown
shown_of e B.Nothing = S.Nothing
shown_of e (B.Words n) = S.Words
shown_of e (B.Bytes n) = S.Bytes
shown_of e (B.GivenWords size) = S.Nothing
shown_of e B.GivenBytes = S.Nothing
shown_of e B.Frame = cond (eqb e.number 0) S.Words S.Nothing

abbrev pub is_frame : Buffer → Bool
is_frame b =
    elim b [ B.Frame ↦ true | B.Nothing ↦ false | B.Words n ↦ false | B.Bytes n ↦ false | B.GivenWords size ↦ false | B.GivenBytes ↦ false ]

-- the words shown: the frame, or the words that the call was lent, as the run p of the call c leaves them
abbrev pub words_shown : EngineCall → Buffer → List ℕ → Played → List ℕ
words_shown c b words p =
    cond (is_frame b) (frame_left c p.ending p.memory.words (replicate 8 0)) (words_left c p.memory.words words)

-- the run p of a call that was lent these words
abbrev pub run_text : EngineCall → Buffer → List ℕ → Played → List ℕ
run_text c b words p =
    let e = ending_of p.ending in
    call_lines 1 p.calls ++ (result_line e ++ shown_text (shown_of e b) (words_shown c b words p) p.memory.buf)

-- a call on a new engine; the number of answers is the budget
unfoldable pub performed : Request → List ℕ → List ℕ → List ℕ → List ℕ
performed r words buf xs = run_text r.call r.buffer words (play (call_tree r.call fresh zero_room words buf) (within (length xs) xs))

-- none: the number has no call, or other arguments
unfoldable pub request_text : Option Request → List ℕ → List ℕ
request_text None xs = malformed_text
request_text (Some r) xs = performed r (words_of r.buffer (arguments xs)) (bytes_of r.buffer (arguments xs)) (answers xs)

abbrev pub script_text : List ℕ → List ℕ
script_text xs = request_text (request_of (byte xs 3) (arguments xs)) xs

unfoldable pub output_of : List ℕ → List ℕ
output_of xs = cond (well_formed xs) (script_text xs) malformed_text
