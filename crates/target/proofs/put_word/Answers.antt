-- The four places that are lent and put back hold the bytes of the word.
use Rattle.std.specs.Prelude.{ℕ, ◌+◌, ◌-◌, ◌≤◌, ◌≡◌, List, ◌++◌, length, take, drop}
use Rattle.std.specs.Int.{w32, to_le_bytes}
use Rattle.std.proofs.Common.{sym, ◌∙◌, drop-drop, arith, rules}
use Rattle.std.proofs.lemmas.List.{append_assoc}
use Rattle.std.proofs.lemmas.List.Edits.{sets-eq}
use Rattle.wire.specs.Bytes.{le_bytes, put_word}
use Rattle.target.proofs.put_word.Goals as goal

bytes_put : (b l : List ℕ) (i w : ℕ) → i + 4 ≤ length b → l ≡ to_le_bytes w32 w
    → take i b ++ (l ++ drop (i + 4 - i) (drop i b)) ≡ put_word b i w
bytes_put b l i w le h =
    let word : to_le_bytes w32 w ≡ le_bytes w = search rules in
    let e : i + 4 - i ≡ 4 = omega arith in
    rw (h ∙ word, e, drop-drop 4 i b, sets-eq (le_bytes w) b i le) (sym (append_assoc (take i b) (le_bytes w) (drop (i + 4) b)))

pub returns : goal.returns
returns c = bytes_put c.args.mem.now _ (c.args.at - c.args.t.base) c.args.word (omega arith) (c.copy_from_slice.ensures.after ∙ c.to_le_bytes.ensures)
