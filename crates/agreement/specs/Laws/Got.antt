-- Bytes that a read has got so far, by a run of words and by a part of one; and the words that take a write further. Serves the proofs only.
use Rattle.std.specs.Prelude.{ℕ, ◌+◌, ◌-◌, ◌*◌, ◌/◌, ◌%◌, ◌≤◌, ◌<◌, ◌≡◌, List, length, get_or, drop, Some}
use Rattle.std.proofs.Common.{sym, ap, ◌∙◌, arith, length-drop, get_or-drop}
use Rattle.std.proofs.Math.Decide.{dec_lt}
use Rattle.wire.specs.Bytes.{le_bytes, le_word}
use Rattle.call_bytes.specs.Bytes.{store_words, store_part, patch_word, from_place}
use Rattle.agreement.specs.Demand3.{Bytes}
use Rattle.agreement.specs.Laws.WordBytes.{word_bytes}
use Rattle.agreement.specs.Laws.Bytewise.{byte_in, byte_in_lem}
use Rattle.agreement.specs.Laws.Progress.{Next}
use Rattle.agreement.specs.Laws.Rows.{stored_at_lem, part_at, patch_in, patch_low, patch_high, bytes_drop, from_before, from_at}

-- the word at an address that is in memory
pub record Held (base : ℕ) (mem : List ℕ) (a w : ℕ) : Type 0 where
  pub low : base ≤ a
  pub high : a + 4 ≤ base + length mem
  pub word : w ≡ le_word mem (a - base)

-- the first n words of a row are those from a on
abbrev pub Row : ℕ → List ℕ → ℕ → ℕ → List ℕ → Type 0
Row base mem a n ws = (q : ℕ) → q < n → Held base mem (a + 4 * q) (get_or ws q 0)

-- the first k bytes of a buffer are those from `addr` on
abbrev pub Got : ℕ → List ℕ → ℕ → List ℕ → ℕ → Type 0
Got base mem addr b k = (i : ℕ) → i < k → byte_in base mem (addr + i) ≡ Some (get_or b i 0)

module _ (base : ℕ) (mem : List ℕ) (bytes : Bytes mem) where
  held_bytes : (a w : ℕ) → Held base mem a w → (r : ℕ) → r < 4 → get_or (le_bytes w) r 0 ≡ get_or mem (a - base + r) 0
  held_bytes a w h r x = ap (λ (v : ℕ). get_or (le_bytes v) r 0) h.word ∙ word_bytes mem (a - base) r bytes x

  pub held_byte : (a w : ℕ) → Held base mem a w → (r : ℕ) → r < 4 → byte_in base mem (a + r) ≡ Some (get_or (le_bytes w) r 0)
  held_byte a w h r x =
      let l = h.low in
      let e : a + r - base ≡ a - base + r = omega arith in
      byte_in_lem base mem (a + r) (omega arith) (omega (arith, h.high)) ∙ ap Some (ap (λ (j : ℕ). get_or mem j 0) e ∙ sym (held_bytes a w h r x))

  module _ (addr : ℕ) (b : List ℕ) (k : ℕ) (g : Got base mem addr b k) where
    -- n words more
    pub got_run : (n : ℕ) (ws : List ℕ) → Row base mem (addr + k) n ws → k + 4 * n ≤ length b
        → Got base mem addr (from_place k (store_words n ws) b) (k + 4 * n)
    got_run n ws h l i x = go (dec_lt i k)
      where
        r : ℕ
        r = i - k

        go : Dec (i < k) → byte_in base mem (addr + i) ≡ Some (get_or (from_place k (store_words n ws) b) i 0)
        go (yes y) = g i y ∙ ap Some (sym (from_before k b (store_words n ws (drop k b)) (omega arith) i y))
        go (no y) =
            let q : r / 4 < n = omega arith in
            let e : addr + i ≡ addr + k + 4 * (r / 4) + r % 4 = omega arith in
            let f : i ≡ k + (4 * (r / 4) + r % 4) = omega arith in
            ap (λ (z : ℕ). byte_in base mem z) e
            ∙ held_byte (addr + k + 4 * (r / 4)) (get_or ws (r / 4) 0) (h (r / 4) q) (r % 4) (omega arith)
            ∙ ap Some (sym (ap (λ (z : ℕ). get_or (from_place k (store_words n ws) b) z 0) f
            ∙ from_at k b (store_words n ws (drop k b)) (omega arith) (4 * (r / 4) + r % 4)
            ∙ stored_at_lem n ws (drop k b) (omega (arith, length-drop k b)) (r / 4) (r % 4) q (omega arith)))

    -- `count` bytes more, of the word w from its byte `skip` on
    pub got_part : (skip count w : ℕ) → skip ≤ addr + k → skip + count ≤ 4 → Held base mem (addr + k - skip) w → k + count ≤ length b
        → Got base mem addr (from_place k (store_part count w skip) b) (k + count)
    got_part skip count w s c h l i x = go (dec_lt i k)
      where
        r : ℕ
        r = i - k

        go : Dec (i < k) → byte_in base mem (addr + i) ≡ Some (get_or (from_place k (store_part count w skip) b) i 0)
        go (yes y) = g i y ∙ ap Some (sym (from_before k b (store_part count w skip (drop k b)) (omega arith) i y))
        go (no y) =
            let e : addr + i ≡ addr + k - skip + (skip + r) = omega arith in
            let f : i ≡ k + r = omega arith in
            ap (λ (z : ℕ). byte_in base mem z) e
            ∙ held_byte (addr + k - skip) w h (skip + r) (omega arith)
            ∙ ap Some (sym (ap (λ (z : ℕ). get_or (from_place k (store_part count w skip) b) z 0) f
            ∙ from_at k b (store_part count w skip (drop k b)) (omega arith) r
            ∙ part_at count w skip (drop k b) (omega (arith, length-drop k b)) r (omega arith)))

module _ (base addr : ℕ) (mem : List ℕ) where
  -- the word of four new bytes, of which place `from` of the buffer holds the first
  pub next_word : (new : List ℕ) (k from w : ℕ) → Bytes new → k ≡ from → w ≡ le_word new from → base ≤ addr + k → addr + k + 4 ≤ base + length mem
      → k + 4 ≤ length new → Next base addr new k 4 mem (addr + k - base) w
  next_word new k from w b e f l h n = record {
    some = omega arith;
    low = omega arith;
    high = omega arith;
    enough = n;
    room = omega arith;
    news = λ i x y z.
        let s : from + i ≡ base + (addr + k - base) + i - addr = omega arith in
        ap (λ (v : ℕ). get_or (le_bytes v) i 0) f ∙ word_bytes new from i b x ∙ ap (λ (j : ℕ). get_or new j 0) s;
    under = λ i x y. absurd (omega arith);
    over = λ i x y. absurd (omega arith);
  }

  -- the word at the address with `count` new bytes from its byte `skip` on
  pub next_part : (new : List ℕ) (k skip count w : ℕ) → Bytes mem → Bytes new → 0 < count → skip ≤ addr + k → skip + count ≤ 4
      → k + count ≤ length new → Held base mem (addr + k - skip) w
      → Next base addr new k count mem (addr + k - skip - base) (patch_word count w skip (drop k new))
  next_part new k skip count w bm bn p s c n h =
      let l = h.low in
      let u = h.high in
      record {
        some = p;
        low = omega arith;
        high = omega arith;
        enough = n;
        room = omega arith;
        news = λ i x y z.
            let e : i ≡ skip + (i - skip) = omega arith in
            let f : k + (i - skip) ≡ base + (addr + k - skip - base) + i - addr = omega arith in
            ap (λ (j : ℕ). get_or (le_bytes (patch_word count w skip (drop k new))) j 0) e
            ∙ patch_in count w skip (drop k new) (bytes_drop k new bn) c (i - skip) (omega arith)
            ∙ get_or-drop k new (i - skip) 0 ∙ ap (λ (j : ℕ). get_or new j 0) f;
        under = λ i x y.
            patch_low count w skip (drop k new) (bytes_drop k new bn) c i (omega arith) ∙ held_bytes base mem bm (addr + k - skip) w h i x;
        over = λ i x y.
            patch_high count w skip (drop k new) (bytes_drop k new bn) c i x (omega arith) ∙ held_bytes base mem bm (addr + k - skip) w h i x;
      }
