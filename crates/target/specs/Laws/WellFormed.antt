-- A well-formed target stays so, whatever is delivered. DPIDR, d, width and base never change; CSW changes by `csw_kept` alone, and
-- memory by `store` alone.
use Rattle.std.specs.Prelude.{◌≡◌, refl, List, [], ◌∷◌, ℕ, zero, suc, ◌-◌, ◌/◌, ◌%◌, ◌<◌, length, get_or, set}
use Rattle.std.proofs.Common.{◌∙◌, arith, length-set}
use Rattle.wire.specs.Bytes.{put_word}
use Rattle.wire.specs.declared.Call.{Call}
use Rattle.wire.specs.declared.Call.TheVariants as C
use Rattle.target.specs.declared.Target.{Target}
use Rattle.target.specs.declared.Done.{Done}
use Rattle.target.specs.declared.Register.{Register}
use Rattle.target.specs.declared.Register.TheVariants.{Dp, Ap}
use Rattle.target.specs.declared.DpRegister.{DpRegister}
use Rattle.target.specs.declared.DpRegister.TheVariants as D
use Rattle.target.specs.declared.ApRegister.{ApRegister}
use Rattle.target.specs.declared.ApRegister.TheVariants as A
use Rattle.target.specs.declared.Act.{Act}
use Rattle.target.specs.declared.Act.TheVariants.{Deliver, Wait, Lose}
use Rattle.target.specs.Memory.{in_memory}
use Rattle.target.specs.Decode.{register_of}
use Rattle.target.specs.DebugPort.{reach_dp}
use Rattle.target.specs.MemAp.{reach_ap, memory_after, word_address_of, csw_kept}
use Rattle.target.specs.Deliver.{Delivery, reach, barred, transfer, deliver}
use Rattle.target.specs.Laws.Deliver.{either}
use Rattle.target.specs.Line.{Heard, line}
use Rattle.target.specs.WellFormed.{WellFormed}

-- what an access keeps of the target
record Kept (t u : Target) : Type 0 where
  size : t.csw % 8 ≡ 2 → u.csw % 8 ≡ 2
  width : u.width ≡ t.width
  base : u.base ≡ t.base

same : (t : Target) → Kept t t
same t = record { size = λ h. h; width = refl; base = refl }

kept_dp : (r : DpRegister) (t : Target) (w : ℕ) → Kept t (reach_dp r t w).target
kept_dp D.AbortWrite t w = record { size = λ h. h; width = refl; base = refl }
kept_dp D.DpidrRead t w = same t
kept_dp D.CtrlStatWrite t w = record { size = λ h. h; width = refl; base = refl }
kept_dp D.CtrlStatRead t w = record { size = λ h. h; width = refl; base = refl }
kept_dp D.SelectWrite t w = record { size = λ h. h; width = refl; base = refl }
kept_dp D.RdbuffRead t w = same t
kept_dp D.OtherRead t w = same t
kept_dp D.OtherWrite t w = same t

kept_ap : (r : ApRegister) (t : Target) (m : List ℕ) (w : ℕ) → Kept t (reach_ap r t m w).target
kept_ap A.CswWrite t m w = record { size = λ h. size2 w; width = refl; base = refl }
  where
    size2 : (w : ℕ) → csw_kept w % 8 ≡ 2
    size2 w = omega arith
kept_ap A.CswRead t m w = record { size = λ h. h; width = refl; base = refl }
kept_ap A.TarWrite t m w = record { size = λ h. h; width = refl; base = refl }
kept_ap A.TarRead t m w = record { size = λ h. h; width = refl; base = refl }
kept_ap A.DrwWrite t m w =
    either (λ (u : Target). Kept t u) (in_memory t m (word_address_of t))
    (λ _. record { size = λ h. h; width = refl; base = refl })
    (λ _. record { size = λ h. h; width = refl; base = refl })
kept_ap A.DrwRead t m w =
    either (λ (d : Done). Kept t d.target) (in_memory t m (word_address_of t))
    (λ _. record { size = λ h. h; width = refl; base = refl })
    (λ _. record { size = λ h. h; width = refl; base = refl })
kept_ap A.OtherRead t m w = record { size = λ h. h; width = refl; base = refl }
kept_ap A.OtherWrite t m w = same t

-- what an access keeps of the memory
record Lasts (m n : List ℕ) : Type 0 where
  size : length n ≡ length m
  bytes : ((i : ℕ) → get_or m i 0 < 256) → (i : ℕ) → get_or n i 0 < 256

lasts_set : (m : List ℕ) (i v : ℕ) → v < 256 → Lasts m (set m i v)
lasts_set m i v h = record { size = length-set m i v; bytes = go m i }
  where
    go : (m : List ℕ) (i : ℕ) → ((j : ℕ) → get_or m j 0 < 256) → (j : ℕ) → get_or (set m i v) j 0 < 256
    go [] i b j = b j
    go (x ∷ m) zero b zero = h
    go (x ∷ m) zero b (suc j) = b (suc j)
    go (x ∷ m) (suc i) b zero = b zero
    go (x ∷ m) (suc i) b (suc j) = go m i (λ k. b (suc k)) j

then_lasts : {m n o : List ℕ} → Lasts m n → Lasts n o → Lasts m o
then_lasts p q = record { size = q.size ∙ p.size; bytes = λ b. q.bytes (p.bytes b) }

lasts_put : (m : List ℕ) (i w : ℕ) → Lasts m (put_word m i w)
lasts_put m i w =
    then_lasts (lasts_set m i (w % 256) (byte w)) (then_lasts (lasts_set _ (suc i) _ (byte (w / 256)))
    (then_lasts (lasts_set _ (suc (suc i)) _ (byte (w / 256 / 256))) (lasts_set _ (suc (suc (suc i))) _ (byte (w / 256 / 256 / 256)))))
  where
    byte : (v : ℕ) → v % 256 < 256
    byte v = omega arith

stays : (m : List ℕ) → Lasts m m
stays m = record { size = refl; bytes = λ b. b }

lasts_ap : (r : ApRegister) (t : Target) (m : List ℕ) (w : ℕ) → Lasts m (memory_after r t m w)
lasts_ap A.CswWrite t m w = stays m
lasts_ap A.CswRead t m w = stays m
lasts_ap A.TarWrite t m w = stays m
lasts_ap A.TarRead t m w = stays m
lasts_ap A.DrwWrite t m w = either (λ (n : List ℕ). Lasts m n) (in_memory t m (word_address_of t)) (λ _. lasts_put m (word_address_of t - t.base) w)
    (λ _. stays m)
lasts_ap A.DrwRead t m w = stays m
lasts_ap A.OtherRead t m w = stays m
lasts_ap A.OtherWrite t m w = stays m

well : {t u : Target} {m n : List ℕ} → Kept t u → Lasts m n → WellFormed t m → WellFormed u n
well k l h =
    record {
      size = k.size h.size;
      width = rw k.width h.width;
      start = rw k.base h.start;
      whole = rw l.size h.whole;
      end = rw (k.base, l.size) h.end;
      bytes = l.bytes h.bytes;
    }

well_reach : (r : Register) (t : Target) (m : List ℕ) (w : ℕ) → WellFormed t m → WellFormed (reach r t m w).target (reach r t m w).mem
well_reach (Dp r) t m w h = well (kept_dp r t w) (stays m) h
well_reach (Ap r) t m w h = well (kept_ap r t m w) (lasts_ap r t m w) h

well_transfer : (t : Target) (m : List ℕ) (q w : ℕ) → WellFormed t m → WellFormed (transfer t m q w).target (transfer t m q w).mem
unfolding transfer
well_transfer t m q w h =
    either (λ (d : Delivery). WellFormed d.target d.mem) (barred (register_of q t.select) t.sticky) (λ _. h)
    (λ _. well_reach (register_of q t.select) t m w h)

pub well_deliver : (t : Target) (m : List ℕ) (c : Call) → WellFormed t m → WellFormed (deliver t m c).target (deliver t m c).mem
well_deliver t m (C.Transfer q w) h = well_transfer t m q w h
well_deliver t m C.Connect h = h
well_deliver t m (C.Sequence p) h = h
well_deliver t m (C.Pins output select wait) h = h
well_deliver t m (C.WriteBits bits w) h = h
well_deliver t m C.OutputEnable h = h

pub well_line : (t : Target) (m : List ℕ) (c : Call) (a : Act) → WellFormed t m → WellFormed (line t m c a).target (line t m c a).mem
well_line t m c Deliver h = well_deliver t m c h
well_line t m c Wait h = h
well_line t m c (Lose d e) h = either (λ (x : Heard). WellFormed x.target x.mem) d (λ _. well_deliver t m c h) (λ _. h)
