-- The MEM-AP's registers CSW, TAR and DRW (01: "The model target"; 02, c; ADIv5.2, chapter C2; readings 17, 19, 24, 25, 31 and C1). A
-- read is posted: it answers the old read buffer and loads the new value.
use Rattle.std.specs.Prelude.{true, cond, List, ℕ, ◌+◌, ◌*◌, ◌/◌, ◌%◌, ◌^◌, min, eqb}
use Rattle.target.specs.declared.Target.{Target}
use Rattle.target.specs.declared.Done.{Done}
use Rattle.target.specs.declared.ApRegister.{ApRegister}
use Rattle.target.specs.declared.ApRegister.TheVariants as A
use Rattle.target.specs.Fields.{with_sticky, with_rdbuff, with_csw, with_tar}
use Rattle.target.specs.Memory.{in_memory, load, stored}
use Rattle.target.specs.DebugPort.{done}

-- the CSW that is kept: as written, with the size field, bits 2:0, at 2 for words
abbrev pub csw_kept : ℕ → ℕ
csw_kept w = w / 8 * 8 + 2

-- the word that DRW uses: at TAR with its low two bits cleared
abbrev pub word_address_of : Target → ℕ
word_address_of t = t.tar / 4 * 4

-- TAR's low `width` bits wrap at this number; TAR has 32 bits, so a larger width counts as 32
abbrev pub span : Target → ℕ
span t = 2 ^ min t.width 32

-- TAR after an access: its low bits gain 4 where CSW's AddrInc, bits 5:4, is 1, and nothing is carried out of them
abbrev pub next_tar : Target → ℕ
next_tar t = cond (eqb (t.csw / 16 % 4) 1) (t.tar / span t * span t + (t.tar % span t + 4) % span t) t.tar

abbrev pub advanced : Target → Target
advanced t = with_tar t (next_tar t)

-- an access outside memory: sticky is set, and TAR stays
abbrev pub failed : Target → Target
failed t = with_sticky t true

-- a posted read
abbrev pub posted : Target → ℕ → Done
posted t v = done t.rdbuff (with_rdbuff t v)

abbrev pub reach_ap : ApRegister → Target → List ℕ → ℕ → Done
reach_ap A.CswWrite t m w = done 0 (with_csw t (csw_kept w))
reach_ap A.CswRead t m w = posted t t.csw
reach_ap A.TarWrite t m w = done 0 (with_tar t w)
reach_ap A.TarRead t m w = posted t t.tar
reach_ap A.DrwWrite t m w = done 0 (cond (in_memory t m (word_address_of t)) (advanced t) (failed t))
reach_ap A.DrwRead t m w =
    cond (in_memory t m (word_address_of t)) (posted (advanced t) (load t m (word_address_of t))) (posted (failed t) 0)
reach_ap A.OtherRead t m w = posted t 0
reach_ap A.OtherWrite t m w = done 0 t

-- the memory after it: a DRW write alone changes it
abbrev pub memory_after : ApRegister → Target → List ℕ → ℕ → List ℕ
memory_after A.CswWrite t m w = m
memory_after A.CswRead t m w = m
memory_after A.TarWrite t m w = m
memory_after A.TarRead t m w = m
memory_after A.DrwWrite t m w = stored t m (word_address_of t) w
memory_after A.DrwRead t m w = m
memory_after A.OtherRead t m w = m
memory_after A.OtherWrite t m w = m
