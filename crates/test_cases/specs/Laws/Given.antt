-- What 01's cases marked P speak of: the script and its listing, the calls and answers, the targets that call 3 meets.
-- `Table.antt` has the cases.
use Rattle.std.specs.Prelude.{ℕ, zero, suc, true, false, List, [], ◌∷◌, ◌++◌, ◌≡◌, length, replicate, Err}
use Rattle.wire.specs.Wire.{play, Played, Ending}
use Rattle.wire.specs.declared.Remembered.{Remembered}
use Rattle.wire.specs.Outcomes.{Answer}
use Rattle.wire.specs.declared.DapError.TheVariants.{SwdError}
use Rattle.call_connect.specs.declared.ConnectCall.TheVariants as K
use Rattle.call_memory.specs.declared.MemoryCall.TheVariants as M
use Rattle.engine_calls.specs.Calls.{call_tree, zero_room}
use Rattle.engine_calls.specs.declared.EngineCall.{EngineCall}
use Rattle.engine_calls.specs.declared.EngineCall.TheVariants as N
use Rattle.target.specs.DebugPort.{powered}
use Rattle.target.specs.declared.Target.{Target}
use Rattle.target_line.specs.Talk.{talk}

-- how a call ends, and after how many transport calls
pub record Ends (p : Played) (e : Ending) (count : ℕ) : Type 0 where
  pub ending : p.ending ≡ e
  pub calls : length p.calls ≡ count

-- an answer Ok with value 0, as a record of a script
abbrev ok : List ℕ
ok = 0 ∷ 5 ∷ 0 ∷ 0 ∷ 0 ∷ 0 ∷ 0 ∷ []

-- call 9 at 0x20000000, five Ok answers, the last 0x12345678
abbrev pub script : List ℕ
script = (1 ∷ 0 ∷ 5 ∷ 9 ∷ 0x20 ∷ 0 ∷ 0 ∷ 0 ∷ []) ++ (ok ++ (ok ++ (ok ++ (ok ++ (0 ∷ 5 ∷ 0 ∷ 0x12 ∷ 0x34 ∷ 0x56 ∷ 0x78 ∷ [])))))

-- 1 T 8 00000000
-- 2 T 1 23000012
-- 3 T 5 20000000
-- 4 T F 00000000
-- 5 T E 00000000
-- 0 12345678
abbrev pub listing : List ℕ
listing =
    (49 ∷ 32 ∷ 84 ∷ 32 ∷ 56 ∷ 32 ∷ 48 ∷ 48 ∷ 48 ∷ 48 ∷ 48 ∷ 48 ∷ 48 ∷ 48 ∷ 10 ∷ [])
    ++ ((50 ∷ 32 ∷ 84 ∷ 32 ∷ 49 ∷ 32 ∷ 50 ∷ 51 ∷ 48 ∷ 48 ∷ 48 ∷ 48 ∷ 49 ∷ 50 ∷ 10 ∷ [])
    ++ ((51 ∷ 32 ∷ 84 ∷ 32 ∷ 53 ∷ 32 ∷ 50 ∷ 48 ∷ 48 ∷ 48 ∷ 48 ∷ 48 ∷ 48 ∷ 48 ∷ 10 ∷ [])
    ++ ((52 ∷ 32 ∷ 84 ∷ 32 ∷ 70 ∷ 32 ∷ 48 ∷ 48 ∷ 48 ∷ 48 ∷ 48 ∷ 48 ∷ 48 ∷ 48 ∷ 10 ∷ [])
    ++ ((53 ∷ 32 ∷ 84 ∷ 32 ∷ 69 ∷ 32 ∷ 48 ∷ 48 ∷ 48 ∷ 48 ∷ 48 ∷ 48 ∷ 48 ∷ 48 ∷ 10 ∷ [])
    ++ ((48 ∷ 32 ∷ 49 ∷ 50 ∷ 51 ∷ 52 ∷ 53 ∷ 54 ∷ 55 ∷ 56 ∷ 10 ∷ []))))))

-- SELECT 0 and CSW remembered
abbrev pub known : Remembered
known = record { select = 0; csw = true; apsel = 0 }

-- one transfer: call 8 writes 7 to AP register 0, and SELECT stands
abbrev pub one_transfer : List Answer → Played
one_transfer answers = play (call_tree (N.Memory (M.ApRegWrite 0 7)) known zero_room [] []) answers

-- n WAITs, and then other answers
abbrev pub after_waits : ℕ → List Answer → List Answer
after_waits zero rest = rest
after_waits (suc n) rest = Err (SwdError 2) ∷ after_waits n rest

-- call 13 reads 6 bytes at 0x20000003: a partial word, a run of one, a partial word
abbrev pub six_bytes : List Answer → Played
six_bytes answers = play (call_tree (N.Memory (M.ReadMem 0x20000003)) known zero_room [] (replicate 6 0)) answers

-- call 14 writes the byte x at 0x20000001: the word is read, changed and written back
abbrev pub one_byte_of : ℕ → List Answer → Played
one_byte_of x answers = play (call_tree (N.Memory (M.WriteMem 0x20000001)) known zero_room [] (x ∷ [])) answers

abbrev pub call3 : EngineCall
call3 = N.Connect K.ConnectSwd

-- call 3 over a target and a line that delivers (no acts), whatever is remembered, lent and in memory
abbrev pub connecting : Remembered → List ℕ → List ℕ → ℕ → Target → List ℕ → Played
connecting r words buf budget t mem =
    play (call_tree call3 r zero_room words buf) (talk (call_tree call3 r zero_room words buf) budget [] t mem).answers

-- DPIDR is neither 0 nor all ones, and the power-up requests are clear: not both stand
pub record Ready (t : Target) : Type 0 where
  pub some : t.dpidr ≡ 0 → ⊥
  pub driven : t.dpidr ≡ 0xFFFFFFFF → ⊥
  pub clear : powered t ≡ false
