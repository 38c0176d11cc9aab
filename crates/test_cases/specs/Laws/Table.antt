-- 01's cases marked P as one table, proved of the definitions: a field a case, in 01's order. `Given.antt` has the calls, answers
-- and targets that it speaks of, `Connect.antt` the proof of the connects. Each holds for every value read, the connects for
-- every target that meets 01's conditions, sticky or not, at every budget that suffices.
use Rattle.std.specs.Prelude.{ℕ, ◌≤◌, List, [], ◌∷◌, ◌≡◌, refl, replicate, Ok, Err, None, Some}
use Rattle.std.proofs.Common.{arith}
use Rattle.wire.specs.Wire.{memory_of, play, ended}
use Rattle.wire_transfer.specs.Transfer.{transfer, tries, raw}
use Rattle.wire.specs.declared.Remembered.{Remembered}
use Rattle.wire.specs.declared.Call.TheVariants as C
use Rattle.wire.specs.declared.ArmError.TheVariants as E
use Rattle.wire_memap.specs.Words.{pull, push}
use Rattle.wire_memap.specs.Ops.{perform}
use Rattle.call_bytes.specs.Bytes.{store_words, store_part, patch_bytes}
use Rattle.call.specs.Change.{fresh}
use Rattle.call.specs.Job.{exec}
use Rattle.call_connect.specs.Connect.{ones, parity}
use Rattle.call_memory.specs.Memory.{run_words, turns, memory_job}
use Rattle.call_memory.specs.declared.MemoryCall.TheVariants as M
use Rattle.call_fpb.specs.Breakpoint.{fpb_comp_value}
use Rattle.engine_calls.specs.Calls.{call_tree, zero_room}
use Rattle.engine_calls.specs.declared.EngineCall.TheVariants as N
use Rattle.script_lines.specs.Text.{digits, hex, together}
use Rattle.script_lines.specs.Listing.{call_lines}
use Rattle.script_form.specs.BigEndian as BigEndian
use Rattle.script_request.specs.Request.{request_of, words_of, bytes_of}
use Rattle.script_form.specs.Script.{good_answers, well_formed}
use Rattle.script.specs.Output.{performed, request_text, output_of}
use Rattle.target.specs.declared.Target.{Target}
use Rattle.test_cases.specs.Laws.Given.{Ends, script, listing, known, one_transfer, after_waits, six_bytes, one_byte_of, connecting, Ready}
use Rattle.test_cases.specs.Laws.Connect.{connects, times_out}

pub record Table : Type 0 where
  -- 1. the listing above: what `dapscript` prints
  pub listed : output_of script ≡ listing
  -- 2. 64 WAITs then Ok: Ok, 65 calls
  pub waits_64 : (v : ℕ) → Ends (one_transfer (after_waits 64 (Ok v ∷ []))) (ended (Ok 0)) 65
  -- 3. 65 WAITs: Wait, no ABORT, though there is budget for one
  pub waits_65 : (v : ℕ)
      → ((one_transfer (after_waits 65 (Ok v ∷ []))).ending ≡ ended (Err E.Wait))
      × ((one_transfer (after_waits 65 (Ok v ∷ []))).calls ≡ replicate 65 (C.Transfer 1 7))
  -- 4. call 3, DPIDR good, requests clear, line delivering, d = 1023: connected
  pub d_1023 : (r : Remembered) (words buf : List ℕ) (budget : ℕ) (t : Target) (mem : List ℕ) → Ready t → t.d ≡ 1023 → 1034 ≤ budget
      → Ends (connecting r words buf budget t mem) (ended (Ok t.dpidr)) 1034
  -- 5. the same, d = 1024: PowerUpTimeout
  pub d_1024 : (r : Remembered) (words buf : List ℕ) (budget : ℕ) (t : Target) (mem : List ℕ) → Ready t → t.d ≡ 1024 → 1034 ≤ budget
      → Ends (connecting r words buf budget t mem) (ended (Err E.PowerUpTimeout)) 1034
  -- 6. run at 0x200003FC: 1, however many words are left
  pub run_at_end : (words : ℕ) → 1 ≤ words → run_words 0x200003FC words ≡ 1
  -- 7. run at 0x20000400, 300 left: 64
  pub run_whole : run_words 0x20000400 300 ≡ 64
  -- 8. 6 bytes read at 0x20000003, CSW known, SELECT 0 remembered: 9 calls
  pub six_bytes_lem : (a b c d e f g h i : ℕ)
      → Ends (six_bytes (Ok a ∷ Ok b ∷ Ok c ∷ Ok d ∷ Ok e ∷ Ok f ∷ Ok g ∷ Ok h ∷ Ok i ∷ [])) (ended (Ok 0)) 9
  -- 9. 1 byte written at 0x20000001: 6 calls
  pub one_byte : (x a b c d e f : ℕ) → Ends (one_byte_of x (Ok a ∷ Ok b ∷ Ok c ∷ Ok d ∷ Ok e ∷ Ok f ∷ [])) (ended (Ok 0)) 6
  -- 10. breakpoint 0x102, revision 0: 0x80000101
  pub breakpoint_v0 : fpb_comp_value 0x102 0 ≡ Some 0x80000101
  -- 11. breakpoint 0x20000101, revision 1: 0x20000101
  pub breakpoint_v1 : fpb_comp_value 0x20000101 1 ≡ Some 0x20000101
  -- 12. TARGETSEL 0x01002927: parity 0
  pub parity_even : parity 0x01002927 ≡ 0
  -- 13. TARGETSEL 0x11002927: parity 1
  pub parity_odd : parity 0x11002927 ≡ 1

pub table : Table
unfolding output_of well_formed request_of words_of bytes_of good_answers BigEndian.row performed request_text digits hex together call_lines play tries
    transfer raw exec memory_job turns perform pull push store_words store_part patch_bytes ones
table = record {
  listed = refl;
  waits_64 = λ v. record { ending = refl; calls = refl };
  waits_65 = λ v. (refl, refl);
  d_1023 = λ r words buf budget t mem h e le.
      let x = connects r words buf budget t mem h (omega (arith, e)) (omega (arith, e)) in
      record { ending = x.ending; calls = omega (arith, x.calls, e) };
  d_1024 = λ r words buf budget t mem h e le. times_out r words buf budget t mem h (omega (arith, e)) le;
  run_at_end = λ words h. omega arith;
  run_whole = refl;
  six_bytes_lem = λ a b c d e f g h i. record { ending = refl; calls = refl };
  one_byte = λ x a b c d e f. record { ending = refl; calls = refl };
  breakpoint_v0 = refl;
  breakpoint_v1 = refl;
  parity_even = refl;
  parity_odd = refl;
}

-- the listing's call at every address, for every value read
pub listed_any : (addr a b c d v : ℕ)
    → play (call_tree (N.Memory (M.ReadWord addr)) fresh zero_room [] []) (Ok a ∷ Ok b ∷ Ok c ∷ Ok d ∷ Ok v ∷ [])
    ≡ record {
      calls = C.Transfer 8 0 ∷ C.Transfer 1 0x23000012 ∷ C.Transfer 5 addr ∷ C.Transfer 0xF 0 ∷ C.Transfer 0xE 0 ∷ [];
      memory = memory_of known zero_room [];
      ending = ended (Ok v);
    }
unfolding play exec memory_job perform transfer tries
listed_any addr a b c d v = refl
