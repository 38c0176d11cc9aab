-- Copyright 2026 Kenta Ida. SPDX-License-Identifier: Apache-2.0. Ported from arm-debug/src/lib.rs of ciniml/rust-dap.
-- A function and a frame as words: the registers that a function starts with, and those that it may change, in the order of a frame.
use Rattle.std.specs.Prelude.{ℕ, ◌+◌, ◌-◌, ◌%◌, List, [], ◌∷◌, get_or}
use Rattle.call_core.specs.declared.Function.{Function}
use Rattle.call_core.specs.declared.CallFrame.{CallFrame}

-- the xPSR that a function starts with: its T bit alone (000: start_function)
abbrev pub XPSR_THUMB : ℕ
XPSR_THUMB = 0x01000000

-- what a function starts with, in the order of a frame; lr has its Thumb bit set
abbrev pub starts_with : Function → List ℕ
starts_with f = f.a0 ∷ f.a1 ∷ f.a2 ∷ f.a3 ∷ f.sp ∷ (f.trampoline - f.trampoline % 2 + 1) ∷ f.fn_addr ∷ XPSR_THUMB ∷ []

-- a frame's registers
abbrev pub registers_of : CallFrame → List ℕ
registers_of f = f.r0 ∷ f.r1 ∷ f.r2 ∷ f.r3 ∷ f.sp ∷ f.lr ∷ f.pc ∷ f.xpsr ∷ []

-- a frame and a function of words, in the order of their fields
abbrev pub frame_of : List ℕ → CallFrame
frame_of ws = record {
  r0 = get_or ws 0 0;
  r1 = get_or ws 1 0;
  r2 = get_or ws 2 0;
  r3 = get_or ws 3 0;
  sp = get_or ws 4 0;
  lr = get_or ws 5 0;
  pc = get_or ws 6 0;
  xpsr = get_or ws 7 0;
}

abbrev pub function_of : List ℕ → Function
function_of ws = record {
  fn_addr = get_or ws 0 0;
  a0 = get_or ws 1 0;
  a1 = get_or ws 2 0;
  a2 = get_or ws 3 0;
  a3 = get_or ws 4 0;
  sp = get_or ws 5 0;
  trampoline = get_or ws 6 0;
}
