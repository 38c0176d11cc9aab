-- The loops of After turn by turn, as the code takes them. Serves the proofs only.
use Prim.Native.Nat.{ℕ, zero, suc, ◌+◌, ◌-◌, ◌*◌, ◌/◌, ◌%◌}
use Rattle.std.specs.Prelude.{true, false, cond, ◌≡◌, refl, eqb, get_or, Err}
use Rattle.std.proofs.Math.Path.{ap}
use Rattle.std.proofs.Common.{◌∙◌, arith}
use Rattle.wire.specs.Laws.Numbers.{less}
use Rattle.wire.specs.declared.ArmError.TheVariants as E
use Rattle.wire_memap.specs.declared.Op.TheVariants as O
use Rattle.call.specs.Job.{Job, op, attempt, ◌>>=◌, ◌>>◌, return, fail, keeping, write_word}
use Rattle.call.specs.Laws.Job.{bind_assoc}
use Rattle.call.specs.declared.Change.TheVariants as C
use Rattle.call_core.specs.Cortex.{DHCSR, C_HALT, stands}
use Rattle.call_core.specs.Core.{wait_status, read_core_reg}
use Rattle.call_core.specs.Function.{
  ENTRIES,
  NOT_FOUND,
  MASKED,
  read_entry,
  look_from,
  save_regs,
  write_row_reg,
  write_regs,
  look_running,
  after_wait,
  finishing,
  call_function,
  clobbered,
}
use Rattle.call_core.specs.Laws.After.{bit_of, waiting, polled, entry_of, matching, looking, looked, released, setting, planting, saving, restoring, beginning}
use Rattle.call_places.specs.declared.Wait.{Wait}
use Rattle.call_places.specs.declared.Wait.TheVariants as W
use Rattle.call_places.specs.declared.Search.{Search}
use Rattle.call_places.specs.declared.Plan.{Plan}
use Rattle.call_core.specs.declared.Function.{Function}

none : (n : ℕ) → 0 + n ≡ n
none n = omega arith

pub waiting_none : (w : Wait) → waiting w 0 ≡ fail E.CoreTimeout
unfolding wait_status
waiting_none W.Halt = refl
waiting_none W.Read = refl
waiting_none W.Write = refl

pub waiting_more : (w : Wait) (n : ℕ) → (n ≡ 0 → ⊥) → waiting w n ≡ op (O.ReadWord DHCSR) (polled w (n - 1)) fail
unfolding wait_status
waiting_more w zero h = absurd (h refl)
waiting_more W.Halt (suc n) h = ap (λ (j : ℕ). op (O.ReadWord DHCSR) (polled W.Halt j) fail) (less n)
waiting_more W.Read (suc n) h = ap (λ (j : ℕ). op (O.ReadWord DHCSR) (polled W.Read j) fail) (less n)
waiting_more W.Write (suc n) h = ap (λ (j : ℕ). op (O.ReadWord DHCSR) (polled W.Write j) fail) (less n)

pub polled_on : (w : Wait) (left v : ℕ) → stands (bit_of w) v ≡ false → polled w left v ≡ waiting w left
polled_on W.Halt left v h = simp h
polled_on W.Read left v h = simp h
polled_on W.Write left v h = simp h

pub finish_more : (n : ℕ) → (n ≡ 0 → ⊥) → finishing n ≡ op (O.ReadWord DHCSR) (λ v. attempt (polled W.Halt (n - 1) v) after_wait)
    (λ e. after_wait (Err e))
unfolding wait_status
finish_more zero h = absurd (h refl)
finish_more (suc n) h = ap (λ (j : ℕ). op (O.ReadWord DHCSR) (λ v. attempt (polled W.Halt j v) after_wait) (λ e. after_wait (Err e))) (less n)

pub look_more : (s : Search) → (s.left ≡ 0 → ⊥) → look_from s.want s.table s.left ≡ (read_entry (entry_of s) >>= matching s)
unfolding look_from
look_more s h = one s.left h
  where
    one : (n : ℕ) → (n ≡ 0 → ⊥) → look_from s.want s.table n ≡ (read_entry (s.table + 4 * (ENTRIES - n)) >>= matching
        (record { want = s.want; table = s.table; left = n }))
    one zero h = absurd (h refl)
    one (suc n) h = ap (λ (j : ℕ). read_entry (s.table + 4 * (ENTRIES - suc n)) >>= (λ entry. cond (eqb (entry % 0x10000) 0) (return NOT_FOUND)
        (cond (eqb (entry % 0x10000) s.want) (return (entry / 0x10000)) (look_from s.want s.table j)))) (less n)

pub looking_more : (n : ℕ) (p : Plan) → (n ≡ 0 → ⊥) → looking n p ≡ op (O.ReadWord DHCSR) (looked (n - 1) p) fail
unfolding look_running
looking_more zero p h = absurd (h refl)
looking_more (suc n) p h = ap (λ (j : ℕ). op (O.ReadWord DHCSR) (looked j p) fail) (less n)

module _ (n : ℕ) (some : n ≡ 0 → ⊥) where
  pub saving_more : (p : Plan) → saving n p ≡ (read_core_reg (get_or clobbered (8 - n) 0) >>= (λ v. keeping (C.Put (8 - n) v) >> saving (n - 1) p))
  unfolding save_regs
  saving_more p = one n some
    where
      one : (m : ℕ) → (m ≡ 0 → ⊥) → saving m p ≡ (read_core_reg (get_or clobbered (8 - m) 0) >>= (λ v. keeping (C.Put (8 - m) v) >> saving (m - 1) p))
      one zero h = absurd (h refl)
      one (suc m) h = bind_assoc (read_core_reg (get_or clobbered (8 - suc m) 0)) (λ v. keeping (C.Put (8 - suc m) v) >> save_regs m) (λ _. planting p)
          ∙ ap (λ (j : ℕ). read_core_reg (get_or clobbered (8 - suc m) 0) >>= (λ v. keeping (C.Put (8 - suc m) v) >> saving j p)) (less m)

  writing_more : (base : ℕ) (next : Job) → (write_regs base n >> next) ≡ (write_row_reg (get_or clobbered (8 - n) 0) (base + (8 - n)) >> (write_regs base
      (n - 1) >> next))
  unfolding write_regs
  writing_more base next = one n some
    where
      one : (m : ℕ) → (m ≡ 0 → ⊥) → (write_regs base m >> next) ≡ (write_row_reg (get_or clobbered (8 - m) 0) (base + (8 - m)) >> (write_regs base
          (m - 1) >> next))
      one zero h = absurd (h refl)
      one (suc m) h = bind_assoc (write_row_reg (get_or clobbered (8 - suc m) 0) (base + (8 - suc m))) (λ _. write_regs base m) (λ _. next)
          ∙ ap (λ (j : ℕ). write_row_reg (get_or clobbered (8 - suc m) 0) (base + (8 - suc m)) >> (write_regs base j >> next)) (less m)

  pub setting_more : (p : Plan) → setting n p ≡ (write_row_reg (get_or clobbered (8 - n) 0) (8 + (8 - n)) >> setting (n - 1) p)
  setting_more p = writing_more 8 (write_word DHCSR (MASKED + C_HALT) >> released p)

  pub restoring_more : (value : ℕ) → restoring n value ≡ (write_row_reg (get_or clobbered (8 - n) 0) (8 - n) >> restoring (n - 1) value)
  restoring_more value = writing_more 0 (return value) ∙ ap (λ (i : ℕ). write_row_reg (get_or clobbered (8 - n) 0) i >> restoring (n - 1) value) (none
      (8 - n))

-- call 25 is call 23 that goes on with its second half
pub call_is : (f : Function) (polls : ℕ) → call_function f polls ≡ beginning f true polls
call_is f polls = simp bind_assoc
