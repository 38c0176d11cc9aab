-- Calls 12, 14, 32 and 35 write nothing to what they are lent, so that a caller may lend what he shares.
use Prim.Native.Nat.{ℕ, zero, suc, ◌+◌, ◌-◌, ◌*◌, ◌%◌}
use Rattle.std.specs.Prelude.{Bool, true, false, cond, List, ◌≡◌, eqb, leb, length, Ok, Err}
use Rattle.std.proofs.Math.Path.{refl}
use Rattle.wire.specs.Wire.{Wire, Memory}
use Rattle.wire.specs.Outcomes.{Answer}
use Rattle.wire.specs.declared.DapError.TheVariants.{SwdError, NotSupported, Other}
use Rattle.wire.specs.declared.ArmError.{ArmError}
use Rattle.wire.specs.declared.ArmError.TheVariants as F
use Rattle.wire.specs.declared.Call.{Call}
use Rattle.wire.specs.Outcomes.{Outcome}
use Rattle.wire.specs.declared.Remembered.{Remembered}
use Rattle.wire_transfer.specs.Transfer.{after_ack, after_answer, tries, transfer}
use Rattle.wire_memap.specs.Action.{Then, Action, on_value, transferring, remember, remembering}
use Rattle.wire_memap.specs.Action as A
use Rattle.wire_memap.specs.Ports as P
use Rattle.wire_memap.specs.Words as W
use Rattle.wire_memap.specs.Ops.{perform}
use Rattle.wire_memap.specs.declared.Op.{Op}
use Rattle.wire_memap.specs.declared.Op.TheVariants as O
use Rattle.call.specs.Change.{changed}
use Rattle.call.specs.Job.{Job, ends, op, keep, exec, attempt, or_fail, return, just}
use Rattle.call.specs.Job as J
use Rattle.call.specs.declared.Change.TheVariants as C
use Rattle.call_memory.specs.Memory.{turns, turn, whole, memory_job}
use Rattle.call_memory.specs.declared.MemoryCall.TheVariants as M
use Rattle.call_nrf.specs.Nrf.{wait_ready, nvmc_wait, rramc_wait, runs, programmable, nrf_job}
use Rattle.call_nrf.specs.declared.NrfCall.TheVariants as N
use Rattle.engine_calls.specs.Calls.{call_tree}
use Rattle.engine_calls.specs.declared.EngineCall.TheVariants as E
use Rattle.abi_trail.specs.Everywhere.{Everywhere}

-- of whatever does not depend on what is remembered
module _ (Q : Memory → Type 0) (known : (m : Memory) (r : Remembered) → Q m → Q (remembering m r)) where
  abbrev Fine : Then → Type 0
  Fine k = (m : Memory) (o : Outcome) → Q m → Everywhere Q (k m o)

  -- an action keeps it, if what follows does
  abbrev Frames : Action → Type 0
  Frames p = (k : Then) (m : Memory) → Q m → Fine k → Everywhere Q (p k m)

  frame_ack : (b : Bool) (m : Memory) (again : Wire) (k : Outcome → Wire) (ack : ℕ) → Q m → Everywhere Q again → ((o : Outcome) → Everywhere Q (k o))
      → Everywhere Q (after_ack b m again k ack)
  frame_ack true m again k ack q a h = a
  frame_ack false m again k ack q a h = (q, h _)

  frame_answer : (m : Memory) (again : Wire) (k : Outcome → Wire) (a : Answer) → Q m → Everywhere Q again → ((o : Outcome) → Everywhere Q (k o))
      → Everywhere Q (after_answer m again k a)
  frame_answer m again k (Ok v) q a h = h _
  frame_answer m again k (Err (SwdError ack)) q a h = frame_ack (eqb ack 2) m again k ack q a h
  frame_answer m again k (Err NotSupported) q a h = (q, h _)
  frame_answer m again k (Err Other) q a h = (q, h _)

  frame_tries : (n : ℕ) (m : Memory) (c : Call) (k : Outcome → Wire) → Q m → ((o : Outcome) → Everywhere Q (k o)) → Everywhere Q (tries n m c k)
  unfolding tries
  frame_tries zero m c k q h = h _
  frame_tries (suc n) m c k q h = (q, λ a. frame_answer m (tries n m c k) k a q (frame_tries n m c k q h) h)

  frame_transfer : (request word : ℕ) → Frames (transferring request word)
  unfolding transfer
  frame_transfer request word k m q f = frame_tries 65 m _ (k m) q (λ o. f m o q)

  frame_return : (v : ℕ) → Frames (A.return v)
  frame_return v k m q f = f m (Ok v) q

  frame_next : (g : ℕ → Action) → ((v : ℕ) → Frames (g v)) → (k : Then) → Fine k → Fine (on_value g k)
  frame_next g h k f m (Ok v) q = h v k m q f
  frame_next g h k f m (Err e) q = f m (Err e) q

  frame_bind : (p : Action) (g : ℕ → Action) → Frames p → ((v : ℕ) → Frames (g v)) → Frames (A.◌>>=◌ p g)
  frame_bind p g hp hg k m q f = hp (on_value g k) m q (frame_next g hg k f)

  frame_remember : (g : Remembered → Remembered) → Frames (remember g)
  frame_remember g k m q f = f (remembering m (g m.remembered)) (Ok 0) (known m _ q)

  frame_cond : (b : Bool) (p r : Action) → Frames p → Frames r → Frames (cond b p r)
  frame_cond true p r hp hr = hp
  frame_cond false p r hp hr = hr

  frame_write : (addr word : ℕ) → Frames (P.dp_write addr word)
  frame_write addr word = frame_bind _ _ (frame_transfer _ word) (λ _. frame_return 0)

  frame_select : (addr : ℕ) → Frames (P.select_ap_bank addr)
  frame_select addr k m q f = frame_cond _ _ _ (frame_return 0) (frame_bind _ _ (frame_write P.SELECT (P.select_of m.remembered addr)) (λ _. frame_remember (P.selected (P.select_of m.remembered addr)))) k m q f

  frame_access : (request addr word : ℕ) → Frames (P.ap_access request addr word)
  frame_access request addr word = frame_bind _ _ (frame_select addr) (λ _. frame_transfer request word)

  frame_ap_write : (addr word : ℕ) → Frames (P.ap_write addr word)
  frame_ap_write addr word = frame_bind _ _ (frame_access _ addr word) (λ _. frame_return 0)

  frame_csw : (wanted : ℕ) → Frames (P.ensure_csw wanted)
  frame_csw wanted k m q f = frame_cond _ _ _ (frame_return 0) (frame_bind _ _ (frame_ap_write P.CSW wanted) (λ _. frame_remember P.csw_known)) k m q f

  -- at an address, CSW and TAR go before
  frame_at : (addr : ℕ) (p : Action) → Frames p → Frames (A.◌>>◌ (P.ensure_csw P.CSW_DEFAULT) (A.◌>>◌ (P.ap_write P.TAR addr) p))
  frame_at addr p h = frame_bind _ _ (frame_csw _) (λ _. frame_bind _ _ (frame_ap_write P.TAR addr) (λ _. h))

  frame_flush : Frames W.flush
  frame_flush = frame_bind _ _ (frame_transfer _ 0) (λ _. frame_return 0)

  frame_push : (last more : ℕ) → Frames (W.push last more)
  unfolding W.push
  frame_push last zero k m q f = frame_flush k m q f
  frame_push last (suc more) k m q f = frame_bind _ _ (frame_transfer _ _) (λ _. frame_push last more) k m q f

  frame_words : (addr n last : ℕ) → Frames (perform (O.WriteWords addr n last))
  unfolding perform
  frame_words addr n last = frame_at addr _ (λ k m q f. frame_bind _ _ (frame_access (P.ap_writing P.DRW) P.DRW (W.row_at (last - (n - 1)) m)) (λ _. frame_push last (n - 1)) k m q f)

  frame_read : (addr : ℕ) → Frames (perform (O.ReadWord addr))
  unfolding perform
  frame_read addr = frame_at addr _ (frame_bind _ _ (frame_access (P.ap_reading P.DRW) P.DRW 0) (λ _. frame_transfer (P.dp_reading P.RDBUFF) 0))

  frame_word : (addr word : ℕ) → Frames (perform (O.WriteWord addr word))
  unfolding perform
  frame_word addr word = frame_at addr _ (frame_bind _ _ (frame_ap_write P.DRW word) (λ _. frame_flush))

  -- a job keeps it, if its operations and changes do
  abbrev Keeps : Job → Type 0
  Keeps (ends o) = Unit {0}
  Keeps (op w good bad) = Frames (perform w) × ((v : ℕ) → Keeps (good v)) × ((e : ArmError) → Keeps (bad e))
  Keeps (keep c j) = ((m : Memory) → Q m → Q (changed c m)) × Keeps j

  keeps_either : (good : ℕ → Job) (bad : ArmError → Job) → ((v : ℕ) (m : Memory) → Q m → Everywhere Q (exec (good v) m))
      → ((e : ArmError) (m : Memory) → Q m → Everywhere Q (exec (bad e) m)) → Fine (J.either (λ v. exec (good v)) (λ e. exec (bad e)))
  keeps_either good bad g b m (Ok v) q = g v m q
  keeps_either good bad g b m (Err e) q = b e m q

  keeps_exec : (j : Job) → Keeps j → (m : Memory) → Q m → Everywhere Q (exec j m)
  unfolding exec
  keeps_exec (ends o) g m q = q
  keeps_exec (op w good bad) g m q = g.0 (J.either (λ v. exec (good v)) (λ e. exec (bad e))) m q
      (keeps_either good bad (λ v. keeps_exec (good v) (g.1 v)) (λ e. keeps_exec (bad e) (g.2 e)))
  keeps_exec (keep c j) g m q = keeps_exec j g.1 (changed c m) (g.0 m q)

  keeps_attempt : (j : Job) (k : Outcome → Job) → Keeps j → ((o : Outcome) → Keeps (k o)) → Keeps (attempt j k)
  keeps_attempt (ends o) k g h = h o
  keeps_attempt (op w good bad) k g h = (g.0, (λ v. keeps_attempt (good v) k (g.1 v) h), (λ e. keeps_attempt (bad e) k (g.2 e) h))
  keeps_attempt (keep c j) k g h = (g.0, keeps_attempt j k g.1 h)

  keeps_then : (j : Job) (k : ℕ → Job) → Keeps j → ((v : ℕ) → Keeps (k v)) → Keeps (J.◌>>=◌ j k)
  keeps_then j k g h = keeps_attempt j (or_fail k) g by_outcome
    where
      by_outcome : (o : Outcome) → Keeps (or_fail k o)
      by_outcome (Ok v) = h v
      by_outcome (Err e) = tt

  keeps_cond : (b : Bool) (i j : Job) → Keeps i → Keeps j → Keeps (cond b i j)
  keeps_cond true i j g h = g
  keeps_cond false i j g h = h

  keeps_just : (w : Op) → Frames (perform w) → Keeps (just w)
  keeps_just w h = (h, (λ v. tt), (λ e. tt))

  keeps_wait : (ready n : ℕ) → Keeps (wait_ready ready n)
  unfolding wait_ready
  keeps_wait ready zero = tt
  keeps_wait ready (suc n) = (frame_read ready, (λ v. keeps_cond (eqb (v % 2) 1) (return 0) _ tt (keeps_wait ready n)), (λ e. tt))

  keeps_runs : (settle : Job) → Keeps settle → (stop len left passed : ℕ) → Keeps (runs settle stop len left passed)
  unfolding runs
  keeps_runs settle h stop len zero passed = tt
  keeps_runs settle h stop len (suc left) (suc passed) = keeps_runs settle h stop len left passed
  keeps_runs settle h stop len (suc left) zero =
      (frame_words _ _ _, (λ v. keeps_then settle _ h (λ _. keeps_runs settle h stop len left _)), (λ e. tt))

  keeps_programmable : (addr n : ℕ) (j : Job) → Keeps j → Keeps (programmable addr n j)
  keeps_programmable addr n j h =
      keeps_cond (eqb n 0) (return 0) _ tt
      (keeps_cond (eqb (addr % 4) 0) _ (J.fail F.Align) (keeps_cond (leb 0x100000000 (addr + 4 * n)) (J.fail F.Range) j tt h) tt)

  -- calls 12, 32 and 35
  keeps_write_words : (addr n bytes : ℕ) → Keeps (memory_job (M.WriteWords addr) n bytes)
  unfolding memory_job
  keeps_write_words addr n bytes =
      keeps_cond (leb 0x100000000 n) (J.fail F.Range) _ tt (keeps_cond (eqb n 0) (return 0) _ tt (keeps_just _ (frame_words addr n (n - 1))))

  keeps_nrf52_program : (addr polls n : ℕ) → Keeps (nrf_job (N.Nrf52Program addr polls) n)
  unfolding nrf_job
  keeps_nrf52_program addr polls n = keeps_programmable addr n _ (
    frame_word _ _,
    (λ v. keeps_then (nvmc_wait polls) _ (keeps_wait _ polls)
        (λ v. keeps_then (runs (nvmc_wait polls) (addr + 4 * n) n n 0) _ (keeps_runs _ (keeps_wait _ polls) _ n n 0)
        (λ v. (frame_word _ _, (λ v. tt), (λ e. tt))))),
    (λ e. tt),
  )

  keeps_nrf54_program : (addr polls n : ℕ) → Keeps (nrf_job (N.Nrf54Program addr polls) n)
  unfolding nrf_job
  keeps_nrf54_program addr polls n = keeps_programmable addr n _ (
    frame_word _ _,
    (λ v. keeps_then (runs (return 0) (addr + 4 * n) n n 0) _ (keeps_runs _ tt _ n n 0)
        (λ v. (frame_word _ _, (λ v. keeps_then (rramc_wait polls) _ (keeps_wait _ polls) (λ v. (frame_word _ _, (λ v. tt), (λ e. tt)))), (λ e. tt)))),
    (λ e. tt),
  )

  -- call 14, where what it takes from the buffer keeps it
  module _ (loads : (at n : ℕ) (m : Memory) → Q m → Q (changed (C.LoadWords at n) m))
      (patches : (at first count v : ℕ) (m : Memory) → Q m → Q (changed (C.Patch at first count v) m)) where
    keeps_turn : (a at left : ℕ) → Keeps (turn false a at left)
    keeps_turn a at left = keeps_cond (whole a left) _ _
        (loads at _, keeps_just _ (frame_words a _ _))
        (frame_read _, (λ v. (patches at _ _ v, keeps_just _ (frame_words _ 1 0))), (λ e. tt))

    keeps_turns : (fuel stop len left : ℕ) → Keeps (turns fuel false stop len left)
    unfolding turns
    keeps_turns zero stop len left = tt
    keeps_turns (suc fuel) stop len left =
        keeps_cond (eqb left 0) (return 0) _ tt
        (keeps_then (turn false (stop - left) (len - left) left) _ (keeps_turn (stop - left) (len - left) left) (λ v. keeps_turns fuel stop len _))

    keeps_write_mem : (addr n bytes : ℕ) → Keeps (memory_job (M.WriteMem addr) n bytes)
    unfolding memory_job
    keeps_write_mem addr n bytes =
        keeps_cond (leb 0x100000000 (addr + bytes)) (J.fail F.Range) _ tt (keeps_turns bytes (addr + bytes) bytes bytes)

-- the words of calls 12, 32 and 35
module _ (words : List ℕ) where
  abbrev Same : Memory → Type 0
  Same m = m.words ≡ words

  known : (m : Memory) (r : Remembered) → Same m → Same (remembering m r)
  known m r q = q

  pub write_words_shares : (addr : ℕ) (r : Remembered) (room buf : List ℕ) → Everywhere Same (call_tree (E.Memory (M.WriteWords addr)) r room words buf)
  write_words_shares addr r room buf = keeps_exec Same known _ (keeps_write_words Same known addr (length words) (length buf)) _ refl

  pub nrf52_program_shares : (addr polls : ℕ) (r : Remembered) (room buf : List ℕ) → Everywhere Same (call_tree (E.Nrf (N.Nrf52Program addr polls)) r room words buf)
  nrf52_program_shares addr polls r room buf = keeps_exec Same known _ (keeps_nrf52_program Same known addr polls (length words)) _ refl

  pub nrf54_program_shares : (addr polls : ℕ) (r : Remembered) (room buf : List ℕ) → Everywhere Same (call_tree (E.Nrf (N.Nrf54Program addr polls)) r room words buf)
  nrf54_program_shares addr polls r room buf = keeps_exec Same known _ (keeps_nrf54_program Same known addr polls (length words)) _ refl

-- the buffer of call 14
module _ (buf : List ℕ) where
  abbrev SameBuf : Memory → Type 0
  SameBuf m = m.buf ≡ buf

  known_buf : (m : Memory) (r : Remembered) → SameBuf m → SameBuf (remembering m r)
  known_buf m r q = q

  pub write_mem_shares : (addr : ℕ) (r : Remembered) (room words : List ℕ) → Everywhere SameBuf (call_tree (E.Memory (M.WriteMem addr)) r room words buf)
  write_mem_shares addr r room words = keeps_exec SameBuf known_buf _
      (keeps_write_mem SameBuf known_buf (λ at n m q. q) (λ at first count v m q. q) addr (length words) (length buf)) _ refl
