-- How call 3 goes over a target of the model while the line delivers: ten transport calls, and then polls until no read of
-- CTRL/STAT is owed. Serves the proofs only: the polls are one induction, over the polls left and the reads owed. `connects` and
-- `times_out` say it for every d.
use Rattle.std.specs.Prelude.{ℕ, zero, suc, ◌+◌, ◌-◌, ◌≤◌, ◌<◌, Bool, true, false, ◌||◌, ◌&&◌, cond, List, [], ◌≡◌, refl, eqb, Ok, Err}
use Rattle.std.proofs.Common.{sym, ap, subst, ◌∙◌, arith, le_of_suc-le-suc, not-suc-le-zero, ne_eqb}
use Rattle.wire.specs.Laws.Numbers.{less}
use Rattle.wire.specs.Wire.{Wire, Memory, memory_of, ask, play, Ending, ended}
use Rattle.wire_transfer.specs.Transfer.{transfer, tries, raw}
use Rattle.wire.specs.declared.Call.{Call}
use Rattle.wire.specs.declared.Call.TheVariants as T
use Rattle.wire.specs.Outcomes.{Answer}
use Rattle.wire.specs.declared.Remembered.{Remembered}
use Rattle.wire.specs.declared.ArmError.TheVariants as E
use Rattle.wire_memap.specs.Ops.{perform}
use Rattle.call.specs.declared.Change.TheVariants as C
use Rattle.call.specs.Job.{exec, attempt, or_fail, return, fail}
use Rattle.call_connect.specs.Connect.{connect_job, set_up, poll_acks, both_acks, no_target_of}
use Rattle.call_connect.specs.declared.ConnectCall.TheVariants as K
use Rattle.target.specs.DebugPort.{powered, ctrl_stat}
use Rattle.target.specs.Deliver.{fault, answer_of, reach, transfer as arrives}
use Rattle.target.specs.Fields.{with_select, with_sticky}
use Rattle.target.specs.Line.{Heard, heard, line}
use Rattle.target.specs.declared.Register.TheVariants.{Dp}
use Rattle.target.specs.declared.DpRegister.TheVariants as D
use Rattle.target.specs.declared.Target.{Target}
use Rattle.target.specs.declared.Act.TheVariants.{Deliver}
use Rattle.target_line.specs.Talk.{talk}
use Rattle.engine_calls.specs.Calls.{zero_room}
use Rattle.test_cases.specs.Laws.Given.{Ends, connecting, Ready}

-- how the tree w ends over the target t under the budget n
record Over (w : Wire) (n : ℕ) (t : Target) (mem : List ℕ) (e : Ending) (count : ℕ) : Type 0 where
  ends : Ends (play w (talk w n [] t mem).answers) e count

-- one transport call, of which x comes
ends_ask : (m : Memory) (c : Call) (f : Answer → Wire) (n : ℕ) (t : Target) (mem : List ℕ) (e : Ending) (k : ℕ) (x : Heard) → line t mem c Deliver ≡ x
    → Over (f x.answer) n x.target x.mem e k → Over (ask m c f) (suc n) t mem e (suc k)
unfolding play talk
ends_ask m c f n t mem e k x h y =
    let z = subst (λ (x : Heard). Over (f x.answer) n x.target x.mem e k) (sym h) y in
    record { ends = record { ending = z.ends.ending; calls = ap suc z.ends.calls } }

-- the target once power-up was asked for, with n reads of CTRL/STAT owed
abbrev asked : Target → ℕ → Target
asked t n =
    record {
      dpidr = t.dpidr;
      d = t.d;
      width = t.width;
      base = t.base;
      select = 0;
      cdbgpwrupreq = true;
      csyspwrupreq = true;
      owed = n;
      sticky =
          false;
      rdbuff = t.rdbuff;
      csw = t.csw;
      tar = t.tar;
    }

-- a connect that has at most k polls left, and what follows a poll
abbrev polling : ℕ → ℕ → Memory → Wire
polling k v m = exec (attempt (poll_acks k) (or_fail (λ (_ : ℕ). return v))) m

abbrev polled : Bool → ℕ → ℕ → Memory → Wire
polled acks k v m = exec (attempt (cond acks (return 0) (poll_acks k)) (or_fail (λ (_ : ℕ). return v))) m

no_acks : (t : Target) (n : ℕ) → both_acks (ctrl_stat (asked t (suc n))) ≡ false
no_acks t n = ap (λ (b : Bool). both_acks (0x10000000 + 0x40000000 + cond b 0xA0000000 0 + 0)) (ne_eqb (suc n) 0 (λ h. omega arith))

-- a poll that shows no acks yet
ends_poll : (k n v b : ℕ) (m : Memory) (t : Target) (mem : List ℕ) (e : Ending) (count : ℕ)
    → Over (polling k v m) b (asked t n) mem e count → Over (polling (suc k) v m) (suc b) (asked t (suc n)) mem e (suc count)
unfolding poll_acks exec perform transfer tries arrives
ends_poll k n v b m t mem e count h =
    ends_ask m _ _ b (asked t (suc n)) mem e count _ refl
    (subst (λ (z : Bool). Over (polled z k v m) b (asked t (suc n - 1)) mem e count) (sym (no_acks t n))
    (subst (λ (j : ℕ). Over (polling k v m) b (asked t j) mem e count) (less n) h))

-- fewer reads owed than polls: the acks come in time
polls_end : (k n v b : ℕ) (m : Memory) (t : Target) (mem : List ℕ) → n < k → n < b
    → Over (polling k v m) b (asked t n) mem (ended (Ok v)) (suc n)
unfolding poll_acks exec perform transfer tries arrives play talk
polls_end zero n v b m t mem h g = absurd (not-suc-le-zero h)
polls_end (suc k) n v zero m t mem h g = absurd (not-suc-le-zero g)
polls_end (suc k) zero v (suc b) m t mem h g =
    ends_ask m _ _ b (asked t 0) mem (ended (Ok v)) 0 _ refl (record { ends = record { ending = refl; calls = refl } })
polls_end (suc k) (suc n) v (suc b) m t mem h g =
    ends_poll k n v b m t mem (ended (Ok v)) (suc n) (polls_end k n v b m t mem (le_of_suc-le-suc h) (le_of_suc-le-suc g))

-- as many owed as polls, or more
polls_fail : (k n v b : ℕ) (m : Memory) (t : Target) (mem : List ℕ) → k ≤ n → k ≤ b
    → Over (polling k v m) b (asked t n) mem (ended (Err E.PowerUpTimeout)) k
unfolding poll_acks exec play talk
polls_fail zero n v b m t mem h g = record { ends = record { ending = refl; calls = refl } }
polls_fail (suc k) zero v b m t mem h g = absurd (not-suc-le-zero h)
polls_fail (suc k) (suc n) v zero m t mem h g = absurd (not-suc-le-zero g)
polls_fail (suc k) (suc n) v (suc b) m t mem h g =
    ends_poll k n v b m t mem (ended (Err E.PowerUpTimeout)) k (polls_fail k n v b m t mem (le_of_suc-le-suc h) (le_of_suc-le-suc g))

-- DPIDR is read and ABORT written although sticky is set, and this ABORT clears it
dpidr_read : (t : Target) (mem : List ℕ) → line t mem (T.Transfer 2 0) Deliver ≡ record { answer = Ok t.dpidr; target = t; mem = mem }
unfolding arrives
dpidr_read t mem = go t.sticky
  where
    go : (s : Bool) → heard (answer_of (cond (s && false) (record { reply = fault; target = t; mem = mem }) (reach (Dp D.DpidrRead) t mem 0)).reply)
        (cond (s && false) (record { reply = fault; target = t; mem = mem }) (reach (Dp D.DpidrRead) t mem 0))
        ≡ record { answer = Ok t.dpidr; target = t; mem = mem }
    go true = refl
    go false = refl

abort_written : (t : Target) (mem : List ℕ) → line t mem (T.Transfer 0 0x1E) Deliver ≡ record {
  answer = Ok 0;
  target = with_sticky t false;
  mem =
      mem;
}
unfolding arrives
abort_written t mem = go t.sticky
  where
    go : (s : Bool) → heard (answer_of (cond (s && false) (record { reply = fault; target = t; mem = mem }) (reach
        (Dp D.AbortWrite) t mem 0x1E)).reply)
        (cond (s && false) (record { reply = fault; target = t; mem = mem }) (reach (Dp D.AbortWrite) t mem 0x1E))
        ≡ record { answer = Ok 0; target = with_sticky t false; mem = mem }
    go true = refl
    go false = refl

-- power-up is asked for at DPBANKSEL 0
power_asked : (t : Target) (mem : List ℕ) → powered t ≡ false
    → line (with_select (with_sticky t false) 0) mem (T.Transfer 4 0x50000000) Deliver ≡ record { answer = Ok 0; target = asked t t.d; mem = mem }
unfolding arrives
power_asked t mem h = ap (λ (b : Bool). record { answer = Ok 0; target = asked t (cond b t.owed t.d); mem = mem }) h

-- what every connect does once DPIDR is good
set_up_ends : (v b : ℕ) (m : Memory) (t : Target) (mem : List ℕ) (e : Ending) (count : ℕ) → powered t ≡ false
    → ((m₂ : Memory) → Over (polling 1024 v m₂) b (asked t t.d) mem e count) → Over (exec (set_up C.New v) m) (suc (suc (suc b))) t mem e (suc (suc
    (suc count)))
unfolding exec perform transfer tries arrives
set_up_ends v b m t mem e count h k =
    ends_ask _ _ _ _ t mem e _ _ (abort_written t mem)
    (ends_ask _ _ _ _ (with_sticky t false) mem e _ _ refl
    (ends_ask _ _ _ _ (with_select (with_sticky t false) 0) mem e _ _ (power_asked t mem h) (k _)))

good_dpidr : (v : ℕ) → (v ≡ 0 → ⊥) → (v ≡ 0xFFFFFFFF → ⊥) → no_target_of v ≡ false
good_dpidr v h g = ap (λ (b : Bool). b || eqb v 0xFFFFFFFF) (ne_eqb v 0 h) ∙ ne_eqb v 0xFFFFFFFF g

abbrev accepting : Bool → ℕ → Memory → Wire
accepting none v m = exec (attempt (cond none (fail E.NoTarget) (return v)) (or_fail (set_up C.New))) m

connect_ends : (b : ℕ) (m : Memory) (t : Target) (mem : List ℕ) (e : Ending) (count : ℕ)
    → (t.dpidr ≡ 0 → ⊥) → (t.dpidr ≡ 0xFFFFFFFF → ⊥) → powered t ≡ false
    → ((m₂ : Memory) → Over (polling 1024 t.dpidr m₂) b (asked t t.d) mem e count)
    → Over (exec (connect_job K.ConnectSwd) m) (suc (suc (suc (suc (suc (suc (suc (suc (suc (suc b)))))))))) t mem e (suc (suc (suc (suc (suc (suc (suc
    (suc (suc (suc count))))))))))
unfolding connect_job exec perform raw transfer tries
connect_ends b m t mem e count h g p k =
    ends_ask _ _ _ _ t mem e _ _ refl (ends_ask _ _ _ _ t mem e _ _ refl (ends_ask _ _ _ _ t mem e _ _ refl (ends_ask _ _ _ _ t mem e _ _ refl
    (ends_ask _ _ _ _ t mem e _ _ refl (ends_ask _ _ _ _ t mem e _ _ refl (ends_ask _ _ _ _ t mem e _ _ (dpidr_read t mem)
    (subst (λ (z : Bool). Over (accepting z t.dpidr m) (suc (suc (suc b))) t mem e (suc (suc (suc count)))) (sym (good_dpidr t.dpidr h g))
    (set_up_ends t.dpidr b m t mem e count p k))))))))

-- under a budget
call_ends : (budget : ℕ) (m : Memory) (t : Target) (mem : List ℕ) (e : Ending) (count : ℕ) → Ready t → 10 ≤ budget
    → ((m₂ : Memory) → Over (polling 1024 t.dpidr m₂) (budget - 10) (asked t t.d) mem e count)
    → Over (exec (connect_job K.ConnectSwd) m) budget t mem e (10 + count)
call_ends budget m t mem e count h le k =
    let n : suc (suc (suc (suc (suc (suc (suc (suc (suc (suc (budget - 10)))))))))) ≡ budget = omega arith in
    let c : suc (suc (suc (suc (suc (suc (suc (suc (suc (suc count))))))))) ≡ 10 + count = omega arith in
    let x = (connect_ends (budget - 10) m t mem e count h.some h.driven h.clear k).ends in
    subst (λ (n : ℕ). Over (exec (connect_job K.ConnectSwd) m) n t mem e (10 + count)) n
    (record { ends = record { ending = x.ending; calls = x.calls ∙ c } })

module _ (r : Remembered) (words buf : List ℕ) (budget : ℕ) (t : Target) (mem : List ℕ) (h : Ready t) where
  -- d below 1024: connected, after ten transport calls and d + 1 polls
  pub connects : t.d < 1024 → 11 + t.d ≤ budget → Ends (connecting r words buf budget t mem) (ended (Ok t.dpidr)) (11 + t.d)
  connects lt le =
      let x = (call_ends budget (memory_of r zero_room buf) t mem (ended (Ok t.dpidr)) (suc t.d) h (omega arith)
      (λ m. polls_end 1024 t.d t.dpidr (budget - 10) m t mem lt (omega arith))).ends in
      record { ending = x.ending; calls = omega (arith, x.calls) }

  -- d at least 1024: PowerUpTimeout, after ten transport calls and 1024 polls
  pub times_out : 1024 ≤ t.d → 1034 ≤ budget → Ends (connecting r words buf budget t mem) (ended (Err E.PowerUpTimeout)) 1034
  times_out lt le =
      (call_ends budget (memory_of r zero_room buf) t mem (ended (Err E.PowerUpTimeout)) 1024 h (omega arith)
      (λ m. polls_fail 1024 t.d t.dpidr (budget - 10) m t mem lt (omega arith))).ends
