-- Where the ignored ABORT stands in a tree: right after a transfer that failed other than by WAIT, and nowhere else. So what the
-- session sees as lost is what the trace alone shows as lost. Serves the proofs only.
use Prim.Native.Nat.{ℕ, zero, suc, ◌+◌, ◌-◌}
use Rattle.std.specs.Prelude.{Bool, not, ◌&&◌, ◌||◌, cond, List, [], ◌∷◌, ◌≡◌, refl, eqb, Ok, Err}
use Rattle.std.proofs.Math.Bool.{true, false}
use Rattle.std.proofs.Common.{ap}
use Rattle.wire.specs.Wire.{Wire, Memory, done, ask, tell, play}
use Rattle.wire_transfer.specs.Transfer.{tries, transfer, after_answer, after_ack, raw}
use Rattle.wire.specs.declared.Call.{Call}
use Rattle.wire.specs.declared.Call.TheVariants as C
use Rattle.wire.specs.Outcomes.{Answer}
use Rattle.wire.specs.declared.DapError.TheVariants.{SwdError, NotSupported, Other}
use Rattle.wire.specs.Outcomes.{Outcome}
use Rattle.wire.specs.declared.Remembered.{Remembered}
use Rattle.wire_memap.specs.Action.{Then, Action, ◌>>=◌, ◌>>◌, return, transferring, remember, on_value}
use Rattle.wire_memap.specs.Ports.{
  SELECT,
  RDBUFF,
  CSW,
  TAR,
  DRW,
  CSW_DEFAULT,
  a32,
  dp_read,
  dp_write,
  select_of,
  selected,
  select_ap_bank,
  ap_access,
  ap_write,
  ap_read,
  csw_known,
  ensure_csw,
}
use Rattle.wire_memap.specs.Words.{flush, place, pull, push, push_all, row_at}
use Rattle.wire_memap.specs.Ops.{perform}
use Rattle.wire_memap.specs.declared.Op.{Op}
use Rattle.wire_memap.specs.declared.Op.TheVariants as O
use Rattle.session_phase.specs.Phase.{loss}
use Rattle.session_calls.specs.Session.{lost_in}
use Rattle.agreement.specs.Demand3.{is_transfer, aborts, loss_among}

-- `due`: the next transport call is an ignored ABORT
unfoldable pub Shaped : Bool → Wire → Type 0
Shaped true (done m o) = ⊥
Shaped true (ask m c f) = ⊥
Shaped true (tell m c w) = Shaped false w
Shaped false (done m o) = Unit {0}
Shaped false (ask m c f) = (a : Answer) → Shaped (is_transfer c && aborts a) (f a)
Shaped false (tell m c w) = ⊥

-- a loss on the tree is one on the trace
pub lost_among : (w : Wire) (due : Bool) (answers : List Answer) → Shaped due w → lost_in w answers ≡ loss_among due (play w answers).calls answers
unfolding Shaped lost_in loss_among play
lost_among (done m o) true answers h = refl
lost_among (done m o) false answers h = refl
lost_among (ask m c f) true answers h = absurd h
lost_among (ask m c f) false [] h = refl
lost_among (ask m c f) false (a ∷ rest) h = ap (λ (b : Bool). loss a || b) (lost_among (f a) (is_transfer c && aborts a) rest (h a))
lost_among (tell m c w) true [] h = refl
lost_among (tell m c w) true (a ∷ rest) h = lost_among w false rest h
lost_among (tell m c w) false answers h = absurd h

abbrev pub Goes : Then → Type 0
Goes k = (m : Memory) (o : Outcome) → Shaped false (k m o)

-- an action after which all goes on in this shape
abbrev pub Fine : Action → Type 0
Fine p = (k : Then) → Goes k → (m : Memory) → Shaped false (p k m)

return_fine : (v : ℕ) → Fine (return v)
return_fine v k g m = g m (Ok v)

value_goes : (f : ℕ → Action) (k : Then) → ((v : ℕ) → Fine (f v)) → Goes k → Goes (on_value f k)
value_goes f k h g m (Ok v) = h v k g m
value_goes f k h g m (Err e) = g m (Err e)

bind_fine : (p : Action) (f : ℕ → Action) → Fine p → ((v : ℕ) → Fine (f v)) → Fine (p >>= f)
bind_fine p f h i k g m = h (on_value f k) (value_goes f k i g) m

then_fine : (p q : Action) → Fine p → Fine q → Fine (p >> q)
then_fine p q h i = bind_fine p (λ (_ : ℕ). q) h (λ _. i)

cond_fine : (b : Bool) (p q : Action) → Fine p → Fine q → Fine (cond b p q)
cond_fine true p q h i = h
cond_fine false p q h i = i

remember_fine : (f : Remembered → Remembered) → Fine (remember f)
remember_fine f k g m = g _ (Ok 0)

place_fine : (i v : ℕ) → Fine (place i v)
place_fine i v k g m = g _ (Ok 0)

module _ (m : Memory) (k : Outcome → Wire) (g : (o : Outcome) → Shaped false (k o)) where
  ack_shaped : (b : Bool) (again : Wire) (ack : ℕ) → Shaped false again → Shaped (not b) (after_ack b m again k ack)
  unfolding Shaped
  ack_shaped true again ack h = h
  ack_shaped false again ack h = g _

  answer_shaped : (again : Wire) (a : Answer) → Shaped false again → Shaped (aborts a) (after_answer m again k a)
  unfolding Shaped
  answer_shaped again (Ok v) h = g (Ok v)
  answer_shaped again (Err (SwdError ack)) h = ack_shaped (eqb ack 2) again ack h
  answer_shaped again (Err NotSupported) h = g _
  answer_shaped again (Err Other) h = g _

  tries_shaped : (n request word : ℕ) → Shaped false (tries n m (C.Transfer request word) k)
  unfolding Shaped tries
  tries_shaped zero request word = g _
  tries_shaped (suc n) request word = λ a. answer_shaped (tries n m (C.Transfer request word) k) a (tries_shaped n request word)

transferring_fine : (request word : ℕ) → Fine (transferring request word)
unfolding transfer
transferring_fine request word k g m = tries_shaped m (k m) (g m) 65 request word

raw_fine : (c : Call) → is_transfer c ≡ false → Fine (λ k m. raw m c (k m))
unfolding Shaped raw
raw_fine c h k g m = λ a. rw h (g m _)

dp_read_fine : (addr : ℕ) → Fine (dp_read addr)
dp_read_fine addr = transferring_fine (2 + a32 addr) 0

dp_write_fine : (addr word : ℕ) → Fine (dp_write addr word)
dp_write_fine addr word = then_fine (transferring (a32 addr) word) (return 0) (transferring_fine (a32 addr) word) (return_fine 0)

select_fine : (addr : ℕ) → Fine (select_ap_bank addr)
select_fine addr k g m =
    cond_fine (eqb wanted m.remembered.select) (return 0) (dp_write SELECT wanted >> remember (selected wanted)) (return_fine 0)
    (then_fine (dp_write SELECT wanted) (remember (selected wanted)) (dp_write_fine SELECT wanted) (remember_fine (selected wanted))) k g m
  where
    wanted : ℕ
    wanted = select_of m.remembered addr

access_fine : (request addr word : ℕ) → Fine (ap_access request addr word)
access_fine request addr word =
    then_fine (select_ap_bank addr) (transferring request word) (select_fine addr) (transferring_fine request word)

write_fine : (addr word : ℕ) → Fine (ap_write addr word)
write_fine addr word = then_fine (ap_access (1 + a32 addr) addr word) (return 0) (access_fine (1 + a32 addr) addr word) (return_fine 0)

read_fine : (addr : ℕ) → Fine (ap_read addr)
read_fine addr = then_fine (ap_access (3 + a32 addr) addr 0) (dp_read RDBUFF) (access_fine (3 + a32 addr) addr 0) (dp_read_fine RDBUFF)

csw_fine : (wanted : ℕ) → Fine (ensure_csw wanted)
csw_fine wanted k g m =
    cond_fine m.remembered.csw (return 0) (ap_write CSW wanted >> remember csw_known) (return_fine 0)
    (then_fine (ap_write CSW wanted) (remember csw_known) (write_fine CSW wanted) (remember_fine csw_known)) k g m

flush_fine : Fine flush
flush_fine = then_fine (dp_read RDBUFF) (return 0) (dp_read_fine RDBUFF) (return_fine 0)

pull_fine : (last more : ℕ) → Fine (pull last more)
unfolding pull
pull_fine last zero = bind_fine (dp_read RDBUFF) (place last) (dp_read_fine RDBUFF) (place_fine last)
pull_fine last (suc more) =
    bind_fine (transferring 0xF 0) (λ v. place (last - suc more) v >> pull last more) (transferring_fine 0xF 0)
    (λ v. then_fine (place (last - suc more) v) (pull last more) (place_fine (last - suc more) v) (pull_fine last more))

push_fine : (last more : ℕ) → Fine (push last more)
unfolding push
push_fine last zero = flush_fine
push_fine last (suc more) =
    λ k g m. then_fine (transferring 0xD (row_at (last - more) m)) (push last more) (transferring_fine 0xD (row_at (last - more) m))
    (push_fine last more) k g m

-- behind CSW and TAR
behind : (addr : ℕ) (p : Action) → Fine p → Fine (ensure_csw CSW_DEFAULT >> (ap_write TAR addr >> p))
behind addr p h = then_fine (ensure_csw CSW_DEFAULT) (ap_write TAR addr >> p) (csw_fine CSW_DEFAULT) (then_fine (ap_write TAR addr) p
    (write_fine TAR addr) h)

-- an operation whose raw call is no transfer
abbrev pub NoRaw : Op → Type 0
NoRaw (O.DpRead addr) = Unit {0}
NoRaw (O.DpWrite addr word) = Unit {0}
NoRaw (O.ApRead addr) = Unit {0}
NoRaw (O.ApWrite addr word) = Unit {0}
NoRaw (O.ReadWord addr) = Unit {0}
NoRaw (O.WriteWord addr word) = Unit {0}
NoRaw (O.ReadWords addr n last) = Unit {0}
NoRaw (O.WriteWords addr n last) = Unit {0}
NoRaw (O.Other c) = is_transfer c ≡ false

pub op_fine : (w : Op) → NoRaw w → Fine (perform w)
unfolding perform
op_fine (O.DpRead addr) h = dp_read_fine addr
op_fine (O.DpWrite addr word) h = dp_write_fine addr word
op_fine (O.ApRead addr) h = read_fine addr
op_fine (O.ApWrite addr word) h = write_fine addr word
op_fine (O.ReadWord addr) h = behind addr (ap_read DRW) (read_fine DRW)
op_fine (O.WriteWord addr word) h = behind addr (ap_write DRW word >> flush) (then_fine (ap_write DRW word) flush (write_fine DRW word) flush_fine)
op_fine (O.ReadWords addr n last) h =
    behind addr (cond (eqb n 0) (return 0) (ap_access 0xF DRW 0 >> pull last (n - 1)))
    (cond_fine (eqb n 0) (return 0) (ap_access 0xF DRW 0 >> pull last (n - 1)) (return_fine 0)
    (then_fine (ap_access 0xF DRW 0) (pull last (n - 1)) (access_fine 0xF DRW 0) (pull_fine last (n - 1))))
op_fine (O.WriteWords addr n last) h = behind addr (push_all last n) first
  where
    first : Fine (push_all last n)
    first k g m =
        then_fine (ap_access 0xD DRW (row_at (last - (n - 1)) m)) (push last (n - 1)) (access_fine 0xD DRW (row_at (last - (n - 1)) m)) (push_fine last
        (n - 1)) k g m
op_fine (O.Other c) h = raw_fine c h
