-- "slots run until it is full or one is idle, and the number of bytes written comes back equal to the sending slots run; bytes past it stay."
use Rattle.std.specs.Prelude.{ℕ, zero, suc, ◌+◌, ◌≤◌, ◌<◌, true, cond, List, [], ◌∷◌, ◌++◌, ◌≡◌, length, Option, None, Some, Ok, Err}
use Rattle.laws.specs.Over.{over}
use Rattle.refusal.specs.Answer.{Answer}
use Rattle.refusal.specs.declared.Refusal.TheVariants as refusal
use Rattle.port.specs.declared.Port.{Port}
use Rattle.port.specs.Port.{valid_port, slot_of}
use Rattle.fill.specs.declared.Onward.{Onward}
use Rattle.fill.specs.declared.Filled.{Filled}

-- what a run of slots sends, and the port after it
pub record SlotRun : Type 0 where
  pub port : Port
  pub bytes : List ℕ

-- a byte goes before what is sent after it; a slot that sends nothing ends the run
abbrev pub then_run : Answer (Option ℕ) → Port → SlotRun → SlotRun
then_run (Ok (Some b)) q r = record { port = r.port; bytes = b ∷ r.bytes }
then_run (Ok None) q r = record { port = q; bytes = [] }
then_run (Err x) q r = record { port = q; bytes = [] }

-- at most n slots
unfoldable pub run_of : ℕ → Port → SlotRun
run_of zero p = record { port = p; bytes = [] }
run_of (suc n) p = then_run (slot_of p).sent (slot_of p).port (run_of n (slot_of p).port)

-- bytes before what a run sends
abbrev pub ahead : List ℕ → SlotRun → SlotRun
ahead xs r = record { port = r.port; bytes = xs ++ r.bytes }

-- n slots from p send these bytes, one each, and leave q: so a run from p is these, and then a run from q
pub record Sends (p : Port) (n : ℕ) (xs : List ℕ) (q : Port) : Type 0 where
  pub long : length xs ≡ n
  pub valid : valid_port q ≡ true
  pub run : (m : ℕ) → run_of (n + m) p ≡ ahead xs (run_of m q)

-- slots from p, as many as r counts, have written what they send from a place on
pub record Goes (p : Port) (out : List ℕ) (from : ℕ) (r : Onward) (after : List ℕ) : Type 0 where
  pub sent : List ℕ
  pub sends : Sends p r.count sent r.port
  pub fits : from + r.count ≤ length out
  pub leaves : after ≡ over out from sent
  -- where there is room left, the message has ended
  pub ended : from + r.count < length out → r.port.message.at ≡ r.port.message.len

-- 16 before all; the count is the sending slots of the run
unfoldable pub fill_of : Port → ℕ → Filled
fill_of p n =
    cond (valid_port p)
    (record { verdict = Ok tt; count = length (run_of n p).bytes; port = (run_of n p).port })
    (record { verdict = Err refusal.State; count = 0; port = p })

unfoldable pub fill_leaves : Port → List ℕ → List ℕ
fill_leaves p out = cond (valid_port p) (over out 0 (run_of (length out) p).bytes) out
