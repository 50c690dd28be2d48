-- A driver that keeps its collector in place: it collects each received byte there, and where a line ended it hands that line to the port with
-- that byte. That is what receive does, so all that is proved of its calls holds of such a driver. Statements only.
use Rattle.std.specs.Prelude.{ℕ, true, false, cond, List, [], ◌∷◌, ◌++◌, ◌≡◌, Err, Ok}
use Rattle.refusal.specs.declared.Refusal.TheVariants as refusal
use Rattle.fixed.specs.declared.Settings.{Settings}
use Rattle.units.specs.declared.Measurement.{Measurement}
use Rattle.line.specs.declared.Line.{Line}
use Rattle.collector.specs.Collect.{line_after, collected}
use Rattle.port.specs.declared.Port.{Port}
use Rattle.port.specs.Port.{valid_port, receive_of, start_of}
use Rattle.walk.specs.Calls.{Call, receive, slots_once, measure, fill, turn, Held, after, bytes, after_all, bytes_all, begun}

-- the port is called only where a line ended
abbrev pub port_in_place : Port → Line → ℕ → Port
port_in_place p l b = cond (collected l b).ended (receive_of p (collected l b).line b).port p

-- a call of such a driver's
abbrev pub in_place : Held → Call → Held
in_place h (receive b) = record { port = port_in_place h.port h.line b; line = line_after h.line b }
in_place h slots_once = after h slots_once
in_place h (measure m) = after h (measure m)
in_place h (fill n) = after h (fill n)
in_place h (turn t) = after h (turn t)

-- and a list of them: the state after them, and their bytes, end to end
unfoldable pub all_in_place : Held → List Call → Held
all_in_place h [] = h
all_in_place h (c ∷ cs) = all_in_place (in_place h c) cs

unfoldable pub bytes_in_place : Held → List Call → List ℕ
bytes_in_place h [] = []
bytes_in_place h (c ∷ cs) = bytes h c ++ bytes_in_place (in_place h c) cs

pub record InPlace : Type 0 where
  -- the collector is the line that receive hands back
  pub line : (p : Port) (l : Line) (b : ℕ) → valid_port p ≡ true → (receive_of p l b).line ≡ line_after l b
  -- a line that ended is answered as receive answers its last byte
  pub ended : (p : Port) (l : Line) (b : ℕ) → (collected l b).ended ≡ true → receive_of p (collected l b).line b ≡ receive_of p l b
  -- a byte that joined leaves the port alone
  pub joined : (p : Port) (l : Line) (b : ℕ) → valid_port p ≡ true → (collected l b).ended ≡ false → (collected l b).number ≡ 0 →
      ((receive_of p l b).verdict ≡ Ok tt) × ((receive_of p l b).port ≡ p)
  -- a count past the buffer is answered 16 by both
  pub refused : (p : Port) (l : Line) (b : ℕ) → (collected l b).number ≡ 16 → ((receive_of p l b).verdict ≡ Err refusal.State) × ((receive_of p l b).port ≡ p)
  -- from an accepted start, over every sequence of calls: the states and the bytes of the calls of receive, of which demand 3 is proved
  pub states : (old : Port) (l : Line) (s : Settings) (m : Measurement) (cs : List Call) → (start_of old l s m).verdict ≡ Ok tt →
      all_in_place (begun old l s m) cs ≡ after_all (begun old l s m) cs
  pub sends : (old : Port) (l : Line) (s : Settings) (m : Measurement) (cs : List Call) → (start_of old l s m).verdict ≡ Ok tt →
      bytes_in_place (begun old l s m) cs ≡ bytes_all (begun old l s m) cs
