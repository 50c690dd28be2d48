-- The same on both ports: a line is told by the run of the port that it names.
use Rattle.std.specs.Prelude.{ℕ, Bool, List, [], ◌∷◌, ◌++◌}
use Rattle.printed.specs.Printed.{slots_line}
use Rattle.runs.specs.Runs.{event_at, TellingAt, tell_at}
use Rattle.runs.specs.declared.Runs.{Runs}
use Rattle.follow.specs.Replay.{lines}

-- what the lines print, one behind the other, and the runs after them; whether a line may name a port
unfoldable pub tell_both : Bool → Runs → List (List ℕ) → TellingAt
tell_both ports r [] = record { text = []; runs = r }
tell_both ports r (l ∷ ls) =
    let t = tell_at r (event_at ports l) in
    let u = tell_both ports t.runs ls in
    record { text = t.text ++ u.text; runs = u.runs }

-- last the slots run, of both ports
unfoldable pub replay_both : Bool → Runs → List ℕ → List ℕ
replay_both ports r input = let t = tell_both ports r (lines input) in t.text ++ slots_line t.runs.slots
