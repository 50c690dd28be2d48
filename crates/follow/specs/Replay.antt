-- The whole text that a replay prints for the whole text of a capture.
use Rattle.std.specs.Prelude.{ℕ, cond, List, [], ◌∷◌, ◌++◌, eqb}
use Rattle.capture.specs.Capture.{event_of}
use Rattle.printed.specs.Printed.{LF, slots_line}
use Rattle.telling.specs.Telling.{start_with, Telling, tell_of}
use Rattle.telling.specs.declared.Run.{Run}

-- "Lines end with LF; the last may lack it."
abbrev pub join_first : ℕ → List (List ℕ) → List (List ℕ)
join_first b [] = (b ∷ []) ∷ []
join_first b (l ∷ ls) = (b ∷ l) ∷ ls

unfoldable pub lines : List ℕ → List (List ℕ)
lines [] = []
lines (b ∷ s) = cond (eqb b LF) ([] ∷ lines s) (join_first b (lines s))

-- what the lines print, one behind the other, and the run after them
unfoldable pub tell_all : Run → List (List ℕ) → Telling
tell_all r [] = record { text = []; run = r }
tell_all r (l ∷ ls) =
    let t = tell_of r (event_of l) in
    let u = tell_all t.run ls in
    record { text = t.text ++ u.text; run = u.run }

-- "last comes `slots` and the number run"
unfoldable pub replay_with : Run → List ℕ → List ℕ
replay_with r input = let t = tell_all r (lines input) in t.text ++ slots_line t.run.slots

-- from the session program's start (73 is its start-up letter, I)
abbrev pub replay_of : List ℕ → List ℕ
replay_of input = replay_with (start_with 73).run input
