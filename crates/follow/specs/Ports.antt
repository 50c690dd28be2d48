-- What a replay promises with `ports`: the whole text that it prints is that of the runs of both ports, line by line, however the pieces fall; without
-- port numbers it is the same as without `ports`. What a line prints and leaves is crate runs' `OfPorts` and `OfBoth`. Statements only.
use Rattle.std.specs.Prelude.{ℕ, ◌≤◌, Bool, true, false, List, [], ◌∷◌, ◌++◌, ◌≡◌, Ok}
use Rattle.refusal.specs.declared.Refusal.TheVariants as refusal
use Rattle.connectors.specs.declared.Side.TheVariants.{Camera}
use Rattle.capture.specs.declared.Event.TheVariants.{Other}
use Rattle.printed.specs.Printed.{refused_text, slots_line}
use Rattle.telling.specs.Telling.{start_with}
use Rattle.runs.specs.Promises.{Unnumbered}
use Rattle.runs.specs.Runs.{event_at, run_at, start_runs, are_over, tell_at}
use Rattle.runs.specs.declared.Runs.{Runs}
use Rattle.follow.specs.Replay.{lines, replay_with}
use Rattle.follow.specs.Both.{tell_both, replay_both}
use Rattle.follow.specs.Calls.{Replays}

-- no line begins with a port number and a space
abbrev pub AllUnnumbered : List (List ℕ) → Type 0
AllUnnumbered [] = Unit {0}
AllUnnumbered (l ∷ ls) = Unnumbered l × AllUnnumbered ls

pub record WithPorts : Type 0 where
  -- over any calls, the whole text out is the definition's for the whole text in; and there are such calls for every input
  pub replays : (letter : ℕ) (ports : Bool) (input text : List ℕ) → Replays letter ports input text → text ≡ replay_both ports (start_runs letter).runs input
  pub always : (letter : ℕ) (ports : Bool) (input : List ℕ) → (start_runs letter).verdict ≡ Ok tt →
      Replays letter ports input (replay_both ports (start_runs letter).runs input)
  -- line by line, each on the port that it names, and last the slots
  pub no_line : (ports : Bool) (r : Runs) → tell_both ports r [] ≡ record { text = []; runs = r }
  pub line : (ports : Bool) (r : Runs) (l : List ℕ) (ls : List (List ℕ)) →
      let t = tell_at r (event_at ports l) in
      tell_both ports r (l ∷ ls) ≡ record { text = t.text ++ (tell_both ports t.runs ls).text; runs = (tell_both ports t.runs ls).runs }
  pub last_line : (ports : Bool) (r : Runs) (input : List ℕ) →
      replay_both ports r input ≡ (tell_both ports r (lines input)).text ++ slots_line (tell_both ports r (lines input)).runs.slots
  -- "`replay` stays [3]'s to the letter (port 0)": without `ports` it is the replay of the run of the camera side
  pub without : (r : Runs) (input : List ℕ) → replay_both false r input ≡ replay_with (run_at r Camera) input
  -- a capture without a port number in any line prints the same with `ports` as without
  pub unnumbered : (r : Runs) (input : List ℕ) → AllUnnumbered (lines input) → replay_both true r input ≡ replay_both false r input
  pub same_text : (letter : ℕ) (input text : List ℕ) → AllUnnumbered (lines input) → Replays letter true input text → text ≡ replay_with (start_with letter).run input
  -- no more than 100,000 slots are run, on both ports together (that they are those of both: `number` in Box)
  pub at_most : (ports : Bool) (r : Runs) (ls : List (List ℕ)) → r.slots ≤ 100000 → (tell_both ports r ls).runs.slots ≤ 100000
  -- a line of other form, on either port, prints `refused 10` and ends the run of both; lines before it are told as ever, and lines behind it are not looked at
  pub other : (ports : Bool) (r : Runs) (before l : List (List ℕ)) (line : List ℕ) → (event_at ports line).event ≡ Other → are_over (tell_both ports r before).runs ≡ false →
      (tell_both ports r (before ++ line ∷ l)).text ≡ (tell_both ports r before).text ++ refused_text refusal.Form
  pub other_slots : (ports : Bool) (r : Runs) (before l : List (List ℕ)) (line : List ℕ) → (event_at ports line).event ≡ Other → are_over (tell_both ports r before).runs ≡ false →
      (tell_both ports r (before ++ line ∷ l)).runs.slots ≡ (tell_both ports r before).runs.slots
  -- after the run's end, by 10 or by its last slot, no line is looked at
  pub over : (ports : Bool) (r : Runs) (before l : List (List ℕ)) → are_over (tell_both ports r before).runs ≡ true → tell_both ports r (before ++ l) ≡ tell_both ports r before
  -- `S 4` and `1 S 4` print `3c 0a 0d --` each, and `slots 8`
  pub greetings : replay_both true (start_runs 73).runs (0x53 ∷ 0x20 ∷ 0x34 ∷ 0x0A ∷ 0x31 ∷ 0x20 ∷ 0x53 ∷ 0x20 ∷ 0x34 ∷ []) ≡
      0x33 ∷ 0x63 ∷ 0x20 ∷ 0x30 ∷ 0x61 ∷ 0x20 ∷ 0x30 ∷ 0x64 ∷ 0x20 ∷ 0x2D ∷ 0x2D ∷ 0x0A ∷
      0x33 ∷ 0x63 ∷ 0x20 ∷ 0x30 ∷ 0x61 ∷ 0x20 ∷ 0x30 ∷ 0x64 ∷ 0x20 ∷ 0x2D ∷ 0x2D ∷ 0x0A ∷
      0x73 ∷ 0x6C ∷ 0x6F ∷ 0x74 ∷ 0x73 ∷ 0x20 ∷ 0x38 ∷ 0x0A ∷ []
