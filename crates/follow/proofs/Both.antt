-- Lines on both ports. Lines behind lines are told from the runs that those leave, and runs that are over stay as they are: so the end is the end, and no
-- more slots are run than the last. Without port numbers the run of the camera side is told, and nothing else. Assumes nothing.
use Prim.Native.Nat.{ℕ, ◌≤◌}
use mathlib.Core.Bool.{Bool, true, false}
use mathlib.Core.List.{List, [], ◌∷◌, ◌++◌, append_assoc, append-nil}
use mathlib.Core.Path.{◌≡◌, refl, sym, ap, ◌∙◌}
use Rattle.refusal.specs.declared.Refusal.TheVariants.{Form}
use Rattle.connectors.specs.declared.Side.TheVariants.{Camera}
use Rattle.capture.specs.declared.Event.{Event}
use Rattle.capture.specs.declared.Event.TheVariants.{Other}
use Rattle.printed.specs.Printed.{refused_text, slots_line}
use Rattle.telling.specs.Telling.{Telling, tell_of}
use Rattle.telling.specs.declared.Run.{Run}
use Rattle.telling.proofs.Events.{few}
use Rattle.telling.proofs.Promises as telling
use Rattle.runs.specs.Runs.{event_at, run_at, with_run, are_over, TellingAt, tell_at}
use Rattle.runs.specs.declared.Addressed.{Addressed}
use Rattle.runs.specs.declared.Runs.{Runs}
use Rattle.runs.proofs.Promises.{of_both}
use Rattle.runs.proofs.Ports.{of_ports}
use Rattle.follow.specs.Replay.{lines, tell_all, replay_with}
use Rattle.follow.specs.Both.{tell_both, replay_both}
use Rattle.follow.specs.Ports.{AllUnnumbered}

abbrev pub ahead : List ℕ → TellingAt → TellingAt
ahead t u = record { text = t ++ u.text; runs = u.runs }

module _ (ports : Bool) where
  -- ---- lines behind lines

  tell_append : (r : Runs) (a b : List (List ℕ)) → tell_both ports r (a ++ b) ≡ ahead (tell_both ports r a).text (tell_both ports (tell_both ports r a).runs b)
  unfolding tell_both
  tell_append r [] b = refl
  tell_append r (l ∷ a) b =
      let t = tell_at r (event_at ports l) in
      ap (ahead t.text) (tell_append t.runs a b) ∙ rw append_assoc

  -- runs that are over
  over_stays : (r : Runs) (ls : List (List ℕ)) → are_over r ≡ true → tell_both ports r ls ≡ record { text = []; runs = r }
  unfolding tell_both
  over_stays r [] o = refl
  over_stays r (l ∷ ls) o =
      ap (λ (t : TellingAt). ahead t.text (tell_both ports t.runs ls)) (of_both.over r (event_at ports l) o) ∙ over_stays r ls o

  pub over : (r : Runs) (before l : List (List ℕ)) → are_over (tell_both ports r before).runs ≡ true → tell_both ports r (before ++ l) ≡ tell_both ports r before
  over r before l o =
      let t = tell_both ports r before in
      tell_append r before l ∙ ap (ahead t.text) (over_stays t.runs l o) ∙ rw (append-nil t.text)

  -- ---- a line of other form

  -- it ends the run of both ports
  other_one : (r : Runs) (x : Addressed) → x.event ≡ Other → are_over r ≡ false →
      ((tell_at r x).text ≡ refused_text Form) × ((tell_at r x).runs.slots ≡ r.slots) × (are_over (tell_at r x).runs ≡ true)
  unfolding tell_at
  other_one r x e o =
      let q = run_at r x.side in
      let t = (telling.promised).of_events.other q o in
      let after = ap (λ (y : Event). (tell_of q y).run) e ∙ t.1 in (
        ap (λ (y : Event). (tell_of q y).text) e ∙ t.0,
        ap (λ (z : Run). z.slots) after,
        ap (λ (z : Run). are_over (with_run r x.side z)) after,
      )

  module _ (r : Runs) (before l : List (List ℕ)) (line : List ℕ) (e : (event_at ports line).event ≡ Other) (o : are_over (tell_both ports r before).runs ≡ false) where
    abbrev t : TellingAt
    t = tell_both ports r before

    abbrev end : TellingAt
    end = tell_at t.runs (event_at ports line)

    other_ends : tell_both ports r (before ++ line ∷ l) ≡ record { text = t.text ++ end.text; runs = end.runs }
    unfolding tell_both
    other_ends =
        tell_append r before (line ∷ l)
        ∙ ap (λ (u : TellingAt). ahead t.text (ahead end.text u)) (over_stays end.runs l (other_one t.runs (event_at ports line) e o).2)
        ∙ rw (append-nil end.text)

    pub other : (tell_both ports r (before ++ line ∷ l)).text ≡ (tell_both ports r before).text ++ refused_text Form
    other = ap (λ (x : TellingAt). x.text) other_ends ∙ ap (λ (s : List ℕ). t.text ++ s) (other_one t.runs (event_at ports line) e o).0

    pub other_slots : (tell_both ports r (before ++ line ∷ l)).runs.slots ≡ (tell_both ports r before).runs.slots
    other_slots = ap (λ (x : TellingAt). x.runs.slots) other_ends ∙ (other_one t.runs (event_at ports line) e o).1

  -- ---- the slots

  few_at : (r : Runs) (x : Addressed) → r.slots ≤ 100000 → (tell_at r x).runs.slots ≤ 100000
  unfolding tell_at
  few_at r x h = few (run_at r x.side) x.event h

  pub at_most : (r : Runs) (ls : List (List ℕ)) → r.slots ≤ 100000 → (tell_both ports r ls).runs.slots ≤ 100000
  unfolding tell_both
  at_most r [] h = h
  at_most r (l ∷ ls) h = at_most (tell_at r (event_at ports l)).runs ls (few_at r (event_at ports l) h)

-- ---- without port numbers

-- the text and the run of the camera side are those of its lines
abbrev pub of_camera : TellingAt → Telling
of_camera t = record { text = t.text; run = run_at t.runs Camera }

pub camera_tells : (r : Runs) (ls : List (List ℕ)) → of_camera (tell_both false r ls) ≡ tell_all (run_at r Camera) ls
unfolding tell_both tell_all tell_at event_at
camera_tells r [] = refl
camera_tells r (l ∷ ls) =
    let t = tell_at r (event_at false l) in
    ap (λ (u : Telling). record { text = t.text ++ u.text; run = u.run }) (camera_tells t.runs ls)

pub without : (r : Runs) (input : List ℕ) → replay_both false r input ≡ replay_with (run_at r Camera) input
unfolding replay_both replay_with
without r input = ap (λ (t : Telling). t.text ++ slots_line t.run.slots) (camera_tells r (lines input))

-- a line that names no port is the same
same_lines : (r : Runs) (ls : List (List ℕ)) → AllUnnumbered ls → tell_both true r ls ≡ tell_both false r ls
unfolding tell_both
same_lines r [] h = refl
same_lines r (l ∷ ls) h =
    let e = of_ports.unnamed l h.0 ∙ sym (of_ports.without l) in
    let t = tell_at r (event_at false l) in
    ap (λ (x : Addressed). ahead (tell_at r x).text (tell_both true (tell_at r x).runs ls)) e ∙ ap (ahead t.text) (same_lines t.runs ls h.1)

pub unnumbered : (r : Runs) (input : List ℕ) → AllUnnumbered (lines input) → replay_both true r input ≡ replay_both false r input
unfolding replay_both
unnumbered r input h = ap (λ (t : TellingAt). t.text ++ slots_line t.runs.slots) (same_lines r (lines input) h)
