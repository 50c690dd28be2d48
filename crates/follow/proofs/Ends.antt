-- The end of a run of one port, and its last slot: what holds of lines on both ports, seen from the camera side. Assumes nothing.
use Prim.Native.Nat.{ℕ, ◌≤◌}
use mathlib.Core.Bool.{true, false}
use mathlib.Core.List.{List, ◌∷◌, ◌++◌}
use mathlib.Core.Path.{◌≡◌, sym, ap, ◌∙◌}
use Rattle.refusal.specs.declared.Refusal.TheVariants.{Form}
use Rattle.capture.specs.Capture.{event_of}
use Rattle.capture.specs.declared.Event.TheVariants.{Other}
use Rattle.connectors.specs.Connectors.{own_of}
use Rattle.connectors.specs.declared.Side.TheVariants.{Camera}
use Rattle.printed.specs.Printed.{refused_text}
use Rattle.telling.specs.Telling.{is_over, Telling}
use Rattle.telling.specs.declared.Run.{Run}
use Rattle.runs.specs.Runs.{event_at, run_at}
use Rattle.runs.specs.declared.Addressed.{Addressed}
use Rattle.runs.specs.declared.Runs.{Runs}
use Rattle.runs.proofs.Ports.{of_ports}
use Rattle.follow.specs.Replay.{tell_all}
use Rattle.follow.specs.Both.{tell_both}
use Rattle.follow.proofs.Both as both
use Rattle.follow.proofs.Both.{of_camera, camera_tells}

-- runs whose camera side this is; the external side plays no part
abbrev beside : Run → Runs
beside r = record {
  connectors = record { settings = r.port.source.settings; camera = own_of r.port; external = own_of r.port };
  lines = record { camera = r.line; external = r.line };
  slots = r.slots;
  stopped = r.stopped;
}

module _ (r : Run) where
  seen : (ls : List (List ℕ)) → tell_all r ls ≡ of_camera (tell_both false (beside r) ls)
  seen ls = sym (camera_tells (beside r) ls)

  pub over : (before l : List (List ℕ)) → is_over (tell_all r before).run ≡ true → tell_all r (before ++ l) ≡ tell_all r before
  over before l o =
      seen (before ++ l)
      ∙ ap of_camera (both.over false (beside r) before l (sym (ap (λ (t : Telling). is_over t.run) (seen before)) ∙ o))
      ∙ sym (seen before)

  pub at_most : (ls : List (List ℕ)) → r.slots ≤ 100000 → (tell_all r ls).run.slots ≤ 100000
  at_most ls h = rw (seen ls) (both.at_most false (beside r) ls h)

  module _ (before l : List (List ℕ)) (line : List ℕ) (e : event_of line ≡ Other) (o : is_over (tell_all r before).run ≡ false) where
    form : (event_at false line).event ≡ Other
    form = ap (λ (x : Addressed). x.event) (of_ports.without line) ∙ e

    on : is_over (run_at (tell_both false (beside r) before).runs Camera) ≡ false
    on = sym (ap (λ (t : Telling). is_over t.run) (seen before)) ∙ o

    pub other : (tell_all r (before ++ line ∷ l)).text ≡ (tell_all r before).text ++ refused_text Form
    other =
        ap (λ (t : Telling). t.text) (seen (before ++ line ∷ l))
        ∙ both.other false (beside r) before l line form on
        ∙ sym (ap (λ (t : Telling). t.text ++ refused_text Form) (seen before))

    pub other_slots : (tell_all r (before ++ line ∷ l)).run.slots ≡ (tell_all r before).run.slots
    other_slots =
        ap (λ (t : Telling). t.run.slots) (seen (before ++ line ∷ l))
        ∙ both.other_slots false (beside r) before l line form on
        ∙ sym (ap (λ (t : Telling). t.run.slots) (seen before))
