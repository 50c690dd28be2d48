-- What sending comes to, case by case. Assumes nothing.
use Prim.Native.Nat.{ℕ, ◌≤◌, ◌<◌}
use mathlib.Core.Bool.{Bool, true, false}
use mathlib.Core.List.{List, []}
use mathlib.Core.Path.{◌≡◌, refl, sym, ap, subst, ◌∙◌}
use borrow.Author.Tests.{le-leb, lt-leb}
use native.Mathlib.Omega.{arith}
use lib.ListN.{length}
use Rattle.std.specs.Prelude.{Err, Ok}
use Rattle.laws.specs.Gives.{Gives}
use Rattle.laws.specs.Over.{over}
use Rattle.laws.proofs.OverLaws.{over_fits, over_short}
use Rattle.laws.proofs.Tests.{cond_yes, cond_no}
use Rattle.refusal.specs.Answer.{Answer, unless}
use Rattle.refusal.specs.declared.Refusal.TheVariants.{Room, State}
use Rattle.frame.specs.Message.{room_for, then_left}
use Rattle.cutter.specs.Cutter.{then_read, whole_in, whole_left}
use Rattle.recorder.specs.Recorder.{valid_recorder, asking, to_send, hands_out, after_send, send_of}
use Rattle.recorder.specs.Clauses.{RecorderSend}
use Rattle.recorder.specs.declared.Recorder.{Recorder}
use Rattle.recorder.specs.declared.HandedOut.{HandedOut}

module _ (r : Recorder) (out : List ℕ) where
  -- by what it hands out
  abbrev Hands : Answer (List ℕ) → HandedOut → List ℕ → Type 0
  Hands a s after = Gives (record { wrote = (whole_in out a); recorder = after_send (whole_in out a) r }) (whole_left a out) s after

  by_hands : {a : Answer (List ℕ)} (s : HandedOut) (after : List ℕ) → hands_out r ≡ a → Hands a s after → RecorderSend r out s after
  unfolding send_of
  by_hands s after e = subst (λ (a : Answer (List ℕ)). Hands a s after) (sym e)

  abbrev with_sent : Bool → Recorder
  with_sent b = record { cutter = r.cutter; setup = r.setup; sent = b; opened = r.opened }

  pub send_invalid : valid_recorder r ≡ false → RecorderSend r out (record { wrote = Err State; recorder = r }) out
  unfolding hands_out unless whole_in then_read after_send then_left
  send_invalid v = by_hands _ _ (cond_no _ _ v) (record { answers = refl; leaves = refl })

  module _ (v : valid_recorder r ≡ true) where
    hands : {x : List ℕ} → to_send r ≡ x → hands_out r ≡ Ok x
    unfolding hands_out unless
    hands e = cond_yes _ _ v ∙ ap Ok e

    pub send_nothing : r.sent ≡ true → RecorderSend r out (record { wrote = Ok 0; recorder = r }) out
    unfolding to_send whole_in then_read room_for unless after_send then_left
    send_nothing e =
        by_hands _ _ (hands (cond_yes _ _ e))
        (rw (le-leb 0 (length out) (omega arith))
        (record {
          answers = ap (λ (b : Bool). record { wrote = Ok 0; recorder = with_sent b }) e;
          leaves = sym (over_fits out [] 0 (omega arith));
        }))

    pub send_short : r.sent ≡ false → length out < 2 → RecorderSend r out (record { wrote = Err (Room 2); recorder = r }) out
    unfolding to_send whole_in then_read room_for unless after_send then_left
    send_short e h =
        by_hands _ _ (hands (cond_no _ _ e))
        (rw (lt-leb 2 (length out) h) (record { answers = refl; leaves = sym (over_short out asking 0 (omega arith)) }))

    pub send_asking : r.sent ≡ false → 2 ≤ length out → RecorderSend r out (record { wrote = Ok 2; recorder = with_sent true }) (over out 0 asking)
    unfolding to_send whole_in then_read room_for unless after_send then_left
    send_asking e h = by_hands _ _ (hands (cond_no _ _ e)) (rw (le-leb 2 (length out) h) (record { answers = refl; leaves = refl }))
