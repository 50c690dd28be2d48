-- The promises hold: events, and each call by the three things that it may answer. Assumes nothing.
use Prim.Native.Nat.{ℕ, ◌≤◌}
use mathlib.Core.Bool.{true}
use mathlib.Core.List.{List}
use mathlib.Core.Path.{◌≡◌, sym, ◌∙◌}
use borrow.Author.Tests.{le-leb}
use lib.ListN.{length}
use Rattle.std.specs.Prelude.{Ok}
use Rattle.laws.specs.Over.{over}
use Rattle.laws.proofs.Tests.{cond_yes}
use Rattle.refusal.specs.Answer.{unless}
use Rattle.frame.specs.Message.{room_for}
use Rattle.capture.specs.declared.Event.{Event}
use Rattle.telling.specs.declared.Run.{Run}
use Rattle.printed.specs.Printed.{slots_line}
use Rattle.telling.specs.Telling.{valid_run, tell_of, told_of, told_leaves, count_of, count_leaves}
use Rattle.telling.specs.Promises.{EachCall, Promised}
use Rattle.telling.proofs.Events.{of_events, tell_valid, longest}
use Rattle.telling.proofs.Calls.{foreign, is_foreign, call_done, call_16, call_2, call_same, told_wrote, told_same, told_16}
use Rattle.telling.proofs.Start.{start_done, start_valid, start_is, start_none}

module _ (r : Run) (out : List ℕ) (v : valid_run r ≡ true) where
  tell_done : (e : Event) → length (tell_of r e).text ≤ length out →
      (told_of r e out ≡ record { wrote = Ok (length (tell_of r e).text); run = (tell_of r e).run }) × (told_leaves r e out ≡ over out 0 (tell_of r e).text)
  unfolding told_of told_leaves room_for unless
  tell_done e h = (cond_yes _ _ v ∙ rw (le-leb _ _ h), cond_yes _ _ v)

pub each_call : EachCall
unfolding told_leaves count_of count_leaves
each_call = record {
  start_done = start_done;
  start_valid = start_valid;
  start_is = start_is;
  start_none = start_none;
  tell_16 = λ r e out. (λ h. foreign r ((told_16 r e out).0 h), λ f. (told_16 r e out).1 (is_foreign r f));
  tell_2 = λ r e out n. (
    λ h. (call_2 (valid_run r) (tell_of r e).text out n).0 (sym (told_wrote r e out) ∙ h),
    λ h. told_wrote r e out ∙ (call_2 (valid_run r) (tell_of r e).text out n).1 h,
  );
  tell_same = λ r e out x h. (told_same r e out x h, call_same (valid_run r) (tell_of r e).text out x (sym (told_wrote r e out) ∙ h));
  count_same = λ r out x h. call_same (valid_run r) (slots_line r.slots) out x h;
  tell_done = λ r e out v h. tell_done r out v e h;
  count_16 = λ r out. call_16 (valid_run r) (slots_line r.slots) out;
  count_2 = λ r out n. call_2 (valid_run r) (slots_line r.slots) out n;
  count_done = λ r out v h. call_done (valid_run r) (slots_line r.slots) out v h;
  tell_valid = tell_valid;
  longest = longest;
}

pub promised : Promised
promised = record { of_events = of_events; each_call = each_call }
