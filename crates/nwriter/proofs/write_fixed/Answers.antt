-- `nwriter::write_fixed` meets its contract: each `return` is a case of every writer's. Assumes nothing.
use Prim.Native.Nat.{ℕ}
use mathlib.Core.Path.{◌≡◌, refl, sym, ◌∙◌}
use Rattle.std.specs.Prelude.{Option, None}
use Rattle.laws.proofs.Exits.{handed_up}
use Rattle.refusal.specs.declared.Refusal.TheVariants.{Setting}
use Rattle.codec.specs.Codec.{lowest_named}
use Rattle.codec.proofs.Lowest.{some_named, none_named}
use Rattle.frame.proofs.Answers.{writes_wrong, writes_short, writes_done}
use Rattle.fixed.specs.Fixed.{fixed_lowest}
use Rattle.fixed.specs.declared.Fixed.{Fixed}
use Rattle.fixed.specs.Form.{fixed_form, fixed_length}
use Rattle.fixed.proofs.Exact.{fixed_form_exact, fixed_form_width, fixed_lowest_lem}
use Rattle.nwriter.proofs.write_fixed.Goals as goal

pub returns-in-Some : goal.returns-in-Some
returns-in-Some c =
    let found = some_named _ (sym c.lowest_item.ensures ∙ c.in-Some.is) in
    writes_wrong fixed_form Setting _ _ _ _ (found.0 ∙ sym (fixed_lowest_lem _)) found.1

-- the contents may be sent
sendable : (f : Fixed) {o : Option ℕ} → o ≡ lowest_named (fixed_lowest f) → o ≡ None → fixed_form.lowest f ≡ 0
sendable f e n = fixed_lowest_lem f ∙ none_named _ (sym e ∙ n)

pub returns-in_err-n : goal.returns-in_err-n
returns-in_err-n c =
    rw (handed_up _ c.from_residual.ensures.1, ← c.in_err-n.was)
    (writes_short fixed_form Setting _ _ _ (sendable _ c.lowest_item.ensures c.in_default.is) fixed_length fixed_form_width (fixed_form_exact.long _)
    c.room_for.ensures _ c.in_err-n.was)

pub returns : goal.returns
returns c =
    writes_done fixed_form Setting _ _ _ (sendable _ c.lowest_item.ensures c.in_default.is) fixed_length fixed_form_width (fixed_form_exact.long _)
    (sym c.in_ok-n.was ∙ c.room_for.ensures) _ refl c.put_fixed_data.ensures c.put_ending.ensures
