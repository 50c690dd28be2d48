-- Demand 2: each clause by the law that holds for every exact codec, or by the laws of the units. Assumes nothing.
use Prim.Native.Nat.{ℕ}
use mathlib.Core.Bool.{Bool, true, false, ◌&&◌}
use mathlib.Core.Path.{◌≡◌, refl, sym, subst, ◌∙◌}
use lib.IntN.{ℤ}
use Rattle.std.specs.Prelude.{Ok}
use Rattle.laws.proofs.Tests.{and_left, and_right, never}
use Rattle.refusal.specs.Answer.{Answer, unless}
use Rattle.refusal.specs.declared.Refusal.{Refusal}
use Rattle.refusal.specs.declared.Refusal.TheVariants.{Field, Setting}
use Rattle.frame.proofs.Faithful.{faithful}
use Rattle.frame.proofs.Refuses.{refuses}
use Rattle.record.specs.Record.{record_lowest}
use Rattle.record.specs.Forms.{text_form, packed_form, text_length, packed_length}
use Rattle.record.specs.Places.{text_places, packed_places}
use Rattle.record.proofs.Exact.{text_form_exact, packed_form_exact, text_form_blames, packed_form_blames, text_form_width, packed_form_width, text_lowest, packed_lowest}
use Rattle.record.proofs.Ranges.{record_by_table}
use Rattle.fixed.specs.Fixed.{fixed_lowest}
use Rattle.fixed.specs.Form.{fixed_form, fixed_length}
use Rattle.fixed.specs.Places.{fixed_places}
use Rattle.fixed.proofs.Exact.{fixed_form_exact, fixed_form_blames, fixed_once, fixed_form_width, fixed_lowest_lem}
use Rattle.fixed.proofs.Ranges.{fixed_by_table, settings_by_table}
use Rattle.units.specs.Units.{is_unit, in_range, number_in, Converts, conversion}
use Rattle.units.proofs.Nearest.{converts, alike_unchanged}
use Rattle.units.proofs.Ranges.{sendable_in_either_unit}
use Rattle.demand2.specs.Demand2.{Demand2}
use Rattle.demand2.proofs.MinusZero.{text_zero, packed_zero}
use Rattle.demand2.proofs.Units.{units_refuse}

unless_is : {A : Type 0} (ok : Bool) (r : Refusal) (k : Answer A) (a : A) → unless ok r k ≡ Ok a → (ok ≡ true) × (k ≡ Ok a)
unfolding unless
unless_is true r k a e = (refl, e)
unless_is false r k a e = never (cc)

-- what an accepted conversion says of its letters and its number
told_by_lem : (i : ℕ) (z r : ℤ) (unit wanted : ℕ) → conversion i z unit wanted ≡ Ok r → ((is_unit unit && is_unit wanted) ≡ true) × (number_in unit wanted z ≡ r)
unfolding conversion
told_by_lem i z r unit wanted e =
    let p = unless_is (is_unit unit && is_unit wanted) (Field 0) (unless (in_range i z unit) (Field i) (Ok (number_in unit wanted z))) r e in
    let q = unless_is (in_range i z unit) (Field i) (Ok (number_in unit wanted z)) r p.1 in
    (p.0, (let f : Ok (number_in unit wanted z) ≡ Ok r = q.1 in cc))

pub demand2 : Demand2
demand2 = record {
  record_rule = record_by_table;
  fixed_rule = fixed_by_table;
  settings_rule = settings_by_table;
  text = faithful text_form text_form_exact record_lowest Field text_length text_lowest text_form_width;
  packed = faithful packed_form packed_form_exact record_lowest Field packed_length packed_lowest packed_form_width;
  fixed = faithful fixed_form fixed_form_exact fixed_lowest Setting fixed_length fixed_lowest_lem fixed_form_width;
  text_zero = text_zero;
  packed_zero = packed_zero;
  fixed_once = fixed_once;
  text_refuses = refuses text_form record_lowest Field text_length text_places text_form_blames text_lowest text_form_width;
  packed_refuses = refuses packed_form record_lowest Field packed_length packed_places packed_form_blames packed_lowest packed_form_width;
  fixed_refuses = refuses fixed_form fixed_lowest Setting fixed_length fixed_places fixed_form_blames fixed_lowest_lem fixed_form_width;
  converts = λ i z r unit wanted e.
      let p = told_by_lem i z r unit wanted e in
      subst (λ (y : ℤ). Converts unit wanted z y) p.1
      (converts unit wanted z (and_left (is_unit unit) (is_unit wanted) p.0) (and_right (is_unit unit) (is_unit wanted) p.0));
  alike = λ i z r unit e. sym (told_by_lem i z r unit unit e).1 ∙ alike_unchanged unit z;
  units_refuse = units_refuse;
  sendable = sendable_in_either_unit;
}
