-- The contents of an N message are its names, its lens and its version, 65 bytes where the texts have their lengths. Assumes nothing.
use Prim.Native.Nat.{ℕ, suc, ◌+◌}
use mathlib.Core.List.{◌++◌, append_assoc}
use mathlib.Core.Path.{◌≡◌, refl, ap, ap₂, ◌∙◌}
use lib.ListN.{length, length-append}
use Rattle.digits.specs.Digits.{digits}
use Rattle.fixed.specs.Form.{serial, owner, lens_items, version, fixed_form, fixed_length}
use Rattle.fixed.specs.declared.Fixed.{Fixed}
use Rattle.fixed.specs.declared.Lens.{Lens}
use Rattle.fixed.proofs.Given.{Long}
use Rattle.nwriter.specs.Parts.{names_text, lens_text, version_text}

pub printed : (f : Fixed) → names_text f ++ (lens_text f.lens ++ version_text f) ≡ fixed_form.print f
unfolding fixed_form names_text lens_text version_text
printed f = append_assoc (serial.print f.serial) (owner.print f.owner) (lens_text f.lens ++ version_text f)

pub lens_long : (l : Lens) → length (lens_text l) ≡ 15
unfolding lens_text lens_items digits
lens_long l = refl

module _ (f : Fixed) (l : Long f.serial f.owner f.version) where
  pub names_long : length (names_text f) ≡ 43
  unfolding names_text serial owner
  names_long = length-append (serial.print f.serial) (owner.print f.owner) ∙ ap₂ (λ (a b : ℕ). suc (suc a) + suc b) l.nine l.thirty_one_lem

  pub version_long : length (version_text f) ≡ 7
  unfolding version_text version
  version_long = ap (λ (n : ℕ). suc (suc (suc n))) l.four

  pub printed_long : length (fixed_form.print f) ≡ fixed_length
  printed_long = rw (← printed f) (simp (length-append, names_long, lens_long, version_long))
