-- The N form is exact, blames the first wrong item where document 01 has it stand, and sends exactly the fixed data whose items are in range.
-- Assumes nothing.
use mathlib.Core.List.{[], ◌∷◌}
use mathlib.Core.Path.{◌≡◌, refl}
use native.Mathlib.Omega.{arith}
use Rattle.codec.specs.Places.{end_to_end}
use Rattle.codec.proofs.Exact.{Exact}
use Rattle.codec.proofs.Blames.{Alone, Blames, digits_alone, text_alone, letter_alone, tagged_alone, alone_blames, ⊗_blames, iso_blames}
use Rattle.fixed.specs.Fixed.{kind_ok, letter_ok, lens_lowest, fixed_lowest}
use Rattle.fixed.specs.Form.{serial, owner, lens_of, lens_parts, lens_items, version, of_parts, parts_of, fixed_length, fixed_form}
use Rattle.fixed.specs.Places.{fixed_places}
use Rattle.fixed.specs.declared.Fixed.{Fixed}

serial_alone : Alone 1 serial
unfolding serial
serial_alone = tagged_alone 78 1 _ (tagged_alone 83 1 _ (text_alone 0 9))

owner_alone : Alone 2 owner
unfolding owner
owner_alone = tagged_alone 79 2 _ (text_alone 1 31)

lens_blames : Blames lens_items 2 (end_to_end 0 (2 ∷ 4 ∷ 4 ∷ 2 ∷ 3 ∷ []))
unfolding lens_items kind_ok letter_ok
lens_blames =
    iso_blames lens_of lens_parts _ (λ p. refl) (λ l. refl) 2 _
    (⊗_blames _ _ 2 _ _ (alone_blames _ 2 (tagged_alone 76 3 _ (letter_alone 2 kind_ok 80 refl)))
    (⊗_blames _ _ 3 _ _ (alone_blames _ 3 (digits_alone 78 3 3 999 (omega arith) (omega arith)))
    (⊗_blames _ _ 4 _ _ (alone_blames _ 4 (digits_alone 77 4 3 999 (omega arith) (omega arith)))
    (⊗_blames _ _ 5 _ _ (alone_blames _ 5 (tagged_alone 85 6 _ (letter_alone 5 letter_ok 73 refl)))
    (alone_blames _ 6 (digits_alone 84 6 2 99 (omega arith) (omega arith)))))))

version_alone : Alone 8 version
unfolding version
version_alone = tagged_alone 32 8 _ (tagged_alone 32 8 _ (tagged_alone 66 8 _ (text_alone 7 4)))

pub fixed_form_blames : Blames fixed_form 0 fixed_places
unfolding fixed_form fixed_places serial owner lens_items version
fixed_form_blames =
    iso_blames of_parts parts_of _ (λ p. refl) (λ f. refl) 0 _
    (⊗_blames _ _ 0 _ _ (alone_blames _ 0 serial_alone)
    (⊗_blames _ _ 1 _ _ (alone_blames _ 1 owner_alone) (⊗_blames _ _ 2 _ _ lens_blames (alone_blames _ 7 version_alone))))

pub fixed_form_exact : Exact fixed_form
fixed_form_exact = fixed_form_blames.exact

-- it is spelt in one way
pub fixed_once : (f : Fixed) → fixed_form.also f ≡ []
unfolding fixed_form serial owner lens_items version
fixed_once f = refl

-- sendable is: no item out of range
pub fixed_lowest_lem : (f : Fixed) → fixed_form.lowest f ≡ fixed_lowest f
unfolding fixed_form serial owner lens_items version fixed_lowest lens_lowest
fixed_lowest_lem f = refl

pub fixed_form_width : fixed_form.width ≡ fixed_length
unfolding fixed_form serial owner lens_items version
fixed_form_width = refl
