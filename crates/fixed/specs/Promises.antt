-- The contents of the N message byte by byte, apart from how fields are put together. Statements only: proofs/Promises.antt proves it.
use Rattle.std.specs.Prelude.{◌∷◌, ◌++◌, ◌≡◌}
use Rattle.digits.specs.Digits.{decimal}
use Rattle.fixed.specs.Form.{fixed_form}
use Rattle.fixed.specs.declared.Fixed.{Fixed}

-- "N, S+1, O+2, L+3, N+4 (3 digits), M+5 (3 digits), U+6, T+7 (2 digits), two spaces, B+8"
abbrev pub ItemByItem : Type 0
ItemByItem =
    (f : Fixed) →
    fixed_form.print f ≡
    78 ∷ 83 ∷ (f.serial ++ 79 ∷ (f.owner ++ 76 ∷ f.lens.kind ∷ 78 ∷ (decimal 3 f.lens.focal ++ 77 ∷ (decimal 3 f.lens.maximum ++
    85 ∷ f.lens.letter ∷ 84 ∷ (decimal 2 f.lens.transmission ++ 32 ∷ 32 ∷ 66 ∷ f.version)))))
