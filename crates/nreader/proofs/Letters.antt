-- A letter behind its tag: what the code finds is what the form finds. Assumes nothing.
use Prim.Native.Nat.{ℕ}
use mathlib.Core.Bool.{Bool}
use mathlib.Core.List.{List, [], ◌∷◌}
use mathlib.Core.Path.{◌≡◌, sym, ap, ◌∙◌}
use native.Mathlib.Omega.{arith}
use lib.Dec.{eqb}
use lib.ListN.{length, get_or}
use Rattle.std.specs.Prelude.{Option, None, Some}
use Rattle.laws.proofs.Tests.{told}
use Rattle.codec.specs.Codec.{got, wrong, passed, letter, tagged}
use Rattle.nreader.specs.Reader.{read_letter, letter_says}

-- what a call that answered this found
pub gave_letter : (i : ℕ) {r f : Option ℕ} {b : ℕ} → r ≡ f → r ≡ Some b → letter_says i f ≡ got b
unfolding letter_says
gave_letter i e g = ap (letter_says i) (sym e ∙ g)

pub refused_letter : (i : ℕ) {r f : Option ℕ} → r ≡ f → r ≡ None → letter_says i f ≡ wrong i
unfolding letter_says
refused_letter i e g = ap (letter_says i) (sym e ∙ g)

-- the form's letter is the reader's
pub tagged_letter : (t i : ℕ) (ok : ℕ → Bool) (s : List ℕ) → length s ≡ 2 → (tagged t i (letter i ok)).parse s ≡ letter_says i (read_letter t ok (get_or s 0 0) (get_or s 1 0))
unfolding read_letter letter_says passed
tagged_letter t i ok [] l = absurd (omega arith)
tagged_letter t i ok (x ∷ []) l = absurd (omega arith)
tagged_letter t i ok (x ∷ y ∷ s) l = told (eqb x t) (λ e. told (ok y) (λ k. rw (e, k)) (λ k. rw (e, k))) (λ e. rw e)
