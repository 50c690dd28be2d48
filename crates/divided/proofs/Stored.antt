-- Words, stored lowest byte first, are their digits written. Assumes nothing.
use Rattle.std.proofs.Common.{◌≡◌, ℕ, ◌+◌, ◌-◌, ◌%◌, ◌^◌, ◌≤◌, List, ◌∷◌, length, sym, refl, ap, ap₂, ◌∙◌, arith}
use Rattle.std.proofs.lemmas.Slice.{put_mid-paste}
use Rattle.std.specs.Int.{w32, w64, to_le_bytes}
use borrow.Rule.Slice.PartMut.{put_mid}
use Rattle.laws.specs.Lowest.{lowest_first}
use Rattle.laws.specs.Over.{over}
use Rattle.laws.proofs.OverLaws.{paste_over}
use Rattle.digits.specs.Digits.{decimal}
use Rattle.digits.proofs.Laws.{digits_below}

pub four_bytes : (w : ℕ) → to_le_bytes w32 w ≡ lowest_first 4 w
unfolding lowest_first
four_bytes w = ap₂ ◌∷◌ refl (ap₂ ◌∷◌ refl (ap₂ ◌∷◌ (omega arith) (ap₂ ◌∷◌ (omega arith) refl)))

pub eight_bytes : (w : ℕ) → to_le_bytes w64 w ≡ lowest_first 8 w
unfolding lowest_first
eight_bytes w =
    ap₂ ◌∷◌ refl (ap₂ ◌∷◌ refl (ap₂ ◌∷◌ (omega arith) (ap₂ ◌∷◌ (omega arith)
    (ap₂ ◌∷◌ (omega arith) (ap₂ ◌∷◌ (omega arith) (ap₂ ◌∷◌ (omega arith) (ap₂ ◌∷◌ (omega arith) refl)))))))

-- a part that was copied to is one write
pub copied : (d now s : List ℕ) (a k : ℕ) → now ≡ s → length s ≡ k → a + k ≤ length d → put_mid a (a + k - a) d now ≡ over d a s
copied d now s a k e h room = put_mid-paste a (a + k - a) d now s (length s) e (omega arith) refl ∙ paste_over d s a (omega arith)

-- a word whose bytes are the lowest k digits of n
pub word_written : (d : List ℕ) {e : List ℕ} (a k width n w : ℕ) → width ≡ k → e ≡ over d a (lowest_first k w) → lowest_first k w ≡ decimal k (n % 10 ^ k) →
    e ≡ over d a (decimal width n)
word_written d a k width n w h p q = p ∙ ap (over d a) (q ∙ digits_below 10 48 (omega arith) k n ∙ ap (λ (j : ℕ). decimal j n) (sym h))
