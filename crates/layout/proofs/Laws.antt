-- How many bytes each part takes; and a write as a first part and what is left to write behind it, which is what a loop goes by. Assumes nothing.
use Prim.Native.Nat.{ℕ, zero, suc, ◌+◌, ◌-◌, ◌*◌, ◌≤◌, ◌<◌}
use mathlib.Core.List.{List, [], ◌∷◌}
use mathlib.Core.Path.{◌≡◌, refl, sym, ap, ◌∙◌}
use native.Mathlib.Numerals.{add-one}
use native.Mathlib.Omega.{arith}
use lib.ListN.{length, drop, get_or, length-append, length-drop}
use lib.Seq.{drop-cons}
use Rattle.laws.specs.Lowest.{lowest_first}
use Rattle.laws.specs.Over.{over}
use Rattle.laws.proofs.OverLaws.{over_short, over_next}
use Rattle.record.specs.declared.Record.{Record}
use Rattle.fixed.specs.declared.Fixed.{Fixed}
use Rattle.fixed.specs.declared.Lens.{Lens}
use Rattle.fixed.proofs.Given.{Long}
use Rattle.layout.specs.Layout.{four_each, numbers_of, record_bytes, record_width, lens_bytes, fixed_bytes, fixed_width}

pub number_long : (w n : ℕ) → length (lowest_first w n) ≡ w
unfolding lowest_first
number_long zero n = refl
number_long (suc w) n = ap suc (number_long w _)

pub numbers_long : (s : List ℕ) → length (four_each s) ≡ 4 * length s
unfolding four_each
numbers_long [] = refl
numbers_long (n ∷ s) = let e = numbers_long s in length-append (lowest_first 4 n) (four_each s) ∙ rw (number_long 4 n) (omega arith)

-- too little room for what is w long
pub over_nothing : (d s : List ℕ) (w : ℕ) → length s ≡ w → length d < w → d ≡ over d 0 s
over_nothing d s w l h = sym (over_short d s 0 (omega arith))

-- one number written, and what is left
pub over_number : (d s : List ℕ) (i : ℕ) → i < length s → 4 * length s ≤ length d →
    over (over d (4 * i) (lowest_first 4 (get_or s i 0))) (4 * (i + 1)) (four_each (drop (i + 1) s)) ≡ over d (4 * i) (four_each (drop i s))
unfolding four_each
over_number d s i h room =
    let rest = four_each (drop (i + 1) s) in
    let l : length rest ≡ 4 * (length s - (i + 1)) = numbers_long (drop (i + 1) s) ∙ ap (λ (k : ℕ). 4 * k) (length-drop (i + 1) s) in
    let next : 4 * i + length (lowest_first 4 (get_or s i 0)) ≡ 4 * (i + 1) = omega (arith, number_long 4 (get_or s i 0)) in
    let fits : 4 * (i + 1) + length rest ≤ length d = omega arith in
    over_next d (lowest_first 4 (get_or s i 0)) rest (4 * i) (4 * (i + 1)) next fits
    ∙ sym (ap (λ (t : List ℕ). over d (4 * i) (four_each t)) (drop-cons s i 0 h ∙ ap (λ (k : ℕ). get_or s i 0 ∷ drop k s) (sym (add-one i))))

-- ---- how long the whole is, where the texts have their lengths

-- a record that may be sent has a serial of nine bytes
pub record_long : (r : Record) → length r.serial ≡ 9 → length (record_bytes r) ≡ record_width
unfolding numbers_of
record_long r l = length-append (four_each (numbers_of r.figures)) r.serial ∙ rw (numbers_long (numbers_of r.figures), l)

pub lens_long : (l : Lens) → length (lens_bytes l) ≡ 7
unfolding lens_bytes lowest_first
lens_long l = refl

pub fixed_long : (f : Fixed) → Long f.serial f.owner f.version → length (fixed_bytes f) ≡ fixed_width
fixed_long f l = simp (length-append, l.nine, l.thirty_one_lem, lens_long f.lens, l.four)
