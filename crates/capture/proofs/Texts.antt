-- Numbers by their digits: what is read as one is one to nine digits, with a minus before them or none, and they read so. Assumes nothing.
use Prim.Native.Nat.{ℕ, ◌+◌, ◌-◌, ◌^◌, ◌≤◌, ◌<◌}
use mathlib.Core.Bool.{Bool, true, false, ◌&&◌}
use mathlib.Core.List.{List, [], ◌∷◌}
use mathlib.Core.Logic.{inl, inr}
use mathlib.Core.Path.{◌≡◌, refl, sym, ap}
use native.Mathlib.Nat.{pow-le-pow_right}
use native.Mathlib.Omega.{arith}
use borrow.Author.Tests.{leb-true, le-leb, eqb-true, ne_eqb}
use lib.Dec.{leb, ltb, eqb}
use lib.IntN.{ℤ, pos}
use lib.ListN.{length}
use Rattle.std.specs.Prelude.{None, Option, Some}
use Rattle.laws.specs.Within.{within}
use Rattle.laws.proofs.Range.{inside, above, at_least, at_most}
use Rattle.laws.proofs.Tests.{told, never, and_left}
use Rattle.laws.proofs.EveryLaws.{every_head, every_tail}
use Rattle.sign.specs.Sign.{signed_of}
use Rattle.digits.specs.Digits.{value, are_digits, is_digit, read_digits, read_field, widest}
use Rattle.digits.proofs.Laws.{value_lt}
use Rattle.capture.specs.Words.{space, spaces}
use Rattle.capture.specs.Numbers.{hex_value, nine_digits, digits_of, whole_by, whole_of}
use Rattle.capture.specs.Capture.{is_letter}
use Rattle.capture.specs.Promises.{Hex, Number, SignedNumber, plain, minus, IsLetter}

-- ---- digits

pub number_is : (w : List ℕ) (n : ℕ) → digits_of w ≡ Some n → Number w n
unfolding digits_of read_field read_digits
number_is [] n e = never (cc)
number_is (d ∷ w) n e =
    let s = d ∷ w in
    told (leb (length s) widest)
    (λ short.
    told (are_digits 10 48 s && leb (value 10 48 s) nine_digits)
    (λ good.
    let z : Some (value 10 48 s) ≡ Some n = rw (short, good) at e in
    record {
      some = omega arith;
      few = leb-true _ _ short;
      every = and_left (are_digits 10 48 s) (leb (value 10 48 s) nine_digits) good;
      says = cc;
    })
    (λ wrong. let z : None ≡ Some n = rw (short, wrong) at e in never (cc)))
    (λ long. let z : None ≡ Some n = rw long at e in never (cc))

pub number_reads : (w : List ℕ) (n : ℕ) → Number w n → digits_of w ≡ Some n
unfolding digits_of read_field read_digits
number_reads [] n r = absurd (let h = r.some in omega arith)
number_reads (d ∷ w) n r =
    let s = d ∷ w in
    let low : value 10 48 s < 10 ^ length s = value_lt 10 48 (omega arith) s r.every in
    let top : 10 ^ length s ≤ 10 ^ 9 = pow-le-pow_right {n = 10} (omega arith) r.few in
    rw (le-leb (length s) widest r.few, r.every, le-leb (value 10 48 s) nine_digits (omega arith)) (ap Some (sym r.says))

-- a digit is no space and no minus
digit_high : (d : ℕ) → is_digit 10 48 d ≡ true → 48 ≤ d
digit_high d h = leb-true 48 d (and_left (leb 48 d) (ltb (d - 48) 10) h)

pub digits_free : (w : List ℕ) → are_digits 10 48 w ≡ true → spaces w ≡ 0
unfolding spaces
digits_free [] h = refl
digits_free (d ∷ w) h =
    let k = digit_high d (every_head _ d w h) in
    rw (ne_eqb d space (λ e. omega arith)) (digits_free w (every_tail _ d w h))

-- ---- a minus before them or none

signed_value : (below : Bool) (f : Option ℕ) (z : ℤ) → whole_by below f ≡ Some z → (n : ℕ) × (f ≡ Some n) × (signed_of below n ≡ z)
signed_value below (Some n) z e = (n, refl, cc)
signed_value below None z e = never (cc)

pub whole_is : (w : List ℕ) (z : ℤ) → whole_of w ≡ Some z → SignedNumber w z
unfolding whole_of
whole_is [] z e = never (cc)
whole_is (b ∷ s) z e =
    told (eqb b 45)
    (λ t.
    let r = signed_value true (digits_of s) z (rw t at e) in
    rw (eqb-true b 45 t, ← r.2) (minus (number_is s r.0 r.1)))
    (λ t.
    let r = signed_value false (digits_of (b ∷ s)) z (rw t at e) in
    rw (← r.2) (plain (number_is (b ∷ s) r.0 r.1)))

plain_reads : (w : List ℕ) (n : ℕ) → Number w n → whole_of w ≡ Some (pos n)
unfolding whole_of
plain_reads [] n r = absurd (let h = r.some in omega arith)
plain_reads (b ∷ s) n r =
    let h = digit_high b (every_head _ b s r.every) in
    rw (ne_eqb b 45 (λ e. omega arith), number_reads (b ∷ s) n r)

pub whole_reads : {w : List ℕ} {z : ℤ} → SignedNumber w z → whole_of w ≡ Some z
unfolding whole_of
whole_reads (plain {w} {n} r) = plain_reads w n r
whole_reads (minus {w} {n} r) = rw (number_reads w n r)

pub whole_free : {w : List ℕ} {z : ℤ} → SignedNumber w z → spaces w ≡ 0
unfolding spaces
whole_free (plain {w} r) = digits_free w r.every
whole_free (minus {w} r) = digits_free w r.every

pub whole_short : {w : List ℕ} {z : ℤ} → SignedNumber w z → length w ≤ 10
whole_short (plain r) = let h = r.few in omega arith
whole_short (minus r) = let h = r.few in omega arith

-- ---- hex digits and letters

pub hex_is : (d x : ℕ) → hex_value d ≡ Some x → Hex d x
unfolding hex_value
hex_is d x h =
    told (within 48 57 d)
    (λ e. let z : Some (d - 48) ≡ Some x = rw e at h in inl (at_least 48 57 d e, at_most 48 57 d e, sym (cc)))
    (λ e.
    told (within 65 70 d)
    (λ f.
    let k = at_least 65 70 d f in
    let z : Some (d - 65 + 10) ≡ Some x = rw (e, f) at h in
    let y : d - 65 + 10 ≡ x = cc in
    inr (inl (k, at_most 65 70 d f, omega arith)))
    (λ f.
    told (within 97 102 d)
    (λ g.
    let k = at_least 97 102 d g in
    let z : Some (d - 97 + 10) ≡ Some x = rw (e, f, g) at h in
    let y : d - 97 + 10 ≡ x = cc in
    inr (inr (k, at_most 97 102 d g, omega arith)))
    (λ g. let z : None ≡ Some x = rw (e, f, g) at h in never (cc))))

hex_below : (d x : ℕ) → Hex d x → x < 16
hex_below d x (inl h) = omega (arith, h.0, h.1, h.2)
hex_below d x (inr (inl h)) = omega (arith, h.0, h.1, h.2)
hex_below d x (inr (inr h)) = omega (arith, h.0, h.1, h.2)

pub hex_low : (d x : ℕ) → hex_value d ≡ Some x → x < 16
hex_low d x h = hex_below d x (hex_is d x h)

pub hex_reads : (d x : ℕ) → Hex d x → (hex_value d ≡ Some x) × (48 ≤ d)
unfolding hex_value
hex_reads d x (inl h) = (rw (inside 48 57 d h.0 h.1) (ap Some (sym h.2)), h.0)
hex_reads d x (inr (inl h)) =
    let k = h.0 in
    let e = h.2 in
    let t = h.1 in
    let y : d - 65 + 10 ≡ x = omega arith in
    (rw (above 48 57 d (omega arith) (omega arith), inside 65 70 d k t) (ap Some y), omega arith)
hex_reads d x (inr (inr h)) =
    let k = h.0 in
    let e = h.2 in
    let t = h.1 in
    let y : d - 97 + 10 ≡ x = omega arith in
    (rw (above 48 57 d (omega arith) (omega arith), above 65 70 d (omega arith) (omega arith), inside 97 102 d k t) (ap Some y), omega arith)

pub letter_is : (u : ℕ) → is_letter u ≡ true → IsLetter u
unfolding is_letter
letter_is u h =
    told (within 65 90 u)
    (λ e. inl (at_least 65 90 u e, at_most 65 90 u e))
    (λ e. let f : within 97 122 u ≡ true = rw e at h in inr (at_least 97 122 u f, at_most 97 122 u f))

pub letter_low : {u : ℕ} → IsLetter u → 65 ≤ u
letter_low (inl h) = h.0
letter_low (inr h) = let k = h.0 in omega arith

pub letter_reads : (u : ℕ) → IsLetter u → is_letter u ≡ true
unfolding is_letter
letter_reads u (inl h) = rw (inside 65 90 u h.0 h.1)
letter_reads u (inr h) =
    let k = h.0 in
    rw (above 65 90 u (omega arith) (omega arith), inside 97 122 u k h.1)
