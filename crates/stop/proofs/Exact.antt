-- The stop as text, and the shared pair, are exact fields: what is written of a stop in range reads back, and nothing else reads. Assumes nothing.
use Prim.Native.Nat.{ℕ, ◌+◌, ◌*◌, ◌/◌, ◌%◌, ◌≤◌, ◌<◌}
use mathlib.Core.List.{List, [], ◌∷◌, ◌++◌}
use mathlib.Core.Bool.{Bool, true, false, ◌&&◌}
use mathlib.Core.Logic.{inl}
use mathlib.Core.Path.{◌≡◌, refl, sym, ap, ap₂, ◌∙◌}
use native.Mathlib.Omega.{arith}
use borrow.Author.Tests.{ltb-true, ltb-false, leb-true, eqb-true, lt-ltb, le-ltb, le-leb, eq-eqb, ne_eqb}
use lib.Dec.{ltb, leb, eqb}
use lib.ListN.{length, take, get_or, length-take}
use Rattle.std.specs.Prelude.{None, Option, Some}
use Rattle.laws.proofs.Tests.{and_left, and_right, cond_no, told, never}
use Rattle.laws.proofs.ListLaws.{two_is}
use Rattle.digits.specs.Digits.{digits, only, decimal, read_decimal}
use Rattle.digits.proofs.Laws.{read_digits_lem, digits_read}
use Rattle.codec.specs.Codec.{got, failing, both, field_says}
use Rattle.codec.proofs.Exact.{Exact, holds, fine, first_zero, zero_first, both_is, field_is}
use Rattle.pointed.specs.Pointed.{point, pointed_text, pointed, read_pointed}
use Rattle.pointed.proofs.Exact.{pointed_long, pointed_width, pointed_print, pointed_spelt, pointed_lowest, pointed_exact, pointed_read}
use Rattle.stop.specs.Stop.{stop_ok, stop_text, read_tens, read_stop_text, stop, stop_pair, stop_in, read_stop, read_tenth, pair}

-- ---- the range

pub stop_low : (s : ℕ) → s < 100 → stop_ok s ≡ true
unfolding stop_ok
stop_low s h = rw (lt-ltb s 100 h)

pub stop_ten : (s : ℕ) → s % 10 ≡ 0 → s ≤ 250 → stop_ok s ≡ true
unfolding stop_ok
stop_ten s h k = told (ltb s 100) (λ y. rw y) (λ n. rw (n, eq-eqb (s % 10) 0 h, le-leb s 250 k))

-- from 100, a multiple of 10
pub stop_high : (s : ℕ) → stop_ok s ≡ true → 100 ≤ s → (s % 10 ≡ 0) × (s ≤ 250)
unfolding stop_ok
stop_high s h k =
    let e : eqb (s % 10) 0 && leb s 250 ≡ true = rw (le-ltb s 100 k) at h in
    (eqb-true _ _ (and_left (eqb (s % 10) 0) (leb s 250) e), leb-true _ _ (and_right (eqb (s % 10) 0) (leb s 250) e))

pub stop_top : (s : ℕ) → stop_ok s ≡ true → s ≤ 250
stop_top s h =
    told (ltb s 100) (λ y. omega (arith, ltb-true s 100 y)) (λ n. (stop_high s h (ltb-false _ _ n)).1)

only_is : (t : Bool) (a n : ℕ) → only t a ≡ Some n → (t ≡ true) × (a ≡ n)
only_is true a n e = (refl, cc)
only_is false a n e = never (cc)

-- ---- as text

-- digit, point, digit
pub low_text : (s : ℕ) → s < 100 → stop_text s ≡ pointed_text 1 s
unfolding stop_text
low_text s h = rw (lt-ltb s 100 h)

-- two digits and a point
pub high_text : (s : ℕ) → 100 ≤ s → stop_text s ≡ decimal 2 (s / 10) ++ (point ∷ [])
unfolding stop_text
high_text s h = rw (le-ltb s 100 h)

pub stop_long : (s : ℕ) → length (stop_text s) ≡ 3
unfolding digits
stop_long s =
    told (ltb s 100)
    (λ y. ap length (low_text s (ltb-true _ _ y)))
    (λ n. ap length (high_text s (ltb-false _ _ n)))

-- the field of one digit, point and digit
low_exact : Exact (pointed 3 1 99)
low_exact = pointed_exact 2 1 99 (omega arith) (omega arith)

low_back : (s : ℕ) → s < 100 → read_stop_text (pointed_text 1 s) ≡ Some s
unfolding read_stop_text digits
low_back s h =
    field_is 3 (read_pointed 99 (pointed_text 1 s)) s
    (pointed_read 3 1 99 (pointed_text 1 s) (pointed_long 1 s)
    ∙ ap (pointed 3 1 99).parse (sym (pointed_print 3 1 99 s))
    ∙ low_exact.back s (pointed_lowest 3 1 99 s ∙ fine (leb s 99) 3 (le-leb s 99 (omega arith))))

high_back : (s : ℕ) → s % 10 ≡ 0 → 100 ≤ s → s ≤ 250 → read_stop_text (decimal 2 (s / 10) ++ (point ∷ [])) ≡ Some s
unfolding read_stop_text read_tens digits
high_back s h lo hi =
    let e : s / 10 * 10 ≡ s = omega arith in
    cond_no _ _ (ne_eqb (48 + s / 10 / 1 % 10) point (λ x. omega arith))
    ∙ ap read_tens (read_digits_lem 10 48 (omega arith) 2 (s / 10) 25 (omega arith) (omega arith) (omega arith))
    ∙ rw (le-leb 10 (s / 10) (omega arith), e)

stop_back : (s : ℕ) → stop_ok s ≡ true → read_stop_text (stop_text s) ≡ Some s
stop_back s h =
    told (ltb s 100)
    (λ y. ap read_stop_text (low_text s (ltb-true _ _ y)) ∙ low_back s (ltb-true _ _ y))
    (λ n.
    let lo = ltb-false _ _ n in
    let k = stop_high s h lo in
    ap read_stop_text (high_text s lo) ∙ high_back s k.0 lo k.1)

tens_is : (f : Option ℕ) (n : ℕ) → read_tens f ≡ Some n → (m : ℕ) × (f ≡ Some m) × (10 ≤ m) × (m * 10 ≡ n)
unfolding read_tens
tens_is (Some m) n e =
    let k = only_is (leb 10 m) (m * 10) n e in
    (m, refl, leb-true _ _ k.0, k.1)
tens_is None n e = never (cc)

three_is : (s : List ℕ) → length s ≡ 3 → s ≡ take 2 s ++ (get_or s 2 0 ∷ [])
three_is [] l = absurd (omega arith)
three_is (a ∷ []) l = absurd (omega arith)
three_is (a ∷ b ∷ []) l = absurd (omega arith)
three_is (a ∷ b ∷ c ∷ []) l = refl
three_is (a ∷ b ∷ c ∷ d ∷ s) l = absurd (omega arith)

low_sound : (s : List ℕ) (n : ℕ) → length s ≡ 3 → read_pointed 99 s ≡ Some n → (stop_ok n ≡ true) × (s ≡ stop_text n)
unfolding field_says
low_sound s n l e =
    let p = low_exact.sound s n (l ∙ sym (pointed_width 3 1 99)) (sym (pointed_read 3 1 99 s l) ∙ ap (field_says 3) e) in
    let k = leb-true n 99 (holds _ 2 (sym (pointed_lowest 3 1 99 n) ∙ p.0)) in
    (stop_low n (omega arith), pointed_spelt 3 1 99 n p.1 ∙ sym (low_text n (omega arith)))

high_sound : (s : List ℕ) (n : ℕ) → length s ≡ 3 → get_or s 2 0 ≡ point → read_tens (read_decimal 25 (take 2 s)) ≡ Some n → (stop_ok n ≡ true) × (s ≡ stop_text n)
high_sound s n l y e =
    let t = tens_is (read_decimal 25 (take 2 s)) n e in
    let m = t.0 in
    let r = digits_read 10 48 (omega arith) (take 2 s) m 25 t.1 in
    let two : length (take 2 s) ≡ 2 = simp length-take (omega arith) in
    let f : m * 10 ≡ n = t.3 in
    let g : m ≡ n / 10 = omega arith in
    (stop_ten n (omega arith) (omega arith), three_is s l ∙ ap₂ (λ (a : List ℕ) (b : ℕ). a ++ (b ∷ [])) (r.1 ∙ ap₂ decimal two g) y ∙ sym (high_text n (omega arith)))

stop_sound : (s : List ℕ) (n : ℕ) → length s ≡ 3 → read_stop_text s ≡ Some n → (stop_ok n ≡ true) × (s ≡ stop_text n)
unfolding read_stop_text
stop_sound s n l e =
    told (eqb (get_or s 1 0) point)
    (λ y. low_sound s n l (rw (eq-eqb (length s) 3 l, y) at e))
    (λ w.
    told (eqb (get_or s 2 0) point)
    (λ y. high_sound s n l (eqb-true _ _ y) (rw (eq-eqb (length s) 3 l, w, y) at e))
    (λ v. let z : None ≡ Some n = rw (eq-eqb (length s) 3 l, w, v) at e in never (cc)))

pub stop_exact : Exact stop
unfolding stop field_says
stop_exact = record {
  long = λ s h. stop_long s;
  back = λ s h. rw (stop_back s (holds (stop_ok s) 2 h));
  others = λ n s h k. absurd k;
  sound = λ s n l e.
      let p = stop_sound s n l (field_is 3 (read_stop_text s) n e) in
      (fine (stop_ok n) 3 p.0, inl p.1);
}

-- what the code's reader says is what the codec parses
pub stop_read : (s : List ℕ) → field_says 3 (read_stop_text s) ≡ stop.parse s
unfolding stop
stop_read s = refl

-- ---- packed

-- the two bytes of a stop and a tenth, read back
module _ (s t : ℕ) (h : stop_ok s ≡ true) (k : t ≤ 9) where
  abbrev second : ℕ
  second = 128 + 64 * (s / 128 % 2) + t % 16

  pub back_stop : read_stop (128 + s % 128) second ≡ Some s
  unfolding read_stop
  back_stop =
      let top = stop_top s h in
      let e : stop_in (128 + s % 128) second ≡ s = omega arith in
      rw (eq-eqb ((128 + s % 128) / 128) 1 (omega arith), e, h)

  pub back_tenth : read_tenth second ≡ Some t
  unfolding read_tenth
  back_tenth =
      let e : second % 64 ≡ t = omega arith in
      rw (eq-eqb (second / 128) 1 (omega arith), e, le-leb t 9 k)

pub stop_found : (x y n : ℕ) → read_stop x y ≡ Some n → (x / 128 ≡ 1) × (stop_ok n ≡ true) × (stop_in x y ≡ n)
unfolding read_stop
stop_found x y n e =
    let u = only_is (eqb (x / 128) 1 && stop_ok (stop_in x y)) (stop_in x y) n e in
    (eqb-true _ _ (and_left (eqb (x / 128) 1) (stop_ok (stop_in x y)) u.0), ap stop_ok (sym u.1) ∙ and_right (eqb (x / 128) 1) (stop_ok (stop_in x y)) u.0, u.1)

tenth_found : (y n : ℕ) → read_tenth y ≡ Some n → (y / 128 ≡ 1) × (n ≤ 9) × (y % 64 ≡ n)
unfolding read_tenth
tenth_found y n e =
    let u = only_is (eqb (y / 128) 1 && leb (y % 64) 9) (y % 64) n e in
    let k = leb-true (y % 64) 9 (and_right (eqb (y / 128) 1) (leb (y % 64) 9) u.0) in
    let f : y % 64 ≡ n = u.1 in
    (eqb-true _ _ (and_left (eqb (y / 128) 1) (leb (y % 64) 9) u.0), omega arith, f)

pair_sound : (s : List ℕ) (p : ℕ × ℕ) → length s ≡ 2 → pair.parse s ≡ got p → (pair.lowest p ≡ 0) × (s ≡ stop_pair p.0 p.1)
unfolding pair
pair_sound s p l e =
    let x = get_or s 0 0 in
    let y = get_or s 1 0 in
    let q = both_is (field_says 3 (read_stop x y)) (field_says 4 (read_tenth y)) p e in
    let u = stop_found x y p.0 (field_is 3 (read_stop x y) p.0 q.0) in
    let v = tenth_found y p.1 (field_is 4 (read_tenth y) p.1 q.1) in
    let us : x % 128 + 128 * (y / 64 % 2) ≡ p.0 = u.2 in (
      zero_first _ _ (fine _ 3 u.1) (fine _ 4 (le-leb p.1 9 v.1)),
      two_is s l ∙ ap₂ (λ (m n : ℕ). m ∷ n ∷ []) (omega arith) (omega arith),
    )

pair_back : (p : ℕ × ℕ) → pair.lowest p ≡ 0 → pair.parse (stop_pair p.0 p.1) ≡ got p
unfolding pair both field_says
pair_back p h =
    let z = first_zero (failing (stop_ok p.0) 3) (failing (leb p.1 9) 4) h in
    let a = holds (stop_ok p.0) 2 z.0 in
    let k = leb-true p.1 9 (holds (leb p.1 9) 3 z.1) in
    rw (back_stop p.0 p.1 a k, back_tenth p.0 p.1 a k)

pub pair_exact : Exact pair
unfolding pair
pair_exact = record {
  long = λ p h. refl;
  back = pair_back;
  others = λ p s h k. absurd k;
  sound = λ s p l e. let q = pair_sound s p l e in (q.0, inl q.1);
}

-- what the code's two readers say is what the codec parses
pub pair_read : (s : List ℕ) → both (field_says 3 (read_stop (get_or s 0 0) (get_or s 1 0))) (field_says 4 (read_tenth (get_or s 1 0))) ≡ pair.parse s
unfolding pair
pair_read s = refl
