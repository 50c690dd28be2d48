-- The exclusive-or of bytes, taken by whole words. Assumes nothing.
use Prim.Native.Nat.{ℕ, zero, suc, ◌+◌, ◌*◌, ◌/◌, ◌%◌, ◌^◌, ◌≤◌, ◌<◌}
use mathlib.Core.Bool.{Bool, true, false}
use mathlib.Core.List.{List, [], ◌∷◌, ◌++◌}
use mathlib.Core.Path.{◌≡◌, refl, sym, ap, ap₂, ◌∙◌}
use native.Mathlib.Nat.{mod-lt, zero-add, suc-add, pow-zero, pow-succ', div-one, div-div-eq-div-mul}
use native.Mathlib.Omega.{arith}
use lib.Arith.{bin_ind}
use lib.Bits.{bit_xor, xor_comm, xor_zero_r, xor_mod, xor_shr}
use lib.ListN.{length, get_or, take, drop, take-append-drop, length-drop, drop_of_length-le}
use lib.Seq.{drop-cons, drop-drop, length-take-le}
use Rattle.std.specs.Int.{w64, from_le_bytes}
use Rattle.laws.specs.Lowest.{from_lowest}
use Rattle.laws.specs.Over.{over}
use Rattle.laws.proofs.OverLaws.{onto}
use Rattle.frame.specs.Frame.{xor_from, sum_of, ending}
use Rattle.straight.specs.Words.{together}

-- ---- the order does not matter

bits : (x y z : ℕ) → x < 2 → y < 2 → z < 2 → bit_xor (bit_xor x y) z ≡ bit_xor x (bit_xor y z)
bits zero y z p q r = refl
bits (suc zero) zero z p q r = refl
bits (suc zero) (suc zero) zero p q r = refl
bits (suc zero) (suc zero) (suc zero) p q r = refl
bits (suc zero) (suc zero) (suc (suc z)) p q r = absurd (omega arith)
bits (suc zero) (suc (suc y)) z p q r = absurd (omega arith)
bits (suc (suc x)) y z p q r = absurd (omega arith)

halves : (x y : ℕ) → x / 2 ≡ y / 2 → x % 2 ≡ y % 2 → x ≡ y
halves x y p q = omega arith

xor_assoc : (a b c : ℕ) → bit_xor (bit_xor a b) c ≡ bit_xor a (bit_xor b c)
xor_assoc =
    bin_ind (λ (n : ℕ). (b c : ℕ) → bit_xor (bit_xor n b) c ≡ bit_xor n (bit_xor b c)) (λ b c. refl)
    (λ n ih b c.
    halves _ _
    (xor_shr (bit_xor n b) c 1 ∙ ap (λ (x : ℕ). bit_xor x (c / 2)) (xor_shr n b 1) ∙ ih (b / 2) (c / 2)
    ∙ sym (xor_shr n (bit_xor b c) 1 ∙ ap (bit_xor (n / 2)) (xor_shr b c 1)))
    (xor_mod (bit_xor n b) c 1 ∙ ap (λ (x : ℕ). bit_xor x (c % 2)) (xor_mod n b 1)
    ∙ bits (n % 2) (b % 2) (c % 2) (mod-lt n (omega arith)) (mod-lt b (omega arith)) (mod-lt c (omega arith))
    ∙ sym (xor_mod n (bit_xor b c) 1 ∙ ap (bit_xor (n % 2)) (xor_mod b c 1))))

crossed : (a b c d : ℕ) → bit_xor (bit_xor a b) (bit_xor c d) ≡ bit_xor (bit_xor a c) (bit_xor b d)
crossed a b c d =
    xor_assoc a b (bit_xor c d)
    ∙ ap (bit_xor a) (sym (xor_assoc b c d) ∙ ap (λ (x : ℕ). bit_xor x d) (xor_comm b c) ∙ xor_assoc c b d)
    ∙ sym (xor_assoc a c (bit_xor b d))

-- ---- the bytes of a word

together_xor : (k v w : ℕ) → together k (bit_xor v w) ≡ bit_xor (together k v) (together k w)
unfolding together
together_xor zero v w = refl
together_xor (suc k) v w =
    ap₂ bit_xor (xor_mod v w 8) (ap (together k) (xor_shr v w 8) ∙ together_xor k (v / 256) (w / 256))
    ∙ crossed (v % 256) (w % 256) (together k (v / 256)) (together k (w / 256))

apart : (j k w : ℕ) → together (j + k) w ≡ bit_xor (together j w) (together k (w / 256 ^ j))
unfolding together
apart zero k w = rw (zero-add k, pow-zero, div-one)
apart (suc j) k w =
    rw (suc-add j k, pow-succ' 256 j, ← div-div-eq-div-mul w 256 (256 ^ j))
    (ap (bit_xor (w % 256)) (apart j k (w / 256)) ∙ sym (xor_assoc (w % 256) (together j (w / 256)) (together k (w / 256 / 256 ^ j))))

half : (k w : ℕ) → together (k + k) w ≡ together k (bit_xor w (w / 256 ^ k))
half k w = apart k k w ∙ sym (together_xor k w (w / 256 ^ k))

module _ (w : ℕ) where
  abbrev four : ℕ
  four = bit_xor w (w / 4294967296)

  abbrev two : ℕ
  two = bit_xor four (four / 65536)

  pub folds : bit_xor two (two / 256) % 256 ≡ together 8 w
  unfolding together
  folds = sym (half 4 w ∙ half 2 four ∙ half 1 two ∙ xor_zero_r (bit_xor two (two / 256) % 256))

-- ---- bytes one after the other

xor_onto : (x : ℕ) (s t : List ℕ) → xor_from x (s ++ t) ≡ xor_from (xor_from x s) t
unfolding xor_from
xor_onto x [] t = refl
xor_onto x (b ∷ s) t = xor_onto (bit_xor x b) s t

xor_word : (x : ℕ) (s : List ℕ) → ((i : ℕ) → get_or s i 0 < 256) → xor_from x s ≡ bit_xor x (together (length s) (from_lowest s))
unfolding xor_from together from_lowest
xor_word x [] h = sym (xor_zero_r x)
xor_word x (d ∷ s) h =
    let low : d < 256 = h 0 in
    let above : (d + 256 * from_lowest s) / 256 ≡ from_lowest s = omega arith in
    let first : (d + 256 * from_lowest s) % 256 ≡ d = omega (arith, above) in
    xor_word (bit_xor x d) s (λ i. h (suc i)) ∙ xor_assoc x d (together (length s) (from_lowest s))
    ∙ ap (bit_xor x) (ap₂ bit_xor (sym first) (ap (together (length s)) (sym above)))

-- ---- words one after the other

pub xor_begun : (s : List ℕ) → xor_from 255 s ≡ xor_from (together 8 255) (drop (8 * 0) s)
unfolding together
xor_begun s = refl

pub xor_on : (x i : ℕ) (s : List ℕ) → 8 * i + 8 ≤ length s → ((j : ℕ) → get_or (take 8 (drop (8 * i) s)) j 0 < 256) →
    xor_from (together 8 x) (drop (8 * i) s) ≡ xor_from (together 8 (bit_xor x (from_lowest (take 8 (drop (8 * i) s))))) (drop (8 * (i + 1)) s)
xor_on x i s h low =
    let r = drop (8 * i) s in
    let t = take 8 r in
    let long : length t ≡ 8 = length-take-le 8 r (simp length-drop (omega arith)) in
    let next : 8 * i + 8 ≡ 8 * (i + 1) = omega arith in
    ap (xor_from (together 8 x)) (sym (take-append-drop 8 r) ∙ ap (λ (u : List ℕ). t ++ u) (drop-drop 8 (8 * i) s ∙ ap (λ (k : ℕ). drop k s) next))
    ∙ xor_onto (together 8 x) t (drop (8 * (i + 1)) s)
    ∙ ap (λ (y : ℕ). xor_from y (drop (8 * (i + 1)) s))
    (xor_word (together 8 x) t low ∙ ap (λ (k : ℕ). bit_xor (together 8 x) (together k (from_lowest t))) long ∙ sym (together_xor 8 x (from_lowest t)))

pub xor_end : (x k : ℕ) (s : List ℕ) → length s ≤ k → xor_from x (drop k s) ≡ x
unfolding xor_from
xor_end x k s h = rw (drop_of_length-le s h)

-- the library's word of eight bytes
pub eight_in : (s : List ℕ) → length s ≡ 8 → from_le_bytes w64 s ≡ from_lowest s
unfolding from_lowest
eight_in (a ∷ b ∷ c ∷ d ∷ e ∷ f ∷ g ∷ h ∷ []) l = omega arith
eight_in [] l = absurd (omega arith)
eight_in (a ∷ []) l = absurd (omega arith)
eight_in (a ∷ b ∷ []) l = absurd (omega arith)
eight_in (a ∷ b ∷ c ∷ []) l = absurd (omega arith)
eight_in (a ∷ b ∷ c ∷ d ∷ []) l = absurd (omega arith)
eight_in (a ∷ b ∷ c ∷ d ∷ e ∷ []) l = absurd (omega arith)
eight_in (a ∷ b ∷ c ∷ d ∷ e ∷ f ∷ []) l = absurd (omega arith)
eight_in (a ∷ b ∷ c ∷ d ∷ e ∷ f ∷ g ∷ []) l = absurd (omega arith)
eight_in (a ∷ b ∷ c ∷ d ∷ e ∷ f ∷ g ∷ h ∷ i ∷ s) l = absurd (omega arith)

-- a part of bytes has bytes
drop_low : (n : ℕ) (s : List ℕ) → ((j : ℕ) → get_or s j 0 < 256) → (j : ℕ) → get_or (drop n s) j 0 < 256
drop_low zero s h = h
drop_low (suc n) [] h = h
drop_low (suc n) (d ∷ s) h = drop_low n s (λ j. h (suc j))

take_low : (n : ℕ) (s : List ℕ) → ((j : ℕ) → get_or s j 0 < 256) → (j : ℕ) → get_or (take n s) j 0 < 256
take_low zero s h j = omega arith
take_low (suc n) [] h j = omega arith
take_low (suc n) (d ∷ s) h zero = h 0
take_low (suc n) (d ∷ s) h (suc j) = take_low n s (λ k. h (suc k)) j

pub part_low : (w n : ℕ) (s : List ℕ) → ((j : ℕ) → get_or s j 0 < 256) → (j : ℕ) → get_or (take w (drop n s)) j 0 < 256
part_low w n s h = take_low w (drop n s) (drop_low n s h)

-- nine words and two bytes
pub two_left : (s : List ℕ) → length s ≡ 74 → xor_from 255 s ≡ bit_xor (bit_xor (xor_from 255 (take 72 s)) (get_or s 72 0)) (get_or s 73 0)
unfolding xor_from
two_left s l =
    let past : length s ≤ 74 = omega arith in
    let end : drop 74 s ≡ [] = drop_of_length-le s past in
    let rest : drop 72 s ≡ get_or s 72 0 ∷ get_or s 73 0 ∷ [] =
    drop-cons s 72 0 (omega arith) ∙ ap (λ (t : List ℕ). get_or s 72 0 ∷ t) (drop-cons s 73 0 (omega arith) ∙ ap (λ (t : List ℕ). get_or s 73 0 ∷ t) end) in
    ap (xor_from 255) (sym (take-append-drop 72 s) ∙ ap (λ (t : List ℕ). take 72 s ++ t) rest) ∙ xor_onto 255 (take 72 s) (get_or s 72 0 ∷ get_or s 73 0 ∷ [])

-- ---- the ending

module _ (d : List ℕ) (n : ℕ) (checksum : Bool) where
  pub plain_ending : {l : List ℕ} → checksum ≡ false → l ≡ over d n (10 ∷ 13 ∷ []) → l ≡ over d n (ending checksum (take n d))
  unfolding ending
  plain_ending off p = rw off p

  pub summed_ending : (x : ℕ) {k l : List ℕ} → checksum ≡ true → n + 4 ≤ length d → x ≡ xor_from 255 (take n d) →
      k ≡ over d n ((64 + x / 16) ∷ (64 + x % 16) ∷ []) → l ≡ over k (n + 2) (10 ∷ 13 ∷ []) → l ≡ over d n (ending checksum (take n d))
  unfolding ending sum_of
  summed_ending x on fits e p q = rw (on, ← e) (onto d ((64 + x / 16) ∷ (64 + x % 16) ∷ []) (10 ∷ 13 ∷ []) n (n + 2) p q refl (omega arith))
