-- A codec is exact where its reader accepts the spellings of sendable values, each as its value, and nothing else. Each way to make a codec keeps
-- that, so 'accepts exactly' is proved here once for every message. Assumes nothing.
use Prim.Native.Nat.{ℕ, zero, suc, ◌+◌, ◌^◌, ◌≤◌, ◌<◌}
use mathlib.Core.List.{List, [], ◌∷◌, map}
use mathlib.Core.Logic.{inl, inr}
use mathlib.Core.Bool.{Bool, true, false, cond}
use mathlib.Core.Path.{◌≡◌, refl, sym, ap, ap₂, subst, ◌∙◌}
use native.Mathlib.Omega.{arith}
use borrow.Author.Tests.{leb-true, le-leb, eqb-true, eq-eqb}
use lib.ListN.{length, take, drop, get_or, length-append, length-take, length-drop, take-append-drop}
use lib.Seq.{take_at, drop_at}
use lib.Dec.{leb, eqb}
use Rattle.std.specs.Prelude.{None, Option, Some}
use Rattle.laws.specs.Member.{◌∈◌}
use Rattle.laws.proofs.MemberLaws.{as_member, map_in, in_map}
use Rattle.laws.proofs.Tests.{cond_yes, cond_no, told, never}
use Rattle.digits.specs.Digits.{digits, read_field, widest}
use Rattle.digits.proofs.Laws.{length_digits, read_digits_lem, digits_read}
use Rattle.codec.specs.Codec.{Got, got, wrong, Codec, spellings, each, passed, failing, first, both, mapped, chained, field_says, number, printable, text, letter, starts_with, tagged, ◌⊗◌, via_iso, through}
use Rattle.codec.proofs.Spellings.{each_in, in_each, all_in, in_all}
use Rattle.codec.proofs.Texts.{text_long, text_printable, text_fine}

-- each spelling of a sendable value is as wide as the codec, and is read as the value
abbrev pub Reads : {A : Type 0} → Codec A → Type 0
Reads {A} c = (a : A) (s : List ℕ) → c.lowest a ≡ 0 → s ∈ spellings c a → (length s ≡ c.width) × (c.parse s ≡ got a)

-- nothing else is read
abbrev pub Sound : {A : Type 0} → Codec A → Type 0
Sound {A} c = (s : List ℕ) (a : A) → length s ≡ c.width → c.parse s ≡ got a → (c.lowest a ≡ 0) × (s ∈ spellings c a)

pub record Exact {A : Type 0} (c : Codec A) : Type 0 where
  -- of what is written
  pub long : (a : A) → c.lowest a ≡ 0 → length (c.print a) ≡ c.width
  pub back : (a : A) → c.lowest a ≡ 0 → c.parse (c.print a) ≡ got a
  -- of the other spellings
  pub others : (a : A) (s : List ℕ) → c.lowest a ≡ 0 → s ∈ c.also a → (length s ≡ c.width) × (c.parse s ≡ got a)
  pub sound : Sound c

-- of all spellings at once
pub spelt_read : {A : Type 0} {c : Codec A} → Exact c → Reads c
spelt_read {c = c} x a s h (inl e) = (ap length e ∙ x.long a h, ap c.parse e ∙ x.back a h)
spelt_read x a s h (inr k) = x.others a s h k

exact_by : {A : Type 0} {c : Codec A} → Reads c → Sound c → Exact c
exact_by {A} {c} reads sound = record {
  long = λ a h. (reads a (c.print a) h (inl refl)).0;
  back = λ a h. (reads a (c.print a) h (inl refl)).1;
  others = λ a s h k. reads a s h (inr k);
  sound = sound;
}

-- ---- what the small words say

-- a field is in range where its test holds
pub holds : (ok : Bool) (i : ℕ) → failing ok (suc i) ≡ 0 → ok ≡ true
unfolding failing
holds true i e = refl
holds false i e = absurd (omega arith)

pub fine : (ok : Bool) (i : ℕ) → ok ≡ true → failing ok i ≡ 0
unfolding failing
fine ok i e = cond_yes 0 i e

pub first_zero : (m n : ℕ) → first m n ≡ 0 → (m ≡ 0) × (n ≡ 0)
unfolding first
first_zero zero n e = (refl, e)
first_zero (suc m) n e = absurd (omega arith)

pub zero_first : (m n : ℕ) → m ≡ 0 → n ≡ 0 → first m n ≡ 0
unfolding first
zero_first m n p q = rw (p, q)

pub passed_is : {A : Type 0} (t : Bool) (i : ℕ) (a b : A) → passed t i a ≡ got b → (t ≡ true) × (a ≡ b)
unfolding passed
passed_is true i a b e = (refl, cc)
passed_is false i a b e = never (cc)

pub both_is : {A B : Type 0} (p : Got A) (q : Got B) (r : A × B) → both p q ≡ got r → (p ≡ got r.0) × (q ≡ got r.1)
unfolding both
both_is (wrong i) q r e = never (cc)
both_is (got a) (wrong j) r e = never (cc)
both_is {A} {B} (got a) (got b) r e =
    let f : ◌≡◌ {A = A × B} (a, b) r = cc in
    (ap (λ (x : A × B). got x.0) f, ap (λ (x : A × B). got x.1) f)

mapped_is : {A B : Type 0} (f : A → B) (q : Got A) (b : B) → mapped f q ≡ got b → (a : A) × (q ≡ got a) × (f a ≡ b)
unfolding mapped
mapped_is f (got a) b e = (a, refl, cc)
mapped_is f (wrong j) b e = never (cc)

chained_is : {A B : Type 0} (f : A → Got B) (q : Got A) (b : B) → chained f q ≡ got b → (a : A) × (q ≡ got a) × (f a ≡ got b)
unfolding chained
chained_is f (got a) b e = (a, refl, e)
chained_is f (wrong j) b e = never (cc)

pub field_is : (i : ℕ) (f : Option ℕ) (n : ℕ) → field_says i f ≡ got n → f ≡ Some n
unfolding field_says
field_is i (Some v) n e = cc
field_is i None n e = never (cc)

-- ---- the fields

pub number_exact : (i b off w top : ℕ) → 0 < b → w ≤ widest → top < b ^ w → Exact (number (suc i) b off w top)
unfolding field_says
number_exact i b off w top some short low = record {
  long = λ n h. length_digits b off some w n;
  back = λ n h. rw (read_digits_lem b off some w n top short (leb-true n top (holds (leb n top) i h)) low);
  others = λ n s h k. absurd k;
  sound = λ s n l e.
      let p = digits_read b off some s n top (field_is (suc i) (read_field b off top s) n e) in
      (fine (leb n top) (suc i) (le-leb n top p.0), inl (p.1 ∙ ap (λ (w : ℕ). digits b off w n) l));
}

pub text_exact : (i w : ℕ) → Exact (text (suc i) w)
unfolding passed
text_exact i w = record {
  long = λ s h. text_long w s (holds _ i h);
  back = λ s h. rw (text_printable w s (holds _ i h));
  others = λ a s h k. absurd k;
  sound = λ s a l e.
      let p = passed_is (printable s) (suc i) s a e in (
        fine _ (suc i) (sym (text_fine w a (ap length (sym p.1) ∙ l) (sym p.0 ∙ ap printable p.1))),
        inl p.1,
      );
}

one_is : (s : List ℕ) → length s ≡ 1 → s ≡ get_or s 0 0 ∷ []
one_is [] l = absurd (omega arith)
one_is (a ∷ []) l = refl
one_is (a ∷ b ∷ s) l = absurd (omega arith)

pub letter_exact : (i : ℕ) (ok : ℕ → Bool) → Exact (letter (suc i) ok)
unfolding passed
letter_exact i ok = record {
  long = λ x h. refl;
  back = λ x h. rw (holds (ok x) i h);
  others = λ x s h k. absurd k;
  sound = λ s x l e.
      let p = passed_is (ok (get_or s 0 0)) (suc i) (get_or s 0 0) x e in
      (fine (ok x) (suc i) (ap ok (sym p.1) ∙ p.0), inl (one_is s l ∙ ap (λ (y : ℕ). y ∷ []) p.1));
}

-- ---- the ways to make one of others

behind_tag : {A : Type 0} (t i : ℕ) (c : Codec A) (s : List ℕ) (a : A) → cond (starts_with t s) (c.parse (drop 1 s)) (wrong i) ≡ got a → (s ≡ t ∷ drop 1 s) × (c.parse (drop 1 s) ≡ got a)
behind_tag t i c [] a e = never (cc)
behind_tag t i c (x ∷ s) a e =
    told (eqb x t)
    (λ y. (ap (λ (z : ℕ). z ∷ s) (eqb-true x t y), sym (cond_yes (c.parse s) (wrong i) y) ∙ e))
    (λ n. let z : wrong i ≡ got a = sym (cond_no (c.parse s) (wrong i) n) ∙ e in never (cc))

pub tagged_exact : {A : Type 0} (t i : ℕ) (c : Codec A) → Exact c → Exact (tagged t i c)
tagged_exact t i c x =
    exact_by
    (λ a s h k.
    let m = in_map (λ (r : List ℕ). t ∷ r) (spellings c a) k in
    let r = spelt_read x a m.0 h m.1 in
    (ap length m.2 ∙ ap suc r.0, ap (tagged t i c).parse m.2 ∙ cond_yes _ _ (eq-eqb t t refl) ∙ r.1))
    (λ s a l e.
    let p = behind_tag t i c s a e in
    let n : length s ≡ suc (length (drop 1 s)) = ap length p.0 in
    let q = x.sound (drop 1 s) a (omega arith) p.1 in
    (q.0, as_member (map (λ r. t ∷ r) (spellings c a)) p.0 (map_in (λ (r : List ℕ). t ∷ r) (spellings c a) (drop 1 s) q.1)))

pub ⊗_exact : {A B : Type 0} (c : Codec A) (d : Codec B) → Exact c → Exact d → Exact (c ⊗ d)
unfolding both
⊗_exact c d x y =
    exact_by
    (λ p u h k.
    let z = first_zero (c.lowest p.0) (d.lowest p.1) h in
    let m = in_each (spellings c p.0) (spellings d p.1) k in
    let s = m.0 in
    let t = m.1 in
    let r = spelt_read x p.0 s z.0 m.2 in
    let q = spelt_read y p.1 t z.1 m.3 in (
      ap length m.4 ∙ length-append s t ∙ ap₂ ◌+◌ r.0 q.0,
      ap (c ⊗ d).parse m.4 ∙ rw (take_at s t c.width r.0, drop_at s t c.width r.0, r.1, q.1),
    ))
    (λ s p l e.
    let q = both_is (c.parse (take c.width s)) (d.parse (drop c.width s)) p e in
    let u = x.sound (take c.width s) p.0 (simp length-take (omega arith)) q.0 in
    let v = y.sound (drop c.width s) p.1 (simp length-drop (omega arith)) q.1 in (
      zero_first _ _ u.0 v.0,
      as_member (each (spellings c p.0) (spellings d p.1)) (sym (take-append-drop c.width s)) (each_in (spellings c p.0) (spellings d p.1) (take c.width s) (drop c.width s) u.1 v.1),
    ))

pub iso_exact : {A B : Type 0} (f : A → B) (g : B → A) (c : Codec A) → ((a : A) → g (f a) ≡ a) → ((b : B) → f (g b) ≡ b) → Exact c → Exact (via_iso f g c)
unfolding mapped
iso_exact {A} f g c gf fg x =
    exact_by
    (λ b s h k. let r = spelt_read x (g b) s h k in (r.0, rw (r.1, fg b)))
    (λ s b l e.
    let m = mapped_is f (c.parse s) b e in
    let k : m.0 ≡ g b = sym (gf m.0) ∙ ap g m.2 in
    let q = x.sound s m.0 l m.1 in
    (ap c.lowest (sym k) ∙ q.0, subst (λ (a : A). s ∈ spellings c a) k q.1))

-- the codes are exact: each sendable value's codes may be sent and come back, and only such codes are taken
pub record Codes {A B : Type 0} (c : Codec A) (ok : B → Bool) (enc : B → A) (more : B → List A) (dec : A → Got B) : Type 0 where
  pub sent : (b : B) (a : A) → ok b ≡ true → a ∈ (enc b ∷ more b) → (c.lowest a ≡ 0) × (dec a ≡ got b)
  pub taken : (a : A) (b : B) → c.lowest a ≡ 0 → dec a ≡ got b → (ok b ≡ true) × (a ∈ (enc b ∷ more b))

pub through_exact : {A B : Type 0} (i : ℕ) (ok : B → Bool) (enc : B → A) (more : B → List A) (dec : A → Got B) (c : Codec A) →
    Codes c ok enc more dec → Exact c → Exact (through (suc i) ok enc more dec c)
unfolding chained
through_exact i ok enc more dec c k x =
    exact_by
    (λ b s h w.
    let m = in_all c s (enc b ∷ more b) w in
    let z = k.sent b m.0 (holds (ok b) i h) m.1 in
    let r = spelt_read x m.0 s z.0 m.2 in
    (r.0, rw (r.1, z.1)))
    (λ s b l e.
    let m = chained_is dec (c.parse s) b e in
    let q = x.sound s m.0 l m.1 in
    let t = k.taken m.0 b q.0 m.2 in
    (fine (ok b) (suc i) t.0, all_in c s (enc b ∷ more b) m.0 t.1 q.1))
