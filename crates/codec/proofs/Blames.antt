-- A codec blames the first wrong field: where its reader says that field n + k is wrong, k is the first wrong one of its fields, the n before them
-- being others'. A field alone does so, with its tag; one after the other keeps it. Proved here once for every message. Assumes nothing.
use Prim.Native.Nat.{ℕ, zero, suc, ◌+◌, ◌-◌, ◌^◌, ◌≤◌, ◌<◌}
use mathlib.Core.List.{List, [], ◌∷◌, ◌++◌}
use mathlib.Core.Bool.{Bool, true, false}
use mathlib.Core.Logic.{inl}
use mathlib.Core.Path.{◌≡◌, refl, sym, ap, subst, ◌∙◌}
use native.Mathlib.Omega.{arith}
use borrow.Author.Tests.{leb-true, leb-false, le-leb}
use lib.Dec.{leb}
use lib.ListN.{length, take, drop, get_or, replicate, length-take, length-drop}
use lib.Seq.{take_all, take_at, drop_at, take-take}
use Rattle.std.specs.Prelude.{None, Option, Some}
use Rattle.laws.specs.Member.{◌∈◌}
use Rattle.laws.proofs.ListLaws.{drop_of_take}
use Rattle.laws.proofs.Tests.{told, never, cond_yes, cond_no}
use Rattle.digits.specs.Digits.{read_field, widest}
use Rattle.codec.specs.Codec.{Got, got, wrong, Codec, spellings, passed, both, mapped, chained, field_says, number, printable, text, letter, starts_with, tagged, ◌⊗◌, via_iso, through}
use Rattle.codec.specs.Places.{Place, alone, further, field_of, Spelt, FirstWrong}
use Rattle.codec.proofs.Exact.{Exact, spelt_read, Codes, fine, first_zero, zero_first, number_exact, text_exact, letter_exact, tagged_exact, ⊗_exact, iso_exact, through_exact}
use Rattle.codec.proofs.Spellings.{each_in, in_each}
use Rattle.codec.proofs.Texts.{spaces_fine}
use Rattle.codec.proofs.Places.{among_left, among_right, further_on, wrong_counted}

pub record Blames {A : Type 0} (c : Codec A) (n : ℕ) (places : List Place) : Type 0 where
  pub exact : Exact c
  -- there is something to send
  pub some : (a : A) × (c.lowest a ≡ 0)
  -- no field stands past the contents
  pub within : (s : List ℕ) (j : ℕ) → field_of places j s ≡ field_of places j (take c.width s)
  pub blames : (s : List ℕ) (i : ℕ) → length s ≡ c.width → c.parse s ≡ wrong i → (k : ℕ) × (i ≡ n + k) × FirstWrong c.lowest (spellings c) places s k

-- ---- a field alone

-- the reader says no number but i
abbrev pub SaysOnly : {A : Type 0} → ℕ → Codec A → Type 0
SaysOnly i c = (s : List ℕ) (j : ℕ) → c.parse s ≡ wrong j → j ≡ i

-- field i, and no other
pub record Alone {A : Type 0} (i : ℕ) (c : Codec A) : Type 0 where
  pub exact : Exact c
  pub some : (a : A) × (c.lowest a ≡ 0)
  pub says : SaysOnly i c

-- ---- what a reader says that finds a field wrong

pub both_wrong : {A B C : Type 0} (p : Got A) (q : Got B) (i : ℕ) → both p q ≡ wrong i → (p ≡ wrong i → C) → ((a : A) → p ≡ got a → q ≡ wrong i → C) → C
unfolding both
both_wrong (wrong j) q i e f g = f (cc)
both_wrong (got a) (wrong j) i e f g = g a refl (cc)
both_wrong (got a) (got b) i e f g = never (cc)

mapped_wrong : {A B : Type 0} (f : A → B) (q : Got A) (i : ℕ) → mapped f q ≡ wrong i → q ≡ wrong i
unfolding mapped
mapped_wrong f (got a) i e = never (cc)
mapped_wrong f (wrong j) i e = cc

passed_wrong : {A : Type 0} (t : Bool) (i : ℕ) (a : A) (j : ℕ) → passed t i a ≡ wrong j → j ≡ i
unfolding passed
passed_wrong true i a j e = never (cc)
passed_wrong false i a j e = cc

pub field_wrong : (i : ℕ) (f : Option ℕ) (j : ℕ) → field_says i f ≡ wrong j → j ≡ i
unfolding field_says
field_wrong i (Some n) j e = never (cc)
field_wrong i None j e = cc

chained_wrong : {A B : Type 0} (f : A → Got B) (q : Got A) (i : ℕ) → ((j : ℕ) → q ≡ wrong j → j ≡ i) → ((a : A) (j : ℕ) → f a ≡ wrong j → j ≡ i) →
    (j : ℕ) → chained f q ≡ wrong j → j ≡ i
unfolding chained
chained_wrong f (wrong k) i g h j e = g j (cc)
chained_wrong f (got a) i g h j e = h a j e

pub number_alone : (i b off w top : ℕ) → 0 < b → w ≤ widest → top < b ^ w → Alone (suc i) (number (suc i) b off w top)
number_alone i b off w top some short low = record {
  exact = number_exact i b off w top some short low;
  some = (0, fine (leb 0 top) (suc i) (le-leb 0 top (omega arith)));
  says = λ s j e. field_wrong (suc i) (read_field b off top s) j e;
}

pub text_alone : (i w : ℕ) → Alone (suc i) (text (suc i) w)
text_alone i w = record {
  exact = text_exact i w;
  some = (replicate w 32, fine _ (suc i) (spaces_fine w));
  says = λ s j e. passed_wrong (printable s) (suc i) s j e;
}

pub letter_alone : (i : ℕ) (ok : ℕ → Bool) (x : ℕ) → ok x ≡ true → Alone (suc i) (letter (suc i) ok)
letter_alone i ok x h = record {
  exact = letter_exact i ok;
  some = (x, fine (ok x) (suc i) h);
  says = λ s j e. passed_wrong (ok (get_or s 0 0)) (suc i) (get_or s 0 0) j e;
}

-- a tag has no number of its own
pub tagged_alone : {A : Type 0} (t i : ℕ) (c : Codec A) → Alone i c → Alone i (tagged t i c)
tagged_alone t i c u = record {
  exact = tagged_exact t i c u.exact;
  some = u.some;
  says = λ s j e.
      told (starts_with t s)
      (λ y. u.says (drop 1 s) j (sym (cond_yes (c.parse (drop 1 s)) (wrong i) y) ∙ e))
      (λ n. let z : wrong i ≡ wrong j = sym (cond_no (c.parse (drop 1 s)) (wrong i) n) ∙ e in cc);
}

-- a number as w digits behind its tag
pub digits_alone : (t i w top : ℕ) → w ≤ widest → top < 10 ^ w → Alone (suc i) (tagged t (suc i) (number (suc i) 10 48 w top))
digits_alone t i w top h k = tagged_alone t (suc i) _ (number_alone i 10 48 w top (omega arith) h k)

-- nor have the two parts of one field, nor its code
pub ⊗_alone : {A B : Type 0} (i : ℕ) (c : Codec A) (d : Codec B) → Alone i c → Alone i d → Alone i (c ⊗ d)
⊗_alone i c d u v = record {
  exact = ⊗_exact c d u.exact v.exact;
  some = let a = u.some in let b = v.some in ((a.0, b.0), zero_first _ _ a.1 b.1);
  says = λ s j e. both_wrong (c.parse (take c.width s)) (d.parse (drop c.width s)) j e (λ w. u.says _ j w) (λ a p w. v.says _ j w);
}

pub through_alone : {A B : Type 0} (i : ℕ) (ok : B → Bool) (enc : B → A) (more : B → List A) (test : A → Bool) (value : A → B) (c : Codec A) →
    Codes c ok enc more (λ a. passed (test a) (suc i) (value a)) → (b : B) → ok b ≡ true → Alone (suc i) c →
    Alone (suc i) (through (suc i) ok enc more (λ a. passed (test a) (suc i) (value a)) c)
through_alone i ok enc more test value c k b h u = record {
  exact = through_exact i ok enc more _ c k u.exact;
  some = (b, fine (ok b) (suc i) h);
  says = λ s j e. chained_wrong _ (c.parse s) (suc i) (u.says s) (λ a n. passed_wrong (test a) (suc i) (value a) n) j e;
}

module _ {A : Type 0} (c : Codec A) (n : ℕ) (u : Alone (n + 1) c) where
  abbrev only : List Place
  only = alone 0 c.width ∷ []

  only_within : (s : List ℕ) (j : ℕ) → field_of only j s ≡ field_of only j (take c.width s)
  unfolding field_of
  only_within s zero = refl
  only_within s (suc zero) = sym (take-take c.width c.width s (omega arith))
  only_within s (suc (suc j)) = refl

  none_before : (s t : List ℕ) (j : ℕ) → j < 1 → field_of only j s ≡ field_of only j t
  unfolding field_of
  none_before s t zero h = refl
  none_before s t (suc j) h = absurd (omega arith)

  -- bytes that spell a sendable value are read
  only_unspelt : (s : List ℕ) (i : ℕ) → length s ≡ c.width → c.parse s ≡ wrong i → (t : List ℕ) → Spelt c.lowest (spellings c) t → field_of only 1 s ≡ field_of only 1 t → ⊥
  unfolding field_of
  only_unspelt s i l e t (a, h, k) same =
      let r = spelt_read u.exact a t h k in
      let p : s ≡ t = sym (take_all c.width s (omega arith)) ∙ same ∙ take_all c.width t (omega (arith, r.0)) in
      let q : wrong i ≡ got a = sym e ∙ ap c.parse p ∙ r.1 in
      never (cc)

  pub alone_blames : Blames c n only
  alone_blames =
      let a = u.some in
      record {
        exact = u.exact;
        some = a;
        within = only_within;
        blames = λ s i l e. (
          1,
          u.says s i e,
          record { before = (c.print a.0, (a.0, a.1, inl refl), none_before s (c.print a.0)); unspelt = only_unspelt s i l e },
        );
      }

-- ---- one after the other

module _ {A B : Type 0} (c : Codec A) (d : Codec B) (n : ℕ) (ps qs : List Place) (u : Blames c n ps) (v : Blames d (n + length ps) qs) where
  abbrev places : List Place
  places = ps ++ further c.width qs

  -- the first codec's fields are in the bytes before, the second's in those behind
  on_left : (s : List ℕ) (j : ℕ) → j ≤ length ps → field_of places j s ≡ field_of ps j (take c.width s)
  on_left s j h = among_left ps _ j s h ∙ u.within s j

  on_right : (s : List ℕ) (j k : ℕ) → 0 < k → j ≡ length ps + k → field_of places j s ≡ field_of qs k (drop c.width s)
  on_right s j k h e = among_right ps _ j k s h e ∙ further_on c.width qs k s

  -- a field is the first codec's or the second's
  either : {C : Type 0} (j : ℕ) → (j ≤ length ps → C) → ((k : ℕ) → 0 < k → j ≡ length ps + k → C) → C
  either j f g =
      told (leb j (length ps))
      (λ e. f (leb-true _ _ e))
      (λ e. let h = leb-false j (length ps) e in g (j - length ps) (omega arith) (omega arith))

  both_within : (s : List ℕ) (j : ℕ) → field_of places j s ≡ field_of places j (take (c.width + d.width) s)
  both_within s j =
      let t = take (c.width + d.width) s in
      either j
      (λ h. on_left s j h ∙ ap (field_of ps j) (sym (take-take c.width (c.width + d.width) s (omega arith))) ∙ sym (on_left t j h))
      (λ k h e.
      on_right s j k h e ∙ v.within (drop c.width s) k ∙ ap (field_of qs k) (sym (drop_of_take c.width d.width (c.width + d.width) s refl))
      ∙ sym (on_right t j k h e))

  -- the same of two spellings
  module _ (s t : List ℕ) (l : length s ≡ c.width) where
    spelt_left : (j : ℕ) → j ≤ length ps → field_of places j (s ++ t) ≡ field_of ps j s
    spelt_left j k = on_left (s ++ t) j k ∙ ap (field_of ps j) (take_at s t c.width l)

    spelt_right : (j k : ℕ) → 0 < k → j ≡ length ps + k → field_of places j (s ++ t) ≡ field_of qs k t
    spelt_right j k m e = on_right (s ++ t) j k m e ∙ ap (field_of qs k) (drop_at s t c.width l)

  -- both spelt, one after the other
  spelt_both : {s t : List ℕ} → Spelt c.lowest (spellings c) s → Spelt d.lowest (spellings d) t → Spelt (c ⊗ d).lowest (spellings (c ⊗ d)) (s ++ t)
  spelt_both {s} {t} (a, g, k) (b, h, m) = ((a, b), zero_first _ _ g h, each_in (spellings c a) (spellings d b) s t k m)

  spelt_long : {s : List ℕ} → Spelt c.lowest (spellings c) s → length s ≡ c.width
  spelt_long {s} (a, h, k) = (spelt_read u.exact a s h k).0

  -- and nothing else is spelt
  in_two : {C : Type 0} (r : List ℕ) → Spelt (c ⊗ d).lowest (spellings (c ⊗ d)) r →
      ((s t : List ℕ) → Spelt c.lowest (spellings c) s → Spelt d.lowest (spellings d) t → r ≡ s ++ t → C) → C
  in_two r (p, h, k) f =
      let z = first_zero (c.lowest p.0) (d.lowest p.1) h in
      let m = in_each (spellings c p.0) (spellings d p.1) k in
      f m.0 m.1 (p.0, z.0, m.2) (p.1, z.1, m.3) m.4

  -- something to send
  sent_right : (t : List ℕ) × Spelt d.lowest (spellings d) t
  sent_right = let b = v.some in (d.print b.0, (b.0, b.1, inl refl))

  module _ (s : List ℕ) where
    -- a field of the first is wrong, and so are no others before it
    wrong_left : (k : ℕ) → FirstWrong c.lowest (spellings c) ps (take c.width s) k → FirstWrong (c ⊗ d).lowest (spellings (c ⊗ d)) places s k
    wrong_left k f =
        let a = f.before in
        let b = sent_right in
        let m = (wrong_counted k f).1 in
        record {
          before = (
            a.0 ++ b.0,
            spelt_both a.1 b.1,
            λ j h. on_left s j (omega arith) ∙ a.2 j h ∙ sym (spelt_left a.0 b.0 (spelt_long a.1) j (omega arith)),
          );
          unspelt = λ r x e.
              in_two r x
              (λ t w g h q. f.unspelt t g (sym (on_left s k m) ∙ e ∙ ap (field_of places k) q ∙ spelt_left t w (spelt_long g) k m));
        }

    -- the first's are all spelt, and a field of the second is wrong
    wrong_right : Spelt c.lowest (spellings c) (take c.width s) → (k : ℕ) → FirstWrong d.lowest (spellings d) qs (drop c.width s) k →
        FirstWrong (c ⊗ d).lowest (spellings (c ⊗ d)) places s (length ps + k)
    wrong_right a k f =
        let first : List ℕ = take c.width s in
        let b = f.before in
        let m = (wrong_counted k f).0 in
        record {
          before = (
            first ++ b.0,
            spelt_both a b.1,
            λ j h.
                either j
                (λ l. on_left s j l ∙ sym (spelt_left first b.0 (spelt_long a) j l))
                (λ i l e. on_right s j i l e ∙ b.2 i (omega arith) ∙ sym (spelt_right first b.0 (spelt_long a) j i l e)),
          );
          unspelt = λ r x e.
              in_two r x
              (λ t w g h q.
              f.unspelt w h
              (sym (on_right s (length ps + k) k m refl) ∙ e ∙ ap (field_of places (length ps + k)) q ∙ spelt_right t w (spelt_long g) (length ps + k) k m refl));
        }

    both_blames : (i : ℕ) → length s ≡ c.width + d.width → (c ⊗ d).parse s ≡ wrong i →
        (k : ℕ) × (i ≡ n + k) × FirstWrong (c ⊗ d).lowest (spellings (c ⊗ d)) places s k
    both_blames i l e =
        let left : length (take c.width s) ≡ c.width = simp length-take (omega arith) in
        both_wrong (c.parse (take c.width s)) (d.parse (drop c.width s)) i e
        (λ w. let b = u.blames (take c.width s) i left w in (b.0, b.1, wrong_left b.0 b.2))
        (λ a g w.
        let t = u.exact.sound (take c.width s) a left g in
        let b = v.blames (drop c.width s) i (simp length-drop (omega arith)) w in
        (length ps + b.0, omega (arith, b.1), wrong_right (a, t.0, t.1) b.0 b.2))

  pub ⊗_blames : Blames (c ⊗ d) n places
  ⊗_blames = record {
    exact = ⊗_exact c d u.exact v.exact;
    some = let a = u.some in let b = v.some in ((a.0, b.0), zero_first _ _ a.1 b.1);
    within = both_within;
    blames = both_blames;
  }

-- ---- the same bytes for another type of value

module _ {A B : Type 0} (f : A → B) (g : B → A) (c : Codec A) (gf : (a : A) → g (f a) ≡ a) (fg : (b : B) → f (g b) ≡ b) (n : ℕ) (ps : List Place) (u : Blames c n ps) where
  iso_wrong : (s : List ℕ) (k : ℕ) → FirstWrong c.lowest (spellings c) ps s k → FirstWrong (via_iso f g c).lowest (spellings (via_iso f g c)) ps s k
  iso_wrong s k w =
      let t = w.before in
      let a = t.1 in
      let same : a.0 ≡ g (f a.0) = sym (gf a.0) in
      record {
        before = (t.0, (f a.0, ap c.lowest (sym same) ∙ a.1, subst (λ (z : A). t.0 ∈ spellings c z) same a.2), t.2);
        unspelt = λ r b e. w.unspelt r (g b.0, b.1, b.2) e;
      }

  pub iso_blames : Blames (via_iso f g c) n ps
  iso_blames = record {
    exact = iso_exact f g c gf fg u.exact;
    some = let a = u.some in (f a.0, ap c.lowest (gf a.0) ∙ a.1);
    within = u.within;
    blames = λ s i l e. let b = u.blames s i l (mapped_wrong f (c.parse s) i e) in (b.0, b.1, iso_wrong s b.0 b.2);
  }
