-- The stop as text is one field; the shared pair blames 3 where the stop's share of it is no stop's, else 4. Assumes nothing.
use Prim.Native.Nat.{ℕ, zero, suc, ◌+◌, ◌*◌, ◌/◌, ◌%◌, ◌≤◌, ◌<◌}
use mathlib.Core.List.{List, [], ◌∷◌}
use mathlib.Core.Bool.{true, ◌&&◌}
use mathlib.Core.Logic.{inl}
use mathlib.Core.Path.{◌≡◌, refl, sym, ap, ap₂, ◌∙◌}
use native.Mathlib.Omega.{arith}
use borrow.Author.Tests.{leb-true, le-leb}
use lib.Dec.{leb, eqb}
use lib.ListN.{length, take, get_or}
use lib.Seq.{take-take, take_all}
use Rattle.std.specs.Prelude.{Option, Some}
use Rattle.laws.proofs.MemberLaws.{the_only}
use Rattle.laws.proofs.Tests.{never}
use Rattle.digits.specs.Digits.{only}
use Rattle.codec.specs.Codec.{got, wrong, spellings, failing, field_says}
use Rattle.codec.specs.Places.{field_of, FirstWrong}
use Rattle.codec.proofs.Exact.{holds, fine, first_zero, zero_first, field_is}
use Rattle.codec.proofs.Blames.{Alone, Blames, both_wrong, field_wrong}
use Rattle.stop.specs.Stop.{stop_ok, read_stop_text, stop, stop_pair, read_stop, read_tenth, pair}
use Rattle.stop.specs.Places.{stop_share, tenth_share, pair_places}
use Rattle.stop.proofs.Exact.{stop_low, stop_exact, pair_exact, back_stop, back_tenth, stop_found}

pub stop_alone : Alone 3 stop
unfolding stop
stop_alone = record { exact = stop_exact; some = (0, fine (stop_ok 0) 3 (stop_low 0 (omega arith))); says = λ s j e. field_wrong 3 (read_stop_text s) j e }

-- ---- the shared pair

-- a sendable pair's two numbers
sent_pair : (p : ℕ × ℕ) → pair.lowest p ≡ 0 → (stop_ok p.0 ≡ true) × (p.1 ≤ 9)
unfolding pair
sent_pair p h =
    let z = first_zero (failing (stop_ok p.0) 3) (failing (leb p.1 9) 4) h in
    (holds (stop_ok p.0) 2 z.0, leb-true p.1 9 (holds (leb p.1 9) 3 z.1))

pair_sent : (s t : ℕ) → stop_ok s ≡ true → t ≤ 9 → pair.lowest (s, t) ≡ 0
unfolding pair
pair_sent s t h k = zero_first _ _ (fine (stop_ok s) 3 h) (fine (leb t 9) 4 (le-leb t 9 k))

none_sent : pair.lowest (0, 0) ≡ 0
none_sent = pair_sent 0 0 (stop_low 0 (omega arith)) (omega arith)

-- each reader looks at its share and at nothing else
stop_by_share : (s t : List ℕ) → stop_share s ≡ stop_share t → read_stop (get_or s 0 0) (get_or s 1 0) ≡ read_stop (get_or t 0 0) (get_or t 1 0)
unfolding read_stop
stop_by_share s t e =
    let n : List ℕ → ℕ = λ u. get_or u 0 0 % 128 + 128 * get_or u 1 0 in
    ap (λ (u : List ℕ). only (eqb (get_or u 0 0 / 128) 1 && stop_ok (n u)) (n u)) e

tenth_by_share : (s t : List ℕ) → tenth_share s ≡ tenth_share t → read_tenth (get_or s 1 0) ≡ read_tenth (get_or t 1 0)
unfolding read_tenth
tenth_by_share s t e = ap (λ (u : List ℕ). only (eqb (get_or u 0 0) 1 && leb (get_or u 1 0) 9) (get_or u 1 0)) e

pair_within : (s : List ℕ) (j : ℕ) → field_of pair_places j s ≡ field_of pair_places j (take 2 s)
unfolding field_of
pair_within s zero = refl
pair_within s (suc zero) = ap stop_share (sym (take-take 2 2 s (omega arith)))
pair_within s (suc (suc zero)) = ap tenth_share (sym (take-take 2 2 s (omega arith)))
pair_within s (suc (suc (suc j))) = refl

said : (i : ℕ) {f : Option ℕ} {n j : ℕ} → f ≡ Some n → field_says i f ≡ wrong j → ⊥
unfolding field_says
said i {f} {n} {j} v e = let z : got n ≡ wrong j = ap (field_says i) (sym v) ∙ e in never (cc)

module _ (s : List ℕ) (l : length s ≡ 2) (i : ℕ) where
  abbrev x : ℕ
  x = get_or s 0 0

  abbrev y : ℕ
  y = get_or s 1 0

  all : take 2 s ≡ s
  all = take_all 2 s (omega arith)

  -- the top bit of the first byte, or the stop out of range
  stop_wrong : field_says 3 (read_stop x y) ≡ wrong i → FirstWrong pair.lowest (spellings pair) pair_places s 1
  unfolding pair field_of
  stop_wrong e = record {
    before = (stop_pair 0 0, ((0, 0), none_sent, inl refl), none);
    unspelt = λ r (p, h, w) t.
        let k = sent_pair p h in
        said 3 (stop_by_share s (stop_pair p.0 p.1) (ap stop_share (sym all) ∙ t ∙ ap (λ (u : List ℕ). stop_share (take 2 u)) (the_only w)) ∙ back_stop p.0 p.1 k.0 k.1) e;
  } where
    none : (j : ℕ) → j < 1 → field_of pair_places j s ≡ field_of pair_places j (stop_pair 0 0)
    none zero h = refl
    none (suc j) h = absurd (omega arith)

  -- the stop is right: the rest of the second byte
  module _ (n : ℕ) (f : read_stop x y ≡ Some n) where
    stop_right : (j : ℕ) → j < 2 → field_of pair_places j s ≡ field_of pair_places j (stop_pair n 0)
    unfolding field_of
    stop_right zero h = refl
    stop_right (suc zero) h =
        let u = stop_found x y n f in
        let v : x % 128 + 128 * (y / 64 % 2) ≡ n = u.2 in
        ap stop_share all ∙ ap₂ (λ (a b : ℕ). a ∷ b ∷ []) (omega arith) (omega arith)
    stop_right (suc (suc j)) h = absurd (omega arith)

    tenth_wrong : field_says 4 (read_tenth y) ≡ wrong i → FirstWrong pair.lowest (spellings pair) pair_places s 2
    unfolding pair field_of
    tenth_wrong e = record {
      before = (stop_pair n 0, ((n, 0), pair_sent n 0 (stop_found x y n f).1 (omega arith), inl refl), stop_right);
      unspelt = λ r (p, h, w) t.
          let k = sent_pair p h in
          said 4 (tenth_by_share s (stop_pair p.0 p.1) (ap tenth_share (sym all) ∙ t ∙ ap (λ (u : List ℕ). tenth_share (take 2 u)) (the_only w)) ∙ back_tenth p.0 p.1 k.0 k.1) e;
    }

  pair_first : pair.parse s ≡ wrong i → (k : ℕ) × (i ≡ 2 + k) × FirstWrong pair.lowest (spellings pair) pair_places s k
  unfolding pair
  pair_first e =
      both_wrong (field_says 3 (read_stop x y)) (field_says 4 (read_tenth y)) i e
      (λ w. (1, field_wrong 3 (read_stop x y) i w, stop_wrong w))
      (λ n g w. (2, field_wrong 4 (read_tenth y) i w, tenth_wrong n (field_is 3 (read_stop x y) n g) w))

pub pair_blames : Blames pair 2 pair_places
unfolding pair
pair_blames = record { exact = pair_exact; some = ((0, 0), none_sent); within = pair_within; blames = λ s i l e. pair_first s l i e }
