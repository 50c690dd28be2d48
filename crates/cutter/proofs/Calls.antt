-- One call: what holds of every one, and that it and the calls after it say and leave what byte by byte does. Assumes nothing.
use Prim.Native.Nat.{ℕ, suc, ◌+◌, ◌-◌, ◌≤◌, ◌<◌}
use mathlib.Core.Bool.{true, false}
use mathlib.Core.List.{List, [], ◌∷◌, ◌++◌}
use mathlib.Core.Path.{◌≡◌, refl, sym, ◌∙◌, subst}
use native.Mathlib.Omega.{arith}
use borrow.Author.Tests.{le-leb, ltb-true}
use lib.Dec.{ltb}
use lib.ListN.{length, drop}
use Rattle.laws.proofs.Tests.{cond_yes, cond_no, told, never}
use Rattle.refusal.specs.Answer.{Answer}
use Rattle.cutter.specs.Cutter.{cutter_length, fresh, valid_cutter, too_many, joined, held_from, ends_message, Said, invalid, nothing, ended, Cutting, cut_from, cut_of}
use Rattle.cutter.specs.declared.Cutter.{Cutter}
use Rattle.cutter.proofs.Scan.{goes_on, ended_by}
use Rattle.cutter.proofs.Run.{ended_from, left_from, ended_end, ended_on, left_end, left_on}

joined_valid : (c : Cutter) (b : ℕ) → valid_cutter (joined c b) ≡ true
unfolding joined too_many
joined_valid c b =
    told (ltb c.len cutter_length)
    (λ e. let h = ltb-true c.len cutter_length e in rw e (le-leb (c.len + 1) (cutter_length + 1) (omega arith)))
    (λ e. rw e)

-- the message that a call says ended
unfoldable pub ended_in : Said → List (Answer (List ℕ))
ended_in invalid = []
ended_in nothing = []
ended_in (ended m) = m ∷ []

-- from a cutter that n bytes of the piece came before, t following it
pub record Call (c : Cutter) (n : ℕ) (p : List ℕ) (r : Cutting) : Type 0 where
  pub not_refused : r.said ≡ invalid → ⊥
  pub freshly : (m : Answer (List ℕ)) → r.said ≡ ended m → r.cutter ≡ fresh
  pub all : r.said ≡ nothing → (r.cutter ≡ held_from c p) × (r.used ≡ n + length p)
  pub low : n ≤ r.used
  pub some : 0 < length p → n < r.used
  pub fits : r.used ≤ n + length p
  pub valid : valid_cutter c ≡ true → valid_cutter r.cutter ≡ true
  pub says : (t : List ℕ) → ended_in r.said ++ ended_from r.cutter (drop (r.used - n) p ++ t) ≡ ended_from c (p ++ t)
  pub leaves : (t : List ℕ) → left_from r.cutter (drop (r.used - n) p ++ t) ≡ left_from c (p ++ t)

call_none : (c : Cutter) (n : ℕ) → Call c n [] (goes_on c n)
unfolding held_from ended_in
call_none c n =
    let k : n - n ≡ 0 = omega arith in
    record {
      not_refused = λ e. never (cc);
      freshly = λ m e. never (cc);
      all = λ e. (refl, omega arith);
      low = omega arith;
      some = λ h. absurd (omega arith);
      fits = omega arith;
      valid = λ v. v;
      says = λ t. rw k;
      leaves = λ t. rw k;
    }

module _ (c : Cutter) (n b : ℕ) (p : List ℕ) where
  call_end : ends_message c b ≡ true → Call c n (b ∷ p) (ended_by (joined c b) (n + 1))
  unfolding ended_in
  call_end e =
      let k : n + 1 - n ≡ 1 = omega arith in
      record {
        not_refused = λ f. never (cc);
        freshly = λ m f. refl;
        all = λ f. never (cc);
        low = omega arith;
        some = λ h. omega arith;
        fits = omega arith;
        valid = λ v. refl;
        says = λ t. rw k (sym (ended_end c b (p ++ t) e));
        leaves = λ t. rw k (sym (left_end c b (p ++ t) e));
      }

  call_on : (r : Cutting) → ends_message c b ≡ false → Call (joined c b) (n + 1) p r → Call c n (b ∷ p) r
  unfolding held_from
  call_on r e i =
      let low = i.low in
      let fits = i.fits in
      let k : r.used - n ≡ suc (r.used - (n + 1)) = omega arith in
      record {
        not_refused = i.not_refused;
        freshly = i.freshly;
        all = λ f. let a = i.all f in (a.0, omega (arith, a.1));
        low = omega arith;
        some = λ h. omega arith;
        fits = omega arith;
        valid = λ v. i.valid (joined_valid c b);
        says = λ t. rw k (i.says t ∙ sym (ended_on c b (p ++ t) e));
        leaves = λ t. rw k (i.leaves t ∙ sym (left_on c b (p ++ t) e));
      }

call_from : (p : List ℕ) (c : Cutter) (n : ℕ) → Call c n p (cut_from c n p)
unfolding cut_from
call_from [] c n = call_none c n
call_from (b ∷ p) c n =
    told (ends_message c b)
    (λ e. subst (λ (r : Cutting). Call c n (b ∷ p) r) (sym (cond_yes _ _ e)) (call_end c n b p e))
    (λ e. subst (λ (r : Cutting). Call c n (b ∷ p) r) (sym (cond_no _ _ e)) (call_on c n b p _ e (call_from p (joined c b) (n + 1))))

-- a call that is not refused
pub call : (c : Cutter) (p : List ℕ) → valid_cutter c ≡ true → Call c 0 p (cut_of c p)
unfolding cut_of
call c p v = subst (λ (r : Cutting). Call c 0 p r) (sym (cond_yes _ _ v)) (call_from p c 0)

-- one that is
pub call_refused : (c : Cutter) (p : List ℕ) → valid_cutter c ≡ false → cut_of c p ≡ record { used = 0; said = invalid; cutter = c }
unfolding cut_of
call_refused c p n = cond_no _ _ n
