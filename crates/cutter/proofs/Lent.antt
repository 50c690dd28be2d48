-- A stream that is lent as a whole: its next end is that of its first message, and the rest follows it. Assumes nothing.
use Prim.Native.Nat.{ℕ, suc, ◌+◌, ◌-◌, ◌≤◌, ◌<◌}
use mathlib.Core.Bool.{true, false}
use mathlib.Core.List.{List, [], ◌∷◌, ◌++◌, append_assoc, append-nil}
use mathlib.Core.Path.{◌≡◌, refl, sym, ap, ◌∙◌}
use native.Mathlib.Omega.{arith}
use lib.Dec.{eqb}
use lib.ListN.{length, take, drop}
use Rattle.std.specs.Prelude.{None, Some}
use Rattle.laws.proofs.Tests.{cond_yes, cond_no, told, never}
use Rattle.cutter.specs.Cutter.{end_from}
use Rattle.cutter.specs.Stream.{last_of, pairs, messages_from, tail_from, messages, tail}
use Rattle.cutter.proofs.Holds.{last_snoc}

-- the first message ends with the byte e, n of them before s
pub record First (x : List ℕ) (n : ℕ) (s : List ℕ) (e : ℕ) : Type 0 where
  pub low : n < e
  pub fits : e ≤ n + length s
  pub is : messages_from x s ≡ (x ++ take (e - n) s) ∷ messages (drop (e - n) s)
  pub rest : tail_from x s ≡ tail (drop (e - n) s)

pub record Lent (x : List ℕ) (n : ℕ) (s : List ℕ) : Type 0 where
  pub nowhere : end_from (eqb (last_of 0 x) 10) n s ≡ None → (messages_from x s ≡ []) × (tail_from x s ≡ x ++ s)
  pub somewhere : (e : ℕ) → end_from (eqb (last_of 0 x) 10) n s ≡ Some e → First x n s e

module _ (x : List ℕ) (n b : ℕ) (s : List ℕ) where
  lent_end : pairs x b ≡ true → Lent x n (b ∷ s)
  unfolding end_from pairs messages_from tail_from
  lent_end t =
      let f : end_from (eqb (last_of 0 x) 10) n (b ∷ s) ≡ Some (n + 1) = cond_yes _ _ t in
      record {
        nowhere = λ z. never (cc);
        somewhere = λ e z.
            let y : n + 1 ≡ e = cc in
            let k : 1 ≡ e - n = omega arith in
            record {
              low = omega arith;
              fits = omega arith;
              is = cond_yes _ _ t ∙ ap (λ (j : ℕ). (x ++ take j (b ∷ s)) ∷ messages (drop j (b ∷ s))) k;
              rest = cond_yes _ _ t ∙ ap (λ (j : ℕ). tail (drop j (b ∷ s))) k;
            };
      }

  lent_on : pairs x b ≡ false → Lent (x ++ b ∷ []) (n + 1) s → Lent x n (b ∷ s)
  unfolding end_from pairs messages_from tail_from
  lent_on t r =
      let f : end_from (eqb (last_of 0 x) 10) n (b ∷ s) ≡ end_from (eqb (last_of 0 (x ++ b ∷ [])) 10) (n + 1) s =
      cond_no _ _ t ∙ ap (λ (j : ℕ). end_from (eqb j 10) (n + 1) s) (sym (last_snoc 0 x b)) in
      record {
        nowhere = λ z. let q = r.nowhere (sym f ∙ z) in (cond_no _ _ t ∙ q.0, cond_no _ _ t ∙ q.1 ∙ append_assoc x (b ∷ []) s);
        somewhere = λ e z.
            let q = r.somewhere e (sym f ∙ z) in
            let low = q.low in
            let fits = q.fits in
            let k : suc (e - (n + 1)) ≡ e - n = omega arith in
            record {
              low = omega arith;
              fits = omega arith;
              is =
                  cond_no _ _ t
                  ∙ q.is
                  ∙ ap (λ (y : List ℕ). y ∷ messages (drop (e - (n + 1)) s)) (append_assoc x (b ∷ []) (take (e - (n + 1)) s))
                  ∙ ap (λ (j : ℕ). (x ++ take j (b ∷ s)) ∷ messages (drop j (b ∷ s))) k;
              rest = cond_no _ _ t ∙ q.rest ∙ ap (λ (j : ℕ). tail (drop j (b ∷ s))) k;
            };
      }

pub lent : (s x : List ℕ) (n : ℕ) → Lent x n s
unfolding end_from messages_from tail_from
lent [] x n = record { nowhere = λ z. (refl, sym (append-nil x)); somewhere = λ e z. never (cc) }
lent (b ∷ s) x n = told (pairs x b) (λ t. lent_end x n b s t) (λ t. lent_on x n b s t (lent s (x ++ b ∷ []) (n + 1)))

pub lent_none : (s : List ℕ) → end_from false 0 s ≡ None → (messages s ≡ []) × (tail s ≡ s)
unfolding last_of
lent_none s z = (lent s [] 0).nowhere z

pub lent_next : (s : List ℕ) (e : ℕ) → end_from false 0 s ≡ Some e →
    (0 < e) × (e ≤ length s) × (messages s ≡ take e s ∷ messages (drop e s)) × (tail s ≡ tail (drop e s))
unfolding last_of
lent_next s e z =
    let q = (lent s [] 0).somewhere e z in
    let fits = q.fits in
    let k : e - 0 ≡ e = omega arith in
    (q.low, omega arith, q.is ∙ ap (λ (j : ℕ). take j s ∷ messages (drop j s)) k, q.rest ∙ ap (λ (j : ℕ). tail (drop j s)) k)
