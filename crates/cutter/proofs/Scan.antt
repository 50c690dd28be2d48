-- Byte by byte is: look for the end, then join what stands before it. Assumes nothing.
use Prim.Native.Nat.{ℕ, suc, ◌+◌, ◌-◌, ◌≤◌, ◌<◌}
use mathlib.Core.Bool.{Bool, true, false}
use mathlib.Core.List.{List, [], ◌∷◌}
use mathlib.Core.Path.{◌≡◌, sym, ap, ap₂, ◌∙◌}
use native.Mathlib.Omega.{arith}
use lib.ListN.{length, take}
use Rattle.std.specs.Prelude.{None, Some}
use Rattle.laws.proofs.Tests.{cond_yes, cond_no, told, never}
use Rattle.cutter.specs.Cutter.{cutter_length, fresh, joined, held_from, after_lf, ends_message, held_message, Cutting, nothing, ended, cut_from, end_from}
use Rattle.cutter.specs.declared.Cutter.{Cutter}
use Rattle.cutter.proofs.Holds.{after_joined, joined_long}

-- no message ended in the n bytes that made this cutter
abbrev pub goes_on : Cutter → ℕ → Cutting
goes_on c n = record { used = n; said = nothing; cutter = c }

-- the message that the cutter has all bytes of ended with the byte n
abbrev pub ended_by : Cutter → ℕ → Cutting
ended_by c n = record { used = n; said = ended (held_message c); cutter = fresh }

-- a message ends with the byte e, n of them before p
pub record EndsAt (c : Cutter) (n : ℕ) (p : List ℕ) (e : ℕ) : Type 0 where
  pub low : n < e
  pub fits : e ≤ n + length p
  pub is : cut_from c n p ≡ ended_by (held_from c (take (e - n) p)) e

pub record Scanned (c : Cutter) (n : ℕ) (p : List ℕ) : Type 0 where
  pub nowhere : end_from (after_lf c) n p ≡ None → cut_from c n p ≡ goes_on (held_from c p) (n + length p)
  pub somewhere : (e : ℕ) → end_from (after_lf c) n p ≡ Some e → EndsAt c n p e

module _ (c : Cutter) (n b : ℕ) (p : List ℕ) where
  -- b ends it
  scan_end : ends_message c b ≡ true → Scanned c n (b ∷ p)
  unfolding end_from ends_message cut_from held_from
  scan_end t =
      let f : end_from (after_lf c) n (b ∷ p) ≡ Some (n + 1) = cond_yes _ _ t in
      record {
        nowhere = λ z. never (cc);
        somewhere = λ e z.
            let y : n + 1 ≡ e = cc in
            let k : 1 ≡ e - n = omega arith in
            record {
              low = omega arith;
              fits = omega arith;
              is = cond_yes _ _ t ∙ ap₂ ended_by (ap (λ (j : ℕ). held_from c (take j (b ∷ p))) k) y;
            };
      }

  -- it joins
  scan_on : length c.bytes ≡ cutter_length → ends_message c b ≡ false → Scanned (joined c b) (n + 1) p → Scanned c n (b ∷ p)
  unfolding end_from ends_message cut_from held_from
  scan_on long t r =
      let f : end_from (after_lf c) n (b ∷ p) ≡ end_from (after_lf (joined c b)) (n + 1) p =
      cond_no _ _ t ∙ ap (λ (lf : Bool). end_from lf (n + 1) p) (sym (after_joined c b long)) in
      let g : n + 1 + length p ≡ n + suc (length p) = omega arith in
      record {
        nowhere = λ z. cond_no _ _ t ∙ r.nowhere (sym f ∙ z) ∙ ap (goes_on (held_from (joined c b) p)) g;
        somewhere = λ e z.
            let s = r.somewhere e (sym f ∙ z) in
            let low = s.low in
            let fits = s.fits in
            let k : suc (e - (n + 1)) ≡ e - n = omega arith in
            record {
              low = omega arith;
              fits = omega arith;
              is = cond_no _ _ t ∙ s.is ∙ ap (λ (j : ℕ). ended_by (held_from c (take j (b ∷ p))) e) k;
            };
      }

pub scanned : (p : List ℕ) (c : Cutter) (n : ℕ) → length c.bytes ≡ cutter_length → Scanned c n p
unfolding end_from cut_from held_from
scanned [] c n long = record { nowhere = λ z. ap (goes_on c) (omega arith); somewhere = λ e z. never (cc) }
scanned (b ∷ p) c n long =
    told (ends_message c b)
    (λ t. scan_end c n b p t)
    (λ t. scan_on c n b p long t (scanned p (joined c b) (n + 1) (joined_long c b long)))
