-- A message that a cutter hands out ends in LF CR and fits, whatever cutter was handed in. Assumes nothing.
use Prim.Native.Nat.{ℕ, suc, ◌+◌, ◌-◌, ◌≤◌, ◌<◌}
use mathlib.Core.Bool.{true, false≢true}
use mathlib.Core.List.{List, [], ◌∷◌, ◌++◌, append_assoc}
use mathlib.Core.Path.{◌≡◌, sym, ap, ◌∙◌, subst}
use native.Mathlib.Omega.{arith}
use borrow.Author.Tests.{ltb-true, ltb-false, le-leb, eqb-true, eqb-false}
use lib.Dec.{ltb, eqb}
use lib.ListN.{length, take, get_or, length-append}
use lib.Seq.{take-suc, length-take-le}
use Rattle.std.specs.Prelude.{Ok}
use Rattle.laws.proofs.Tests.{cond_yes, cond_no, told, and_left, and_right, never}
use Rattle.frame.specs.Refuses.{Ended}
use Rattle.cutter.specs.Cutter.{cutter_length, valid_cutter, joined, held_from, after_lf, ends_message, held_message, ended, Cutting, cut_from, cut_of}
use Rattle.cutter.specs.declared.Cutter.{Cutter}
use Rattle.cutter.proofs.Holds.{joined_long}
use Rattle.cutter.proofs.Cuts.{held_small, held_long}

-- the last byte of a cutter with room is LF
module _ (c : Cutter) (h : c.len < cutter_length) (t : after_lf c ≡ true) where
  some : c.len ≡ 0 → ⊥
  unfolding after_lf
  some = told (eqb c.len 0) (λ e. absurd (false≢true (sym (cond_yes _ _ e) ∙ t))) (λ e. eqb-false _ _ e)

  last : get_or c.bytes (c.len - 1) 0 ≡ 10
  unfolding after_lf
  last =
      told (eqb c.len 0)
      (λ e. absurd (some (eqb-true _ _ e)))
      (λ e. eqb-true _ _ (sym (cond_no _ _ e ∙ cond_yes _ _ (le-leb c.len cutter_length (omega arith))) ∙ t))

-- what holds of a message that is handed out
abbrev Good : Cutting → Type 0
Good r = (m : List ℕ) → r.said ≡ ended (Ok m) → Ended m × (length m ≤ cutter_length)

module _ (c : Cutter) (b : ℕ) (long : length c.bytes ≡ cutter_length) (e : ends_message c b ≡ true) where
  cr : b ≡ 13
  unfolding ends_message
  cr = eqb-true _ _ (and_left _ (after_lf c) e)

  lf : after_lf c ≡ true
  unfolding ends_message
  lf = and_right (eqb b 13) _ e

  fits : c.len < cutter_length → (m : List ℕ) → held_message (joined c b) ≡ Ok m → Ended m × (length m ≤ cutter_length)
  unfolding held_from
  fits h m f =
      let k = c.len - 1 in
      let x = take c.len c.bytes in
      let a = held_small c (b ∷ []) long (omega arith) in
      let is : m ≡ x ++ b ∷ [] = cc in
      let n : c.len ≡ suc k = omega (arith, some c h lf) in
      let front : x ≡ take k c.bytes ++ 10 ∷ [] =
      ap (λ (j : ℕ). take j c.bytes) n ∙ take-suc c.bytes k 0 (omega arith) ∙ ap (λ (y : ℕ). take k c.bytes ++ y ∷ []) (last c h lf) in
      let size : length m ≡ length x + 1 = ap length is ∙ length-append x (b ∷ []) in
      let l = length-take-le c.len c.bytes (omega arith) in
      let both : (x ++ b ∷ []) ≡ take k c.bytes ++ 10 ∷ 13 ∷ [] =
      ap (λ (y : ℕ). x ++ y ∷ []) cr ∙ ap (λ (y : List ℕ). y ++ 13 ∷ []) front ∙ append_assoc (take k c.bytes) (10 ∷ []) (13 ∷ []) in
      ((take k c.bytes, is ∙ both), omega arith)

  good : (m : List ℕ) → held_message (joined c b) ≡ Ok m → Ended m × (length m ≤ cutter_length)
  unfolding held_from
  good m f =
      told (ltb c.len cutter_length)
      (λ h. fits (ltb-true _ _ h) m f)
      (λ h. let k = ltb-false c.len cutter_length h in let a = held_long c (b ∷ []) (omega arith) in never (cc))

good_from : (p : List ℕ) (c : Cutter) (n : ℕ) → length c.bytes ≡ cutter_length → Good (cut_from c n p)
unfolding cut_from
good_from [] c n long = λ m f. never (cc)
good_from (b ∷ p) c n long =
    told (ends_message c b)
    (λ e. subst Good (sym (cond_yes _ _ e)) (λ m f. good c b long e m (cc)))
    (λ e. subst Good (sym (cond_no _ _ e)) (good_from p (joined c b) (n + 1) (joined_long c b long)))

pub ends_lf_cr : (c : Cutter) (p m : List ℕ) → length c.bytes ≡ cutter_length → (cut_of c p).said ≡ ended (Ok m) →
    Ended m × (length m ≤ cutter_length)
unfolding cut_of
ends_lf_cr c p m long =
    told {C = Good (cut_of c p)} (valid_cutter c)
    (λ v. subst Good (sym (cond_yes _ _ v)) (good_from p c 0 long))
    (λ v. subst Good (sym (cond_no _ _ v)) (λ x f. never (cc)))
    m
