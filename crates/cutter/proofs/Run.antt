-- Byte by byte over a whole input: the messages as they are handed to a reader, and the cutter left. Assumes nothing.
use Prim.Native.Nat.{ℕ}
use mathlib.Core.Bool.{true, false, cond}
use mathlib.Core.List.{List, [], ◌∷◌, ◌++◌}
use mathlib.Core.Path.{◌≡◌, refl, sym, ap, ap₂, ◌∙◌}
use native.Mathlib.Omega.{arith}
use borrow.Author.Tests.{le-leb, lt-leb, leb-true, leb-false}
use lib.Dec.{leb}
use lib.ListN.{length, take}
use Rattle.std.specs.Prelude.{Ok}
use Rattle.laws.proofs.Tests.{cond_yes, cond_no, told}
use Rattle.refusal.specs.Answer.{Answer, unless}
use Rattle.cutter.specs.Cutter.{cutter_length, fresh, joined, held_from, ends_message, held_message}
use Rattle.cutter.specs.Stream.{pairs, messages_from, tail_from, judged, judged_all}
use Rattle.cutter.specs.declared.Cutter.{Cutter}
use Rattle.cutter.proofs.Holds.{Holds, holds_fresh, holds_joined, ends_pairs}

-- each message that ends, or 9
unfoldable pub ended_from : Cutter → List ℕ → List (Answer (List ℕ))
ended_from c [] = []
ended_from c (b ∷ s) = cond (ends_message c b) (held_message (joined c b) ∷ ended_from fresh s) (ended_from (joined c b) s)

unfoldable pub left_from : Cutter → List ℕ → Cutter
left_from c [] = c
left_from c (b ∷ s) = cond (ends_message c b) (left_from fresh s) (left_from (joined c b) s)

module _ (c : Cutter) (b : ℕ) (s : List ℕ) where
  pub ended_end : ends_message c b ≡ true → ended_from c (b ∷ s) ≡ held_message (joined c b) ∷ ended_from fresh s
  unfolding ended_from
  ended_end e = cond_yes _ _ e

  pub ended_on : ends_message c b ≡ false → ended_from c (b ∷ s) ≡ ended_from (joined c b) s
  unfolding ended_from
  ended_on e = cond_no _ _ e

  pub left_end : ends_message c b ≡ true → left_from c (b ∷ s) ≡ left_from fresh s
  unfolding left_from
  left_end e = cond_yes _ _ e

  pub left_on : ends_message c b ≡ false → left_from c (b ∷ s) ≡ left_from (joined c b) s
  unfolding left_from
  left_on e = cond_no _ _ e

-- the cutter has its message, or says that it is too long
held_judged : (x : List ℕ) (c : Cutter) → Holds x c → held_message c ≡ judged Ok x
unfolding held_message judged unless
held_judged x c h =
    told (leb (length x) cutter_length)
    (λ e.
    let k = leb-true _ _ e in
    let n = h.small k in
    cond_yes _ _ (le-leb c.len cutter_length (omega arith)) ∙ ap Ok (ap (λ (j : ℕ). take j c.bytes) n ∙ h.held k) ∙ sym (cond_yes _ _ e))
    (λ e.
    let n = h.big (leb-false _ _ e) in
    cond_no _ _ (lt-leb c.len cutter_length (omega arith)) ∙ sym (cond_no _ _ e))

-- the messages that end are those of the input
pub ended_judged : (s x : List ℕ) (c : Cutter) → Holds x c → ended_from c s ≡ judged_all Ok (messages_from x s)
unfolding ended_from messages_from judged_all
ended_judged [] x c h = refl
ended_judged (b ∷ s) x c h =
    let j = holds_joined x c b h in
    let p = ends_pairs x c b h in
    told (pairs x b)
    (λ e.
    cond_yes _ _ (p ∙ e)
    ∙ ap₂ ◌∷◌ (held_judged (x ++ b ∷ []) (joined c b) j) (ended_judged s [] fresh holds_fresh)
    ∙ sym (ap (judged_all Ok) (cond_yes _ _ e)))
    (λ e. cond_no _ _ (p ∙ e) ∙ ended_judged s (x ++ b ∷ []) (joined c b) j ∙ sym (ap (judged_all Ok) (cond_no _ _ e)))

-- one byte behind the others
held_snoc : (c : Cutter) (x : List ℕ) (b : ℕ) → held_from c (x ++ b ∷ []) ≡ joined (held_from c x) b
unfolding held_from
held_snoc c [] b = refl
held_snoc c (a ∷ x) b = held_snoc (joined c a) x b

pub fresh_held : fresh ≡ held_from fresh []
unfolding held_from
fresh_held = refl

-- the cutter left is the one that has the tail's bytes, and no other
pub left_held : (s x : List ℕ) (c : Cutter) → Holds x c → c ≡ held_from fresh x → left_from c s ≡ held_from fresh (tail_from x s)
unfolding left_from tail_from
left_held [] x c h f = f
left_held (b ∷ s) x c h f =
    let j = holds_joined x c b h in
    let p = ends_pairs x c b h in
    told (pairs x b)
    (λ e. cond_yes _ _ (p ∙ e) ∙ left_held s [] fresh holds_fresh fresh_held ∙ sym (ap (held_from fresh) (cond_yes _ _ e)))
    (λ e.
    cond_no _ _ (p ∙ e)
    ∙ left_held s (x ++ b ∷ []) (joined c b) j (ap (λ (d : Cutter). joined d b) f ∙ sym (held_snoc fresh x b))
    ∙ sym (ap (held_from fresh) (cond_no _ _ e)))
