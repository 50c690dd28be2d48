-- Contents that stand for others: out of range by the same field or item, else the same. A writer does with them what it does with the others.
-- Assumes nothing.
use Prim.Native.Nat.{ℕ}
use mathlib.Core.Bool.{Bool}
use mathlib.Core.List.{List}
use mathlib.Core.Path.{◌≡◌, ap, ◌∙◌}
use borrow.Author.Tests.{eqb-true}
use lib.Dec.{eqb}
use Rattle.laws.proofs.Tests.{told}
use Rattle.refusal.specs.Answer.{Answer, unless}
use Rattle.refusal.specs.declared.Refusal.{Refusal}
use Rattle.codec.specs.Codec.{Codec}
use Rattle.frame.specs.Message.{checked, write_of, left_by, WritesMessage}

-- f is out of range by the same field or item as a, or is a
pub record StandsFor {A : Type 0} (form : Codec A) (f a : A) : Type 0 where
  pub alike : form.lowest f ≡ form.lowest a
  pub same : form.lowest a ≡ 0 → f ≡ a

module _ {A : Type 0} (form : Codec A) (low : ℕ → Refusal) (checksum : Bool) {f a : A} (d : List ℕ) (stands : StandsFor form f a) where
  checked_alike : checked form low f ≡ checked form low a
  unfolding checked unless
  checked_alike = told (eqb (form.lowest a) 0) (λ y. ap (checked form low) (stands.same (eqb-true _ _ y))) (λ n. rw (stands.alike, n))

  pub writes_alike : {w : Answer ℕ} {after : List ℕ} → WritesMessage form low checksum f d w after → WritesMessage form low checksum a d w after
  unfolding write_of left_by
  writes_alike p = record { answers = p.answers ∙ rw checked_alike; leaves = p.leaves ∙ rw checked_alike }
