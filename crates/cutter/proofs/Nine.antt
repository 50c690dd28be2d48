-- A message that ended and is not handed out is too long: a cutter refuses none with another number than 9. Assumes nothing.
use Prim.Native.Nat.{ℕ, ◌+◌}
use mathlib.Core.List.{List, [], ◌∷◌}
use mathlib.Core.Path.{◌≡◌}
use lib.Dec.{leb}
use Rattle.std.specs.Prelude.{Err}
use Rattle.laws.proofs.Tests.{by, never}
use Rattle.refusal.specs.Answer.{Answer, unless}
use Rattle.refusal.specs.declared.Refusal.{Refusal}
use Rattle.refusal.specs.declared.Refusal.TheVariants.{TooLong}
use Rattle.cutter.specs.Cutter.{cutter_length, valid_cutter, joined, ends_message, held_message, ended, Cutting, cut_from, cut_of}
use Rattle.cutter.specs.declared.Cutter.{Cutter}

abbrev Only9 : Cutting → Type 0
Only9 t = (x : Refusal) → t.said ≡ ended (Err x) → x ≡ TooLong

held_9 : (c : Cutter) (x : Refusal) → held_message c ≡ Err x → x ≡ TooLong
unfolding held_message unless
held_9 c x = by (λ (a : Answer (List ℕ)). a ≡ Err x → x ≡ TooLong) (leb c.len cutter_length) _ _ (λ _ e. never (cc)) (λ _ e. cc)

from_9 : (p : List ℕ) (c : Cutter) (n : ℕ) → Only9 (cut_from c n p)
unfolding cut_from
from_9 [] c n = λ x e. never (cc)
from_9 (b ∷ p) c n = by Only9 (ends_message c b) _ _ (λ _ x e. held_9 (joined c b) x (cc)) (λ _. from_9 p (joined c b) (n + 1))

pub only_9 : (c : Cutter) (p : List ℕ) → Only9 (cut_of c p)
unfolding cut_of
only_9 c p = by Only9 (valid_cutter c) _ _ (λ _. from_9 p c 0) (λ _ x e. never (cc))
