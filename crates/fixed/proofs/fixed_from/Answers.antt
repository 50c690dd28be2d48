-- `fixed::fixed_from` meets its contract: each text fills its item, or leaves it zero. Assumes nothing.
use Prim.Native.Nat.{ℕ}
use mathlib.Core.List.{List}
use mathlib.Core.Path.{◌≡◌}
use Rattle.fixed.specs.Fixed.{fixed_of}
use Rattle.fixed.specs.declared.Lens.{Lens}
use Rattle.fixed.proofs.fixed_from.Goals as goal

together : {s s' o o' v v' : List ℕ} (l : Lens) → s ≡ s' → o ≡ o' → v ≡ v' → fixed_of s o l v ≡ fixed_of s' o' l v'
together l p q r = λ i. fixed_of (p i) (q i) l (r i)

pub returns : goal.returns
returns c =
    together _ c.put_item.ensures c.put_item-2.ensures c.put_item-3.ensures
