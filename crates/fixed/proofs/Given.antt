-- Texts of their lengths fill their items; a text of another length leaves zeros, and is out of range as it was. Assumes nothing.
use Prim.Native.Nat.{ℕ}
use mathlib.Core.List.{List}
use mathlib.Core.Path.{◌≡◌}
use lib.ListN.{length}
use Rattle.codec.proofs.Texts.{text_long, filled_whole, filled_ok}
use Rattle.codec.proofs.Exact.{first_zero, holds}
use Rattle.fixed.specs.Fixed.{lens_lowest, fixed_lowest, fixed_of, fixed_filled}
use Rattle.fixed.specs.declared.Fixed.{Fixed}
use Rattle.fixed.specs.declared.Lens.{Lens}

-- texts as long as their items
pub record Long (serial owner version : List ℕ) : Type 0 where
  pub nine : length serial ≡ 9
  pub thirty_one_lem : length owner ≡ 31
  pub four : length version ≡ 4

pub items_long : (f : Fixed) → fixed_lowest f ≡ 0 → Long f.serial f.owner f.version
unfolding fixed_lowest
items_long f e =
    let s = first_zero _ _ e in
    let o = first_zero _ _ s.1 in
    let v = first_zero (lens_lowest f.lens) _ o.1 in
    record {
      nine = text_long 9 f.serial (holds _ 0 s.0);
      thirty_one_lem = text_long 31 f.owner (holds _ 1 o.0);
      four = text_long 4 f.version (holds _ 7 v.1);
    }

pub filled_items : (s o : List ℕ) (l : Lens) (v : List ℕ) → Long s o v → fixed_filled s o l v ≡ fixed_of s o l v
filled_items s o l v k = λ i. fixed_of (filled_whole 9 s k.nine i) (filled_whole 31 o k.thirty_one_lem i) l (filled_whole 4 v k.four i)

pub filled_lowest : (s o : List ℕ) (l : Lens) (v : List ℕ) → fixed_lowest (fixed_filled s o l v) ≡ fixed_lowest (fixed_of s o l v)
unfolding fixed_lowest
filled_lowest s o l v = rw (filled_ok 8 s, filled_ok 30 o, filled_ok 3 v)
