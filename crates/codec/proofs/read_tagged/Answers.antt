-- `codec::read_tagged` meets its contract: each `return` is a case of `read_tagged`. Assumes nothing.
use Prim.Native.Nat.{ℕ}
use mathlib.Core.List.{List, [], ◌∷◌}
use mathlib.Core.Path.{◌≡◌, refl}
use native.Mathlib.Omega.{arith}
use lib.ListN.{length}
use Rattle.std.specs.Prelude.{None, Option}
use Rattle.digits.specs.Digits.{read_decimal}
use Rattle.codec.specs.Codec.{read_tagged}
use Rattle.codec.proofs.Fields.{untagged, behind_tag}
use Rattle.codec.proofs.read_tagged.Goals as goal

none : (t : ℕ) (read : List ℕ → Option ℕ) (s : List ℕ) → length s ≡ 0 → None ≡ read_tagged t read s
unfolding read_tagged
none t read [] h = refl
none t read (x ∷ s) h = absurd (omega arith)

pub returns-then-s-eq0 : goal.returns-then-s-eq0
returns-then-s-eq0 c = none _ (read_decimal _) _ c.if-s-eq0.true

pub returns-then-s-tag : goal.returns-then-s-tag
returns-then-s-tag c = untagged _ (read_decimal _) _ c.if-s-tag.true

pub returns : goal.returns
returns c =
    let e = c.before.before.before in
    behind_tag _ (read_decimal _) _ (omega (arith, e.if-s-eq0.false)) e.if-s-tag.false c.read_decimal.ensures
