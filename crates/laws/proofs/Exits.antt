-- What a `?` lets through, and what its exit answers. Assumes nothing.
use mathlib.Core.Path.{◌≡◌, refl, ap, ◌∙◌}
use Rattle.std.specs.Prelude.{Option, Some, None, Result, Ok, Err, ok_or}
use Rattle.std.specs.Result.{IsErrAnd}
use Rattle.std.proofs.lemmas.Result.{err_from_is_err_and}
use Rattle.laws.proofs.Tests.{never}

-- the error that it was handed
pub handed_up : {T E : Type 0} {e : E} (r : Result T E) → IsErrAnd r (λ y. y ≡ e) → r ≡ Err e
handed_up r h = let d = err_from_is_err_and r h in d.1 ∙ ap Err d.2

-- ---- `o.ok_or(e)?`

module _ {T E : Type 0} (e : E) where
  -- a value was there
  pub had : (o : Option T) {q : Result T E} {a : T} → q ≡ ok_or o e → q ≡ Ok a → o ≡ Some a
  had None h p = never (cc)
  had (Some x) h p = cc

  -- none was
  pub lacked : (o : Option T) {q : Result T E} {x : E} → q ≡ ok_or o e → q ≡ Err x → o ≡ None
  lacked None h p = refl
  lacked (Some x) h p = never (cc)

  -- and then the exit answers e
  pub exits : {U : Type 0} (o : Option T) {q : Result T E} {x : E} (r : Result U E) → q ≡ ok_or o e → q ≡ Err x → IsErrAnd r (λ y. y ≡ x) → r ≡ Err e
  exits None {x = x} r h p k = let same : x ≡ e = cc in handed_up r k ∙ ap Err same
  exits (Some a) r h p k = never (cc)
