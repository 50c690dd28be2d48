-- The contents of the N message, computed. Assumes nothing.
use mathlib.Core.Path.{refl}
use Rattle.digits.specs.Digits.{digits}
use Rattle.fixed.specs.Form.{serial, owner, lens_items, version, fixed_form}
use Rattle.fixed.specs.Promises.{ItemByItem}

pub item_by_item : ItemByItem
unfolding digits serial owner lens_items version fixed_form
item_by_item f = refl
