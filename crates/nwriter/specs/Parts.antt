-- The contents of the N message in parts, as the code writes them.
use Rattle.std.specs.Prelude.{ℕ, List, ◌++◌}
use Rattle.fixed.specs.Form.{serial, owner, lens_items, version}
use Rattle.fixed.specs.declared.Fixed.{Fixed}
use Rattle.fixed.specs.declared.Lens.{Lens}

unfoldable pub names_text : Fixed → List ℕ
names_text f = serial.print f.serial ++ owner.print f.owner

unfoldable pub lens_text : Lens → List ℕ
lens_text l = lens_items.print l

unfoldable pub version_text : Fixed → List ℕ
version_text f = version.print f.version
