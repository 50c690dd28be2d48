-- `append::hold` meets its contract: the bytes at the start of a fresh buffer. Assumes nothing.
use Prim.Native.Nat.{ℕ}
use mathlib.Core.Bool.{true}
use mathlib.Core.List.{List}
use mathlib.Core.Path.{ap}
use lib.ListN.{length}
use Rattle.append.specs.Append.{zeros}
use Rattle.append.specs.declared.Note.{Note}
use Rattle.append.proofs.hold.Goals as goal

abbrev note_in : ℕ → List ℕ → Note
note_in n bytes = record { opened = true; bytes = bytes; len = n }

pub returns : goal.returns
unfolding zeros
returns c = ap (note_in (length c.args.s.now)) c.put_text.ensures
