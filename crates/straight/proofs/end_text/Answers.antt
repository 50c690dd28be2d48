-- `straight::end_text` meets its contract: without room nothing, else the ending. Assumes nothing.
use Prim.Native.Nat.{ℕ, ◌+◌, ◌≤◌}
use mathlib.Core.Bool.{true}
use mathlib.Core.Path.{◌≡◌, sym, ◌∙◌}
use native.Mathlib.Omega.{arith}
use borrow.Author.Tests.{leb-true}
use lib.Dec.{leb}
use Rattle.record.specs.Forms.{text_length}
use Rattle.frame.proofs.Rooms.{no_room}
use Rattle.straight.proofs.end_text.Goals as goal

room : (len e w : ℕ) → e ≡ w → leb (text_length + e) len ≡ true → text_length + w ≤ len
room len e w p h =
    let fits : text_length + e ≤ len = leb-true _ _ h in
    omega arith

pub returns-then-not-has_room : goal.returns-then-not-has_room
returns-then-not-has_room c =
    no_room _ _ _ _ c.ending_width.ensures (sym c.has_room.ensures ∙ c.if-not-has_room.true)

pub put_ending-requires : goal.put_ending-requires
put_ending-requires c =
    room _ _ _ c.ending_width.ensures (sym c.has_room.ensures ∙ c.if-not-has_room.false)
