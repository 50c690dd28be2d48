-- `frame::room_for` meets its contract: an ending is short, so that no sum overflows. Assumes nothing.
use Prim.Native.Nat.{ℕ, ◌≤◌, ◌<◌}
use mathlib.Core.Path.{◌≡◌}
use native.Mathlib.Omega.{arith}
use borrow.Author.Tests.{le-leb, lt-leb}
use Rattle.std.specs.Prelude.{Err, Ok}
use Rattle.refusal.specs.Answer.{unless}
use Rattle.refusal.specs.declared.Refusal.TheVariants.{Room}
use Rattle.frame.specs.Message.{room_for}
use Rattle.frame.proofs.Exactly.{ending_short}
use Rattle.frame.proofs.room_for.Goals as goal

module _ {n m len : ℕ} (e : n ≡ m) where
  short : len < n → Err (Room n) ≡ (room_for m len)
  unfolding room_for unless
  short h = rw (← e, lt-leb n len h)

  fits : n ≤ len → Ok n ≡ (room_for m len)
  unfolding room_for unless
  fits h = rw (← e, le-leb n len h)

pub overflow_add-n : goal.overflow_add-n
overflow_add-n c = omega (arith, c.ending_width.ensures, ending_short c.args.checksum)

pub returns-then-len-n : goal.returns-then-len-n
returns-then-len-n c = short (rw c.ending_width.ensures) c.if-len-n.true

pub returns : goal.returns
returns c = fits (rw c.ending_width.ensures) c.if-len-n.false
