-- `divided::put_decimal` meets its contract: no room, and nothing written; or the digits of one word, or those that the pairs say. Assumes nothing.
use Prim.Native.Nat.{◌+◌, ◌≤◌}
use mathlib.Core.Path.{sym, ◌∙◌}
use native.Mathlib.Omega.{arith}
use lib.ListN.{length}
use borrow.Author.Tests.{leb-true, leb-false}
use Rattle.digits.proofs.FromTheEnd.{no_room}
use Rattle.divided.proofs.Stored.{word_written}
use Rattle.divided.proofs.put_decimal.Goals as goal

pub returns-then-not-has_room : goal.returns-then-not-has_room
returns-then-not-has_room c = no_room 10 48 (omega arith) _ _ _ _ (leb-false _ _ (sym c.before.has_room.ensures ∙ c.if-not-has_room.true))

pub put_four-requires : goal.put_four-requires
put_four-requires c =
    let m = c.before.before in
    let i = m.before in
    let a = i.args in
    let room : a.at + a.width ≤ length a.out.now = leb-true _ _ (sym i.has_room.ensures ∙ i.if-not-has_room.false) in
    omega (arith, room, m.in-4.is)

pub put_eight-requires : goal.put_eight-requires
put_eight-requires c =
    let m = c.before.before in
    let i = m.before in
    let a = i.args in
    let room : a.at + a.width ≤ length a.out.now = leb-true _ _ (sym i.has_room.ensures ∙ i.if-not-has_room.false) in
    omega (arith, room, m.in-8.is)

pub put_pairs-requires : goal.put_pairs-requires
put_pairs-requires c =
    let i = c.before.before in
    leb-true _ _ (sym i.has_room.ensures ∙ i.if-not-has_room.false)

pub returns-in-4 : goal.returns-in-4
returns-in-4 c =
    let w = c.before.before.before in
    let f = w.before in
    let m = f.before.before in
    let a = m.args in
    word_written a.out.now a.at 4 a.width a.n f.four.result m.in-4.is w.put_four.ensures f.four.ensures

pub returns-in-8 : goal.returns-in-8
returns-in-8 c =
    let w = c.before.before.before in
    let f = w.before in
    let m = f.before.before in
    let a = m.args in
    word_written a.out.now a.at 8 a.width a.n f.eight.result m.in-8.is w.put_eight.ensures f.eight.ensures

pub returns-in_default : goal.returns-in_default
returns-in_default c = c.before.put_pairs.ensures
