-- `transfer::put_message` meets its contract: the room decides. Assumes nothing.
use Prim.Native.Nat.{ℕ}
use mathlib.Core.List.{List}
use mathlib.Core.Path.{◌≡◌, refl, ap, ◌∙◌}
use native.Mathlib.Omega.{arith}
use lib.ListN.{length, drop, length-drop}
use lib.Seq.{length-take-le}
use Rattle.laws.specs.Over.{over}
use Rattle.laws.proofs.Exits.{handed_up}
use Rattle.record.specs.Forms.{text_form, text_length, packed_length}
use Rattle.text_writer.proofs.Written.{record_long}
use Rattle.packed_bytes.specs.Bytes.{packed_record}
use Rattle.straight.proofs.Written.{text_in_lem}
use Rattle.transfer.proofs.Turned.{put_short, put_done}
use Rattle.transfer.proofs.put_message.Goals as goal

-- the text of any record is as long
long : (s : List ℕ) → length s ≡ packed_length → length (text_form.print (packed_record s)) ≡ text_length
long s h = record_long _ (length-take-le 9 (drop 30 s) (omega (arith, length-drop 30 s)))

pub returns-in_err-n : goal.returns-in_err-n
returns-in_err-n c =
    let r = handed_up _ c.from_residual.ensures.1 in
    put_short c.args.checksum _ _ (long _ c.requires) (r ∙ c.in_err-n.ensures) _ r

pub returns : goal.returns
returns c =
    let text = c.put_contents.ensures ∙ ap (over _ 0) (text_in_lem _ c.requires) in
    put_done c.args.checksum _ _ (long _ c.requires) c.in_ok-n.ensures _ refl text c.end_text.ensures
