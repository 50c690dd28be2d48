-- `transfer::record_to_text` meets its contract: a field is refused as by every writer, and else the packed bytes say the record. Assumes nothing.
use Prim.Native.Nat.{ℕ}
use mathlib.Core.List.{List}
use mathlib.Core.Path.{◌≡◌, sym, ap, ◌∙◌}
use lib.ListN.{replicate}
use Rattle.std.specs.Prelude.{Ok}
use Rattle.laws.specs.Over.{over}
use Rattle.refusal.specs.declared.Refusal.TheVariants.{Field}
use Rattle.codec.proofs.Lowest.{some_named, none_named}
use Rattle.codec.proofs.Texts.{over_whole_lem}
use Rattle.frame.specs.Message.{message_of}
use Rattle.frame.proofs.Answers.{writes_wrong}
use Rattle.frame.proofs.Laid.{moves_by}
use Rattle.record.specs.Forms.{text_form, packed_form, packed_length}
use Rattle.record.specs.Record.{record_lowest}
use Rattle.record.specs.declared.Record.{Record}
use Rattle.record.proofs.Exact.{text_lowest, packed_lowest}
use Rattle.packed_bytes.specs.Bytes.{packed_record}
use Rattle.packed_bytes.proofs.Right.{written_says}
use Rattle.transfer.proofs.Turned.{unwritten}
use Rattle.transfer.proofs.record_to_text.Goals as goal

pub returns-in-Some : goal.returns-in-Some
returns-in-Some c =
    let d = some_named _ (sym c.in-Some.ensures) in
    writes_wrong text_form Field _ _ _ _ (d.0 ∙ sym (text_lowest _)) d.1

-- packed bytes in a buffer as long as they are say the record
packed_is : (r : Record) (packed : List ℕ) → record_lowest r ≡ 0 → packed ≡ over (replicate packed_length 0) 0 (packed_form.print r) → packed_record packed ≡ r
packed_is r packed h e =
    let w = written_says r (packed_lowest r ∙ h) in
    ap packed_record (e ∙ over_whole_lem (replicate packed_length 0) (packed_form.print r) w.0) ∙ w.1

pub returns : goal.returns
returns c =
    let checksum = c.args.checksum in
    let may = none_named _ (sym c.in_default.ensures) in
    let says = packed_is _ _ may c.put_packed_record.ensures in
    unwritten _ _ _ may (moves_by _ _ (ap (λ (x : Record). Ok (message_of text_form checksum x)) (sym says)) c.put_message.ensures)
