-- `straight::put_contents` meets its contract: nothing of other than 39 bytes or without room, else all of it over the first bytes. Assumes nothing.
use mathlib.Core.Path.{sym, ap, ◌∙◌}
use native.Mathlib.Omega.{arith}
use Rattle.laws.specs.Over.{over}
use Rattle.laws.proofs.OverLaws.{last, run_first}
use Rattle.record.specs.Forms.{text_form, text_length}
use Rattle.packed_bytes.specs.Bytes.{packed_record}
use Rattle.straight.proofs.Written.{text_in_lem, none_in, no_room, contents_long}
use Rattle.straight.proofs.put_contents.Goals as goal

pub returns-in_default : goal.returns-in_default
returns-in_default c = none_in _ _ c.in_default.ensures.cases

pub returns-in_default-first_chunk_mut : goal.returns-in_default-first_chunk_mut
returns-in_default-first_chunk_mut c = no_room _ _ c.in-Some.ensures.cases.long c.in_default-first_chunk_mut.ensures.cases

pub returns : goal.returns
returns c =
    let whole = c.in-Some.ensures.cases in
    let first = c.in-Some-first_chunk_mut.ensures.cases in
    run_first _ text_length first.enough first.same
    (last _ (c.put_record.ensures ∙ ap (λ s. over c.in-Some-first_chunk_mut.out.now 0 (text_form.print (packed_record s))) whole.same) (contents_long _ whole.long))
    (omega arith)
    ∙ ap (over _ 0) (sym (text_in_lem _ whole.long))
