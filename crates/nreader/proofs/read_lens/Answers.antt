-- `nreader::read_lens` meets its contract: the first wrong item of five, or all of them. Assumes nothing.
use mathlib.Core.Path.{ap, ◌∙◌}
use Rattle.laws.proofs.Exits.{had, lacked, exits}
use Rattle.codec.proofs.Fields.{gave, refused, wrong_first, wrong_later, right_both}
use Rattle.nreader.specs.Reader.{lens_says}
use Rattle.nreader.proofs.Letters.{gave_letter, refused_letter}
use Rattle.nreader.proofs.Parts.{lens_wrong_part, lens_right}
use Rattle.nreader.proofs.read_lens.Goals as goal

pub returns-in_err-kind : goal.returns-in_err-kind
unfolding lens_says
returns-in_err-kind c =
    ap lens_says (exits _ _ _ c.ok_or.ensures.value c.in_err-kind.was c.from_residual.ensures.1)
    ∙ lens_wrong_part _ c.requires
    (wrong_first _ (refused_letter 3 c.read_kind.ensures (lacked _ _ c.ok_or.ensures.value c.in_err-kind.was)))

pub returns-in_err-focal : goal.returns-in_err-focal
unfolding lens_says
returns-in_err-focal c =
    ap lens_says (exits _ _ _ c.ok_or-2.ensures.value c.in_err-focal.was c.from_residual-in_err-focal.ensures.1)
    ∙ lens_wrong_part _ c.requires
    (wrong_later (gave_letter 3 c.read_kind.ensures (had _ _ c.ok_or.ensures.value c.in_ok-kind.was))
    (wrong_first _ (refused 4 c.read_tagged.ensures (lacked _ _ c.ok_or-2.ensures.value c.in_err-focal.was))))

pub returns-in_err-maximum : goal.returns-in_err-maximum
unfolding lens_says
returns-in_err-maximum c =
    ap lens_says (exits _ _ _ c.ok_or-3.ensures.value c.in_err-maximum.was c.from_residual-in_err-maximum.ensures.1)
    ∙ lens_wrong_part _ c.requires
    (wrong_later (gave_letter 3 c.read_kind.ensures (had _ _ c.ok_or.ensures.value c.in_ok-kind.was))
    (wrong_later (gave 4 c.read_tagged.ensures (had _ _ c.ok_or-2.ensures.value c.in_ok-focal.was))
    (wrong_first _ (refused 5 c.read_tagged-2.ensures (lacked _ _ c.ok_or-3.ensures.value c.in_err-maximum.was)))))

pub returns-in_err-letter : goal.returns-in_err-letter
unfolding lens_says
returns-in_err-letter c =
    ap lens_says (exits _ _ _ c.ok_or-4.ensures.value c.in_err-letter.was c.from_residual-in_err-letter.ensures.1)
    ∙ lens_wrong_part _ c.requires
    (wrong_later (gave_letter 3 c.read_kind.ensures (had _ _ c.ok_or.ensures.value c.in_ok-kind.was))
    (wrong_later (gave 4 c.read_tagged.ensures (had _ _ c.ok_or-2.ensures.value c.in_ok-focal.was))
    (wrong_later (gave 5 c.read_tagged-2.ensures (had _ _ c.ok_or-3.ensures.value c.in_ok-maximum.was))
    (wrong_first _ (refused_letter 6 c.read_start.ensures (lacked _ _ c.ok_or-4.ensures.value c.in_err-letter.was))))))

pub returns-in_err-transmission : goal.returns-in_err-transmission
unfolding lens_says
returns-in_err-transmission c =
    ap lens_says (exits _ _ _ c.ok_or-5.ensures.value c.in_err-transmission.was c.from_residual-in_err-transmission.ensures.1)
    ∙ lens_wrong_part _ c.requires
    (wrong_later (gave_letter 3 c.read_kind.ensures (had _ _ c.ok_or.ensures.value c.in_ok-kind.was))
    (wrong_later (gave 4 c.read_tagged.ensures (had _ _ c.ok_or-2.ensures.value c.in_ok-focal.was))
    (wrong_later (gave 5 c.read_tagged-2.ensures (had _ _ c.ok_or-3.ensures.value c.in_ok-maximum.was))
    (wrong_later (gave_letter 6 c.read_start.ensures (had _ _ c.ok_or-4.ensures.value c.in_ok-letter.was))
    (refused 7 c.read_tagged-3.ensures (lacked _ _ c.ok_or-5.ensures.value c.in_err-transmission.was))))))

pub returns : goal.returns
unfolding lens_says
returns c =
    lens_right _ c.requires
    (right_both (gave_letter 3 c.read_kind.ensures (had _ _ c.ok_or.ensures.value c.in_ok-kind.was))
    (right_both (gave 4 c.read_tagged.ensures (had _ _ c.ok_or-2.ensures.value c.in_ok-focal.was))
    (right_both (gave 5 c.read_tagged-2.ensures (had _ _ c.ok_or-3.ensures.value c.in_ok-maximum.was))
    (right_both (gave_letter 6 c.read_start.ensures (had _ _ c.ok_or-4.ensures.value c.in_ok-letter.was))
    (gave 7 c.read_tagged-3.ensures (had _ _ c.ok_or-5.ensures.value c.in_ok-transmission.was))))))
