-- `nreader::read_items` meets its contract: each `return` is a case of the form's reader. Assumes nothing.
use mathlib.Core.Path.{sym, ap, ◌∙◌}
use Rattle.laws.proofs.Exits.{handed_up}
use Rattle.nreader.specs.Reader.{lens_says, items_says}
use Rattle.nreader.proofs.Parts.{serial_wrong, owner_wrong, lens_wrong, version_wrong, all_right}
use Rattle.nreader.proofs.read_items.Goals as goal

pub returns-then-not-is_behind : goal.returns-then-not-is_behind
unfolding items_says
returns-then-not-is_behind c =
    serial_wrong _ c.requires (sym c.is_behind.ensures ∙ c.if-not-is_behind.true)

pub returns-then-not-is_behind-2 : goal.returns-then-not-is_behind-2
unfolding items_says
returns-then-not-is_behind-2 c =
    owner_wrong _ c.requires (sym c.is_behind.ensures ∙ c.if-not-is_behind.false)
    (sym c.is_behind-2.ensures ∙ c.if-not-is_behind-2.true)

pub returns-in_err-lens : goal.returns-in_err-lens
unfolding items_says lens_says
returns-in_err-lens c =
    ap (items_says c.args.s.now) (handed_up _ c.from_residual.ensures.1)
    ∙ lens_wrong _ c.requires (sym c.is_behind.ensures ∙ c.if-not-is_behind.false)
    (sym c.is_behind-2.ensures ∙ c.if-not-is_behind-2.false)
    _ (sym c.read_lens.ensures ∙ ap lens_says c.in_err-lens.was)

pub returns-then-not-is_behind-3 : goal.returns-then-not-is_behind-3
unfolding items_says lens_says
returns-then-not-is_behind-3 c =
    version_wrong _ c.requires (sym c.is_behind.ensures ∙ c.if-not-is_behind.false)
    (sym c.is_behind-2.ensures ∙ c.if-not-is_behind-2.false)
    _ (sym c.read_lens.ensures ∙ ap lens_says c.in_ok-lens.was)
    (sym c.is_behind-3.ensures ∙ c.if-not-is_behind-3.true)

pub returns : goal.returns
unfolding items_says lens_says
returns c =
    all_right _ c.requires (sym c.is_behind.ensures ∙ c.if-not-is_behind.false)
    (sym c.is_behind-2.ensures ∙ c.if-not-is_behind-2.false)
    _ (sym c.read_lens.ensures ∙ ap lens_says c.in_ok-lens.was)
    (sym c.is_behind-3.ensures ∙ c.if-not-is_behind-3.false)
