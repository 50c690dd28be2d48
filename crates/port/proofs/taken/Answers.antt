-- `port::taken` meets its contract. Assumes nothing.
use mathlib.Core.Path.{sym, ap, ◌∙◌}
use Rattle.std.specs.Prelude.{Ok, Err}
use Rattle.laws.proofs.Tests.{yes, no}
use Rattle.refusal.specs.declared.Refusal.TheVariants as refusal
use Rattle.line.specs.declared.Line.{Line}
use Rattle.port.specs.Port.{taken_port, taken_of}
use Rattle.port.proofs.taken.Goals as goal

pub returns-then-is_some : goal.returns-then-is_some
unfolding taken_of
returns-then-is_some c =
    let p = c.args.p in
    yes _ (sym c.is_some.ensures ∙ c.if-is_some.true) (ap (λ (l : Line). record { verdict = Err refusal.Dropped; port = p; line = l }) c.blank.ensures)

pub returns : goal.returns
unfolding taken_of
returns c =
    let a = c.args in
    no _ (sym c.is_some.ensures ∙ c.if-is_some.false) (ap (λ (l : Line). record { verdict = Ok tt; port = taken_port a.p a.line; line = l }) c.blank-2.ensures)
