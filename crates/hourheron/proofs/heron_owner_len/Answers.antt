-- `hourheron::heron_owner_len` meets its contract: refused as the message is, or the length of the owner's name that was read. Assumes nothing.
use mathlib.Core.Path.{sym, ◌∙◌}
use Rattle.hourheron.specs.Host.{asked_of}
use Rattle.hourheron.proofs.heron_owner_len.Goals as goal

pub returns-in-Ok : goal.returns-in-Ok
unfolding asked_of
returns-in-Ok c = rw (sym c.read_fixed.ensures ∙ c.in-Ok.is, ← c.trimmed_length.ensures) c.done.ensures

pub returns-in-Err : goal.returns-in-Err
unfolding asked_of
returns-in-Err c = rw (sym c.read_fixed.ensures ∙ c.in-Err.is) c.refuse.ensures
