-- `reply::unit` meets its contract: the letter is what `relettered` says. Assumes nothing.
use Prim.Native.Nat.{ℕ}
use mathlib.Core.Path.{ap, ◌∙◌}
use mathlib.Core.List.{[], ◌∷◌}
use Rattle.state.specs.declared.Source.{Source}
use Rattle.rules.specs.Does.{fixed_with, unit_now, replies}
use Rattle.reply.specs.Reply.{acted_of}
use Rattle.reply.specs.declared.Acted.{Acted}
use Rattle.reply.proofs.unit.Goals as goal

-- the reply by the letter after it
abbrev relettered_with : ℕ → ℕ → Source → ℕ → Acted
relettered_with u byte s l =
    acted_of
    (replies
    (record {
      settings = record { fixed = fixed_with l s.settings.fixed; maker = s.settings.maker; type_name = s.settings.type_name; blur = s.settings.blur };
      measurement = s.measurement;
      modes = unit_now u s.modes;
    })
    (byte ∷ []))

pub returns : goal.returns
returns c =
    let a = c.args in
    c.answer.ensures ∙ ap (relettered_with a.unit a.byte a.source) c.relettered-after.ensures
