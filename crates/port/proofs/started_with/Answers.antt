-- `port::started_with` meets its contract. Assumes nothing.
use Prim.Native.Nat.{ℕ}
use mathlib.Core.Path.{◌≡◌, sym, ap, ◌∙◌}
use Rattle.fixed.specs.declared.Settings.{Settings}
use Rattle.units.specs.declared.Measurement.{Measurement}
use Rattle.state.specs.declared.Message.{Message}
use Rattle.state.specs.State.{unsent}
use Rattle.rules.proofs.Lengths.{greeting_is}
use Rattle.port.specs.Port.{started_with}
use Rattle.port.proofs.started_with.Goals as goal

-- the two parts that calls made
two : (s : Settings) (m : Measurement) {u v : ℕ} {g h : Message} → u ≡ v → g ≡ h → started_with s m u g ≡ started_with s m v h
two s m p q = λ i. started_with s m (p i) (q i)

pub returns : goal.returns
returns c =
    let a = c.args in
    two a.settings a.measurement c.unit_of.ensures (c.letter_message.ensures ∙ ap unsent (sym greeting_is))
