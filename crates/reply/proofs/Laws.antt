-- A message beside its source is the reply. Assumes nothing.
use Prim.Native.Nat.{ℕ}
use mathlib.Core.List.{List}
use mathlib.Core.Path.{◌≡◌, ap}
use Rattle.frame.specs.Frame.{framed}
use Rattle.state.specs.declared.Message.{Message}
use Rattle.state.specs.declared.Source.{Source}
use Rattle.state.specs.State.{unsent}
use Rattle.rules.specs.Does.{replies}
use Rattle.reply.specs.Reply.{acted_of}

pub answered : (s : Source) (body : List ℕ) {m : Message} → m ≡ unsent (framed s.modes.checksum body) → record { source = s; message = m } ≡ acted_of (replies s body)
unfolding replies
answered s body p = ap (λ (m : Message). record { source = s; message = m }) p
