-- What the code of a reply hands back: the source after the command, and its reply in a fresh buffer.
use Rattle.state.specs.State.{unsent}
use Rattle.rules.specs.Does.{Outcome}
use Rattle.reply.specs.declared.Acted.{Acted}

abbrev pub acted_of : Outcome → Acted
acted_of d = record { source = d.source; message = unsent d.reply }
