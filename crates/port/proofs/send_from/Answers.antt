-- `port::send_from` meets its contract. Assumes nothing.
use mathlib.Core.Path.{ap}
use lib.ListN.{get_or}
use Rattle.std.specs.Prelude.{Ok, Some}
use Rattle.port.specs.declared.Port.{Port}
use Rattle.port.specs.Port.{send_from}
use Rattle.port.proofs.send_from.Goals as goal

pub returns : goal.returns
unfolding send_from
returns c =
    let a = c.args in
    ap (λ (q : Port). record { sent = Ok (Some (get_or a.p.message.bytes a.at 0)); port = q }) c.sent_up_to.ensures
