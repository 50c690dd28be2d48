-- `reply::running` meets its contract: an arm for each command of the table. Assumes nothing.
use Rattle.laws.proofs.Tests.{at}
use Rattle.line.specs.declared.Command.{Command}
use Rattle.state.specs.declared.Source.{Source}
use Rattle.rules.specs.Does.{runs}
use Rattle.reply.specs.Reply.{acted_of}
use Rattle.reply.specs.declared.Acted.{Acted}
use Rattle.reply.proofs.running.Goals as goal

abbrev acts : Source → Command → Acted
acts s k = acted_of (runs s k)

pub rate-requires : goal.rate-requires
rate-requires c = c.requires.rate _ c.in-Kb.is

pub film-requires-in-W : goal.film-requires-in-W
film-requires-in-W c = c.requires.film _ c.in-W.is

pub returns-in-B : goal.returns-in-B
unfolding runs
returns-in-B c = at (acts c.args.source) c.in-B.is c.version.ensures

pub returns-in-C : goal.returns-in-C
unfolding runs
returns-in-C c = at (acts c.args.source) c.in-C.is c.sending_on.ensures

pub returns-in-D : goal.returns-in-D
unfolding runs
returns-in-D c = at (acts c.args.source) c.in-D.is c.record_reply.ensures

pub returns-in-G : goal.returns-in-G
unfolding runs
returns-in-G c = at (acts c.args.source) c.in-G.is c.checksum_on.ensures

pub returns-in-H : goal.returns-in-H
unfolding runs
returns-in-H c = at (acts c.args.source) c.in-H.is c.all_off.ensures

pub returns-in-Ka : goal.returns-in-Ka
unfolding runs
returns-in-Ka c = at (acts c.args.source) c.in-Ka.is c.inhibit_on.ensures

pub returns-in-Kb : goal.returns-in-Kb
unfolding runs
returns-in-Kb c = at (acts c.args.source) c.in-Kb.is c.rate.ensures

pub returns-in-Kc : goal.returns-in-Kc
unfolding runs
returns-in-Kc c = at (acts c.args.source) c.in-Kc.is c.sending_on-in-Kc.ensures

pub returns-in-Kd : goal.returns-in-Kd
unfolding runs
returns-in-Kd c = at (acts c.args.source) c.in-Kd.is c.record_reply-in-Kd.ensures

pub returns-in-K3 : goal.returns-in-K3
unfolding runs
returns-in-K3 c = at (acts c.args.source) c.in-K3.is c.maker.ensures

pub returns-in-K4 : goal.returns-in-K4
unfolding runs
returns-in-K4 c = at (acts c.args.source) c.in-K4.is c.type_name.ensures

pub returns-in-N : goal.returns-in-N
unfolding runs
returns-in-N c = at (acts c.args.source) c.in-N.is c.fixed_data.ensures

pub returns-in-P : goal.returns-in-P
unfolding runs
returns-in-P c = at (acts c.args.source) c.in-P.is c.temperature.ensures

pub returns-in-V : goal.returns-in-V
unfolding runs
returns-in-V c = at (acts c.args.source) c.in-V.is c.film.ensures

pub returns-in-W : goal.returns-in-W
unfolding runs
returns-in-W c = at (acts c.args.source) c.in-W.is c.film-in-W.ensures

pub returns-in-X : goal.returns-in-X
unfolding runs
returns-in-X c = at (acts c.args.source) c.in-X.is c.unit.ensures

pub returns-in-Y : goal.returns-in-Y
unfolding runs
returns-in-Y c = at (acts c.args.source) c.in-Y.is c.unit-in-Y.ensures

pub returns-in-Unknown : goal.returns-in-Unknown
unfolding runs
returns-in-Unknown c = at (acts c.args.source) c.in-Unknown.is c.unknown.ensures
