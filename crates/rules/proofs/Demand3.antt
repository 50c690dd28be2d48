-- Demand 3 holds for the lens: the sizes of its messages, and the machine's theorem. Assumes nothing.
use native.Mathlib.Omega.{arith}
use mathlib.Core.Path.{refl}
use Rattle.machine.specs.Promised.{Sizes}
use Rattle.machine.proofs.Promise.{promised}
use Rattle.rules.specs.Lens.{lens, Good, longest_reply, longest_record, longest_message}
use Rattle.rules.specs.Promise.{Follows, Demand3}
use Rattle.rules.proofs.Lengths.{record_at_most, record_some}
use Rattle.rules.proofs.Kept.{reply_at_most, uncounted_off, act_good, ended_good, given_good}

pub sizes : Sizes lens Good longest_message longest_reply longest_record
sizes = record {
  reply_fits = λ s l g. reply_at_most s l g.valid;
  record_fits = λ s g. record_at_most s g.valid;
  record_some = λ s g. record_some s;
  reply_in = omega arith;
  record_in_lem = omega arith;
  greeting_fits = omega arith;
  uncounted_off = uncounted_off;
  ended_same = λ s g. refl;
  act_good = act_good;
  ended_good = ended_good;
  update_good = given_good;
}

-- the bounds follow from the sizes
pub follows : Follows
follows s g = promised sizes s g

-- and they are the paper's
pub demand3 : Demand3
demand3 = follows
