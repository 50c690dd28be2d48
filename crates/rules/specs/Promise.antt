-- Demand 3 for the lens: what is promised, in the paper's numbers.
use Rattle.std.specs.Prelude.{ℕ, ◌+◌, ◌-◌}
use Rattle.machine.specs.Promised.{Promised}
use Rattle.state.specs.declared.Source.{Source}
use Rattle.rules.specs.Lens.{lens, Good, longest_reply, longest_record, longest_message}

-- the bounds, as they follow from the longest messages
abbrev pub act_by : ℕ
act_by = longest_message + longest_record

abbrev pub reply_by : ℕ
reply_by = longest_message + longest_record + longest_reply - 1

abbrev pub record_by : ℕ
record_by = longest_reply + 1

abbrev pub Follows : Type 0
Follows = (s : Source) → Good s → Promised lens act_by reply_by record_by s

-- From a start: acted on at or before the 156th slot, the reply's last byte at or before the 233rd, the next record at or before the 79th.
abbrev pub Demand3 : Type 0
Demand3 = (s : Source) → Good s → Promised lens 156 233 79 s
