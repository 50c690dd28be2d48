-- Document 01's session: the checker runs it. Assumes nothing.
use mathlib.Core.Path.{refl}
use Rattle.machine.specs.Machine.{on_slot, begin, rules, rule2, answer, rule3, on_byte, on_return, on_other}
use Rattle.digits.specs.Digits.{digits}
use Rattle.frame.specs.Frame.{xor_from, sum_of, ending}
use Rattle.fixed.specs.Form.{serial as fixedSerial, owner, lens_items, version, fixed_form}
use Rattle.line.specs.Line.{zeros, ends, joined}
use Rattle.line.specs.Command.{one_byte, after_k, two_bytes, command_in, command_of}
use Rattle.rules.specs.Does.{replies, silent, runs, is_n, readies, does_in, does, counts_in, counts, is_on}
use Rattle.rules.specs.Session.{SessionExample}

pub session_example : SessionExample
unfolding on_slot begin rules rule2 answer rule3 on_byte on_return on_other digits xor_from sum_of ending fixedSerial owner lens_items version fixed_form ends joined zeros one_byte after_k two_bytes command_in command_of replies silent runs is_n readies does_in does counts_in counts is_on
session_example = record { prints = refl }
