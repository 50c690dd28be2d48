-- `line::command_in` meets its contract: each arm has the number of bytes that its case of `command_in` has. Assumes nothing.
use Rattle.std.proofs.Common.{sym, ◌∙◌, arith}
use Rattle.line.proofs.Bytes.{of_one, of_two, of_three, of_other}
use Rattle.line.proofs.command_in.Goals as goal

pub returns-in-len1 : goal.returns-in-len1
returns-in-len1 c = c.one_byte.ensures ∙ sym (of_one c.args.line.now (omega arith))

pub returns-in-len2 : goal.returns-in-len2
returns-in-len2 c = c.two_bytes.ensures ∙ sym (of_two c.args.line.now (omega arith))

pub returns-in-len3 : goal.returns-in-len3
returns-in-len3 c = c.three_bytes.ensures ∙ sym (of_three c.args.line.now (omega arith))

pub returns-in_default : goal.returns-in_default
returns-in_default c = sym (of_other c.args.line.now (λ e. omega arith) (λ e. omega arith) (λ e. omega arith))

pub returns-in_default-2 : goal.returns-in_default-2
returns-in_default-2 c = sym (of_other c.args.line.now (λ e. omega arith) (λ e. omega arith) (λ e. omega arith))
