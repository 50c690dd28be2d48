-- A port and its line seen as a state of the paper's machine.
use Rattle.std.specs.Prelude.{ℕ, List, [], ◌∷◌, take, drop, Option, None, Some, Ok, Err}
use Rattle.std.proofs.Math.Option.{none, some}
use Rattle.std.proofs.Math.Option as machine
use Rattle.refusal.specs.Answer.{Answer}
use Rattle.machine.specs.Machine.{Kind, neither, a_record, a_reply, State, port}
use Rattle.line.specs.declared.Line.{Line}
use Rattle.state.specs.declared.Last.{Last}
use Rattle.state.specs.declared.Last.TheVariants as last
use Rattle.state.specs.declared.Message.{Message}
use Rattle.rules.specs.Lens.{lens}
use Rattle.port.specs.declared.Port.{Port}

abbrev pub kind_of : Last → Kind
kind_of last.Neither = neither
kind_of last.Record = a_record
kind_of last.Reply = a_reply

-- the command that waits, if one does
abbrev pub waits_of : Option Line → machine.Option Line
waits_of (Some l) = some l
waits_of None = none

-- the bytes left of the message under way
abbrev pub left_of : Message → List ℕ
left_of m = drop m.at (take m.len m.bytes)

unfoldable pub view : Port → Line → State lens
view p l = port p.source (waits_of p.waiting) (left_of p.message) (kind_of p.last) l

-- the bytes of a slot: one, or none
abbrev pub bytes_of : Answer (Option ℕ) → List ℕ
bytes_of (Ok (Some b)) = b ∷ []
bytes_of (Ok None) = []
bytes_of (Err r) = []
