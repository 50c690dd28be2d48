-- Document 01's table of refusal numbers, with 9 to 12, which requests [1], [3], [6] and [8] give.
use Rattle.std.specs.Prelude.{ℕ}
use Rattle.refusal.specs.declared.Refusal.{Refusal}
use Rattle.refusal.specs.declared.Refusal.TheVariants.{Field, Room, Length, End, Checksum, Contents, Dropped, Setting, TooLong, Form, Lost, NoPort, State}

-- the column 'No.'
abbrev pub number_of : Refusal → ℕ
number_of (Field i) = 1
number_of (Room n) = 2
number_of (Length n) = 3
number_of End = 4
number_of Checksum = 5
number_of (Contents i) = 6
number_of Dropped = 7
number_of (Setting i) = 8
number_of TooLong = 9
number_of Form = 10
number_of Lost = 11
number_of NoPort = 12
number_of State = 16

-- the column 'Also returned'
abbrev pub value_of : Refusal → ℕ
value_of (Field i) = i
value_of (Room n) = n
value_of (Length n) = n
value_of End = 0
value_of Checksum = 0
value_of (Contents i) = i
value_of Dropped = 0
value_of (Setting i) = i
value_of TooLong = 0
value_of Form = 0
value_of Lost = 0
value_of NoPort = 0
value_of State = 0
