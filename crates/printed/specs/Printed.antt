-- What a replay prints: "the bytes sent in lowercase hex with `--` for an idle slot, separated by spaces"; "`refused` and its number"; "`slots` and the number run".
use Rattle.std.specs.Prelude.{ℕ, zero, suc, ◌+◌, ◌-◌, ◌/◌, ◌%◌, cond, List, [], ◌∷◌, ◌++◌, ltb, eqb, length, Err, None, Ok, Option, Some}
use Rattle.laws.specs.Gives.{Gives}
use Rattle.laws.specs.Over.{over}
use Rattle.refusal.specs.Answer.{Answer, Verdict}
use Rattle.refusal.specs.Refusal.{number_of}
use Rattle.refusal.specs.declared.Refusal.{Refusal}
use Rattle.digits.specs.Digits.{decimal}
use Rattle.frame.specs.Message.{room_for}
use Rattle.port.specs.declared.Port.{Port}
use Rattle.port.specs.Port.{slot_of}

abbrev pub LF : ℕ
LF = 10

-- 0..9 from 48 on, a..f from 97 on
unfoldable pub hex_digit : ℕ → ℕ
hex_digit n = cond (ltb n 10) (48 + n) (97 + (n - 10))

-- a slot: its byte in hex, or -- (no slot of a run is refused)
abbrev pub slot_text : Answer (Option ℕ) → List ℕ
slot_text (Ok (Some b)) = hex_digit (b / 16) ∷ hex_digit (b % 16) ∷ []
slot_text (Ok None) = 45 ∷ 45 ∷ []
slot_text (Err r) = 45 ∷ 45 ∷ []

-- behind a slot with so many to come: a space, or the line's end behind the last
unfoldable pub separator : ℕ → ℕ
separator n = cond (eqb n 0) LF 32

-- n slots from a port on, as a line
unfoldable pub slots_text : ℕ → Port → List ℕ
slots_text zero p = []
slots_text (suc n) p = slot_text (slot_of p).sent ++ (separator n ∷ slots_text n (slot_of p).port)

-- and the port after them
unfoldable pub after_slots : ℕ → Port → Port
after_slots zero p = p
after_slots (suc n) p = after_slots n (slot_of p).port

-- how many digits a number has; none here has more than six
unfoldable pub width_of : ℕ → ℕ
width_of n = cond (ltb n 10) 1 (cond (ltb n 100) 2 (cond (ltb n 1000) 3 (cond (ltb n 10000) 4 (cond (ltb n 100000) 5 6))))

-- a number without leading zeros
abbrev pub numeral : ℕ → List ℕ
numeral n = decimal (width_of n) n

-- a label and a number, as a line
unfoldable pub labelled : List ℕ → ℕ → List ℕ
labelled label n = label ++ (numeral n ++ (LF ∷ []))

-- `refused` and the number
abbrev pub refused_text : Refusal → List ℕ
refused_text r = labelled (0x72 ∷ 0x65 ∷ 0x66 ∷ 0x75 ∷ 0x73 ∷ 0x65 ∷ 0x64 ∷ 0x20 ∷ []) (number_of r)

-- `slots` and the number
abbrev pub slots_line : ℕ → List ℕ
slots_line n = labelled (0x73 ∷ 0x6C ∷ 0x6F ∷ 0x74 ∷ 0x73 ∷ 0x20 ∷ []) n

-- an event that is done prints nothing
abbrev pub verdict_text : Verdict → List ℕ
verdict_text (Ok tt) = []
verdict_text (Err r) = refused_text r

-- a text goes to the start of lent memory: 2 with its length where that is shorter, and nothing is written
abbrev pub printed_in : List ℕ → List ℕ → Answer ℕ
printed_in text out = room_for (length text) (length out)

abbrev pub Prints : List ℕ → List ℕ → Answer ℕ → List ℕ → Type 0
Prints text out r after = Gives (printed_in text out) (over out 0 text) r after
