-- What a C host is handed for a piece of a stream, and what is left in its memory.
use Rattle.std.specs.Prelude.{ℕ, Bool, List}
use Rattle.laws.specs.Gives.{Gives}
use Rattle.refusal.specs.Answer.{Answer}
use Rattle.frame.specs.Message.{then_write, then_left}
use Rattle.cutter.specs.Cutter.{Cutting, cut_of, answer_by, left_by_said, has_ended, then_read}
use Rattle.cutter.specs.declared.Cut.{Cut}
use Rattle.cutter.specs.declared.Cutter.{Cutter}
use Rattle.hourheron.specs.Host.{answer_of}
use Rattle.hourheron.specs.declared.Answer as host
use Rattle.hourheron.specs.declared.CutValue.{CutValue}

-- an answer; the bytes used; whether a message ended with them; the cutter for what follows
abbrev pub cut_with : host.Answer → ℕ → Bool → Cutter → CutValue
cut_with a used ended c = record { number = a.number; value = a.value; used = used; ended = ended; cutter = c }

-- what a cutter answered
abbrev pub cut_to : Cut → CutValue
cut_to t = cut_with (answer_of t.wrote) t.used t.ended t.cutter

-- what is made of a message that ended; 16, or 0 with 0 where none did
abbrev pub cut_value : (Answer (List ℕ) → Answer ℕ) → Cutting → CutValue
cut_value make t = cut_with (answer_of (answer_by make t.said)) t.used (has_ended t.said) t.cutter

-- a piece is cut: an answer is made of a message that ended, which is put into the lent memory
abbrev pub Cuts : (Answer (List ℕ) → Answer ℕ) → (Answer (List ℕ) → List ℕ → List ℕ) → Cutter → List ℕ → List ℕ → CutValue → List ℕ → Type 0
Cuts make put c piece out r after = Gives (cut_value make (cut_of c piece)) (left_by_said put (cut_of c piece).said out) r after

-- it is read: 9 or refused as it is, then 2 with the bytes that the contents take; else their count
abbrev pub CutsRead : {A : Type 0} → (A → List ℕ) → ℕ → (List ℕ → Answer A) → Cutter → List ℕ → List ℕ → CutValue → List ℕ → Type 0
CutsRead bytes width read c piece out r after =
    Cuts (λ m. then_write width (then_read read m) out) (λ m d. then_left bytes (then_read read m) d) c piece out r after
