-- What each function promises leaves one answer, and so does what the readers of the groups promise. Assumes nothing.
use Prim.Native.Nat.{ℕ}
use mathlib.Core.List.{List}
use mathlib.Core.Path.{◌≡◌, refl, sym, ap, ◌∙◌}
use Rattle.std.specs.Prelude.{Err, Ok, Result}
use Rattle.laws.proofs.OneAnswer.{one_answer}
use Rattle.refusal.specs.declared.Wrong.{Wrong}
use Rattle.record.specs.declared.Record.{Record}
use Rattle.refusal.specs.Answer.{Answer}
use Rattle.codec.specs.Codec.{Got, got, wrong}
use Rattle.record.specs.Forms.{Front, Back}
use Rattle.record.specs.declared.Figures.{Figures}
use Rattle.gather.specs.Gather.{four_says, three_says, eleven_says, Four, Three}
use Rattle.gather.specs.Clauses.{Gather, WithSerial}

-- what is said of an answer tells which it is
told_by_lem : {R A : Type 0} (says : R → A) (said : A → R) (back : (r : R) → said (says r) ≡ r) {g : A} {r r' : R} → says r ≡ g → says r' ≡ g → r ≡ r'
told_by_lem says said back {r = r} {r'} e e' = sym (back r) ∙ ap said (e ∙ sym e') ∙ back r'

said_four : Got Front → Four
said_four (got p) = Ok (p.0, p.1.0, p.1.1.0, p.1.1.1)
said_four (wrong i) = Err (record { 0 = i })

four_back : (r : Four) → said_four (four_says r) ≡ r
unfolding said_four four_says
four_back (Ok p) = refl
four_back (Err w) = refl

pub one_four : {g : Got Front} {r r' : Four} → four_says r ≡ g → four_says r' ≡ g → r ≡ r'
one_four = told_by_lem four_says said_four four_back

said_three : Got Back → Three
said_three (got p) = Ok (p.0, p.1.0, p.1.1)
said_three (wrong i) = Err (record { 0 = i })

three_back : (r : Three) → said_three (three_says r) ≡ r
unfolding said_three three_says
three_back (Ok p) = refl
three_back (Err w) = refl

pub one_three : {g : Got Back} {r r' : Three} → three_says r ≡ g → three_says r' ≡ g → r ≡ r'
one_three = told_by_lem three_says said_three three_back

said_eleven : Got Figures → Result Figures Wrong
said_eleven (got f) = Ok f
said_eleven (wrong i) = Err (record { 0 = i })

eleven_back : (r : Result Figures Wrong) → said_eleven (eleven_says r) ≡ r
unfolding said_eleven eleven_says
eleven_back (Ok f) = refl
eleven_back (Err w) = refl

pub one_gather : (front middle : Four) (back : Three) {r r' : Result Figures Wrong} → Gather front middle back r → Gather front middle back r' → r ≡ r'
one_gather front middle back = told_by_lem eleven_says said_eleven eleven_back

pub one_with_serial : (eleven : Result Figures Wrong) (s : List ℕ) {a a' : Answer Record} → WithSerial eleven s a → WithSerial eleven s a' → a ≡ a'
one_with_serial eleven s = one_answer
