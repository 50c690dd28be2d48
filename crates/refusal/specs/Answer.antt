-- What an entry answers: done, with contents or a count; or one refusal.
use Rattle.std.specs.Prelude.{Bool, true, false, cond, Result, Ok, Err}
use Rattle.refusal.specs.declared.Refusal.{Refusal}

abbrev pub Answer : Type 0 → Type 0
Answer A = Result A Refusal

-- done, or refused
abbrev pub Verdict : Type 0
Verdict = Answer Unit

-- an answer, then what is made of its contents; refused as it is
unfoldable pub and_then : {A B : Type 0} → Answer A → (A → Answer B) → Answer B
and_then (Ok a) f = f a
and_then (Err r) f = Err r

-- the work, where the test holds; else this refusal
unfoldable pub unless : {A : Type 0} → Bool → Refusal → Answer A → Answer A
unless ok r k = cond ok k (Err r)

abbrev pub is_accepted : {A : Type 0} → Answer A → Bool
is_accepted (Ok a) = true
is_accepted (Err r) = false

-- the same of a verdict
abbrev pub is_done : Verdict → Bool
is_done (Ok tt) = true
is_done (Err r) = false
