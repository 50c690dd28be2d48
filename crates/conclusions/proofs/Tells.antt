-- What is handed over tells the answer: by the number first, then by what stands beside it. Assumes nothing.
use Prim.Native.Nat.{ℕ}
use mathlib.Core.Logic.{◌↔◌}
use mathlib.Core.Path.{◌≡◌, refl, sym, ap, ◌∙◌}
use Rattle.std.specs.Prelude.{Err, Ok}
use Rattle.refusal.specs.Answer.{Answer}
use Rattle.refusal.specs.Refusal.{number_of, value_of}
use Rattle.refusal.specs.declared.Refusal.{Refusal}
use Rattle.refusal.proofs.Promises.{numbers}
use Rattle.hourheron.specs.Host.{answer_of, conversion_of}
use Rattle.conclusions.specs.Promises.{TellsApart}

-- handed over are 0 and what was done, or a refusal's number and value
pub record Hands {A R : Type 0} (handed : Answer A → R) (number beside : R → ℕ) (value : R → A) : Type 0 where
  pub zero : (y : A) → number (handed (Ok y)) ≡ 0
  pub given : (y : A) → value (handed (Ok y)) ≡ y
  pub numbered : (x : Refusal) → number (handed (Err x)) ≡ number_of x
  pub valued : (x : Refusal) → beside (handed (Err x)) ≡ value_of x

pub answers : Hands answer_of (λ r. r.number) (λ r. r.value) (λ r. r.value)
answers = record { zero = λ n. refl; given = λ n. refl; numbered = λ x. refl; valued = λ x. refl }

pub conversions : Hands conversion_of (λ r. r.number) (λ r. r.field) (λ r. r.value)
conversions = record { zero = λ z. refl; given = λ z. refl; numbered = λ x. refl; valued = λ x. refl }

module _ {A R : Type 0} {handed : Answer A → R} {number beside : R → ℕ} {value : R → A} (h : Hands handed number beside value) where
  -- ---- a call whose answer is a

  module _ (r : R) where
    pub was_done : (a : Answer A) → r ≡ handed a → number r ≡ 0 → (y : A) × (a ≡ Ok y)
    was_done (Ok y) call z = (y, refl)
    was_done (Err x) call z = absurd (numbers.not_zero x (sym (h.numbered x) ∙ ap number (sym call) ∙ z))

    pub was_refused : (a : Answer A) → r ≡ handed a → (number r ≡ 0 → ⊥) → (x : Refusal) × (a ≡ Err x)
    was_refused (Ok y) call n = absurd (n (ap number call ∙ h.zero y))
    was_refused (Err x) call n = (x, refl)

    pub no_refusal : (a : Answer A) → r ≡ handed a → ((x : Refusal) → a ≡ Err x → ⊥) → number r ≡ 0
    no_refusal (Ok y) call n = ap number call ∙ h.zero y
    no_refusal (Err x) call n = absurd (n x refl)

    pub done_with : (a : Answer A) → r ≡ handed a → (y : A) → ((number r ≡ 0) × (value r ≡ y)) ↔ (a ≡ Ok y)
    done_with a call y = (
      λ p. let w = was_done a call p.0 in w.1 ∙ ap Ok (sym (h.given w.0) ∙ ap value (sym (call ∙ ap handed w.1)) ∙ p.1),
      λ e. let is = call ∙ ap handed e in (ap number is ∙ h.zero y, ap value is ∙ h.given y),
    )

    refused_is : (a : Answer A) → r ≡ handed a → (x : Refusal) → number r ≡ number_of x → beside r ≡ value_of x → a ≡ Err x
    refused_is (Ok y) call x n v = absurd (numbers.not_zero x (sym n ∙ ap number call ∙ h.zero y))
    refused_is (Err y) call x n v =
        ap Err (numbers.apart y x (sym (h.numbered y) ∙ ap number (sym call) ∙ n) (sym (h.valued y) ∙ ap beside (sym call) ∙ v))

    pub refused_with : (a : Answer A) → r ≡ handed a → (x : Refusal) → ((number r ≡ number_of x) × (beside r ≡ value_of x)) ↔ (a ≡ Err x)
    refused_with a call x = (
      λ p. refused_is a call x p.0 p.1,
      λ e. let is = call ∙ ap handed e in (ap number is ∙ h.numbered x, ap beside is ∙ h.valued x),
    )

  -- ---- hence of any answer

  tells_done : (a : Answer A) → (number (handed a) ≡ 0) ↔ ((y : A) × (a ≡ Ok y))
  tells_done a = (was_done (handed a) a refl, λ p. ((done_with (handed a) a refl p.0).1 p.1).0)

  tells_apart : (a b : Answer A) → handed a ≡ handed b → a ≡ b
  tells_apart a (Ok y) e = (done_with (handed a) a refl y).0 (ap number e ∙ h.zero y, ap value e ∙ h.given y)
  tells_apart a (Err x) e = (refused_with (handed a) a refl x).0 (ap number e ∙ h.numbered x, ap beside e ∙ h.valued x)

  pub tells : TellsApart handed number
  tells = record { done = tells_done; apart = tells_apart }
