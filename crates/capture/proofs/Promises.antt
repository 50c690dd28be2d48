-- The promises hold: what is read of a line, and what reads a line. Assumes nothing.
use Prim.Native.Nat.{ℕ}
use mathlib.Core.List.{List}
use mathlib.Core.Path.{◌≡◌, refl, subst}
use borrow.Author.Tests.{eq-eqb, ne_eqb}
use Rattle.laws.proofs.Tests.{cond_yes, cond_no}
use Rattle.capture.specs.Words.{before}
use Rattle.capture.specs.Capture.{event_of}
use Rattle.capture.specs.Promises.{Forms, OfBefore}
use Rattle.capture.specs.declared.Event.{Event}
use Rattle.capture.proofs.Lines.{Says, says}
use Rattle.capture.proofs.Beyond.{beyond}
use Rattle.capture.proofs.Forms.{byte_reads, slot_reads, measurement_reads}

-- the line of an event that is known
is : (s : List ℕ) {e : Event} → event_of s ≡ e → Says s e
is s h = subst (Says s) h (says s)

pub forms : Forms
forms = record {
  received = λ s b. (λ h. is s h, byte_reads s b);
  slots = λ s n. (λ h. is s h, slot_reads s n);
  measured = λ s m. (λ h. is s h, measurement_reads s m);
  beyond = beyond;
}

pub of_before : OfBefore
unfolding before
of_before = record {
  none = λ x. refl;
  here = λ x s. cond_yes _ _ (eq-eqb x x refl);
  later = λ x b s n. cond_no _ _ (ne_eqb b x n);
}
