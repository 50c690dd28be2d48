-- A note behind the contents of an exact codec is exact again, so that all that holds of every message holds of it. Assumes nothing.
use Prim.Native.Nat.{ℕ}
use mathlib.Core.Logic.{inl}
use mathlib.Core.Path.{sym, ap, ◌∙◌}
use borrow.Author.Tests.{eqb-true, eq-eqb}
use lib.Dec.{eqb}
use lib.ListN.{length}
use Rattle.laws.proofs.Tests.{and_left, and_right, and_both}
use Rattle.codec.specs.Codec.{Codec, passed}
use Rattle.codec.proofs.Exact.{Exact, holds, fine, passed_is, ⊗_exact}
use Rattle.note.specs.Note.{note_ok}
use Rattle.note.specs.Noted.{note, noted}

pub note_exact : (k : ℕ) → Exact (note k)
unfolding passed
note_exact k = record {
  long = λ s h. eqb-true (length s) k (and_left (eqb (length s) k) (note_ok s) (holds _ 13 h));
  back = λ s h. rw (and_right (eqb (length s) k) (note_ok s) (holds _ 13 h));
  others = λ s t h i. absurd i;
  sound = λ s a l e.
      let p = passed_is (note_ok s) 14 s a e in (
        fine _ 14 (and_both (eq-eqb (length a) k (ap length (sym p.1) ∙ l)) (ap note_ok (sym p.1) ∙ p.0)),
        inl p.1,
      );
}

pub noted_exact : {A : Type 0} {c : Codec A} → Exact c → (k : ℕ) → Exact (noted c k)
noted_exact {c = c} x k = ⊗_exact c (note k) x (note_exact k)
