-- A piece by where a message ends in it: what is handed over and left, for any reader. Assumes nothing.
use Prim.Native.Nat.{ℕ}
use mathlib.Core.Bool.{true}
use mathlib.Core.List.{List}
use mathlib.Core.Path.{◌≡◌, refl, sym, ap, subst}
use lib.ListN.{length, take}
use Rattle.std.specs.Prelude.{None, Some}
use Rattle.laws.specs.Gives.{Gives}
use Rattle.laws.proofs.Tests.{told}
use Rattle.refusal.specs.Answer.{Answer}
use Rattle.cutter.specs.Cutter.{cutter_length, fresh, valid_cutter, held_from, held_message, Cutting, end_in, hold_of, answer_by, left_by_said, has_ended}
use Rattle.cutter.specs.declared.Cutter.{Cutter}
use Rattle.cutter.proofs.Cuts.{cut_none, cut_some}
use Rattle.hourheron.specs.Host.{answer_of}
use Rattle.hourheron.specs.Cuts.{cut_with, cut_to, cut_value, Cuts}
use Rattle.hourheron.specs.declared.Answer as host
use Rattle.hourheron.specs.declared.CutValue.{CutValue}

-- an answer made of a message that ended, and what is put into the lent memory
module _ (make : Answer (List ℕ) → Answer ℕ) (put : Answer (List ℕ) → List ℕ → List ℕ) (c : Cutter) (p out : List ℕ)
    (long : length c.bytes ≡ cutter_length) where
  abbrev Makes : Cutting → CutValue → List ℕ → Type 0
  Makes t r after = Gives (cut_value make t) (left_by_said put t.said out) r after

  -- no message ends
  pub cuts_none : end_in c p ≡ None → Cuts make put c p out (cut_to (hold_of c p)) out
  unfolding hold_of answer_by left_by_said has_ended
  cuts_none z =
      subst (λ (t : Cutting). Makes t (cut_to (hold_of c p)) out) (sym (cut_none c p long z))
      (told (valid_cutter c) (λ v. rw v (record { answers = refl; leaves = refl })) (λ v. rw v (record { answers = refl; leaves = refl })))

  -- one ends
  pub cuts_some : (e : ℕ) (r : host.Answer) {after : List ℕ} → end_in c p ≡ Some e →
      Gives (answer_of (make (held_message (held_from c (take e p))))) (put (held_message (held_from c (take e p))) out) r after →
      Cuts make put c p out (cut_with r e true fresh) after
  unfolding answer_by left_by_said has_ended
  cuts_some e r {after} z g =
      subst (λ (t : Cutting). Makes t (cut_with r e true fresh) after) (sym (cut_some c p e long z).2)
      (record { answers = ap (λ (x : host.Answer). cut_with x e true fresh) g.answers; leaves = g.leaves })
