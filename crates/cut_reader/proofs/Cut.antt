-- What any reader answers to a message that a cutter has all bytes of, and to one that lies whole in its piece. Assumes nothing.
use Prim.Native.Nat.{ℕ, ◌≤◌, ◌<◌}
use mathlib.Core.List.{List, ◌++◌}
use mathlib.Core.Path.{◌≡◌, sym, ap, ◌∙◌}
use native.Mathlib.Omega.{arith}
use borrow.Author.Tests.{le-leb, lt-leb, leb-true, leb-false}
use lib.Dec.{leb}
use lib.ListN.{length, take}
use Rattle.std.specs.Prelude.{Err, Ok}
use Rattle.laws.proofs.Tests.{cond_yes, cond_no, told}
use Rattle.refusal.specs.Answer.{Answer, unless}
use Rattle.refusal.specs.declared.Refusal.TheVariants.{TooLong}
use Rattle.cutter.specs.Cutter.{cutter_length, held_from, held_message, then_read}
use Rattle.cutter.specs.Stream.{judged}
use Rattle.cutter.specs.declared.Cutter.{Cutter}
use Rattle.cutter.proofs.Cuts.{message_whole, message_long, held_small, held_long}

module _ {A : Type 0} (read : List ℕ → Answer A) where
  -- ---- a whole message

  pub judged_fits : (m : List ℕ) → length m ≤ cutter_length → judged read m ≡ read m
  unfolding judged unless
  judged_fits m h = cond_yes _ _ (le-leb _ _ h)

  pub judged_long : (m : List ℕ) → cutter_length < length m → judged read m ≡ Err TooLong
  unfolding judged unless
  judged_long m h = cond_no _ _ (lt-leb _ _ h)

  -- ---- one that a cutter holds

  pub held_fits : (c : Cutter) → c.len ≤ cutter_length → then_read read (held_message c) ≡ read (take c.len c.bytes)
  unfolding then_read
  held_fits c h = ap (then_read read) (message_whole c h)

  pub held_over : (c : Cutter) → cutter_length < c.len → then_read read (held_message c) ≡ Err TooLong
  unfolding then_read
  held_over c h = ap (then_read read) (message_long c h)

  -- ---- one that began in its piece

  pub held_none : (c : Cutter) (part : List ℕ) → length c.bytes ≡ cutter_length → c.len ≡ 0 →
      then_read read (held_message (held_from c part)) ≡ judged read part
  unfolding then_read
  held_none c part long z =
      told (leb (length part) cutter_length)
      (λ e.
      let h = leb-true _ _ e in
      ap (then_read read) (held_small c part long (omega arith) ∙ ap (λ (n : ℕ). Ok (take n c.bytes ++ part)) z) ∙ sym (judged_fits part h))
      (λ e. let h = leb-false _ _ e in ap (then_read read) (held_long c part (omega arith)) ∙ sym (judged_long part h))

-- ---- what a call says ended
