-- `cutter::Cutter::put_message` meets its contract: two writes one behind the other are that of the message. Assumes nothing.
use Prim.Native.Nat.{ℕ, ◌+◌, ◌≤◌, ◌<◌}
use mathlib.Core.List.{List, ◌++◌}
use mathlib.Core.Path.{◌≡◌, refl, sym, ap, ◌∙◌}
use native.Mathlib.Omega.{arith}
use borrow.Author.Rules.{rules}
use borrow.Author.Tests.{le-leb, lt-leb}
use lib.ListN.{length, take, length-append}
use lib.Seq.{length-take-le}
use Rattle.std.specs.Prelude.{Err, Ok}
use Rattle.laws.specs.Over.{over}
use Rattle.laws.proofs.OverLaws.{over_short, over_next}
use Rattle.laws.proofs.Tests.{cond_yes, cond_no}
use Rattle.refusal.specs.Answer.{Answer, unless}
use Rattle.refusal.specs.declared.Refusal.TheVariants.{Room, TooLong}
use Rattle.frame.specs.Message.{room_for, then_left}
use Rattle.cutter.specs.Cutter.{cutter_length, then_read, whole_in, PutsMessage}
use Rattle.cutter.specs.declared.Cutter.{Cutter}
use Rattle.cutter.proofs.Cuts.{held_small, held_long}
use Rattle.cutter.proofs.Cutter.put_message.Goals as goal
use Rattle.cutter.proofs.Cutter.put_message.Goals.{then-at-gt-CUTTER_LENGTH-via-then-at-gt-CUTTER_LENGTH, then-at-gt-CUTTER_LENGTH-via-else-at-gt-CUTTER_LENGTH+then-at-n}

module _ (c : Cutter) (part out : List ℕ) where
  too_long : cutter_length < c.len + length part → PutsMessage c part out (Err TooLong) out
  unfolding whole_in then_read then_left
  too_long h = rw (held_long c part h) (record { answers = refl; leaves = refl })

  module _ (long : length c.bytes ≡ cutter_length) (h : c.len + length part ≤ cutter_length) where
    abbrev message : List ℕ
    message = take c.len c.bytes ++ part

    size : length message ≡ c.len + length part
    size = length-append (take c.len c.bytes) part ∙ ap (λ (n : ℕ). n + length part) (length-take-le c.len c.bytes (omega arith))

    puts : (r : Answer ℕ) (after : List ℕ) → room_for (c.len + length part) (length out) ≡ r → over out 0 message ≡ after →
        PutsMessage c part out r after
    unfolding whole_in then_read then_left
    puts r after e f =
        rw (held_small c part long h) (record { answers = sym (ap (λ (n : ℕ). room_for n (length out)) size ∙ e); leaves = sym f })

    short : length out < c.len + length part → PutsMessage c part out (Err (Room (c.len + length part))) out
    unfolding room_for unless
    short k =
        let n = size in
        puts _ _ (cond_no _ _ (lt-leb (c.len + length part) (length out) k)) (over_short out message 0 (omega arith))

    whole : c.len + length part ≤ length out →
        PutsMessage c part out (Ok (c.len + length part)) (over (over out 0 (take c.len c.bytes)) c.len part)
    unfolding room_for unless
    whole k =
        puts _ _
        (cond_yes _ _ (le-leb (c.len + length part) (length out) k))
        (sym (over_next out (take c.len c.bytes) part 0 c.len (omega (arith, length-take-le c.len c.bytes (omega arith))) k))

pub returns-then-at-gt-CUTTER_LENGTH : goal.returns-then-at-gt-CUTTER_LENGTH
returns-then-at-gt-CUTTER_LENGTH c =
    let a = c.args in
    let h : cutter_length < a.self.len + length a.part.now = elim c.then-at-gt-CUTTER_LENGTH.branch [
      | then-at-gt-CUTTER_LENGTH-via-then-at-gt-CUTTER_LENGTH w ↦ omega arith
      | then-at-gt-CUTTER_LENGTH-via-else-at-gt-CUTTER_LENGTH+then-at-n w ↦ omega arith
    ] in
    too_long a.self a.part.now a.out.now h

pub returns-then-out-at : goal.returns-then-out-at
returns-then-out-at c = let a = c.args in short a.self a.part.now a.out.now (search rules) (omega arith) (omega arith)

pub returns : goal.returns
returns c =
    let a = c.args in
    let n = a.self.len in
    let g = whole a.self a.part.now a.out.now (search rules) (omega arith) (omega arith) in
    record {
      answers = g.answers;
      leaves = c.put_part-2.ensures ∙ ap (λ (d : List ℕ). over d n a.part.now) c.put_part.ensures ∙ g.leaves;
    }
