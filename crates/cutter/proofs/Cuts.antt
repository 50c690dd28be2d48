-- What a call makes of a piece, by where a message ends in it; and the message that a cutter has all bytes of. Assumes nothing.
use Prim.Native.Nat.{ℕ, suc, ◌+◌, ◌-◌, ◌≤◌, ◌<◌}
use mathlib.Core.Bool.{cond}
use mathlib.Core.List.{List, [], ◌∷◌, ◌++◌, append_assoc, append-nil}
use mathlib.Core.Path.{◌≡◌, refl, sym, ap, subst, ◌∙◌}
use native.Mathlib.Omega.{arith}
use borrow.Author.Tests.{le-leb, lt-leb}
use lib.ListN.{length, take, set, length-set}
use lib.Seq.{take-suc-set}
use Rattle.std.specs.Prelude.{None, Some, Err, Ok}
use Rattle.laws.specs.Gives.{Gives}
use Rattle.laws.proofs.Tests.{cond_yes, cond_no, told, never}
use Rattle.refusal.specs.Answer.{unless}
use Rattle.refusal.specs.declared.Refusal.TheVariants.{TooLong}
use Rattle.cutter.specs.Cutter.{cutter_length, fresh, valid_cutter, too_many, held_from, held_message, invalid, nothing, ended, cut_of, end_in}
use Rattle.cutter.specs.Cutter.{Cutting, answer_by, left_by_said, has_ended, whole_left, hold_of, cut_answer}
use Rattle.cutter.specs.Clauses.{CutterCut}
use Rattle.cutter.specs.Stream.{last_of}
use Rattle.cutter.specs.declared.Cutter.{Cutter}
use Rattle.cutter.proofs.Laws.{joined_room, held_over}
use Rattle.cutter.proofs.Scan.{goes_on, ended_by, scanned}

-- ---- a call

module _ (c : Cutter) (p : List ℕ) where
  -- no message ends
  pub cut_none : length c.bytes ≡ cutter_length → end_in c p ≡ None →
      cut_of c p
      ≡ cond (valid_cutter c) (record { used = length p; said = nothing; cutter = held_from c p }) (record { used = 0; said = invalid; cutter = c })
  unfolding cut_of end_in
  cut_none long z =
      told (valid_cutter c)
      (λ v. cond_yes _ _ v ∙ (scanned p c 0 long).nowhere (sym (cond_yes _ _ v) ∙ z) ∙ ap (goes_on (held_from c p)) (omega arith) ∙ sym (cond_yes _ _ v))
      (λ v. cond_no _ _ v ∙ sym (cond_no _ _ v))

  -- one ends
  pub cut_some : (e : ℕ) → length c.bytes ≡ cutter_length → end_in c p ≡ Some e →
      (0 < e) × (e ≤ length p) × (cut_of c p ≡ record { used = e; said = ended (held_message (held_from c (take e p))); cutter = fresh })
  unfolding cut_of end_in
  cut_some e long z =
      told (valid_cutter c)
      (λ v.
      let s = (scanned p c 0 long).somewhere e (sym (cond_yes _ _ v) ∙ z) in
      let fits = s.fits in
      let k : e - 0 ≡ e = omega arith in
      (s.low, omega arith, cond_yes _ _ v ∙ s.is ∙ ap (λ (j : ℕ). ended_by (held_from c (take j p)) e) k))
      (λ v. let q : end_in c p ≡ None = cond_no _ _ v in never (cc))

-- ---- the message

pub message_whole : (c : Cutter) → c.len ≤ cutter_length → held_message c ≡ Ok (take c.len c.bytes)
unfolding held_message unless
message_whole c h = cond_yes _ _ (le-leb _ _ h)

pub message_long : (c : Cutter) → cutter_length < c.len → held_message c ≡ Err TooLong
unfolding held_message unless
message_long c h = cond_no _ _ (lt-leb _ _ h)

-- it fits: what was held, then the part
pub held_small : (c : Cutter) (part : List ℕ) → length c.bytes ≡ cutter_length → c.len + length part ≤ cutter_length →
    held_message (held_from c part) ≡ Ok (take c.len c.bytes ++ part)
unfolding held_from
held_small c [] long h = message_whole c (omega arith) ∙ ap Ok (sym (append-nil (take c.len c.bytes)))
held_small c (b ∷ s) long h =
    let d : Cutter = record { bytes = set c.bytes c.len b; len = c.len + 1 } in
    let n : c.len + 1 ≡ suc c.len = omega arith in
    ap (λ (x : Cutter). held_message (held_from x s)) (joined_room c b (omega arith))
    ∙ held_small d s (length-set c.bytes c.len b ∙ long) (omega arith)
    ∙ ap (λ (x : List ℕ). Ok (x ++ s))
    (ap (λ (j : ℕ). take j (set c.bytes c.len b)) n ∙ take-suc-set c.bytes c.len b (omega arith))
    ∙ ap Ok (append_assoc (take c.len c.bytes) (b ∷ []) s)

-- it does not
pub held_long : (c : Cutter) (part : List ℕ) → cutter_length < c.len + length part → held_message (held_from c part) ≡ Err TooLong
unfolding held_from too_many
held_long c [] h = message_long c (omega arith)
held_long c (b ∷ s) h = ap held_message (held_over s c b h) ∙ message_long (too_many (last_of b s)) (omega arith)

-- where none ends, `hold` answers as a call does, and nothing is written
pub cut_held : (c : Cutter) (p out : List ℕ) → length c.bytes ≡ cutter_length → end_in c p ≡ None → CutterCut c p out (hold_of c p) out
unfolding hold_of cut_answer answer_by left_by_said has_ended
cut_held c p out long z =
    subst (λ (t : Cutting). Gives (cut_answer t out) (left_by_said whole_left t.said out) (hold_of c p) out) (sym (cut_none c p long z))
    (told (valid_cutter c) (λ v. rw v (record { answers = refl; leaves = refl })) (λ v. rw v (record { answers = refl; leaves = refl })))
