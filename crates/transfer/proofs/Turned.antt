-- A packed message turned, by what was read of it, and as the writer of text writes it. Assumes nothing.
use Prim.Native.Nat.{ℕ, ◌+◌, ◌≤◌}
use mathlib.Core.Bool.{Bool, true, false}
use mathlib.Core.List.{List}
use mathlib.Core.Logic.{◌↔◌}
use mathlib.Core.Path.{◌≡◌, refl, sym, ap, ◌∙◌}
use native.Mathlib.Omega.{arith}
use lib.ListN.{length, take}
use Rattle.std.specs.Prelude.{Err, Ok}
use Rattle.laws.specs.Over.{over}
use Rattle.refusal.specs.Answer.{Answer, and_then, unless}
use Rattle.refusal.specs.declared.Refusal.{Refusal}
use Rattle.refusal.specs.declared.Refusal.TheVariants.{Field}
use Rattle.frame.specs.Frame.{ending, ending_width}
use Rattle.frame.specs.Message.{read_of, message_of, checked, room_for, then_write, then_left, write_of, left_by, WritesMessage, Moves}
use Rattle.frame.proofs.Answers.{short_left, done_left}
use Rattle.frame.proofs.Exactly.{reads_only, messages_long}
use Rattle.frame.proofs.Laid.{moved}
use Rattle.record.specs.Record.{record_lowest}
use Rattle.record.specs.Forms.{text_form, text_length, packed_form, packed_length}
use Rattle.record.specs.declared.Record.{Record}
use Rattle.record.proofs.Exact.{text_lowest, text_form_exact, text_form_width, packed_form_exact, packed_form_width, packed_lowest}
use Rattle.transfer.specs.Transfer.{turned, turned_length}

pub long_is : (checksum : Bool) → text_length + ending_width checksum ≡ turned_length checksum
long_is true = refl
long_is false = refl

module _ (checksum : Bool) (m : List ℕ) where
  pub turned_refused : {x : Refusal} → read_of packed_form checksum m ≡ Err x → turned checksum m ≡ Err x
  unfolding turned and_then
  turned_refused e = rw e

  pub turned_read : {r : Record} → read_of packed_form checksum m ≡ Ok r → turned checksum m ≡ Ok (message_of text_form checksum r)
  unfolding turned and_then
  turned_read e = rw e

  -- what is read may be sent
  pub read_fits : (r : Record) → read_of packed_form checksum m ≡ Ok r → record_lowest r ≡ 0
  read_fits r e = sym (packed_lowest r) ∙ (reads_only packed_form packed_form_exact checksum m r e).0

  pub read_long : (r : Record) → read_of packed_form checksum m ≡ Ok r → packed_length ≤ length m
  read_long r e =
      let a = reads_only packed_form packed_form_exact checksum m r e in
      omega (arith, messages_long packed_form packed_form_exact checksum m r a.0 a.1, packed_form_width)

-- a refusal, and nothing written
pub refusal_is : (n : ℕ) (x : Refusal) (out : List ℕ) {w : Answer ℕ} {after : List ℕ} → Moves n (Err x) out w after ↔ ((w ≡ Err x) × (after ≡ out))
unfolding then_write then_left
refusal_is n x out = (λ p. (p.answers, p.leaves), λ p. record { answers = p.0; leaves = p.1 })

-- so the writer of text has the room alone to refuse
pub written : (checksum : Bool) (r : Record) (out : List ℕ) {w : Answer ℕ} {after : List ℕ} → record_lowest r ≡ 0 → WritesMessage text_form Field checksum r out w after →
    Moves (turned_length checksum) (Ok (message_of text_form checksum r)) out w after
unfolding write_of left_by then_write then_left checked unless
written checksum r out h p =
    let low = text_lowest r ∙ h in
    record { answers = rw (low, text_form_width, long_is checksum) at p.answers; leaves = rw low at p.leaves }

pub unwritten : (checksum : Bool) (r : Record) (out : List ℕ) {w : Answer ℕ} {after : List ℕ} → record_lowest r ≡ 0 →
    Moves (turned_length checksum) (Ok (message_of text_form checksum r)) out w after → WritesMessage text_form Field checksum r out w after
unfolding write_of left_by then_write then_left checked unless
unwritten checksum r out h p =
    let low = text_lowest r ∙ h in
    record { answers = rw (low, text_form_width, long_is checksum) p.answers; leaves = rw low p.leaves }

pub text_long : (r : Record) → record_lowest r ≡ 0 → length (text_form.print r) ≡ text_length
text_long r h = text_form_exact.long r (text_lowest r ∙ h) ∙ text_form_width

-- and who puts the text of a record and its ending has it too
module _ (checksum : Bool) (out : List ℕ) (r : Record) (long : length (text_form.print r) ≡ text_length) {w : Answer ℕ}
    (room : w ≡ (room_for (text_length + ending_width checksum) (length out))) where
  put_as : {after : List ℕ} → after ≡ over out 0 (message_of text_form checksum r) → Moves (turned_length checksum) (Ok (message_of text_form checksum r)) out w after
  put_as p = moved (turned_length checksum) out _ (room ∙ ap (λ (n : ℕ). (room_for n (length out))) (long_is checksum)) p

  pub put_short : (x : Refusal) → w ≡ Err x → Moves (turned_length checksum) (Ok (message_of text_form checksum r)) out w out
  put_short x e = put_as (short_left text_form checksum r out text_length long room x e)

  pub put_done : {l1 l2 : List ℕ} (n : ℕ) → w ≡ Ok n → l1 ≡ over out 0 (text_form.print r) → l2 ≡ over l1 text_length (ending checksum (take text_length l1)) →
      Moves (turned_length checksum) (Ok (message_of text_form checksum r)) out w l2
  put_done n e p q = put_as (done_left text_form checksum r out text_length long room n e p q)
