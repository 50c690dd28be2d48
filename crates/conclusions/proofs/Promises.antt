-- What a C host may conclude from a call of each entry: demand 2, by what is handed over and left in its memory. Assumes nothing.
use Prim.Native.Nat.{ℕ, ◌≤◌, ◌<◌}
use mathlib.Core.Bool.{Bool}
use mathlib.Core.List.{List, ◌++◌}
use mathlib.Core.Logic.Iff
use mathlib.Core.Logic.{◌↔◌, ◌⊎◌, inl, inr}
use mathlib.Core.Path.{◌≡◌, refl, sym, ap, ◌∙◌, subst}
use lib.IntN.{ℤ}
use lib.ListN.{length, drop}
use Rattle.std.specs.Prelude.{Err, Ok}
use Rattle.laws.specs.Member.{◌∈◌}
use Rattle.laws.proofs.OneAnswer.{one_outcome}
use Rattle.laws.proofs.Tests.{never}
use Rattle.refusal.specs.Answer.{Answer}
use Rattle.refusal.specs.declared.Refusal.{Refusal}
use Rattle.refusal.specs.declared.Refusal.TheVariants.{Room}
use Rattle.codec.specs.Codec.{Codec, spellings}
use Rattle.codec.specs.Places.{Place}
use Rattle.frame.specs.Faithful.{Faithful}
use Rattle.frame.specs.Message.{read_of, message_of, messages_of, then_write, write_of}
use Rattle.frame.specs.Refuses.{ReadWhen, Refuses}
use Rattle.frame.proofs.Left.{then_same, then_bytes, then_lays}
use Rattle.frame.proofs.Rooms.{then_accepted, accepted_then, then_refused, refused_then, room_enough}
use Rattle.fixed.specs.Fixed.{fixed_lowest}
use Rattle.fixed.specs.Form.{fixed_form}
use Rattle.fixed.specs.declared.Fixed.{Fixed}
use Rattle.units.specs.Units.{Converts, conversion}
use Rattle.demand2.proofs.Proved.{demand2}
use Rattle.archive.specs.Archive.{old_line_length, new_line_length, forward, back}
use Rattle.archive.proofs.Promises.{promised as archive}
use Rattle.transfer.specs.Transfer.{turned, turned_length}
use Rattle.transfer.proofs.Promises.{promised as transfer}
use Rattle.cut_reader.proofs.Promises.{promised as cut}
use Rattle.layout.specs.Promises.{Unpacks}
use Rattle.layout.proofs.Promises.{promised as laid}
use Rattle.hourheron.specs.Host.{answer_of, conversion_of, Writes, Lays, asked_of}
use Rattle.conclusions.specs.Promises.{Reads, Written, Moved, Converted, Asked, Promised}
use Rattle.hourheron.specs.declared.Answer as host
use Rattle.hourheron.specs.declared.Conversion.{Conversion}
use Rattle.conclusions.proofs.Recording.{sends, takes}
use Rattle.conclusions.proofs.Stream.{cut_reader_lem, hands_message}
use Rattle.conclusions.proofs.Tells.{answers, conversions, was_done, was_refused, no_refusal, done_with, refused_with, tells}

-- ---- the readers

module _ {A : Type 0} (form : Codec A) (rule : A → ℕ) (low : ℕ → Refusal) (plain : ℕ) (places : List Place) (faithful : Faithful form rule low plain)
    (exact : Refuses form rule low plain places) where
  module _ (bytes : A → List ℕ) (width : ℕ) (unpack : List ℕ → A) (lies : Unpacks rule bytes width unpack) (checksum : Bool) (m out : List ℕ)
      (r : host.Answer) (after : List ℕ) (call : Lays bytes width (read_of form checksum m) out r after) where
    abbrev read : Answer A
    read = read_of form checksum m

    -- of a spelling of sendable contents the room decides
    call_of_lem : (a : A) → rule a ≡ 0 → m ∈ messages_of form checksum a → Lays bytes width (Ok a) out r after
    call_of_lem a z e = subst (λ (x : Answer A). Lays bytes width x out r after) ((faithful.exactly checksum m a).1 (z, e)) call

    done : r.number ≡ 0 → (r.value ≡ width) × ((a : A) × (rule a ≡ 0) × (m ∈ messages_of form checksum a) × (after ≡ bytes a ++ drop width out))
    done z =
        let w = was_done answers r (then_write width read out) call.answers z in
        let q = then_accepted width read out w.0 w.1 in
        let p = (faithful.exactly checksum m q.0).0 q.1 in (
          ap (λ (x : host.Answer). x.value) (call.answers ∙ ap answer_of w.1) ∙ q.3,
          (q.0, p.0, p.1, call.leaves ∙ then_lays bytes width out read q.0 w.0 q.1 (lies.long q.0 p.0) w.1),
        )

    fits : (a : A) → rule a ≡ 0 → width ≤ length out → m ∈ messages_of form checksum a → (r.number ≡ 0) × (after ≡ bytes a ++ drop width out)
    unfolding then_write
    fits a z h e =
        let w : then_write width (Ok a) out ≡ Ok width = room_enough width (length out) h in
        let l = call_of_lem a z e in
        (ap (λ (x : host.Answer). x.number) (l.answers ∙ ap answer_of w), l.leaves ∙ (then_bytes bytes width out a width (lies.long a z) w).1)

    -- what is unpacked are the contents of the message
    only : (a : A) → r.number ≡ 0 → unpack after ≡ a → m ∈ messages_of form checksum a
    only a z e =
        let d = (done z).1 in
        subst (λ (b : A). m ∈ messages_of form checksum b) (sym (lies.back d.0 (drop width out) d.1) ∙ ap unpack (sym d.3) ∙ e) d.2

    -- a refusal's case: the message's, or then the room's
    abbrev Case : Refusal → Type 0
    Case x =
        ReadWhen rule (spellings form) places plain checksum m x ⊎
        ((x ≡ Room width) × (length out < width) × ((a : A) × (rule a ≡ 0) × (m ∈ messages_of form checksum a)))

    has_case : (x : Refusal) → then_write width read out ≡ Err x → Case x
    has_case x e = by (then_refused width read out x e) where
      by : (read ≡ Err x) ⊎ ((x ≡ Room width) × (length out < width) × ((a : A) × (read ≡ Ok a))) → Case x
      by (inl q) = inl ((exact.read_when checksum m x).0 q)
      by (inr (k, h, (a, q))) = let p = (faithful.exactly checksum m a).0 q in inr (k, h, (a, p.0, p.1))

    of_case : (x : Refusal) → Case x → then_write width read out ≡ Err x
    of_case x (inl w) = refused_then width read out x (inl ((exact.read_when checksum m x).1 w))
    of_case x (inr (k, h, (a, z, e))) = refused_then width read out x (inr (k, h, (a, (faithful.exactly checksum m a).1 (z, e))))

    kept : (r.number ≡ 0 → ⊥) → after ≡ out
    kept not =
        let w = was_refused answers r (then_write width read out) call.answers not in
        call.leaves ∙ then_same bytes width out read w.0 (λ a q. lies.long a ((faithful.exactly checksum m a).0 q).0) w.1

    reads : Reads form rule plain places bytes width unpack checksum m out r after
    reads = record {
      done = done;
      gives_back = λ a z h. (λ p. only a p.0 (ap unpack p.1 ∙ lies.back a (drop width out) z), fits a z h);
      unpacks = λ a z h. (λ p. only a p.0 p.1, λ e. let f = fits a z h e in (f.0, ap unpack f.1 ∙ lies.back a (drop width out) z));
      refuses = λ x. Iff.trans (refused_with answers r (then_write width read out) call.answers x) (has_case x, of_case x);
      refused_same = kept;
    }

  -- ---- the writers

  module _ (a : A) (checksum : Bool) (out : List ℕ) (r : host.Answer) (after : List ℕ) (call : Writes form low checksum a out r after) where
    abbrev write : Answer ℕ
    write = write_of form low checksum a out

    message : r.number ≡ 0 → after ≡ message_of form checksum a ++ drop r.value out
    message z =
        let w = was_done answers r write call.answers z in
        let n : w.0 ≡ r.value = ap (λ (x : host.Answer). x.value) (sym (call.answers ∙ ap answer_of w.1)) in
        call.leaves ∙ (faithful.writes_message checksum a out w.0 w.1).1 ∙ ap (λ (k : ℕ). message_of form checksum a ++ drop k out) n

    writes : Written form rule low plain checksum a out r after
    writes = record {
      done = λ n. Iff.trans (done_with answers r write call.answers n) (exact.writes_when checksum a out n);
      message = message;
      refuses = λ x. Iff.trans (refused_with answers r write call.answers x) (exact.write_when checksum a out x);
      refused_same = λ not.
          let w = was_refused answers r write call.answers not in
          call.leaves ∙ faithful.refused_same checksum a out w.0 w.1;
    }

-- ---- old lines

moved : (n : ℕ) (line : Answer (List ℕ)) (out : List ℕ) → ((l : List ℕ) → line ≡ Ok l → length l ≡ n) → (r : host.Answer) (after : List ℕ) → Lays (λ l. l) n line out r after →
    Moved n line out r after
moved n line out long r after call =
    let answer = then_write n line out in
    record {
      done = λ k. Iff.trans (done_with answers r answer call.answers k) (then_accepted n line out k, accepted_then n line out k);
      lays = λ l e z.
          let w = was_done answers r answer call.answers z in
          call.leaves ∙ then_lays (λ l. l) n out line l w.0 e (long l e) w.1;
      refuses = λ x. Iff.trans (refused_with answers r answer call.answers x) (then_refused n line out x, refused_then n line out x);
      refused_same = λ not.
          let w = was_refused answers r answer call.answers not in
          call.leaves ∙ then_same (λ l. l) n out line w.0 long w.1;
    }

-- ---- the conversion

module _ (field : ℕ) (z : ℤ) (unit wanted : ℕ) (r : Conversion) (call : r ≡ conversion_of (conversion field z unit wanted)) where
  abbrev number : Answer ℤ
  number = conversion field z unit wanted

  converted : r.number ≡ 0 → Converts unit wanted z r.value × (unit ≡ wanted → r.value ≡ z) × (r.field ≡ 0)
  converted o =
      let w = was_done conversions r number call o in
      let is : r ≡ conversion_of (Ok w.0) = call ∙ ap conversion_of w.1 in
      let v : r.value ≡ w.0 = ap (λ (x : Conversion). x.value) is in (
        subst (Converts unit wanted z) (sym v) (demand2.converts field z w.0 unit wanted w.1),
        λ e. v ∙ demand2.alike field z w.0 unit (ap (conversion field z unit) e ∙ w.1),
        ap (λ (x : Conversion). x.field) is,
      )

  converts : Converted field z unit wanted r
  converts =
      let when = demand2.units_refuse.convert_when field z unit wanted in
      record {
        done = converted;
        refuses = λ x. Iff.trans (refused_with conversions r number call x) (when x);
        no_case = λ none. no_refusal conversions r number call (λ x e. none x ((when x).0 e));
        refused_zero = λ not. let w = was_refused conversions r number call not in ap (λ (x : Conversion). x.value) (call ∙ ap conversion_of w.1);
      }

-- ---- the owner's part

asked_accepted : {A : Type 0} (part : Answer A → ℕ) (q : Answer A) (n : ℕ) → (asked_of part q ≡ Ok n) ↔ ((a : A) × (q ≡ Ok a) × (n ≡ part (Ok a)))
unfolding asked_of
asked_accepted part (Ok a) n = (λ e. (a, refl, cc), λ p. cc)
asked_accepted part (Err x) n = (λ e. never (cc), λ p. never (cc))

asked_refused : {A : Type 0} (part : Answer A → ℕ) (q : Answer A) (x : Refusal) → (asked_of part q ≡ Err x) ↔ (q ≡ Err x)
unfolding asked_of
asked_refused part (Ok a) x = (λ e. never (cc), λ e. never (cc))
asked_refused part (Err y) x = (λ e. cc, λ e. cc)

module _ (part : Answer Fixed → ℕ) (m : List ℕ) (checksum : Bool) (r : host.Answer) (call : r ≡ answer_of (asked_of part (read_of fixed_form checksum m))) where
  abbrev fixed : Answer Fixed
  fixed = read_of fixed_form checksum m

  of_fixed : (n : ℕ) → ((f : Fixed) × (fixed ≡ Ok f) × (n ≡ part (Ok f))) ↔
      ((f : Fixed) × (fixed_lowest f ≡ 0) × (m ≡ message_of fixed_form checksum f) × (n ≡ part (Ok f)))
  of_fixed n = (
    λ p. let q = (demand2.fixed.exactly checksum m p.0).0 p.1 in (p.0, q.0, sym (demand2.fixed.writes_read checksum m p.0 p.1 (demand2.fixed_once p.0)), p.2),
    λ p. (p.0, (demand2.fixed.exactly checksum m p.0).1 (p.1, inl p.2), p.3),
  )

  asks : Asked part m checksum r
  asks = record {
    done = λ n. Iff.trans (done_with answers r (asked_of part fixed) call n) (Iff.trans (asked_accepted part fixed n) (of_fixed n));
    refuses = λ x.
        Iff.trans (refused_with answers r (asked_of part fixed) call x)
        (Iff.trans (asked_refused part fixed x) (demand2.fixed_refuses.read_when checksum m x));
  }

-- ---- all entries

pub promised : Promised
promised = record {
  answer = tells answers;
  conversion = tells conversions;
  read_text_lem = reads _ _ _ _ _ demand2.text demand2.text_refuses _ _ _ laid.of_record;
  read_packed_lem = reads _ _ _ _ _ demand2.packed demand2.packed_refuses _ _ _ laid.of_record;
  read_fixed_lem = reads _ _ _ _ _ demand2.fixed demand2.fixed_refuses _ _ _ laid.of_fixed;
  write_text_lem = writes _ _ _ _ _ demand2.text demand2.text_refuses;
  write_packed_lem = writes _ _ _ _ _ demand2.packed demand2.packed_refuses;
  write_fixed_lem = writes _ _ _ _ _ demand2.fixed demand2.fixed_refuses;
  old_to_new_lem = λ m s out. moved new_line_length (forward m s) out (archive.forward_long m s);
  new_to_old_lem = λ m out. moved old_line_length (back m) out (archive.back_long m);
  packed_to_text_lem = λ m checksum out. moved (turned_length checksum) (turned checksum m) out (transfer.long checksum m);
  packed_to_text_by_record = λ m checksum out. moved (turned_length checksum) (turned checksum m) out (transfer.long checksum m);
  routes_agree = λ m checksum out r r' after after'. one_outcome;
  convert = converts;
  checksum = λ s r e. (ap (λ (x : host.Answer). x.number) e, ap (λ (x : host.Answer). x.value) e);
  owner_start = asks _;
  owner_len = asks _;
  collect = λ line byte r after c. (c.answers, c.leaves);
  cut_text = cut_reader_lem demand2.text demand2.text_refuses laid.of_record cut.text;
  cut_packed = cut_reader_lem demand2.packed demand2.packed_refuses laid.of_record cut.packed;
  cut_fixed = cut_reader_lem demand2.fixed demand2.fixed_refuses laid.of_fixed cut.fixed;
  cut_message = hands_message;
  recorder_first = λ r e. e;
  recorder_start = λ packed checksum r e. e;
  recorder_send = sends;
  recorder_take = takes;
}
