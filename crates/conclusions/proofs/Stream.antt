-- What a C host may conclude from a call with a piece of a stream, and from what a recorder hands out. Assumes nothing.
use Prim.Native.Nat.{ℕ, ◌≤◌, ◌<◌}
use mathlib.Core.Bool.{Bool, true, false, cond}
use mathlib.Core.List.{List, ◌++◌}
use mathlib.Core.Logic.{◌⊎◌, inl, inr}
use mathlib.Core.Path.{◌≡◌, refl, sym, ap, ◌∙◌}
use lib.Dec.{eqb}
use lib.ListN.{length, drop}
use Rattle.std.specs.Prelude.{Err, Ok}
use Rattle.laws.specs.Gives.{Gives}
use Rattle.laws.proofs.Tests.{never}
use Rattle.refusal.specs.Answer.{Answer}
use Rattle.refusal.specs.Refusal.{number_of, value_of}
use Rattle.refusal.specs.declared.Refusal.{Refusal}
use Rattle.refusal.specs.declared.Refusal.TheVariants.{Field, Room, Length, End, Checksum, Contents, Dropped, Setting, TooLong, Form, Lost, NoPort, State}
use Rattle.refusal.proofs.Promises.{numbers}
use Rattle.codec.specs.Codec.{Codec}
use Rattle.codec.specs.Places.{Place}
use Rattle.frame.specs.Faithful.{Faithful}
use Rattle.frame.specs.Message.{read_of, then_write, then_left}
use Rattle.frame.specs.Refuses.{Refuses}
use Rattle.frame.proofs.Left.{then_same, then_bytes}
use Rattle.frame.proofs.Rooms.{then_refused, room_enough, room_short}
use Rattle.cutter.specs.Cutter.{cutter_length, Said, invalid, nothing, ended, cut_of, answer_by, left_by_said, has_ended, then_read, whole_in, whole_left}
use Rattle.cutter.specs.declared.Cutter.{Cutter}
use Rattle.cutter.proofs.Promises.{promised as cuts}
use Rattle.cutter.proofs.Nine.{only_9}
use Rattle.cut_reader.specs.Promises as cut-reads
use Rattle.layout.specs.Promises.{Unpacks}
use Rattle.hourheron.specs.Host.{answer_of}
use Rattle.hourheron.specs.Cuts.{Cuts, CutsRead}
use Rattle.conclusions.specs.Stream.{OfPiece, answer_in, CutCall, ReadsCut, HandsMessage}
use Rattle.hourheron.specs.declared.Answer as host
use Rattle.hourheron.specs.declared.CutValue.{CutValue}
use Rattle.conclusions.proofs.Tells.{answers, was_refused}

-- ---- the numbers that a refusal has alone, and 2

by_number : ℕ → Refusal → Refusal
by_number n x =
    cond (eqb n 2) (Room (value_of x))
    (cond (eqb n 4) End
    (cond (eqb n 9) TooLong
    (cond (eqb n 16) State x)))

by_own : (x : Refusal) → by_number (number_of x) x ≡ x
unfolding by_number
by_own (Field i) = refl
by_own (Room n) = refl
by_own (Length n) = refl
by_own End = refl
by_own Checksum = refl
by_own (Contents i) = refl
by_own Dropped = refl
by_own (Setting i) = refl
by_own TooLong = refl
by_own Form = refl
by_own Lost = refl
by_own NoPort = refl
by_own State = refl

-- the number tells this refusal
abbrev pub Alone : Refusal → Type 0
Alone y = (x : Refusal) → number_of x ≡ number_of y → x ≡ y

alone_4 : Alone End
unfolding by_number
alone_4 x e = sym (by_own x) ∙ ap (λ (n : ℕ). by_number n x) e

alone_9 : Alone TooLong
unfolding by_number
alone_9 x e = sym (by_own x) ∙ ap (λ (n : ℕ). by_number n x) e

pub alone_16 : Alone State
unfolding by_number
alone_16 x e = sym (by_own x) ∙ ap (λ (n : ℕ). by_number n x) e

-- ---- what an entry makes of a message, for the rest to follow

pub record Makes (make : Answer (List ℕ) → Answer ℕ) (put : Answer (List ℕ) → List ℕ → List ℕ) (c : Cutter) (p out : List ℕ) : Type 0 where
  pub long : make (Err TooLong) ≡ Err TooLong
  pub kept : (m : Answer (List ℕ)) (x : Refusal) → make m ≡ Err x → put m out ≡ out
  pub not_16 : (m : List ℕ) → make (Ok m) ≡ Err State → ⊥
  pub not_9 : (m : List ℕ) → make (Ok m) ≡ Err TooLong → ⊥
  pub not_4 : (m : List ℕ) → length c.bytes ≡ cutter_length → (cut_of c p).said ≡ ended (Ok m) → make (Ok m) ≡ Err End → ⊥

module _ (make : Answer (List ℕ) → Answer ℕ) (put : Answer (List ℕ) → List ℕ → List ℕ) (c : Cutter) (p out : List ℕ) (h : Makes make put c p out) where
  -- of a message that is too long only 9 is made
  long_only : (r x : Refusal) → (cut_of c p).said ≡ ended (Err r) → make (Err r) ≡ Err x → x ≡ TooLong
  long_only r x q e =
      let f : Err x ≡ Err TooLong = sym e ∙ ap (λ (y : Refusal). make (Err y)) (only_9 c p r q) ∙ h.long in
      cc

  said_16 : (s : Said) → (cut_of c p).said ≡ s → answer_by make s ≡ Err State → 161 < c.len
  unfolding answer_by
  said_16 invalid q e = (cuts.each_call.refused c p).0 q
  said_16 nothing q e = never (cc)
  said_16 (ended (Ok m)) q e = absurd (h.not_16 m e)
  said_16 (ended (Err r)) q e = let k = long_only r State q e in never (cc)

  said_9 : (s : Said) → (cut_of c p).said ≡ s → answer_by make s ≡ Err TooLong → (cut_of c p).said ≡ ended (Err TooLong)
  unfolding answer_by
  said_9 invalid q e = never (cc)
  said_9 nothing q e = never (cc)
  said_9 (ended (Ok m)) q e = absurd (h.not_9 m e)
  said_9 (ended (Err r)) q e = q ∙ ap (λ (x : Refusal). ended (Err x)) (only_9 c p r q)

  said_4 : (s : Said) → length c.bytes ≡ cutter_length → (cut_of c p).said ≡ s → answer_by make s ≡ Err End → ⊥
  unfolding answer_by
  said_4 invalid l q e = never (cc)
  said_4 nothing l q e = never (cc)
  said_4 (ended (Ok m)) l q e = h.not_4 m l q e
  said_4 (ended (Err r)) l q e = let k = long_only r End q e in never (cc)

  left_refused : (s : Said) (x : Refusal) → answer_by make s ≡ Err x → left_by_said put s out ≡ out
  unfolding answer_by left_by_said
  left_refused invalid x e = refl
  left_refused nothing x e = refl
  left_refused (ended m) x e = h.kept m x e

  left_unended : (s : Said) → has_ended s ≡ false → left_by_said put s out ≡ out
  unfolding has_ended left_by_said
  left_unended invalid e = refl
  left_unended nothing e = refl
  left_unended (ended m) e = never (cc)

  module _ (a : host.Answer) (after : List ℕ)
      (call : Gives (answer_of (answer_by make (cut_of c p).said)) (left_by_said put (cut_of c p).said out) a after) where
    abbrev made : Answer ℕ
    made = answer_by make (cut_of c p).said

    is_number : (x : Refusal) → made ≡ Err x → a.number ≡ number_of x
    is_number x e = ap (λ (b : host.Answer). b.number) (call.answers ∙ ap answer_of e)

    is_value_lem : (x : Refusal) → made ≡ Err x → a.value ≡ value_of x
    is_value_lem x e = ap (λ (b : host.Answer). b.value) (call.answers ∙ ap answer_of e)

    only : (y : Refusal) → Alone y → a.number ≡ number_of y → made ≡ Err y
    only y alone e =
        let w = was_refused answers a made call.answers (λ z. numbers.not_zero y (sym e ∙ z)) in
        w.1 ∙ ap Err (alone w.0 (sym (is_number w.0 w.1) ∙ e))

    made_16 : 161 < c.len → made ≡ Err State
    unfolding answer_by
    made_16 v = ap (answer_by make) ((cuts.each_call.refused c p).1 v)

    made_9 : (cut_of c p).said ≡ ended (Err TooLong) → made ≡ Err TooLong
    unfolding answer_by
    made_9 q = ap (answer_by make) q ∙ h.long

    made_0 : (cut_of c p).said ≡ nothing → made ≡ Ok 0
    unfolding answer_by
    made_0 q = ap (answer_by make) q

    alone : (a.number ≡ 16) ⊎ (a.number ≡ 9) → a.value ≡ 0
    alone (inl e) = is_value_lem State (only State alone_16 e)
    alone (inr e) = is_value_lem TooLong (only TooLong alone_9 e)

    pub of_piece : OfPiece c p out a after
    of_piece = record {
      invalid = (λ e. said_16 (cut_of c p).said refl (only State alone_16 e), λ v. is_number State (made_16 v));
      too_long = (λ e. said_9 (cut_of c p).said refl (only TooLong alone_9 e), λ q. is_number TooLong (made_9 q));
      alone = alone;
      unended = λ q.
          let is = call.answers ∙ ap answer_of (made_0 q) in
          (ap (λ (b : host.Answer). b.number) is, ap (λ (b : host.Answer). b.value) is);
      never_4 = λ l e. said_4 (cut_of c p).said l refl (only End alone_4 e);
      unended_same = λ e. call.leaves ∙ left_unended (cut_of c p).said e;
      refused_same = λ not.
          let w = was_refused answers a made call.answers not in
          call.leaves ∙ left_refused (cut_of c p).said w.0 w.1;
    }

  -- ---- the cutter

  module _ (r : CutValue) (after : List ℕ) (call : Cuts make put c p out r after) where
    answer_in_lem : Gives (answer_of (answer_by make (cut_of c p).said)) (left_by_said put (cut_of c p).said out) (answer_in r) after
    answer_in_lem = record { answers = ap answer_in call.answers; leaves = call.leaves }

    has_ended_lem : (s : Said) → has_ended s ≡ true → (m : Answer (List ℕ)) × (s ≡ ended m)
    unfolding has_ended
    has_ended_lem invalid e = never (cc)
    has_ended_lem nothing e = never (cc)
    has_ended_lem (ended m) e = (m, refl)

    not_ended : 161 < c.len → has_ended (cut_of c p).said ≡ false
    unfolding has_ended
    not_ended v = ap has_ended ((cuts.each_call.refused c p).1 v)

    is_used : r.used ≡ (cut_of c p).used
    is_used = ap (λ (x : CutValue). x.used) call.answers

    is_ended_lem : r.ended ≡ has_ended (cut_of c p).said
    is_ended_lem = ap (λ (x : CutValue). x.ended) call.answers

    is_cutter : r.cutter ≡ (cut_of c p).cutter
    is_cutter = ap (λ (x : CutValue). x.cutter) call.answers

    pub cut_call : CutCall c p out r after
    cut_call = record {
      used = is_used;
      ends = is_ended_lem;
      cutter = is_cutter;
      answer = of_piece (answer_in r) after answer_in_lem;
      invalid_same = λ v.
          let s = cuts.each_call.refused_same c p ((cuts.each_call.refused c p).1 v) in
          (is_used ∙ s.1, is_ended_lem ∙ not_ended v, is_cutter ∙ s.0);
      after_end = λ e.
          let w = has_ended_lem (cut_of c p).said (sym is_ended_lem ∙ e) in
          is_cutter ∙ cuts.each_call.after_end c p w.0 w.1;
    }

-- ---- an entry that reads

module _ {A : Type 0} {form : Codec A} {rule : A → ℕ} {low : ℕ → Refusal} {plain : ℕ} {places : List Place} {bytes : A → List ℕ} {width : ℕ}
    {unpack : List ℕ → A} (faithful : Faithful form rule low plain) (exact : Refuses form rule low plain places) (lies : Unpacks rule bytes width unpack)
    (cut : cut-reads.ReadsCut form rule plain places) (c : Cutter) (p : List ℕ) (checksum : Bool) (out : List ℕ) where
  abbrev read : Answer (List ℕ) → Answer A
  read m = then_read (read_of form checksum) m

  sendable : (m : Answer (List ℕ)) (a : A) → read m ≡ Ok a → rule a ≡ 0
  unfolding then_read
  sendable (Ok m) a e = ((faithful.exactly checksum m a).0 e).0
  sendable (Err r) a e = never (cc)

  -- a number that no reader gives, nor 2
  not_made : (m : List ℕ) (x : Refusal) → (x ≡ Room width → ⊥) → (read_of form checksum m ≡ Err x → ⊥) →
      then_write width (read (Ok m)) out ≡ Err x → ⊥
  unfolding then_read
  not_made m x room none e = by (then_refused width (read_of form checksum m) out x e) where
    by : (read_of form checksum m ≡ Err x) ⊎ ((x ≡ Room width) × (length out < width) × ((a : A) × (read_of form checksum m ≡ Ok a))) → ⊥
    by (inl q) = none q
    by (inr q) = room q.0

  pub makes_read : Makes (λ m. then_write width (read m) out) (λ m d. then_left bytes (read m) d) c p out
  unfolding then_read then_write
  makes_read = record {
    long = refl;
    kept = λ m x e. then_same bytes width out (read m) x (λ a q. lies.long a (sendable m a q)) e;
    not_16 = λ m e. not_made m State (λ k. never (cc)) (λ q. (exact.read_when checksum m State).0 q) e;
    not_9 = λ m e. not_made m TooLong (λ k. never (cc)) (λ q. (exact.read_when checksum m TooLong).0 q) e;
    not_4 = λ m l s e. not_made m End (λ k. never (cc)) (λ q. cut.never_4 checksum c p (Ok m) l s q) e;
  }

  -- the answer to a message that ended is that of the reader's own entry
  pub at_end : (a : host.Answer) (after m : List ℕ) → (cut_of c p).said ≡ ended (Ok m) →
      Gives (answer_of (answer_by (λ x. then_write width (read x) out) (cut_of c p).said))
      (left_by_said (λ x d. then_left bytes (read x) d) (cut_of c p).said out) a after →
      Gives (answer_of (then_write width (read_of form checksum m) out)) (then_left bytes (read_of form checksum m) out) a after
  unfolding answer_by left_by_said then_read
  at_end a after m q g = rw q at g

  pub cut_reader_lem : (r : CutValue) (after : List ℕ) → CutsRead bytes width (read_of form checksum) c p out r after →
      ReadsCut (λ m a d. Gives (answer_of (then_write width (read_of form checksum m) out)) (then_left bytes (read_of form checksum m) out) a d) c p out r after
  cut_reader_lem r after call = record {
    call = cut_call _ _ c p out makes_read r after call;
    reads = λ m q. at_end (answer_in r) after m q (answer_in_lem _ _ c p out makes_read r after call);
  }

-- ---- the message itself

module _ (c : Cutter) (p out : List ℕ) where
  kept_whole : (m : Answer (List ℕ)) (x : Refusal) → whole_in out m ≡ Err x → whole_left m out ≡ out
  unfolding whole_in then_read then_left then_write
  kept_whole (Ok m) x e = then_same (λ (s : List ℕ). s) (length m) out (Ok m) x (λ s q. let k : m ≡ s = cc in ap length (sym k)) e
  kept_whole (Err r) x e = refl

  -- 2 is all that refuses a message that ended and fits
  whole_refused : (m : List ℕ) (x : Refusal) → (x ≡ Room (length m) → ⊥) → whole_in out (Ok m) ≡ Err x → ⊥
  unfolding whole_in then_read then_write
  whole_refused m x not e = by (then_refused {A = List ℕ} (length m) (Ok m) out x e) where
    by : (◌≡◌ {A = Answer (List ℕ)} (Ok m) (Err x)) ⊎
        ((x ≡ Room (length m)) × (length out < length m) × ((a : List ℕ) × (◌≡◌ {A = Answer (List ℕ)} (Ok m) (Ok a)))) → ⊥
    by (inl q) = never (cc)
    by (inr q) = not q.0

  makes_whole : Makes (whole_in out) whole_left c p out
  unfolding whole_in then_read
  makes_whole = record {
    long = refl;
    kept = kept_whole;
    not_16 = λ m e. whole_refused m State (λ k. never (cc)) e;
    not_9 = λ m e. whole_refused m TooLong (λ k. never (cc)) e;
    not_4 = λ m l s e. whole_refused m End (λ k. never (cc)) e;
  }

  module _ (r : CutValue) (after : List ℕ) (call : Cuts (whole_in out) whole_left c p out r after) (m : List ℕ) (q : (cut_of c p).said ≡ ended (Ok m)) where
    handed : Gives (answer_of (then_write (length m) (Ok m) out)) (whole_left (Ok m) out) (answer_in r) after
    unfolding answer_by left_by_said whole_in then_read then_write
    handed = rw q at (answer_in_lem _ _ c p out makes_whole r after call)

    whole : length m ≤ length out → (r.number ≡ 0) × (r.value ≡ length m) × (after ≡ m ++ drop (length m) out)
    unfolding then_write
    whole h =
        let w : then_write (length m) (Ok m) out ≡ Ok (length m) = room_enough (length m) (length out) h in
        let is = handed.answers ∙ ap answer_of w in (
          ap (λ (b : host.Answer). b.number) is,
          ap (λ (b : host.Answer). b.value) is,
          handed.leaves ∙ (then_bytes (λ (s : List ℕ). s) (length m) out m (length m) refl w).1,
        )

    no_room : length out < length m → (r.number ≡ 2) × (r.value ≡ length m) × (after ≡ out)
    unfolding then_write
    no_room h =
        let w : then_write (length m) (Ok m) out ≡ Err (Room (length m)) = room_short (length m) (length out) h in
        let is = handed.answers ∙ ap answer_of w in (
          ap (λ (b : host.Answer). b.number) is,
          ap (λ (b : host.Answer). b.value) is,
          handed.leaves ∙ then_same (λ (s : List ℕ). s) (length m) out (Ok m) (Room (length m)) (λ s k. let y : m ≡ s = cc in ap length (sym y)) w,
        )

  pub hands_message : (r : CutValue) (after : List ℕ) → Cuts (whole_in out) whole_left c p out r after → HandsMessage c p out r after
  hands_message r after call = record {
    call = cut_call _ _ c p out makes_whole r after call;
    whole = whole r after call;
    no_room = no_room r after call;
  }
