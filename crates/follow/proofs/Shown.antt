-- The bytes that a printed text shows are those that the calls send: line by line, two hex digits read back. Assumes nothing.
use Prim.Native.Nat.{ℕ, zero, suc, ◌+◌, ◌-◌, ◌*◌, ◌/◌, ◌%◌, ◌^◌, ◌≤◌, ◌<◌}
use mathlib.Core.List.{List, [], ◌∷◌, ◌++◌, append_assoc, append-nil}
use mathlib.Core.Path.{◌≡◌, refl, sym, ap, ap₂, subst, ◌∙◌}
use native.Mathlib.Nat.{div-add-mod'}
use native.Mathlib.Omega.{arith}
use borrow.Author.Tests.{lt-ltb, le-ltb, ltb-true, ltb-false, ne_eqb, le-leb}
use lib.Dec.{ltb}
use lib.ListN.{length, replicate}
use Rattle.std.specs.Prelude.{Err, None, Ok, Option, Some}
use Rattle.laws.proofs.Tests.{told, cond_yes, cond_no}
use Rattle.refusal.specs.Answer.{Answer, Verdict}
use Rattle.refusal.specs.Refusal.{number_of}
use Rattle.refusal.specs.declared.Refusal.{Refusal}
use Rattle.refusal.specs.declared.Refusal.TheVariants.{Form}
use Rattle.digits.specs.Digits.{digits, decimal}
use Rattle.capture.specs.Words.{before, space}
use Rattle.port.specs.declared.Port.{Port}
use Rattle.port.specs.Port.{slot_of, receive_of, measure_of}
use Rattle.walk.specs.View.{bytes_of}
use Rattle.walk.specs.Calls.{Call, slots_once, Held, after, bytes_all}
use Rattle.walk.proofs.BySlots.{bytes_append}
use Rattle.capture.specs.Capture.{event_of}
use Rattle.capture.specs.declared.Event.{Event}
use Rattle.capture.specs.declared.Event.TheVariants.{Received, Slots, Measured, Other}
use Rattle.printed.specs.Printed.{LF, hex_digit, slot_text, separator, slots_text, width_of, numeral, labelled, refused_text, slots_line, verdict_text}
use Rattle.telling.specs.Telling.{is_over, slots_left, Telling, tells, tell_of}
use Rattle.telling.specs.declared.Run.{Run}
use Rattle.follow.specs.Replay.{lines, tell_all, replay_with}
use Rattle.follow.specs.Calls.{held_by, calls_by, calls_of, calls_in, digit_shown, shown_by, shown_in, shown_line, shown}
use Rattle.follow.specs.Promises.{Unbroken}
use Rattle.follow.proofs.Calls.{both, event_state}
use Rattle.follow.proofs.Lines.{unbroken_cons, unbroken_append, ended}

-- ---- a hex digit

hex_high : (n : ℕ) → 48 ≤ hex_digit n
unfolding hex_digit
hex_high n =
    told (ltb n 10)
    (λ e. rw e (omega arith))
    (λ e. rw e (omega arith))

hex_back : (n : ℕ) → digit_shown (hex_digit n) ≡ n
unfolding hex_digit digit_shown
hex_back n =
    told (ltb n 10)
    (λ e.
    let h : n < 10 = ltb-true _ _ e in
    let low : 48 + n < 58 = omega arith in
    rw (e, lt-ltb (48 + n) 58 low) (omega arith))
    (λ e.
    let h : 10 ≤ n = ltb-false _ _ e in
    let high : 58 ≤ 97 + (n - 10) = omega arith in
    rw (e, le-ltb (97 + (n - 10)) 58 high) (omega arith))

-- ---- a slot

-- its two characters
record Pair (s : Answer (Option ℕ)) : Type 0 where
  first : ℕ
  second : ℕ
  is : slot_text s ≡ first ∷ second ∷ []
  high : 45 ≤ first
  higher : 45 ≤ second
  shows : shown_by first second ≡ bytes_of s

pair : (s : Answer (Option ℕ)) → Pair s
unfolding shown_by
pair (Ok (Some b)) =
    let h = hex_high (b / 16) in
    let k = hex_high (b % 16) in
    record {
      first = hex_digit (b / 16);
      second = hex_digit (b % 16);
      is = refl;
      high = omega arith;
      higher = omega arith;
      shows =
          cond_no _ _ (ne_eqb (hex_digit (b / 16)) 45 (λ e. absurd (omega arith)))
          ∙ ap (λ (n : ℕ). n ∷ []) (ap₂ (λ (x y : ℕ). 16 * x + y) (hex_back (b / 16)) (hex_back (b % 16)) ∙ omega (arith, div-add-mod' b 16));
    }
pair (Ok None) = record { first = 45; second = 45; is = refl; high = omega arith; higher = omega arith; shows = refl }
pair (Err r) = record { first = 45; second = 45; is = refl; high = omega arith; higher = omega arith; shows = refl }

-- ---- a line of slots

-- n slots more behind the first, without their LF
line_of : ℕ → Port → List ℕ
line_of zero p = slot_text (slot_of p).sent
line_of (suc n) p = slot_text (slot_of p).sent ++ space ∷ line_of n (slot_of p).port

not_last : (n : ℕ) → separator (suc n) ≡ space
unfolding separator
not_last n = cond_no _ _ (ne_eqb (suc n) 0 (λ e. absurd (omega arith)))

line_is : (n : ℕ) (p : Port) → slots_text (suc n) p ≡ line_of n p ++ LF ∷ []
unfolding slots_text line_of separator
line_is zero p = refl
line_is (suc n) p =
    ap (λ (c : ℕ). slot_text (slot_of p).sent ++ c ∷ slots_text (suc n) (slot_of p).port) (not_last n)
    ∙ ap (λ (x : List ℕ). slot_text (slot_of p).sent ++ space ∷ x) (line_is n (slot_of p).port)
    ∙ sym (append_assoc (slot_text (slot_of p).sent) (space ∷ line_of n (slot_of p).port) (LF ∷ []))

-- what stands before x, behind two characters that are not x
two_before : (x a b : ℕ) (s : List ℕ) → (a ≡ x → ⊥) → (b ≡ x → ⊥) → before x (a ∷ b ∷ s) ≡ suc (suc (before x s))
unfolding before
two_before x a b s h k = cond_no _ _ (ne_eqb a x h) ∙ ap suc (cond_no _ _ (ne_eqb b x k))

-- a slot's characters are none below the dash
slot_before : (x : ℕ) (t : Answer (Option ℕ)) (s : List ℕ) → x < 45 → before x (slot_text t ++ s) ≡ suc (suc (before x s))
slot_before x t s h =
    let p = pair t in
    ap (λ (y : List ℕ). before x (y ++ s)) p.is
    ∙ two_before x p.first p.second s (λ e. absurd (omega (arith, p.high))) (λ e. absurd (omega (arith, p.higher)))

slot_long : (t : Answer (Option ℕ)) (s : List ℕ) → length (slot_text t ++ s) ≡ suc (suc (length s))
slot_long t s = ap (λ (y : List ℕ). length (y ++ s)) (pair t).is

line_unbroken : (n : ℕ) (p : Port) → Unbroken (line_of n p)
unfolding line_of before
line_unbroken zero p =
    ap (before LF) (sym (append-nil (slot_text (slot_of p).sent)))
    ∙ slot_before LF (slot_of p).sent [] (omega arith)
    ∙ sym (slot_long (slot_of p).sent [])
    ∙ ap length (append-nil (slot_text (slot_of p).sent))
line_unbroken (suc n) p =
    let u = line_unbroken n (slot_of p).port in
    slot_before LF (slot_of p).sent (space ∷ line_of n (slot_of p).port) (omega arith)
    ∙ ap (λ (k : ℕ). suc (suc (suc k))) u
    ∙ sym (slot_long (slot_of p).sent (space ∷ line_of n (slot_of p).port))

-- its first word has two characters
line_word : (n : ℕ) (p : Port) → before space (line_of n p) ≡ 2
unfolding line_of before
line_word zero p = ap (before space) (sym (append-nil (slot_text (slot_of p).sent))) ∙ slot_before space (slot_of p).sent [] (omega arith)
line_word (suc n) p = slot_before space (slot_of p).sent (space ∷ line_of n (slot_of p).port) (omega arith)

-- the bytes of slots in a row
pub sent_by : ℕ → Port → List ℕ
sent_by zero p = []
sent_by (suc n) p = bytes_of (slot_of p).sent ++ sent_by n (slot_of p).port

shown_slots : (n : ℕ) (p : Port) → shown_in (slots_text n p) ≡ sent_by n p
unfolding slots_text shown_in sent_by
shown_slots zero p = refl
shown_slots (suc n) p =
    let x = pair (slot_of p).sent in
    ap (λ (y : List ℕ). shown_in (y ++ (separator n ∷ slots_text n (slot_of p).port))) x.is
    ∙ ap₂ (λ (y z : List ℕ). y ++ z) x.shows (shown_slots n (slot_of p).port)

-- ---- texts of whole lines

-- whatever follows, a text shows these bytes first
pub record Shows (text bytes : List ℕ) : Type 0 where
  pub first : (rest : List ℕ) → shown (lines (text ++ rest)) ≡ bytes ++ shown (lines rest)

pub shows_none : Shows [] []
shows_none = record { first = λ rest. refl }

pub shows_both : {t u xs ys : List ℕ} → Shows t xs → Shows u ys → Shows (t ++ u) (xs ++ ys)
shows_both {t} {u} {xs} {ys} p q = record {
  first = λ rest.
      ap (λ (s : List ℕ). shown (lines s)) (append_assoc t u rest)
      ∙ p.first (u ++ rest)
      ∙ ap (λ (s : List ℕ). xs ++ s) (q.first rest)
      ∙ sym (append_assoc xs ys _);
}

pub shows_line : (l : List ℕ) → Unbroken l → Shows (l ++ LF ∷ []) (shown_line l)
unfolding shown
shows_line l u = record { first = λ rest. ap (λ (s : List ℕ). shown (lines s)) (append_assoc l (LF ∷ []) rest) ∙ ap shown (ended l rest u) }

bytes_of_lem : (n : ℕ) (p : Port) → shown_line (line_of n p) ≡ sent_by (suc n) p
unfolding shown_line
bytes_of_lem n p =
    cond_yes _ _ (le-leb (before space (line_of n p)) 2 (omega (arith, line_word n p)))
    ∙ ap shown_in (sym (line_is n p))
    ∙ shown_slots (suc n) p

pub shows_slots : (n : ℕ) (p : Port) → Shows (slots_text n p) (sent_by n p)
unfolding slots_text sent_by
shows_slots zero p = shows_none
shows_slots (suc n) p =
    subst (λ (t : List ℕ). Shows t (sent_by (suc n) p)) (sym (line_is n p))
    (subst (Shows (line_of n p ++ LF ∷ [])) (bytes_of_lem n p) (shows_line (line_of n p) (line_unbroken n p)))

-- ---- `refused` and `slots`

unbroken_digits : (w n : ℕ) → Unbroken (decimal w n)
unfolding digits before
unbroken_digits zero n = refl
unbroken_digits (suc w) n = unbroken_cons (48 + n / 10 ^ w % 10) (decimal w n) (ne_eqb (48 + n / 10 ^ w % 10) LF (λ e. absurd (omega arith))) (unbroken_digits w n)

-- a label of so many characters, none of them LF, and a number
shows_label : (label : List ℕ) (n : ℕ) → Unbroken label → shown_line (label ++ numeral n) ≡ [] → Shows (labelled label n) []
unfolding labelled
shows_label label n u e =
    subst (λ (t : List ℕ). Shows t []) (append_assoc label (numeral n) (LF ∷ []))
    (subst (Shows ((label ++ numeral n) ++ LF ∷ [])) e (shows_line (label ++ numeral n) (unbroken_append label (numeral n) u (unbroken_digits (width_of n) n))))

pub shows_refused : (x : Refusal) → Shows (refused_text x) []
unfolding shown_line before
shows_refused x = shows_label _ (number_of x) refl refl

pub shows_count : (n : ℕ) → Shows (slots_line n) []
unfolding shown_line before
shows_count n = shows_label _ n refl refl

pub shows_verdict : (v : Verdict) → Shows (verdict_text v) []
shows_verdict (Ok tt) = shows_none
shows_verdict (Err x) = shows_refused x

-- ---- an event, and lines

sent_slots : (n : ℕ) (h : Held) → sent_by n h.port ≡ bytes_all h (replicate n slots_once)
unfolding sent_by bytes_all
sent_slots zero h = refl
sent_slots (suc n) h = ap (λ (s : List ℕ). bytes_of (slot_of h.port).sent ++ s) (sent_slots n (after h slots_once))

shows_event : (r : Run) (e : Event) → Shows (tells r e).text (bytes_all (held_by r) (calls_by r e))
unfolding tells bytes_all
shows_event r (Received b) = shows_verdict (receive_of r.port r.line b).verdict
shows_event r (Slots n) =
    subst (Shows (slots_text (slots_left r n) r.port)) (sent_slots (slots_left r n) (held_by r)) (shows_slots (slots_left r n) r.port)
shows_event r (Measured m) = shows_verdict (measure_of r.port m).verdict
shows_event r Other = shows_refused Form

pub shows_told : (r : Run) (e : Event) → Shows (tell_of r e).text (bytes_all (held_by r) (calls_of r e))
unfolding tell_of calls_of bytes_all
shows_told r e = both (λ (t : Telling) (cs : List Call). Shows t.text (bytes_all (held_by r) cs)) (is_over r) shows_none (shows_event r e)

shows_all : (r : Run) (ls : List (List ℕ)) → Shows (tell_all r ls).text (bytes_all (held_by r) (calls_in r ls))
unfolding tell_all calls_in bytes_all
shows_all r [] = shows_none
shows_all r (l ∷ ls) =
    let t = tell_of r (event_of l) in
    let cs = calls_of r (event_of l) in
    let ds = calls_in t.run ls in
    subst (Shows (t.text ++ (tell_all t.run ls).text))
    (ap (λ (h : Held). bytes_all (held_by r) cs ++ bytes_all h ds) (event_state r (event_of l)) ∙ sym (bytes_append (held_by r) cs ds))
    (shows_both (shows_told r (event_of l)) (shows_all t.run ls))

pub bytes : (r : Run) (input : List ℕ) → shown (lines (replay_with r input)) ≡ bytes_all (held_by r) (calls_in r (lines input))
unfolding replay_with lines shown
bytes r input =
    let t = tell_all r (lines input) in
    (shows_all r (lines input)).first (slots_line t.run.slots)
    ∙ ap (λ (s : List ℕ). bytes_all (held_by r) (calls_in r (lines input)) ++ s)
    (ap (λ (s : List ℕ). shown (lines s)) (sym (append-nil (slots_line t.run.slots))) ∙ (shows_count t.run.slots).first [])
    ∙ append-nil _
