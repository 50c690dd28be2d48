-- A text put at the start of lent memory, and slots printed one behind the other, as laws over plain values. Assumes nothing.
use Prim.Native.Nat.{ℕ, zero, suc, ◌+◌, ◌-◌, ◌*◌, ◌≤◌, ◌<◌}
use mathlib.Core.List.{List, [], ◌∷◌, ◌++◌, append_assoc, append-nil}
use mathlib.Core.Path.{◌≡◌, refl, sym, ap, ◌∙◌}
use native.Mathlib.Omega.{arith}
use borrow.Author.Tests.{le-leb, lt-leb}
use lib.ListN.{length, length-append}
use Rattle.std.specs.Prelude.{Err, None, Ok, Option, Some}
use Rattle.laws.specs.Over.{over}
use Rattle.laws.proofs.OverLaws.{over_fits, over_short, length_over, onto}
use Rattle.refusal.specs.Answer.{Answer, unless}
use Rattle.refusal.specs.declared.Refusal.TheVariants.{Room}
use Rattle.frame.specs.Message.{room_for}
use Rattle.port.specs.declared.Port.{Port}
use Rattle.port.specs.declared.Slotted.{Slotted}
use Rattle.port.specs.Port.{slot_of}
use Rattle.printed.specs.Printed.{slot_text, separator, slots_text, after_slots, Prints}

-- ---- a text

module _ (text out : List ℕ) {n : ℕ} (e : length text ≡ n) where
  -- it does not fit
  pub prints_short : length out < n → Prints text out (Err (Room n)) out
  unfolding room_for unless
  prints_short h = record {
    answers = rw (e, lt-leb n (length out) h);
    leaves = sym (over_short out text 0 (omega arith));
  }

  -- it fits, and is written
  pub prints_whole : {after : List ℕ} → n ≤ length out → after ≡ over out 0 text → Prints text out (Ok n) after
  unfolding room_for unless
  prints_whole h p = record { answers = rw (e, le-leb n (length out) h); leaves = p }

-- nothing is printed
pub prints_none : (out : List ℕ) → Prints [] out (Ok 0) out
prints_none out = prints_whole [] out refl (omega arith) (sym (over_fits out [] 0 (omega arith)))

-- ---- slots

pub length_slot : (s : Answer (Option ℕ)) → length (slot_text s) ≡ 2
length_slot (Ok (Some b)) = refl
length_slot (Ok None) = refl
length_slot (Err r) = refl

pub length_slots : (n : ℕ) (p : Port) → length (slots_text n p) ≡ 3 * n
unfolding slots_text
length_slots zero p = refl
length_slots (suc n) p =
    let s = slot_text (slot_of p).sent in
    let k = length_slot (slot_of p).sent in
    let l = length_slots n (slot_of p).port in
    length-append s _ ∙ omega arith

-- i slots have been run from p on and printed over the start of l₀; left are to come, and the next is printed at a place
pub record At (l₀ : List ℕ) (p : Port) (count : ℕ) (l : List ℕ) (q : Port) (left at : ℕ) : Type 0 where
  pub done : List ℕ
  pub long : length done ≡ at
  pub place : at + 3 * left ≡ 3 * count
  pub few : left ≤ count
  pub written : l ≡ over l₀ 0 done
  pub text : done ++ slots_text left q ≡ slots_text count p
  pub port : after_slots left q ≡ after_slots count p

pub at_start : (l₀ : List ℕ) (p : Port) (count : ℕ) → At l₀ p count l₀ p count 0
at_start l₀ p count = record {
  done = [];
  long = refl;
  place = omega arith;
  few = omega arith;
  written = sym (over_fits l₀ [] 0 (omega arith));
  text = refl;
  port = refl;
}

module _ {l₀ : List ℕ} {p : Port} {count : ℕ} {l : List ℕ} {q : Port} {left at : ℕ} (a : At l₀ p count l q left at) where
  pub as_long_lem : length l ≡ length l₀
  as_long_lem = ap length a.written ∙ length_over l₀ a.done 0

  -- one slot more: its two characters, and what stands behind them
  pub one_more : (s : Slotted) {m k : List ℕ} {next : ℕ} → 0 < left → 3 * count ≤ length l₀ → s ≡ slot_of q → next ≡ left - 1 →
      m ≡ over l at (slot_text s.sent) → k ≡ over m (at + 2) (separator next ∷ []) →
      At l₀ p count k s.port next (at + 3)
  unfolding slots_text after_slots
  one_more s {m} {k} {next} some room e f g h =
      let pl = a.place in
      let lo = a.long in
      let fe = a.few in
      let two = length_slot s.sent in
      let more : left ≡ suc next = omega arith in
      let first = onto l₀ a.done (slot_text s.sent) 0 at a.written g (omega arith) (omega arith) in
      let n : length (a.done ++ slot_text s.sent) ≡ at + 2 = length-append a.done (slot_text s.sent) ∙ omega arith in
      record {
        done = (a.done ++ slot_text s.sent) ++ (separator next ∷ []);
        long = length-append (a.done ++ slot_text s.sent) (separator next ∷ []) ∙ omega arith;
        place = omega arith;
        few = omega arith;
        written = onto l₀ (a.done ++ slot_text s.sent) (separator next ∷ []) 0 (at + 2) first h (omega arith) (omega arith);
        text =
            append_assoc (a.done ++ slot_text s.sent) (separator next ∷ []) (slots_text next s.port)
            ∙ append_assoc a.done (slot_text s.sent) (separator next ∷ slots_text next s.port)
            ∙ ap (λ (t : Slotted). a.done ++ (slot_text t.sent ++ (separator next ∷ slots_text next t.port))) e
            ∙ ap (λ (j : ℕ). a.done ++ slots_text j q) (sym more)
            ∙ a.text;
        port =
            ap (λ (t : Slotted). after_slots next t.port) e
            ∙ ap (λ (j : ℕ). after_slots j q) (sym more)
            ∙ a.port;
      }

  -- none is left
  pub all_told : left ≡ 0 → l ≡ over l₀ 0 (slots_text count p)
  unfolding slots_text
  all_told e =
      a.written
      ∙ ap (over l₀ 0) (sym (append-nil a.done) ∙ ap (λ (j : ℕ). a.done ++ slots_text j q) (sym e) ∙ a.text)

  pub all_run : left ≡ 0 → q ≡ after_slots count p
  unfolding after_slots
  all_run e = ap (λ (j : ℕ). after_slots j q) (sym e) ∙ a.port
