-- Slots in a row, and the loop of `fill`, as laws over plain values: what is written is what the slots have sent, and the rest of the buffer stands.
-- Assumes nothing.
use Prim.Native.Nat.{ℕ, zero, suc, ◌+◌, ◌-◌, ◌<◌, ◌≤◌}
use native.Mathlib.Omega.{arith}
use mathlib.Core.Bool.{true}
use mathlib.Core.List.{List, [], ◌∷◌, ◌++◌, append_assoc, append-nil}
use mathlib.Core.Path.{◌≡◌, refl, sym, ap, ap₂, subst, ◌∙◌}
use borrow.Author.Tests.{le-ltb, ne_eqb}
use lib.Dec.{eqb}
use lib.ListN.{length, get_or, take, drop, set, length-append}
use lib.Seq.{drop-cons}
use Rattle.std.specs.Prelude.{Err, None, Ok, Option, Some}
use Rattle.laws.specs.Over.{over}
use Rattle.laws.proofs.OverLaws.{over_fits, over_next, sets_over, length_over}
use Rattle.laws.proofs.Tests.{cond_yes, cond_no}
use Rattle.refusal.specs.Answer.{Answer}
use Rattle.state.specs.declared.Source.{Source}
use Rattle.state.specs.State.{message_length}
use Rattle.port.proofs.Promises.{kept_valid}
use Rattle.port.proofs.State.{under_way_lem}
use Rattle.port.proofs.Valid.{message_valid, message_low}
use Rattle.port.specs.declared.Port.{Port}
use Rattle.port.specs.declared.Slotted.{Slotted}
use Rattle.port.specs.Port.{valid_port, moved_if, sent_up_to, send_from, choose_of, slot_of}
use Rattle.fill.specs.declared.Onward.{Onward}
use Rattle.fill.specs.Fill.{SlotRun, then_run, run_of, ahead, Sends, Goes}

-- ---- slots in a row

-- no slot
pub none_sends : (p : Port) → valid_port p ≡ true → Sends p 0 [] p
none_sends p v = record { long = refl; valid = v; run = λ m. ap (λ (n : ℕ). run_of n p) (omega arith) }

-- one slot that sends b
pub one_sends : (q : Port) (s : Slotted) (b : ℕ) → valid_port q ≡ true → s ≡ slot_of q → s.sent ≡ Ok (Some b) → Sends q 1 (b ∷ []) s.port
unfolding run_of
one_sends q s b v e f = record {
  long = refl;
  valid = subst (λ (t : Slotted). valid_port t.port ≡ true) (sym e) (kept_valid.slot q v);
  run = λ m.
      let one_more : 1 + m ≡ suc m = omega arith in
      ap (λ (n : ℕ). run_of n q) one_more
      ∙ sym (ap (λ (t : Slotted). then_run t.sent t.port (run_of m t.port)) e)
      ∙ ap (λ (x : Answer (Option ℕ)). then_run x s.port (run_of m s.port)) f;
}

-- some slots, and then some more
pub then_sends : {p q t : Port} {n k : ℕ} {xs ys : List ℕ} → Sends p n xs q → Sends q k ys t → Sends p (n + k) (xs ++ ys) t
then_sends {p} {q} {t} {n} {k} {xs} {ys} a b = record {
  long = length-append xs ys ∙ ap₂ ◌+◌ a.long b.long;
  valid = b.valid;
  run = λ m.
      let apart : n + k + m ≡ n + (k + m) = omega arith in
      ap (λ (j : ℕ). run_of j p) apart
      ∙ a.run (k + m)
      ∙ ap (ahead xs) (b.run m)
      ∙ ap (λ (zs : List ℕ). record { port = (run_of m t).port; bytes = zs }) (sym (append_assoc xs ys (run_of m t).bytes));
}

-- ---- the message under way

-- where none is, the rules choose
pub chooses : (p : Port) → valid_port p ≡ true → p.message.at ≡ p.message.len → choose_of p ≡ slot_of p
unfolding slot_of
chooses p v e = sym (cond_yes _ _ v ∙ cond_no _ _ (le-ltb p.message.at p.message.len (omega arith)))

-- before its end the message moves nothing
not_moved : (s : Source) (at len : ℕ) → at < len → moved_if (eqb at len) s ≡ s
unfolding moved_if
not_moved s at len h = cond_no _ _ (ne_eqb at len (λ e. omega arith))

-- up to one place, and then to another
on_to : (p : Port) (a b : ℕ) → a < p.message.len → sent_up_to (sent_up_to p a) b ≡ sent_up_to p b
on_to p a b h =
    ap
    (λ (s : Source). record {
      source = moved_if (eqb b p.message.len) s;
      message = record { bytes = p.message.bytes; len = p.message.len; at = b };
      last = p.last;
      waiting = p.waiting;
    })
    (not_moved p.source a p.message.len h)

-- the same, said otherwise
said_as : {p q r : Port} {n k : ℕ} {xs ys : List ℕ} → n ≡ k → xs ≡ ys → q ≡ r → Sends p n xs q → Sends p k ys r
said_as {p} {q} {r} {n} {k} {xs} {ys} e f g a =
    subst (λ (t : Port). Sends p k ys t) g (subst (λ (zs : List ℕ). Sends p k zs q) f (subst (λ (j : ℕ). Sends p j xs q) e a))

module _ (p : Port) (v : valid_port p ≡ true) (long : length p.message.bytes ≡ message_length) (more : p.message.at < p.message.len) where
  abbrev at : ℕ
  at = p.message.at

  next_byte : drop at p.message.bytes ≡ get_or p.message.bytes at 0 ∷ drop (suc at) p.message.bytes
  next_byte =
      let low : p.message.len ≤ message_length = message_low p.message (message_valid p v) in
      drop-cons p.message.bytes at 0 (omega arith)

  -- its next slot sends its next byte
  next_sends : Sends p 1 (get_or p.message.bytes at 0 ∷ []) (sent_up_to p (at + 1))
  unfolding send_from
  next_sends = one_sends p (send_from p at) (get_or p.message.bytes at 0) v (sym (under_way_lem p v more)) refl

-- its next slots send its next bytes, up to its end
rest_sends : (n : ℕ) (p : Port) → valid_port p ≡ true → length p.message.bytes ≡ message_length → p.message.at + suc n ≤ p.message.len →
    Sends p (suc n) (take (suc n) (drop p.message.at p.message.bytes)) (sent_up_to p (p.message.at + suc n))
rest_sends zero p v long h =
    let at = p.message.at in
    let more : at < p.message.len = omega arith in
    let e : at + 1 ≡ at + suc zero = omega arith in
    said_as refl (sym (ap (take 1) (next_byte p v long more))) (ap (sent_up_to p) e) (next_sends p v long more)
rest_sends (suc n) p v long h =
    let at = p.message.at in
    let more : at < p.message.len = omega arith in
    let e : at + 1 ≡ suc at = omega arith in
    let f : at + 1 + suc n ≡ at + suc (suc n) = omega arith in
    let first = next_sends p v long more in
    said_as (omega arith)
    (ap (λ (k : ℕ). get_or p.message.bytes at 0 ∷ take (suc n) (drop k p.message.bytes)) e ∙ sym (ap (take (suc (suc n))) (next_byte p v long more)))
    (ap (sent_up_to (sent_up_to p (at + 1))) f ∙ on_to p (at + 1) (at + suc (suc n)) (omega arith))
    (then_sends first (rest_sends n (sent_up_to p (at + 1)) first.valid long (omega arith)))

pub goes_on : (n : ℕ) (p : Port) → 0 < n → valid_port p ≡ true → length p.message.bytes ≡ message_length → p.message.at + n ≤ p.message.len →
    Sends p n (take n (drop p.message.at p.message.bytes)) (sent_up_to p (p.message.at + n))
goes_on zero p h v long low = absurd (omega arith)
goes_on (suc n) p h v long low = rest_sends n p v long low

-- ---- the loop

-- i slots have been run, and what they sent is written over the start of the buffer
pub record At (l₀ : List ℕ) (p : Port) (l : List ℕ) (q : Port) (i : ℕ) : Type 0 where
  pub sent : List ℕ
  pub sends : Sends p i sent q
  pub within : i ≤ length l₀
  pub written : l ≡ over l₀ 0 sent

pub begins : (l₀ : List ℕ) (p : Port) → valid_port p ≡ true → At l₀ p l₀ p 0
begins l₀ p v = record { sent = []; sends = none_sends p v; within = omega arith; written = sym (over_fits l₀ [] 0 (omega arith)) }

-- so it is at the loop's head, where no message is under way while there is room left
pub record Head (l₀ : List ℕ) (p : Port) (l : List ℕ) (q : Port) (i : ℕ) : Type 0 where
  pub so_far : At l₀ p l q i
  pub ended : i < length l → q.message.at ≡ q.message.len

-- the buffer is as long as it was
pub as_long_lem : {l₀ l : List ℕ} {p q : Port} {i : ℕ} → At l₀ p l q i → length l ≡ length l₀
as_long_lem {l₀} a = ap length a.written ∙ length_over l₀ a.sent 0

-- more slots leave less room
pub less : {l₀ l k : List ℕ} {p q t : Port} {i j : ℕ} → At l₀ p l q i → At l₀ p k t j → i < j → length k - j < length l - i
less {l₀} {l} {k} {p} {q} {t} {i} {j} a b h =
    let m = as_long_lem a in
    let n = as_long_lem b in
    let w : j ≤ length l₀ = b.within in
    omega arith

-- how a run ends: the port after it, its count, and the buffer with its bytes written over the start
pub record Ends (l₀ : List ℕ) (p t : Port) (n : ℕ) (l : List ℕ) : Type 0 where
  pub port : t ≡ (run_of (length l₀) p).port
  pub count : n ≡ length (run_of (length l₀) p).bytes
  pub bytes : l ≡ over l₀ 0 (run_of (length l₀) p).bytes

-- a slot that sends nothing ends the run
quiet : (t : Answer (Option ℕ)) (q : Port) (r : SlotRun) → ((b : ℕ) → t ≡ Ok (Some b) → ⊥) → then_run t q r ≡ record { port = q; bytes = [] }
quiet (Ok (Some b)) q r h = absurd (h b refl)
quiet (Ok None) q r h = refl
quiet (Err n) q r h = refl

module _ {l₀ : List ℕ} {p : Port} {l : List ℕ} {q : Port} {i : ℕ} (a : At l₀ p l q i) where
  -- more slots are run, and what they send is written behind
  further : {k : ℕ} {ys : List ℕ} {t : Port} → Sends q k ys t → i + k ≤ length l₀ → At l₀ p (over l i ys) t (i + k)
  further {k} {ys} {t} b h =
      let m : length a.sent ≡ i = a.sends.long in
      let n : length ys ≡ k = b.long in
      record {
        sent = a.sent ++ ys;
        sends = then_sends a.sends b;
        within = h;
        written = ap (λ (x : List ℕ). over x i ys) a.written ∙ over_next l₀ a.sent ys 0 i (omega arith) (omega arith);
      }

  -- as `go_on` does
  pub onward : {r : Onward} {after : List ℕ} → Goes q l i r after → At l₀ p after r.port (i + r.count)
  onward {r} {after} g =
      let m = as_long_lem a in
      let h : i + r.count ≤ length l = g.fits in
      subst (λ (x : List ℕ). At l₀ p x r.port (i + r.count)) (sym g.leaves) (further g.sends (omega arith))

  -- and leaves the loop's head
  pub at_head : {r : Onward} {after : List ℕ} → Goes q l i r after → Head l₀ p after r.port (i + r.count)
  at_head {r} {after} g =
      let b = onward g in
      let m = as_long_lem a in
      let n = as_long_lem b in
      record { so_far = b; ended = λ h. g.ended (omega arith) }

  -- one byte is stored
  pub stored : {b : ℕ} {t : Port} → Sends q 1 (b ∷ []) t → i < length l → At l₀ p (set l i b) t (i + 1)
  stored {b} {t} s h =
      let m = as_long_lem a in
      subst (λ (x : List ℕ). At l₀ p x t (i + 1)) (sym (sets_over l (b ∷ []) i (omega arith))) (further s (omega arith))

  ends : (t : Port) → run_of (length l₀ - i) q ≡ record { port = t; bytes = [] } → Ends l₀ p t i l
  ends t e =
      let w : i ≤ length l₀ = a.within in
      let n : length l₀ ≡ i + (length l₀ - i) = omega arith in
      let f : run_of (length l₀) p ≡ record { port = t; bytes = a.sent } =
      ap (λ (k : ℕ). run_of k p) n ∙ a.sends.run (length l₀ - i) ∙ ap (ahead a.sent) e ∙ ap (λ (x : List ℕ). record { port = t; bytes = x }) (append-nil a.sent) in
      record {
        port = sym (ap (λ (r : SlotRun). r.port) f);
        count = sym (ap (λ (r : SlotRun). length r.bytes) f ∙ a.sends.long);
        bytes = a.written ∙ sym (ap (λ (r : SlotRun). over l₀ 0 r.bytes) f);
      }

  -- the buffer is full
  pub full : length l ≤ i → Ends l₀ p q i l
  unfolding run_of
  full h =
      let m = as_long_lem a in
      let z : length l₀ - i ≡ 0 = omega arith in
      ends q (ap (λ (k : ℕ). run_of k q) z)

  -- a slot sends nothing
  pub stops : i < length l → (s : Slotted) → s ≡ slot_of q → ((b : ℕ) → s.sent ≡ Ok (Some b) → ⊥) → Ends l₀ p s.port i l
  unfolding run_of
  stops h s e k =
      let m = as_long_lem a in
      let n : length l₀ - i ≡ suc (length l₀ - (i + 1)) = omega arith in
      ends s.port
      (ap (λ (j : ℕ). run_of j q) n
      ∙ sym (ap (λ (t : Slotted). then_run t.sent t.port (run_of (length l₀ - (i + 1)) t.port)) e)
      ∙ quiet s.sent s.port _ k)

-- the slots before the loop: those of the message under way
pub before_loop : {l after : List ℕ} {p : Port} {r : Onward} → valid_port p ≡ true → Goes p l 0 r after → Head l p after r.port r.count
before_loop {l} {after} {p} {r} v g =
    let all : 0 + r.count ≡ r.count = omega arith in
    subst (λ (n : ℕ). Head l p after r.port n) all (at_head (begins l p v) g)

-- a turn of it: the slot of the rules sends a byte, which is stored,
pub byte_stored : {l₀ l : List ℕ} {p q : Port} {i b : ℕ} {s : Slotted} →
    Head l₀ p l q i → i < length l → s ≡ choose_of q → s.sent ≡ Ok (Some b) → At l₀ p (set l i b) s.port (i + 1)
byte_stored {q = q} {b = b} {s = s} h t e f =
    let v = h.so_far.sends.valid in
    stored h.so_far (one_sends q s b v (e ∙ chooses q v (h.ended t)) f) t

-- or none, which ends the run
pub idle_stops : {l₀ l : List ℕ} {p q : Port} {i : ℕ} {s : Slotted} →
    Head l₀ p l q i → i < length l → s ≡ choose_of q → ((b : ℕ) → s.sent ≡ Ok (Some b) → ⊥) → Ends l₀ p s.port i l
idle_stops {q = q} {s = s} h t e k = stops h.so_far t s (e ∙ chooses q h.so_far.sends.valid (h.ended t)) k
