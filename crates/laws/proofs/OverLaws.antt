-- The laws of `over`: its length, how writes one behind the other and one over another compose, and which stores come to one. Assumes nothing.
use Prim.Native.Nat.{ℕ, ◌+◌, ◌-◌, ◌≤◌, ◌<◌}
use mathlib.Core.List.{List, [], ◌∷◌, ◌++◌, append_assoc}
use mathlib.Core.Path.{◌≡◌, refl, sym, ap, ap₂, ◌∙◌}
use native.Mathlib.Nat.{add-zero}
use native.Mathlib.Omega.{arith}
use borrow.Author.Tests.{le-leb, lt-leb, leb-true, leb-false}
use lib.Dec.{leb}
use lib.ListN.{length, take, drop, set, length-append, length-take, length-drop, take-append-drop}
use lib.Seq.{take_at, drop_at, take-take, take-append-le, drop-append-le, drop-append-add, drop-drop, length-take-le, sets, sets-eq, paste, take-length}
use Rattle.laws.specs.Over.{over}
use Rattle.laws.proofs.ListLaws.{drop_past}
use Rattle.laws.proofs.Tests.{told}

module _ (d s : List ℕ) (a : ℕ) where
  pub over_fits : a + length s ≤ length d → over d a s ≡ take a d ++ (s ++ drop (a + length s) d)
  unfolding over
  over_fits h = rw (le-leb _ _ h)

  pub over_short : length d < a + length s → over d a s ≡ d
  unfolding over
  over_short h = rw (lt-leb _ _ h)

  -- a write leaves the length as it was
  pub length_over : length (over d a s) ≡ length d
  length_over =
      told (leb (a + length s) (length d))
      (λ e.
      let h = leb-true _ _ e in
      ap length (over_fits h) ∙ simp (length-append, length-take, length-drop) (omega arith))
      (λ e. ap length (over_short (leb-false _ _ e)))

  -- straight-line stores, one behind the other, are one write
  pub sets_over : a + length s ≤ length d → sets d a s ≡ over d a s
  sets_over h = sets-eq s d a h ∙ append_assoc (take a d) s (drop (a + length s) d) ∙ sym (over_fits h)

  -- a copy of all of s is one write
  pub paste_over : a + length s ≤ length d → paste d a s (length s) ≡ over d a s
  paste_over h = rw (take-length s) (append_assoc (take a d) s (drop (a + length s) d) ∙ sym (over_fits h))

-- written over the front of two parts
pub over_front : (b e t : List ℕ) (a : ℕ) → a + length t ≤ length b → over (b ++ e) a t ≡ over b a t ++ e
over_front b e t a h =
    let x = take a b in
    let y = drop (a + length t) b in
    over_fits (b ++ e) t a (omega (arith, length-append b e))
    ∙ ap₂ (λ (u v : List ℕ). u ++ (t ++ v)) (take-append-le a b e (omega arith)) (drop-append-le (a + length t) b e h)
    ∙ sym (append_assoc x (t ++ y) e ∙ ap (λ (v : List ℕ). x ++ v) (append_assoc t y e))
    ∙ ap (λ (u : List ℕ). u ++ e) (sym (over_fits b t a h))

-- what is written over bytes before them leaves those from n on
pub drop_over : (d t : List ℕ) (a n : ℕ) → a + length t ≤ length d → a + length t ≤ n → drop n (over d a t) ≡ drop n d
drop_over d t a n fits far =
    let k = a + length t in
    let p = take a d ++ t in
    let long : length p ≡ k = length-append (take a d) t ∙ ap (λ (i : ℕ). i + length t) (length-take-le a d (omega arith)) in
    let e : k + (n - k) ≡ n = omega arith in
    ap (drop n) (over_fits d t a fits ∙ sym (append_assoc (take a d) t (drop k d)))
    ∙ ap (λ (i : ℕ). drop i (p ++ drop k d)) (sym e) ∙ drop_past p (drop k d) k (n - k) long ∙ drop-drop (n - k) k d ∙ ap (λ (i : ℕ). drop i d) e

-- nothing left to write
pub over_none : (d : List ℕ) (a : ℕ) → a ≤ length d → over d a [] ≡ d
over_none d a h =
    let room : a + length {A = ℕ} [] ≤ length d = simp add-zero h in
    over_fits d [] a room ∙ ap (λ (x : ℕ). take a d ++ drop x d) (add-zero a) ∙ take-append-drop a d

-- what was written at the start is read there
pub take_over : (d s : List ℕ) (n : ℕ) → length s ≡ n → n ≤ length d → take n (over d 0 s) ≡ s
take_over d s n l h =
    let room : 0 + length s ≤ length d = omega arith in
    rw (over_fits d s 0 room) (take_at s (drop (0 + length s) d) n l)

-- what follows the place where the first write ended
behind : (d s : List ℕ) (a b k : ℕ) → b ≡ a + length s → b ≤ length d → drop (b + k) (take a d ++ (s ++ drop b d)) ≡ drop (b + k) d
behind d s a b k e h =
    let l : length (take a d ++ s) ≡ b = length-append (take a d) s ∙ ap (λ (x : ℕ). x + length s) (length-take-le a d (omega arith)) ∙ sym e in
    rw (← append_assoc (take a d) s (drop b d))
    (ap (λ (x : ℕ). drop (x + k) ((take a d ++ s) ++ drop b d)) (sym l)
    ∙ drop-append-add (take a d ++ s) (drop b d) k
    ∙ drop-drop k b d)

-- a write on from where the first one ended: both are one write
pub over_next : (d s t : List ℕ) (a b : ℕ) → a + length s ≡ b → b + length t ≤ length d → over (over d a s) b t ≡ over d a (s ++ t)
over_next d s t a b e h =
    let p : over d a s ≡ take a d ++ (s ++ drop b d) = over_fits d s a (omega arith) ∙ ap (λ (x : ℕ). take a d ++ (s ++ drop x d)) e in
    let l : length (take a d ++ s) ≡ b = length-append (take a d) s ∙ ap (λ (x : ℕ). x + length s) (length-take-le a d (omega arith)) ∙ e in
    let st : a + length (s ++ t) ≡ b + length t = simp length-append (omega arith) in
    let f : take b (over d a s) ≡ take a d ++ s = ap (take b) (p ∙ sym (append_assoc (take a d) s (drop b d))) ∙ take_at (take a d ++ s) (drop b d) b l in
    let g : drop (b + length t) (over d a s) ≡ drop (b + length t) d = ap (drop (b + length t)) p ∙ behind d s a b (length t) (sym e) (omega arith) in
    over_fits (over d a s) t b (rw (length_over d s a) h)
    ∙ rw (f, g, over_fits d (s ++ t) a (rw st h), st) (rw (append_assoc, append_assoc))

-- one byte stored, and what is left
pub over_byte : (d s : List ℕ) (a x : ℕ) → a + 1 + length s ≤ length d → over (set d a x) (a + 1) s ≡ over d a (x ∷ s)
over_byte d s a x h =
    let one : a + length (x ∷ []) ≤ length d = omega arith in
    ap (λ (e : List ℕ). over e (a + 1) s) (sets_over d (x ∷ []) a one) ∙ over_next d (x ∷ []) s a (a + 1) refl h

-- the same, of what two calls left: what a run of writers is made of
pub onto : (d : List ℕ) {e f : List ℕ} (s t : List ℕ) (a b : ℕ) → e ≡ over d a s → f ≡ over e b t → a + length s ≡ b → b + length t ≤ length d → f ≡ over d a (s ++ t)
onto d s t a b p q l h = q ∙ ap (λ (x : List ℕ). over x b t) p ∙ over_next d s t a b l h

-- a write that ends where the first one begins: both are one write, too
pub over_before : (d s t : List ℕ) (a b : ℕ) → a + length s ≡ b → b + length t ≤ length d → over (over d b t) a s ≡ over d a (s ++ t)
over_before d s t a b e h =
    let p = over_fits d t b h in
    let l : length (take b d) ≡ b = length-take-le b d (omega arith) in
    let st : a + length (s ++ t) ≡ b + length t = simp length-append (omega arith) in
    let f : take a (over d b t) ≡ take a d = ap (take a) p ∙ take-append-le a (take b d) (t ++ drop (b + length t) d) (omega arith) ∙ take-take a b d (omega arith) in
    let g : drop b (over d b t) ≡ t ++ drop (b + length t) d = ap (drop b) p ∙ drop_at (take b d) (t ++ drop (b + length t) d) b l in
    over_fits (over d b t) s a (rw (length_over d t b, e) (omega arith))
    ∙ rw (e, f, g, over_fits d (s ++ t) a (rw st h), st) (rw append_assoc)

-- a write over one that is no longer, from the same place on: the second alone
over_again : (d s t : List ℕ) (a : ℕ) → length s ≤ length t → a + length t ≤ length d → over (over d a s) a t ≡ over d a t
over_again d s t a k h =
    let p = over_fits d s a (omega arith) in
    let n : a + length t ≡ a + length s + (length t - length s) = omega arith in
    let f : take a (over d a s) ≡ take a d = ap (take a) p ∙ take_at (take a d) (s ++ drop (a + length s) d) a (length-take-le a d (omega arith)) in
    let g : drop (a + length t) (over d a s) ≡ drop (a + length t) d
    = ap (drop (a + length t)) p ∙ rw n (behind d s a (a + length s) (length t - length s) refl (omega arith)) in
    over_fits (over d a s) t a (rw (length_over d s a) h) ∙ rw (f, g) (sym (over_fits d t a h))

-- a write over the end u of another, and no shorter than u: of what two calls left, t stands in the place of u
pub onto_end : (d : List ℕ) {e f : List ℕ} (s u t : List ℕ) (a b : ℕ) → e ≡ over d a (s ++ u) → f ≡ over e b t →
    a + length s ≡ b → length u ≤ length t → b + length t ≤ length d → f ≡ over d a (s ++ t)
onto_end d s u t a b p q l k h =
    onto d s t a b refl
    (q ∙ ap (λ (x : List ℕ). over x b t) (p ∙ sym (over_next d s u a b l (omega arith))) ∙ over_again (over d a s) u t b k (rw (length_over d s a) h))
    l h

-- a run of writes from a to n, each on from where the one before ended: s in all, and the last left l
pub data Run (l : List ℕ) : List ℕ → ℕ → ℕ → List ℕ → Type 0 where
  last : {d : List ℕ} {a k : ℕ} (s : List ℕ) → l ≡ over d a s → length s ≡ k → Run l d a (a + k) s
  next : {d e t : List ℕ} {a k n : ℕ} (s : List ℕ) → e ≡ over d a s → length s ≡ k → Run l e (a + k) n t → Run l d a n (s ++ t)

run_long : {l d s : List ℕ} {a n : ℕ} → Run l d a n s → a + length s ≡ n
run_long (last s p h) = rw h
run_long (next {t = t} s p h r) = simp length-append (omega (arith, h, run_long r))

-- and it is one write
pub run : {l d s : List ℕ} {a n : ℕ} → Run l d a n s → n ≤ length d → l ≡ over d a s
run (last s p h) room = p
run {d = d} (next {t = t} {a = a} {k = k} s p h r) room =
    onto d s t a (a + k) p (run r (rw (ap length p ∙ length_over d s a) room)) (rw h) (omega (arith, run_long r))

-- a run over the first n bytes, lent on as an array, with those behind it as they were: one write over all of them
pub run_first : {l e s : List ℕ} {k : ℕ} (d : List ℕ) (n : ℕ) → n ≤ length d → e ≡ take n d → Run l e 0 k s → k ≤ n → l ++ drop n d ≡ over d 0 s
run_first {l = l} {e = e} {s = s} d n room first r fits =
    let long : length e ≡ n = ap length first ∙ length-take-le n d room in
    ap (λ (x : List ℕ). x ++ drop n d) (run r (omega (arith, long)))
    ∙ sym (over_front e (drop n d) s 0 (omega (arith, long, run_long r)))
    ∙ ap (λ (x : List ℕ). over (x ++ drop n d) 0 s) first
    ∙ ap (λ (x : List ℕ). over x 0 s) (take-append-drop n d)
