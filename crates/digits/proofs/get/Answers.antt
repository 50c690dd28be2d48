-- `digits::get` meets its contract. Before each turn `v` is what the digits passed say, so that reading on from it reads the whole.
-- Assumes nothing.
use Rattle.std.proofs.Common.{◌≡◌, ℕ, suc, ◌+◌, ◌-◌, ◌*◌, ◌^◌, ◌<◌, ◌≤◌, leb, List, ◌∷◌, length, get_or, drop, sym, ◌∙◌, subst, le_trans, lt_of_lt_of_le, pow-suc, add-one, arith, drop_of_length-le, drop-cons, le-leb}
use native.Mathlib.Nat.{pow-zero, pow-le-pow_right}
use borrow.Author.Tests.{lt-leb}
use lib.Arith.{digits_lt}
use Rattle.digits.specs.Digits.{only, read_digits, read_field, widest}
use Rattle.digits.proofs.Laws.{onward, narrow, onward_start, onward_more, onward_low, onward_high, onward_end}
use Rattle.digits.proofs.get.Goals as goal

-- one digit more is still below the power
grows : (base v d i n : ℕ) → 0 < base → base ≤ 64 → v < base ^ i → d < base → i < n → n ≤ widest → v * base + d < 2 ^ 64
grows base v d i n some few h k m short =
    lt_of_lt_of_le (digits_lt h k)
    (le_trans (subst (λ (x : ℕ). x ≤ base ^ n) (pow-suc base i) (pow-le-pow_right some m)) (narrow base n some few short))

-- a slice that is short enough is read as digits
short : (base off top : ℕ) (s : List ℕ) → length s ≤ widest → read_field base off top s ≡ read_digits base off top s
unfolding read_field
short base off top s h = rw (le-leb _ _ h)

-- what is still to read begins with the byte that a turn looks at
next : (s : List ℕ) (i d : ℕ) → i < length s → d ≡ get_or s i 0 → drop i s ≡ d ∷ drop (suc i) s
next s i d h e = rw e (drop-cons s i 0 h)

-- what the turn makes of v fits
room : (c : goal.Else-base-d) → c.loop-byte.v * c.args.base + (c.from-d.result - c.args.off) < 2 ^ 64
room c =
    let l = c.loop-byte in
    let a = c.args in
    grows a.base l.v _ l.byte-index (length a.s.now) c.requires.0 c.requires.1 l.invariant.0 c.if-base-d.false (omega arith) (omega arith)

pub returns-then-s-gt-WIDEST : goal.returns-then-s-gt-WIDEST
unfolding read_field
returns-then-s-gt-WIDEST c = rw (lt-leb _ _ c.if-s-gt-WIDEST.true)

pub loop-byte-init : goal.loop-byte-init
loop-byte-init c =
    let a = c.args in
    (rw pow-zero (omega arith), onward_start a.base a.off a.top a.s.now)

pub returns-then-d-off : goal.returns-then-d-off
returns-then-d-off c =
    let l = c.loop-byte in
    let a = c.args in
    let s = a.s.now in
    let d = c.from-d in
    sym (short _ _ _ s c.if-s-gt-WIDEST.false
    ∙ l.invariant.1
    ∙ rw (next s l.byte-index d.result c.loop-byte-test.true d.ensures) (onward_low a.base a.off a.top l.v d.result (drop (suc l.byte-index) s) c.if-d-off.true))

pub returns-then-base-d : goal.returns-then-base-d
returns-then-base-d c =
    let l = c.loop-byte in
    let a = c.args in
    let s = a.s.now in
    let d = c.from-d in
    sym (short _ _ _ s c.if-s-gt-WIDEST.false
    ∙ l.invariant.1
    ∙ rw (next s l.byte-index d.result c.loop-byte-test.true d.ensures)
    (onward_high a.base a.off a.top l.v d.result (drop (suc l.byte-index) s) c.if-d-off.false c.if-base-d.true))

pub overflow_mul-v : goal.overflow_mul-v
overflow_mul-v c = omega (arith, room c)

pub overflow_add-v : goal.overflow_add-v
overflow_add-v c = record { fits = room c }

pub loop-byte-preserved : goal.loop-byte-preserved
loop-byte-preserved c =
    let l = c.loop-byte in
    let a = c.args in
    let s = a.s.now in
    let d = c.from-d in (
      rw (add-one, pow-suc) (digits_lt l.invariant.0 c.if-base-d.false),
      rw add-one
          (l.invariant.1
          ∙ rw (next s l.byte-index d.result c.loop-byte-test.true d.ensures)
          (onward_more a.base a.off a.top l.v d.result (drop (suc l.byte-index) s) c.if-d-off.false c.if-base-d.false)),
    )

-- all of the slice is read
ended : (base off top v : ℕ) (s : List ℕ) (i : ℕ) → length s ≤ widest → read_digits base off top s ≡ onward base off top v (drop i s) → length s ≤ i →
    read_field base off top s ≡ only (leb v top) v
ended base off top v s i few h all = short base off top s few ∙ h ∙ rw (drop_of_length-le s all) (onward_end base off top v)

pub returns-then-most-v : goal.returns-then-most-v
returns-then-most-v c = sym (ended _ _ _ _ _ _ c.if-s-gt-WIDEST.false c.loop-byte.invariant.1 c.loop-byte-test.false ∙ rw (lt-leb _ _ c.if-most-v.true))

pub returns : goal.returns
returns c = sym (ended _ _ _ _ _ _ c.if-s-gt-WIDEST.false c.loop-byte.invariant.1 c.loop-byte-test.false ∙ rw (le-leb _ _ c.if-most-v.false))
