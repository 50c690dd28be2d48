-- A line of more than 135 bytes is of other form: no event's line is longer. So the first 136 bytes of a line tell its event, and as well more of them.
-- Assumes nothing.
use Prim.Native.Nat.{ℕ, ◌+◌, ◌*◌, ◌≤◌, ◌<◌}
use mathlib.Core.List.{List, ◌∷◌}
use mathlib.Core.Path.{◌≡◌, refl, sym, ap, ◌∙◌}
use native.Mathlib.Omega.{arith}
use borrow.Author.Tests.{leb-true, leb-false}
use lib.Dec.{leb}
use lib.IntN.{ℤ}
use lib.ListN.{length, take, length-append}
use lib.Seq.{length-take-le, take_all}
use Rattle.laws.proofs.Tests.{told}
use Rattle.capture.specs.Capture.{event_of}
use Rattle.capture.specs.Promises.{Spaced, none, next}
use Rattle.capture.specs.declared.Event.{Event}
use Rattle.capture.specs.declared.Event.TheVariants.{Received, Slots, Measured, Other}
use Rattle.capture.proofs.Texts.{whole_short}
use Rattle.capture.proofs.Lines.{Says, says}

-- a number of M and its space are at most 11 bytes
spaced_short : {s t : List ℕ} {zs : List ℤ} → Spaced s zs t → length s ≤ 11 * length zs + length t
spaced_short none = omega arith
spaced_short (next {w} {s} {t} {z} {zs} p r) =
    rw (length-append w (32 ∷ s)) (omega (arith, whole_short p, spaced_short r))

-- no form is longer
other_by : (s : List ℕ) → 135 < length s → (e : Event) → Says s e → e ≡ Other
other_by s h (Received b) r = absurd (let l = ap length r.is in omega arith)
other_by s h (Slots n) r = absurd (let l = ap length r.is in omega (arith, r.number.few))
other_by s h (Measured m) r =
    absurd (omega (arith, ap length r.is, spaced_short r.spaced, r.eleven, whole_short r.last))
other_by s h Other r = refl

pub long_other : (s : List ℕ) → 135 < length s → event_of s ≡ Other
long_other s h = other_by s h (event_of s) (says s)

pub first_bytes : (n : ℕ) (s : List ℕ) → 136 ≤ n → event_of (take n s) ≡ event_of s
first_bytes n s k =
    told (leb (length s) n)
    (λ e. ap event_of (take_all n s (leb-true (length s) n e)))
    (λ e.
    let h = leb-false (length s) n e in
    let l = length-take-le n s (omega arith) in
    long_other (take n s) (omega arith) ∙ sym (long_other s (omega arith)))
