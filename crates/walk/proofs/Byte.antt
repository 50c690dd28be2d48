-- What a received byte shows and how it is answered: the port's answer is by what the machine shows, which is one of three. Assumes nothing.
use Prim.Native.Nat.{ℕ}
use mathlib.Core.Bool.{Bool, true, cond}
use mathlib.Core.Option.{none, some}
use mathlib.Core.Path.{◌≡◌, refl, sym, subst}
use Rattle.std.specs.Prelude as std
use Rattle.std.specs.Prelude.{None, Some, is_some, Ok, Err}
use Rattle.laws.proofs.Tests.{and_both, told, by}
use Rattle.machine.specs.Machine.{State, port, Out, grew, took, dropped, on_return, on_other, on_byte, received, shows}
use Rattle.refusal.specs.declared.Refusal.TheVariants as refusal
use Rattle.line.specs.declared.Line.{Line}
use Rattle.line.specs.Line.{blank, ends, joined, valid_line}
use Rattle.rules.specs.Lens.{lens}
use Rattle.port.specs.declared.Port.{Port}
use Rattle.port.specs.declared.Received.{Received}
use Rattle.port.specs.Port.{taken_port, taken_of, receive_of}
use Rattle.walk.specs.View.{kind_of, waits_of, left_of, view}
use Rattle.walk.specs.Walk.{Sound}
use Rattle.walk.specs.Answers.{verdict_of}

taken_shows : (p : Port) (l : Line) → (taken_of p l).verdict ≡ verdict_of (on_return (view p l)).1
unfolding taken_of view on_return
taken_shows p l = by_waiting p.waiting
  where
    by_waiting : (w : std.Option Line) →
        let x : Received = cond (is_some w) (record { verdict = Err refusal.Dropped; port = p; line = blank }) (record { verdict = Ok tt; port = taken_port p l; line = blank }) in
        x.verdict ≡ verdict_of (on_return (port p.source (waits_of w) (left_of p.message) (kind_of p.last) l)).1
    by_waiting (Some c) = refl
    by_waiting None = refl

joined_shows : (p : Port) (l : Line) (b : ℕ) → Ok tt ≡ verdict_of (on_other (view p l) b).1
unfolding view on_other
joined_shows p l b = refl

pub byte_shows : (p : Port) (l : Line) (b : ℕ) → Sound p → valid_line l ≡ true → (receive_of p l b).verdict ≡ verdict_of (shows (view p l) (received b))
unfolding receive_of on_byte view
byte_shows p l b s v =
    let P : Bool → Type 0 = λ t.
    (let x : Received = cond t (taken_of p l) (record { verdict = Ok tt; port = p; line = joined l b }) in
    x.verdict ≡ verdict_of (cond t (on_return (view p l)) (on_other (view p l) b)).1) in
    rw (and_both s.valid v)
    (told (ends l b) (λ y. subst P (sym y) (taken_shows p l)) (λ n. subst P (sym n) (joined_shows p l b)))

-- it shows one of three
pub by_byte : (P : Out lens → Type 0) (x : State lens) (b : ℕ) → P grew → ((c : Line) → P (took c)) → P dropped → P (shows x (received b))
unfolding on_byte on_return on_other
by_byte P (port m none u k l) b g t d = by (λ (y : State lens × Out lens). P y.1) (ends l b) _ _ (λ y. t l) (λ n. g)
by_byte P (port m (some c) u k l) b g t d = by (λ (y : State lens × Out lens). P y.1) (ends l b) _ _ (λ y. d) (λ n. g)
