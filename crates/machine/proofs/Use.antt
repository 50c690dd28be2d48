-- What the promise's clauses give a reader: a run in two parts, what is said to happen is seen, and a test for `StaysOn` that computes on given events.
-- Assumes nothing.
use Prim.Native.Nat.{ℕ}
use mathlib.Core.Path.{◌≡◌, refl, sym, ap, ◌∙◌}
use mathlib.Core.Bool.{Bool, true, ◌&&◌}
use mathlib.Core.List.{List, [], ◌∷◌, ◌++◌, append_assoc, nil≢cons, head-eq_of_cons-eq, tail-eq_of_cons-eq}
use Rattle.laws.proofs.Tests.{and_left, and_right}
use Rattle.machine.specs.Machine.{Rules, Kind, a_record, Events, slot, State, modes, Out, grew, took, dropped, noted, sends, begins, idles, next, shows, run, seen, acted_in, acted}
use Rattle.machine.specs.Promised.{ActedBy, RecordBy, StaysOn}

module _ {r : Rules} where
  pub run_append : (s : State r) (es es' : Events r) → run s (es ++ es') ≡ run (run s es) es'
  run_append s [] es' = refl
  run_append s (e ∷ es) es' = run_append (next s e) es es'

  pub seen_append : {A : Type 0} (f : Out r → List A) (s : State r) (es es' : Events r) → seen f s (es ++ es') ≡ seen f s es ++ seen f (run s es) es'
  seen_append f s [] es' = refl
  seen_append f s (e ∷ es) es' =
      ap (λ x. f (shows s e) ++ x) (seen_append f (next s e) es es')
      ∙ sym (append_assoc (f (shows s e)) (seen f (next s e) es) (seen f (run (next s e) es) es'))

  -- the command acted on is the first that the events act on
  pub acted_first : {limit : ℕ} {s : State r} {c : r.Command} {after : Events r} → ActedBy limit s c after → (more : List r.Command) × (acted s after ≡ c ∷ more)
  acted_first {s = s} {after = after} a = (
    acted (next (run s a.mid) slot) a.rest,
    (ap (acted s) a.split ∙ seen_append acted_in s a.mid (slot ∷ a.rest) ∙ rw (a.none_before, a.acts)),
  )

  -- the kinds of the messages that start
  abbrev pub kinds_in : Out r → List Kind
  kinds_in grew = []
  kinds_in (took c) = []
  kinds_in dropped = []
  kinds_in noted = []
  kinds_in (sends b) = []
  kinds_in (begins a k b bs) = k ∷ []
  kinds_in (idles a) = []

  -- a record is among the messages that start
  pub record_seen : {limit : ℕ} {s : State r} {after : Events r} → RecordBy limit s after
      → (some_before : List Kind) × (some_after : List Kind) × (seen kinds_in s after ≡ some_before ++ a_record ∷ some_after)
  record_seen {s = s} {after = after} a = (
    seen kinds_in s a.mid,
    seen kinds_in (next (run s a.mid) slot) a.rest,
    (ap (seen kinds_in s) a.split ∙ seen_append kinds_in s a.mid (slot ∷ a.rest) ∙ rw a.starts),
  )

  abbrev pub all_on : State r → Events r → Bool
  all_on s [] = r.continuous (modes s)
  all_on s (e ∷ es) = r.continuous (modes s) && all_on (next s e) es

  on_now : (s : State r) (es : Events r) → all_on s es ≡ true → r.continuous (modes s) ≡ true
  on_now s [] h = h
  on_now s (e ∷ es) h = and_left (r.continuous (modes s)) (all_on (next s e) es) h

  pub stays_on : (s : State r) (es : Events r) → all_on s es ≡ true → StaysOn s es
  stays_on s es h [] rest p = on_now s es h
  stays_on s [] h (e' ∷ mid) rest p = absurd (nil≢cons p)
  stays_on s (e ∷ es) h (e' ∷ mid) rest p =
      rw (← head-eq_of_cons-eq p)
      (stays_on (next s e) es (and_right (r.continuous (modes s)) (all_on (next s e) es) h) mid rest (tail-eq_of_cons-eq p))
