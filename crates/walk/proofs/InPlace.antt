-- Collecting in place is what receive does, case by case; then call by call, from a valid port. Assumes nothing.
use Prim.Native.Nat.{ℕ}
use mathlib.Core.Bool.{true, false, ◌&&◌, false≢true}
use mathlib.Core.List.{List, [], ◌∷◌, ◌++◌}
use mathlib.Core.Path.{◌≡◌, refl, sym, ap, ap₂, ◌∙◌}
use native.Mathlib.Omega.{arith}
use Rattle.std.specs.Prelude.{is_some, Ok, Err}
use Rattle.laws.proofs.Tests.{and_right, and_both, cond_yes, cond_no, told, by}
use Rattle.refusal.specs.declared.Refusal.TheVariants as refusal
use Rattle.line.specs.declared.Line.{Line}
use Rattle.line.specs.Line.{blank, ends, joined, valid_line}
use Rattle.collector.specs.declared.Collected.{Collected}
use Rattle.collector.specs.Collect.{line_after, collected}
use Rattle.collector.proofs.Laws.{refused_line, refused_answer, return_line, return_answer, other_line, other_answer}
use Rattle.port.specs.declared.Port.{Port}
use Rattle.port.specs.declared.Received.{Received}
use Rattle.port.specs.Port.{valid_port, taken_of, receive_of}
use Rattle.port.proofs.Promises.{kept_valid}
use Rattle.fill.proofs.Promises.{promised}
use Rattle.walk.specs.Calls.{Call, receive, slots_once, measure, fill, turn, Held, after, bytes, after_all, bytes_all}
use Rattle.walk.specs.InPlace.{port_in_place, in_place, all_in_place, bytes_in_place, InPlace}
use Rattle.walk.proofs.Calls.{turned_valid}

-- an answer that says that no line ended does not say that one did
no_end : {A : Type 0} {c c' : Collected} → c ≡ c' → c'.ended ≡ false → c.ended ≡ true → A
no_end k f e = absurd (false≢true (sym f ∙ sym (ap (λ (x : Collected). x.ended) k) ∙ e))

module _ (p : Port) (l : Line) (b : ℕ) where
  -- receive, case by case
  refused_received : valid_line l ≡ false → receive_of p l b ≡ record { verdict = Err refusal.State; port = p; line = l }
  unfolding receive_of
  refused_received n =
      told (valid_port p && valid_line l)
      (λ y. absurd (false≢true (sym n ∙ and_right (valid_port p) (valid_line l) y)))
      (λ m. cond_no _ _ m)

  module _ (v : valid_port p ≡ true) (w : valid_line l ≡ true) where
    return_received : ends l b ≡ true → receive_of p l b ≡ taken_of p l
    unfolding receive_of
    return_received e = cond_yes _ _ (and_both v w) ∙ cond_yes _ _ e

    other_received : ends l b ≡ false → receive_of p l b ≡ record { verdict = Ok tt; port = p; line = joined l b }
    unfolding receive_of
    other_received n = cond_yes _ _ (and_both v w) ∙ cond_no _ _ n

  emptied : (taken_of p l).line ≡ blank
  unfolding taken_of
  emptied = by (λ (x : Received). x.line ≡ blank) (is_some p.waiting) _ _ (λ y. refl) (λ n. refl)

  line : valid_port p ≡ true → (receive_of p l b).line ≡ line_after l b
  line v =
      told (valid_line l)
      (λ w.
      told (ends l b)
      (λ e. ap (λ (x : Received). x.line) (return_received v w e) ∙ emptied ∙ sym (return_line l b w e))
      (λ n. ap (λ (x : Received). x.line) (other_received v w n) ∙ sym (other_line l b w n)))
      (λ n. ap (λ (x : Received). x.line) (refused_received n) ∙ sym (refused_line l b n))

  ended : (collected l b).ended ≡ true → receive_of p (collected l b).line b ≡ receive_of p l b
  ended =
      told (valid_line l)
      (λ w.
      told (ends l b)
      (λ e h. ap (λ (c : Collected). receive_of p c.line b) (return_answer l b w e))
      (λ n h. no_end (other_answer l b w n) refl h))
      (λ n h. no_end (refused_answer l b n) refl h)

  refused : (collected l b).number ≡ 16 → ((receive_of p l b).verdict ≡ Err refusal.State) × ((receive_of p l b).port ≡ p)
  refused =
      told (valid_line l)
      (λ w.
      told (ends l b)
      (λ e h. absurd (let z = ap (λ (c : Collected). c.number) (return_answer l b w e) in omega arith))
      (λ n h. absurd (let z = ap (λ (c : Collected). c.number) (other_answer l b w n) in omega arith)))
      (λ n h. (ap (λ (x : Received). x.verdict) (refused_received n), ap (λ (x : Received). x.port) (refused_received n)))

  done : valid_port p ≡ true → (collected l b).ended ≡ false → (collected l b).number ≡ 0 → (receive_of p l b).verdict ≡ Ok tt
  done v =
      told (valid_line l)
      (λ w.
      told (ends l b)
      (λ e f h. absurd (false≢true (sym f ∙ ap (λ (c : Collected). c.ended) (return_answer l b w e))))
      (λ n f h. ap (λ (x : Received). x.verdict) (other_received v w n)))
      (λ n f h. absurd (let z = ap (λ (c : Collected). c.number) (refused_answer l b n) in omega arith))

  -- the port stays where no line ended
  stays : valid_port p ≡ true → (collected l b).ended ≡ false → (receive_of p l b).port ≡ p
  stays v f =
      told (valid_line l)
      (λ w.
      told (ends l b)
      (λ e. absurd (false≢true (sym f ∙ ap (λ (c : Collected). c.ended) (return_answer l b w e))))
      (λ n. ap (λ (x : Received). x.port) (other_received v w n)))
      (λ n. ap (λ (x : Received). x.port) (refused_received n))

  port : valid_port p ≡ true → port_in_place p l b ≡ (receive_of p l b).port
  port v =
      told (collected l b).ended
      (λ y. cond_yes _ _ y ∙ ap (λ (x : Received). x.port) (ended y))
      (λ n. cond_no _ _ n ∙ sym (stays v n))

-- ---- call by call

same : (h : Held) (c : Call) → valid_port h.port ≡ true → in_place h c ≡ after h c
same h (receive b) v = ap₂ (λ p l. record { port = p; line = l }) (port h.port h.line b v) (sym (line h.port h.line b v))
same h slots_once v = refl
same h (measure m) v = refl
same h (fill n) v = refl
same h (turn t) v = refl

stays_valid : (h : Held) (c : Call) → valid_port h.port ≡ true → valid_port (after h c).port ≡ true
stays_valid h (receive b) v = kept_valid.receive h.port h.line b v
stays_valid h slots_once v = kept_valid.slot h.port v
stays_valid h (measure m) v = kept_valid.measure h.port m v
stays_valid h (fill n) v = promised.kept_valid h.port n v
stays_valid h (turn t) v = turned_valid h.port t v

states : (h : Held) (cs : List Call) → valid_port h.port ≡ true → all_in_place h cs ≡ after_all h cs
unfolding all_in_place after_all
states h [] v = refl
states h (c ∷ cs) v = ap (λ (x : Held). all_in_place x cs) (same h c v) ∙ states (after h c) cs (stays_valid h c v)

sends : (h : Held) (cs : List Call) → valid_port h.port ≡ true → bytes_in_place h cs ≡ bytes_all h cs
unfolding bytes_in_place bytes_all
sends h [] v = refl
sends h (c ∷ cs) v = ap (λ (x : List ℕ). bytes h c ++ x) (ap (λ (x : Held). bytes_in_place x cs) (same h c v) ∙ sends (after h c) cs (stays_valid h c v))

pub in_place_lem : InPlace
in_place_lem = record {
  line = line;
  ended = ended;
  joined = λ p l b v f z. (done p l b v f z, stays p l b v f);
  refused = refused;
  states = λ old l s m cs e. states _ cs (kept_valid.start old l s m e);
  sends = λ old l s m cs e. sends _ cs (kept_valid.start old l s m e);
}
