-- Each refusal exactly in its case, for every codec that blames the first wrong field. First the frame: 3, 4, 5 by the test that fails; then 6 by what
-- the contents' reader says; then the writers. Assumes nothing.
use Prim.Native.Nat.{ℕ, ◌+◌, ◌-◌, ◌≤◌, ◌<◌}
use mathlib.Core.Bool.{Bool, true, false}
use mathlib.Core.List.{List, ◌++◌}
use mathlib.Core.Logic.{◌≢◌, inl, inr}
use mathlib.Core.Path.{◌≡◌, refl, sym, ap, subst, ◌∙◌}
use native.Mathlib.Nat.{zero-add}
use native.Mathlib.Omega.{arith}
use borrow.Author.Tests.{eqb-true, eqb-false, eq-eqb, ne_eqb, leb-true, leb-false, le-leb, lt-leb}
use lib.Dec.{eqb, leb}
use lib.ListN.{length, take, length-append, take-append-drop}
use lib.Seq.{take_at}
use Rattle.std.specs.Prelude.{Err, Ok}
use Rattle.laws.proofs.Tests.{told, never}
use Rattle.refusal.specs.Answer.{unless}
use Rattle.refusal.proofs.Answers.{refused_is}
use Rattle.refusal.specs.declared.Refusal.{Refusal}
use Rattle.refusal.specs.declared.Refusal.TheVariants.{Field, Room, Length, End, Checksum, Contents, Dropped, Setting, TooLong, Form, Lost, NoPort, State}
use Rattle.codec.specs.Codec.{Got, got, wrong, Codec, spellings}
use Rattle.codec.specs.Places.{Place, FirstWrong}
use Rattle.codec.proofs.Places.{one_first_wrong, none_wrong}
use Rattle.codec.proofs.Blames.{Blames}
use Rattle.frame.specs.Frame.{ending, ending_width, framed, is_ended, sums, opening}
use Rattle.frame.specs.Message.{found, read_of, needed, checked, room_for, then_write, write_of}
use Rattle.frame.specs.Refuses.{length_by, Ended, Framed, ReadWhen, WriteWhen, Refuses}
use Rattle.frame.proofs.Answers.{reads_refused, reads_on}
use Rattle.frame.proofs.Faithful.{ending_by}
use Rattle.frame.proofs.Exactly.{Opens, opens, opened, ending_is, ending_long, framed_ends, framed_opens}

-- ---- the frame

-- an ending has LF CR at least
ending_two : (checksum : Bool) → 2 ≤ ending_width checksum
ending_two true = omega arith
ending_two false = omega arith

ended_tested : {m : List ℕ} → Ended m → is_ended m ≡ true
unfolding ending
ended_tested e = ap is_ended e.1 ∙ framed_ends false (length e.0) e.0 refl

module _ (checksum : Bool) (w : ℕ) (m : List ℕ) where
  -- what opens is its contents with their ending
  framed_of : Opens checksum w m → m ≡ framed checksum (take w m)
  framed_of o = sym (take-append-drop w m) ∙ ap (λ (t : List ℕ). take w m ++ t) (ending_is checksum w m o)

  wrong_length : (length m ≢ w + ending_width checksum) → opening checksum w m ≡ Err (Length (length m))
  unfolding opening
  wrong_length n = rw (ne_eqb _ _ n)

  module _ (long : length m ≡ w + ending_width checksum) where
    tested_ended : is_ended m ≡ true → Ended m
    unfolding ending
    tested_ended e =
        let o : Opens false (length m - 2) m = record { long = omega (arith, ending_two checksum, long); ended = e; summed = λ on. never (cc) } in
        (take (length m - 2) m, sym (take-append-drop (length m - 2) m) ∙ ap (λ (t : List ℕ). take (length m - 2) m ++ t) (ending_is false (length m - 2) m o))

    wrong_end : (Ended m → ⊥) → opening checksum w m ≡ Err End
    unfolding opening
    wrong_end n =
        told (is_ended m)
        (λ y. absurd (n (tested_ended y)))
        (λ f. rw (eq-eqb _ _ long, f))

    pub contents_long : (b : List ℕ) → m ≡ framed checksum b → length b ≡ w
    contents_long b e = let n = ap length e ∙ length-append b (ending checksum b) ∙ ap (λ (k : ℕ). length b + k) (ending_long checksum b) in omega arith

    wrong_sum : checksum ≡ true → Ended m → (Framed checksum m → ⊥) → opening checksum w m ≡ Err Checksum
    unfolding opening
    wrong_sum on e n =
        told (sums w m)
        (λ y. absurd (n (take w m, framed_of (record { long = long; ended = ended_tested e; summed = λ o. y }))))
        (λ f. rw (eq-eqb _ _ long, ended_tested e, on, f))

    right : (b : List ℕ) → m ≡ framed checksum b → opening checksum w m ≡ Ok tt
    right b e = ap (opening checksum w) e ∙ opened checksum w (framed checksum b) (framed_opens checksum w b (contents_long b e))

    -- contents with a wrong checksum are not framed
    not_framed : sums w m ≡ false → checksum ≡ true → Framed checksum m → ⊥
    not_framed f on g = let o = opens checksum w m (right g.0 g.1) in never (cc (o.summed on))

-- ---- a reader

module _ {A : Type 0} (c : Codec A) (rule : A → ℕ) (w : ℕ) (places : List Place) (u : Blames c 0 places) (same : (a : A) → c.lowest a ≡ rule a) (wide : c.width ≡ w) where
  by_rule : (s : List ℕ) (i : ℕ) → FirstWrong c.lowest (spellings c) places s i → FirstWrong rule (spellings c) places s i
  by_rule s i f =
      let t = f.before in
      let a = t.1 in
      record { before = (t.0, (a.0, sym (same a.0) ∙ a.1, a.2), t.2); unspelt = λ r (b, h, k). f.unspelt r (b, same b ∙ h, k) }

  -- what the contents' reader says, where it says that a field is wrong
  said_wrong : (b : List ℕ) (i : ℕ) → length b ≡ w → c.parse b ≡ wrong i → FirstWrong rule (spellings c) places b i
  said_wrong b i l e =
      let k = u.blames b i (l ∙ sym wide) e in
      by_rule b i (subst (FirstWrong c.lowest (spellings c) places b) (sym (k.1 ∙ zero-add k.0)) k.2)

  wrong_said : (b : List ℕ) (i : ℕ) → length b ≡ w → FirstWrong rule (spellings c) places b i → (q : Got A) → c.parse b ≡ q → q ≡ wrong i
  wrong_said b i l f (got a) e = let p = u.exact.sound b a (l ∙ sym wide) e in absurd (none_wrong (a, sym (same a) ∙ p.0, p.1) f)
  wrong_said b i l f (wrong j) e = ap wrong (one_first_wrong (said_wrong b j l e) f)

  module _ (checksum : Bool) (m : List ℕ) where
    abbrev When : Refusal → Type 0
    When = ReadWhen rule (spellings c) places (w + 2) checksum m

    long_is : length_by checksum (w + 2) ≡ w + ending_width checksum
    long_is = sym (ending_by w checksum)

    contents_read : (b : List ℕ) → length m ≡ w + ending_width checksum → m ≡ framed checksum b → read_of c checksum m ≡ found (c.parse b)
    contents_read b l e =
        reads_on c w wide checksum m (right checksum w m l b e)
        ∙ ap (λ (s : List ℕ). found (c.parse s)) (ap (take w) e ∙ take_at b (ending checksum b) w (contents_long checksum w m l b e))

    read_given : (r : Refusal) → When r → read_of c checksum m ≡ Err r
    unfolding found
    read_given (Length n) h =
        reads_refused c w wide checksum m (Length n) (wrong_length checksum w m (λ e. h.0 (e ∙ sym long_is)) ∙ ap (λ (k : ℕ). Err (Length k)) (sym h.1))
    read_given End h = reads_refused c w wide checksum m End (wrong_end checksum w m (h.0 ∙ long_is) h.1)
    read_given Checksum h = reads_refused c w wide checksum m Checksum (wrong_sum checksum w m (h.1 ∙ long_is) h.0 h.2 h.3)
    read_given (Contents i) h =
        let b = h.0 in
        let l = h.2 ∙ long_is in
        contents_read b l h.1 ∙ ap found (wrong_said b i (contents_long checksum w m l b h.1) h.3 (c.parse b) refl)
    read_given (Field i) h = absurd h
    read_given (Room n) h = absurd h
    read_given Dropped h = absurd h
    read_given (Setting i) h = absurd h
    read_given TooLong h = absurd h
    read_given Form h = absurd h
    read_given Lost h = absurd h
    read_given NoPort h = absurd h
    read_given State h = absurd h

    -- a reader that refuses has a case
    module _ (r : Refusal) (e : read_of c checksum m ≡ Err r) where
      so : (q : Refusal) → When q → When r
      so q h = subst When (refused_is (sym (read_given q h) ∙ e)) h

      -- the message is framed right: the contents are wrong
      then_contents : (l : length m ≡ w + ending_width checksum) (f : m ≡ framed checksum (take w m)) (q : Got A) → c.parse (take w m) ≡ q → When r
      unfolding found
      then_contents l f (got a) p = let z : Ok a ≡ Err r = ap found (sym p) ∙ sym (contents_read (take w m) l f) ∙ e in never (cc)
      then_contents l f (wrong i) p = so (Contents i) (take w m, f, l ∙ sym long_is, said_wrong (take w m) i (contents_long checksum w m l (take w m) f) p)

      then_summed : length m ≡ w + ending_width checksum → is_ended m ≡ true → (checksum ≡ true → sums w m ≡ true) → When r
      then_summed l n s = then_contents l (framed_of checksum w m (record { long = l; ended = n; summed = s })) (c.parse (take w m)) refl

      read_refused : When r
      read_refused =
          told (eqb (length m) (w + ending_width checksum))
          (λ y.
          let l = eqb-true _ _ y in
          told (is_ended m)
          (λ n.
          told checksum
          (λ on.
          told (sums w m)
          (λ s. then_summed l n (λ o. s))
          (λ s. so Checksum (on, l ∙ sym long_is, tested_ended checksum w m l n, not_framed checksum w m l s on)))
          (λ off. then_summed l n (λ on. never (cc))))
          (λ n. so End (l ∙ sym long_is, λ g. never (cc (ended_tested g)))))
          (λ n. so (Length (length m)) (λ l. eqb-false _ _ n (l ∙ long_is), refl))

-- ---- a writer

module _ {A : Type 0} (c : Codec A) (rule : A → ℕ) (low : ℕ → Refusal) (plain : ℕ) (same : (a : A) → c.lowest a ≡ rule a) (checksum : Bool) (a : A) (out : List ℕ)
    (long : needed c checksum ≡ length_by checksum plain) where
  abbrev n : ℕ
  n = length_by checksum plain

  out_of_range : rule a ≢ 0 → write_of c low checksum a out ≡ Err (low (rule a))
  unfolding write_of then_write checked unless
  out_of_range h = rw (same a, ne_eqb (rule a) 0 h)

  too_short : rule a ≡ 0 → length out < n → write_of c low checksum a out ≡ Err (Room n)
  unfolding write_of then_write checked unless room_for
  too_short h k = rw (same a, h, long, lt-leb n (length out) k)

  fits : rule a ≡ 0 → n ≤ length out → write_of c low checksum a out ≡ Ok n
  unfolding write_of then_write checked unless room_for
  fits h k = rw (same a, h, long, le-leb n (length out) k)

  -- one of the three
  written : {C : Type 0} → (rule a ≢ 0 → C) → (rule a ≡ 0 → length out < n → C) → (rule a ≡ 0 → n ≤ length out → C) → C
  written f g h =
      told (eqb (rule a) 0)
      (λ y.
      told (leb n (length out))
      (λ k. h (eqb-true _ _ y) (leb-true _ _ k))
      (λ k. g (eqb-true _ _ y) (leb-false _ _ k)))
      (λ y. f (eqb-false _ _ y))

  write_refused : (r : Refusal) → write_of c low checksum a out ≡ Err r → WriteWhen rule low plain checksum a out r
  write_refused r e =
      written
      (λ h. inl (h, refused_is (sym e ∙ out_of_range h)))
      (λ h k. inr (h, k, refused_is (sym e ∙ too_short h k)))
      (λ h k. let z : Err r ≡ Ok n = sym e ∙ fits h k in never (cc))

  refused_write : (r : Refusal) → WriteWhen rule low plain checksum a out r → write_of c low checksum a out ≡ Err r
  refused_write r (inl h) = out_of_range h.0 ∙ ap Err (sym h.1)
  refused_write r (inr h) = too_short h.0 h.1 ∙ ap Err (sym h.2)

  write_accepted : (k : ℕ) → write_of c low checksum a out ≡ Ok k → (rule a ≡ 0) × (n ≤ length out) × (k ≡ n)
  write_accepted k e =
      written
      (λ h. let z : Ok k ≡ Err (low (rule a)) = sym e ∙ out_of_range h in never (cc))
      (λ h l. let z : Ok k ≡ Err (Room n) = sym e ∙ too_short h l in never (cc))
      (λ h l. (h, l, (let z : Ok k ≡ Ok n = sym e ∙ fits h l in cc)))

-- ---- the theorem

pub refuses : {A : Type 0} (c : Codec A) (rule : A → ℕ) (low : ℕ → Refusal) (w : ℕ) (places : List Place) → Blames c 0 places →
    ((a : A) → c.lowest a ≡ rule a) → c.width ≡ w → Refuses c rule low (w + 2) places
refuses {A} c rule low w places u same wide =
    let long : (checksum : Bool) → needed c checksum ≡ length_by checksum (w + 2) = λ checksum. ap (λ (k : ℕ). k + ending_width checksum) wide ∙ ending_by w checksum in
    record {
      read_when = λ checksum m r. (read_refused c rule w places u same wide checksum m r, read_given c rule w places u same wide checksum m r);
      write_when = λ checksum a out r. (
        write_refused c rule low (w + 2) same checksum a out (long checksum) r,
        refused_write c rule low (w + 2) same checksum a out (long checksum) r,
      );
      writes_when = λ checksum a out n. (
        write_accepted c rule low (w + 2) same checksum a out (long checksum) n,
        λ h. fits c rule low (w + 2) same checksum a out (long checksum) h.0 h.1 ∙ ap Ok (sym h.2),
      );
    }
