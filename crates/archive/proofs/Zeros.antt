-- Minus zero in an old line and in a new one: what was read, written again, is the same line, or has +000 where it had -000. Assumes nothing.
use Prim.Native.Nat.{ℕ, ◌+◌, ◌≤◌}
use mathlib.Core.Bool.{false}
use mathlib.Core.List.{List, [], ◌∷◌}
use mathlib.Core.Logic.{◌≢◌}
use mathlib.Core.Path.{◌≡◌, refl, sym, ap, ◌∙◌}
use native.Mathlib.Omega.{arith}
use lib.ListN.{length, take, drop, get_or, length-append}
use lib.Seq.{take_at, drop_at, length-take-le}
use Rattle.std.specs.Prelude.{Ok}
use Rattle.laws.specs.Over.{over}
use Rattle.laws.proofs.MemberLaws.{in_map}
use Rattle.laws.proofs.OverLaws.{over_fits, over_front}
use Rattle.codec.specs.Codec.{Codec, failing, first, spellings}
use Rattle.codec.specs.Places.{Place, field_of}
use Rattle.codec.proofs.Exact.{Exact, spelt_read, first_zero}
use Rattle.pointed.specs.Pointed.{pointed}
use Rattle.stop.specs.Stop.{stop_ok, stop}
use Rattle.pupil.specs.Pupil.{pupil_text, plus_text, minus_text}
use Rattle.pupil.proofs.Exact.{text_zeros}
use Rattle.frame.specs.Frame.{ending, framed}
use Rattle.frame.specs.Message.{read_of, message_of}
use Rattle.frame.proofs.Exactly.{reads_only}
use Rattle.record.specs.Record.{front_lowest, middle_lowest, back_lowest, figures_lowest, record_lowest, no_figures}
use Rattle.record.specs.Forms.{front_text, middle_text, view_text, groups_of, pupil_of, text_form}
use Rattle.record.specs.Places.{text_places}
use Rattle.record.specs.declared.Figures.{Figures}
use Rattle.record.specs.declared.Record.{Record}
use Rattle.record.proofs.Exact.{text_form_exact, text_form_width}
use Rattle.record.proofs.PupilAt.{PupilAt, before_pupil, groups_spelt, before_text, figures_pupil_low, text_at}
use Rattle.demand2.specs.MinusZero.{MinusZero}
use Rattle.demand2.proofs.MinusZero.{minus_zero, text_zero}
use Rattle.archive.specs.Old.{by_ten, old_zoom, old_back, old_form, old_length, old_lowest, old_places}
use Rattle.archive.specs.Promises.{Minus, with_plus}
use Rattle.archive.proofs.Exact.{old_blames, old_exact, old_width, old_lowest_lem}

nothing_fits : old_lowest no_figures ≡ 0
unfolding old_lowest figures_lowest front_lowest middle_lowest back_lowest failing first stop_ok by_ten
nothing_fits = refl

low_pupil : (f : Figures) → old_lowest f ≡ 0 → figures_lowest 9999999 999 f ≡ 0
unfolding old_lowest
low_pupil f h = (first_zero _ _ h).0

old_at : PupilAt old_form old_lowest (λ f. f.pupil) pupil_text old_places 54
unfolding old_form front_text middle_text old_back old_zoom stop pointed pupil_text old_places text_places field_of
old_at = record {
  before = λ f. before_pupil front_text middle_text view_text pupil_text old_zoom (groups_of f);
  behind = λ f. old_zoom.print f.zoom;
  long = λ f. before_text (groups_of f);
  spelt = λ f. groups_spelt front_text middle_text view_text pupil_text old_zoom (λ p. refl) (λ p. refl) (λ v. refl) (λ z. refl) (groups_of f);
  field = λ s. refl;
  low = λ f h. figures_pupil_low f (low_pupil f h);
  zero = (no_figures, nothing_fits, refl);
}

differ : plus_text ≢ minus_text
differ e = let k : ◌≡◌ {A = ℕ} 43 45 = ap (λ (s : List ℕ). get_or s 1 0) e in omega arith

pub old_zero : MinusZero old_form old_lowest (λ f. f.pupil) old_places 54 plus_text minus_text
old_zero = minus_zero old_form old_lowest (λ f. f.pupil) pupil_text old_places old_length 54 plus_text minus_text old_blames old_width old_lowest_lem text_zeros old_at differ

module _ {A : Type 0} (form : Codec A) (exact : Exact form) (w : ℕ) (wide : form.width ≡ w) (enough : 59 ≤ w) (m : List ℕ) (a : A) (e : read_of form false m ≡ Ok a) where
  -- a line that was read: its contents, and LF CR
  in_two : (m ≡ framed false (take w m)) × (length (take w m) ≡ w)
  in_two =
      let r = reads_only form exact false m a e in
      let s = in_map (framed false) (spellings form a) r.1 in
      let l = (spelt_read exact a s.0 r.0 s.1).0 ∙ wide in
      let t : take w m ≡ s.0 = ap (take w) s.2 ∙ take_at s.0 (ending false s.0) w l in
      (s.2 ∙ ap (framed false) (sym t), ap length t ∙ l)

  plus_framed : framed false (over (take w m) 54 plus_text) ≡ with_plus m
  unfolding ending
  plus_framed =
      sym (ap (λ (l : List ℕ). over l 54 plus_text) in_two.0 ∙ over_front (take w m) (10 ∷ 13 ∷ []) plus_text 54 (omega (arith, in_two.1)))

  -- with +000 it is another line
  plus_other : Minus m → with_plus m ≢ m
  unfolding ending
  plus_other h k =
      let l : length m ≡ w + 2 = ap length in_two.0 ∙ length-append (take w m) (10 ∷ 13 ∷ []) ∙ ap (λ (n : ℕ). n + 2) in_two.1 in
      let o = over_fits m plus_text 54 (omega arith) in
      let p : take 5 (drop 54 (with_plus m)) ≡ plus_text =
      ap (λ (s : List ℕ). take 5 (drop 54 s)) o ∙ ap (take 5) (drop_at (take 54 m) _ 54 (length-take-le 54 m (omega arith))) in
      differ (sym p ∙ ap (λ (s : List ℕ). take 5 (drop 54 s)) k ∙ h)

  module _ (rule : A → ℕ) (of : A → _) (places : List Place) (field : (s : List ℕ) → field_of places 10 s ≡ take 5 (drop 54 s))
      (zero : MinusZero form rule of places 54 plus_text minus_text) where
    same_by : (Minus m → ⊥) → message_of form false a ≡ m
    same_by n = zero.comes_same false m a e (λ k. n (sym (field m) ∙ k))

    plus_by : Minus m → message_of form false a ≡ with_plus m
    plus_by h = zero.comes_plus false m a e (field m ∙ h) ∙ ap (λ (n : ℕ). framed false (over (take n m) 54 plus_text)) wide ∙ plus_framed

module _ (m : List ℕ) where
  module _ (f : Figures) (e : read_of old_form false m ≡ Ok f) where
    pub old_same : (Minus m → ⊥) → message_of old_form false f ≡ m
    unfolding pupil_text
    old_same = same_by old_form old_exact 64 old_width (omega arith) m f e old_lowest (λ f. f.pupil) old_places old_at.field old_zero

    pub old_plus : Minus m → message_of old_form false f ≡ with_plus m
    unfolding pupil_text
    old_plus = plus_by old_form old_exact 64 old_width (omega arith) m f e old_lowest (λ f. f.pupil) old_places old_at.field old_zero

    pub old_other : Minus m → with_plus m ≢ m
    old_other = plus_other old_form old_exact 64 old_width (omega arith) m f e

  module _ (r : Record) (e : read_of text_form false m ≡ Ok r) where
    pub new_same : (Minus m → ⊥) → message_of text_form false r ≡ m
    unfolding pupil_text
    new_same = same_by text_form text_form_exact 74 text_form_width (omega arith) m r e record_lowest pupil_of text_places text_at.field text_zero

    pub new_plus : Minus m → message_of text_form false r ≡ with_plus m
    unfolding pupil_text
    new_plus = plus_by text_form text_form_exact 74 text_form_width (omega arith) m r e record_lowest pupil_of text_places text_at.field text_zero

    pub new_other : Minus m → with_plus m ≢ m
    new_other = plus_other text_form text_form_exact 74 text_form_width (omega arith) m r e
