-- Both lines byte by byte: fields 1 to 10 alike, then z and the digits of the thousandths, with a point in an old line and the last of them in a new one.
-- Assumes nothing.
use Prim.Native.Nat.{ℕ, ◌+◌, ◌/◌, ◌%◌, ◌≤◌}
use mathlib.Core.Bool.{false}
use mathlib.Core.List.{List, [], ◌∷◌, ◌++◌, append_assoc}
use mathlib.Core.Logic.{inl, inr}
use mathlib.Core.Path.{◌≡◌, sym, ap, ◌∙◌}
use native.Mathlib.Omega.{arith}
use lib.ListN.{length, take, drop, length-append}
use lib.Seq.{take_at}
use Rattle.std.specs.Prelude.{Ok}
use Rattle.laws.specs.Over.{over}
use Rattle.laws.proofs.ListLaws.{take_past, drop_past, at_past}
use Rattle.laws.proofs.OverLaws.{over_front, drop_over}
use Rattle.digits.specs.Digits.{digits}
use Rattle.pupil.specs.Pupil.{minus_text}
use Rattle.frame.specs.Frame.{ending, framed}
use Rattle.frame.specs.Message.{read_of, message_of}
use Rattle.record.specs.Forms.{ten_text, serial, pupil_of, text_form, with_serial}
use Rattle.record.specs.declared.Figures.{Figures}
use Rattle.record.specs.declared.Record.{Record}
use Rattle.record.proofs.Exact.{serial_long}
use Rattle.text_writer.proofs.Written.{ten_long, contents_of_lem, record_long}
use Rattle.demand2.specs.MinusZero.{PlusOrMinus}
use Rattle.demand2.proofs.MinusZero.{text_zero}
use Rattle.archive.specs.Old.{old_zoom, old_form}
use Rattle.archive.specs.Promises.{new_bytes, old_bytes, serial_in}
use Rattle.archive.proofs.Exact.{old_parts}

module _ (f : Figures) where
  abbrev z : ℕ
  z = f.zoom

  -- the digits of the thousandths but the last
  abbrev x : ℕ
  x = 48 + z / 1000 % 10

  abbrev y : ℕ
  y = 48 + z / 100 % 10

  abbrev u : ℕ
  u = 48 + z / 10 % 10

  old_is : message_of old_form false f ≡ ten_text f ++ 122 ∷ x ∷ 46 ∷ y ∷ u ∷ 10 ∷ 13 ∷ []
  unfolding old_zoom digits ending
  old_is =
      let e1 : z / 10 / 100 / 1 % 10 ≡ z / 1000 % 10 = omega arith in
      let e2 : z / 10 % 100 / 10 % 10 ≡ z / 100 % 10 = omega arith in
      let e3 : z / 10 % 100 / 1 % 10 ≡ z / 10 % 10 = omega arith in
      ap (framed false) (sym (old_parts f)) ∙ append_assoc (ten_text f) (old_zoom.print z) (10 ∷ 13 ∷ [])
      ∙ ap (λ (l : List ℕ). ten_text f ++ 122 ∷ l) (rw (e1, e2, e3))

  module _ (s : List ℕ) where
    new_is : message_of text_form false (with_serial f s) ≡ ten_text f ++ 122 ∷ x ∷ y ∷ u ∷ (48 + z % 10) ∷ 83 ∷ (s ++ 10 ∷ 13 ∷ [])
    unfolding serial digits ending
    new_is =
        let e : z / 1 % 10 ≡ z % 10 = omega arith in
        ap (framed false) (sym (contents_of_lem (with_serial f s))) ∙ append_assoc (ten_text f) _ (10 ∷ 13 ∷ [])
        ∙ ap (λ (l : List ℕ). ten_text f ++ 122 ∷ l) (rw e)

    -- forward: the point goes, a 0 comes, S and the serial follow
    pub bytes_new : z % 10 ≡ 0 → message_of text_form false (with_serial f s) ≡ new_bytes (message_of old_form false f) s
    bytes_new ten =
        let t = ten_text f in
        let l : List ℕ = 122 ∷ x ∷ 46 ∷ y ∷ u ∷ 10 ∷ 13 ∷ [] in
        let long = ten_long f in
        let rest : List ℕ = y ∷ u ∷ 48 ∷ 83 ∷ s in
        let behind = append_assoc (t ++ 122 ∷ x ∷ []) rest (10 ∷ 13 ∷ []) ∙ append_assoc t (122 ∷ x ∷ []) (rest ++ 10 ∷ 13 ∷ []) in
        new_is ∙ ap (λ (v : ℕ). t ++ 122 ∷ x ∷ y ∷ u ∷ (48 + v) ∷ 83 ∷ (s ++ 10 ∷ 13 ∷ [])) ten
        ∙ sym
        (ap (λ (m : List ℕ). new_bytes m s) old_is
        ∙ rw (take_past t l 59 2 long, at_past t l 59 3 long, at_past t l 59 4 long) behind)

    -- back: the point comes, and what is behind the hundredths goes
    pub bytes_old : message_of old_form false f ≡ old_bytes (message_of text_form false (with_serial f s))
    bytes_old =
        let t = ten_text f in
        let l : List ℕ = 122 ∷ x ∷ y ∷ u ∷ (48 + z % 10) ∷ 83 ∷ (s ++ 10 ∷ 13 ∷ []) in
        let long = ten_long f in
        old_is
        ∙ sym
        (ap old_bytes new_is ∙ rw (take_past t l 59 2 long, at_past t l 59 2 long, at_past t l 59 3 long) (append_assoc t (122 ∷ x ∷ []) (46 ∷ y ∷ u ∷ 10 ∷ 13 ∷ [])))

    -- where the serial stands
    serial_at : length s ≡ 9 → serial_in (message_of text_form false (with_serial f s)) ≡ s
    serial_at l =
        ap (λ (m : List ℕ). take 9 (drop 65 m)) new_is
        ∙ ap (take 9) (drop_past (ten_text f) _ 59 6 (ten_long f))
        ∙ take_at s (10 ∷ 13 ∷ []) 9 l

-- also in a line with -000
serial_minus : (r : Record) → length r.serial ≡ 9 → serial_in (framed false (over (text_form.print r) 54 minus_text)) ≡ r.serial
unfolding ending
serial_minus r nine =
    let long = record_long r nine in
    let m = message_of text_form false r in
    let more : 59 ≤ length m = omega (arith, length-append (text_form.print r) (10 ∷ 13 ∷ [])) in
    ap serial_in (sym (over_front (text_form.print r) (10 ∷ 13 ∷ []) minus_text 54 (omega arith)))
    ∙ ap (take 9) (drop_over m minus_text 54 65 more (omega arith))
    ∙ serial_at r.figures r.serial nine

pub serial_in_lem : (m : List ℕ) (r : Record) → read_of text_form false m ≡ Ok r → serial_in m ≡ r.serial
serial_in_lem m r e = let a = (text_zero.accepts false m r).0 e in by (serial_long r a.0) a.1 where
  by : length r.serial ≡ 9 → PlusOrMinus text_form pupil_of 54 minus_text false r m → serial_in m ≡ r.serial
  by nine (inl k) = ap serial_in k ∙ serial_at r.figures r.serial nine
  by nine (inr (_, k)) = ap serial_in k ∙ serial_minus r nine
