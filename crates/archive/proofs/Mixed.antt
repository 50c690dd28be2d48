-- What the D reader answers to an old line, which is shorter, and to one of firmware 1.22, whose zoom has a point where a digit belongs. Assumes nothing.
use Prim.Native.Nat.{ℕ, ◌+◌}
use mathlib.Core.Bool.{Bool, true, false}
use mathlib.Core.List.{List}
use mathlib.Core.Logic.{◌≢◌}
use mathlib.Core.Path.{◌≡◌, refl, sym, ap, subst, ◌∙◌}
use native.Mathlib.Omega.{arith}
use lib.ListN.{length, take, get_or}
use lib.Seq.{take_at, drop_at}
use Rattle.std.specs.Prelude.{Err}
use Rattle.laws.specs.Member.{◌∈◌}
use Rattle.laws.proofs.MemberLaws.{the_only, in_map}
use Rattle.refusal.specs.declared.Refusal.TheVariants.{Field, Length, Contents}
use Rattle.digits.specs.Digits.{digits, read_field}
use Rattle.codec.specs.Codec.{Got, got, wrong, Codec, spellings, both, mapped, text_ok, number, ◌⊗◌}
use Rattle.codec.proofs.Exact.{Exact, spelt_read, fine, first_zero, zero_first, number_exact, tagged_exact, ⊗_exact, iso_exact}
use Rattle.codec.proofs.Blames.{field_wrong}
use Rattle.codec.proofs.Fields.{wrong_first}
use Rattle.codec.proofs.Spellings.{in_each}
use Rattle.pointed.specs.Pointed.{pointed}
use Rattle.stop.specs.Stop.{stop}
use Rattle.pointed.proofs.Exact.{pointed_exact}
use Rattle.pupil.specs.Pupil.{pupil_text}
use Rattle.pupil.proofs.Exact.{text_zeros}
use Rattle.frame.specs.Frame.{ending, framed, ending_width}
use Rattle.frame.specs.Message.{found, read_of, messages_of}
use Rattle.frame.proofs.Exactly.{Opens, opened, framed_opens, messages_long}
use Rattle.frame.proofs.Answers.{reads_on}
use Rattle.frame.proofs.Faithful.{ending_by}
use Rattle.frame.proofs.Refuses.{refuses}
use Rattle.record.specs.Record.{record_lowest}
use Rattle.record.specs.Forms.{front_text, middle_text, view_text, zoom_text, back_text, serial, groups_of, of_parts, parts_of, text_form, text_length}
use Rattle.record.specs.Places.{text_places}
use Rattle.record.specs.declared.Figures.{Figures}
use Rattle.record.specs.declared.Record.{Record}
use Rattle.record.proofs.Exact.{front_text_lem, middle_text_lem, serial_blames, text_form_blames, text_lowest, text_form_width}
use Rattle.archive.specs.Old.{old_zoom, old_back, old_form, old_length, old_lowest, old_places, form122}
use Rattle.archive.proofs.Exact.{back_blamed, old_blames, old_exact, old_width, old_lowest_lem}

-- ---- a line of another length

-- plain and with its checksum, an old line is shorter than a new one
shorter : (summed checksum : Bool) (n : ℕ) → n ≡ old_length + ending_width summed → n ≡ text_length + ending_width checksum → ⊥
shorter true true n e k = omega arith
shorter true false n e k = omega arith
shorter false true n e k = omega arith
shorter false false n e k = omega arith

pub old_refused : (summed checksum : Bool) (m : List ℕ) (f : Figures) → old_lowest f ≡ 0 → m ∈ messages_of old_form summed f →
    read_of text_form checksum m ≡ Err (Length (length m))
old_refused summed checksum m f h k =
    let l = messages_long old_form old_exact summed m f (old_lowest_lem f ∙ h) k ∙ ap (λ (n : ℕ). n + ending_width summed) old_width in
    ((refuses text_form record_lowest Field text_length text_places text_form_blames text_lowest text_form_width).read_when checksum m (Length (length m))).1
    (λ e. shorter summed checksum (length m) l (e ∙ sym (ending_by text_length checksum)), refl)

-- ---- firmware 1.22

-- a point is no digit
no_number : (s : List ℕ) → length s ≡ 4 → get_or s 1 0 ≡ 46 → (number 11 10 48 4 1000).parse s ≡ wrong 11
unfolding digits
no_number s l p = by ((number 11 10 48 4 1000).parse s) refl where
  by : (q : Got ℕ) → (number 11 10 48 4 1000).parse s ≡ q → (number 11 10 48 4 1000).parse s ≡ wrong 11
  by (got n) e =
      let d : s ≡ digits 10 48 4 n = the_only ((number_exact 10 10 48 4 1000 (omega arith) (omega arith) (omega arith)).sound s n l e).1 in
      let k = sym p ∙ ap (λ (t : List ℕ). get_or t 1 0) d in
      absurd (omega arith)
  by (wrong j) e = e ∙ ap wrong (field_wrong 11 (read_field 10 48 1000 s) j e)

zoom_wrong : (z : ℕ) (s : List ℕ) → s ∈ spellings old_zoom z → zoom_text.parse s ≡ wrong 11
unfolding old_zoom digits
zoom_wrong z s k = ap zoom_text.parse (the_only k) ∙ no_number _ refl refl

-- what stands before it is read, and so it is the first wrong field
wrong_behind : {A B C : Type 0} (c : Codec A) (d : Codec B) (e : Codec C) → Exact c → (a : A) (b : B) (s : List ℕ) (i : ℕ) → c.lowest a ≡ 0 →
    s ∈ spellings (c ⊗ d) (a, b) → ((t : List ℕ) → t ∈ spellings d b → e.parse t ≡ wrong i) → (c ⊗ e).parse s ≡ wrong i
unfolding both
wrong_behind c d e x a b s i h k f =
    let m = in_each (spellings c a) (spellings d b) k in
    let r = spelt_read x a m.0 h m.2 in
    ap (c ⊗ e).parse m.4 ∙ rw (take_at m.0 m.1 c.width r.0, drop_at m.0 m.1 c.width r.0, r.1, f m.1 m.3)

view_exact : Exact view_text
view_exact = tagged_exact 86 9 _ (pointed_exact 8 3 4095 (omega arith) (omega arith))

-- in the three groups
groups_wrong : (f : Figures) (s : List ℕ) → old_form.lowest f ≡ 0 → s ∈ spellings old_form f → (front_text ⊗ (middle_text ⊗ back_text)).parse s ≡ wrong 11
unfolding old_form old_back back_text
groups_wrong f s h k =
    let p = groups_of f in
    let l1 = first_zero (front_text.lowest p.0) _ h in
    let l2 = first_zero (middle_text.lowest p.1.0) _ l1.1 in
    let l3 = first_zero (view_text.lowest f.view) _ l2.1 in
    let l4 = first_zero (pupil_text.lowest f.pupil) _ l3.1 in
    wrong_behind front_text (middle_text ⊗ old_back) (middle_text ⊗ back_text) front_text_lem.exact p.0 p.1 s 11 l1.0 k
    (λ t m.
    wrong_behind middle_text old_back back_text middle_text_lem.exact p.1.0 p.1.1 t 11 l2.0 m
    (λ u n.
    wrong_behind view_text (pupil_text ⊗ old_zoom) (pupil_text ⊗ zoom_text) view_exact f.view (f.pupil, f.zoom) u 11 l3.0 n
    (λ v o. wrong_behind pupil_text old_zoom zoom_text text_zeros.exact f.pupil f.zoom v 11 l4.0 o (zoom_wrong f.zoom))))

groups_width : (front_text ⊗ (middle_text ⊗ back_text)).width ≡ old_length
unfolding front_text middle_text back_text stop pointed pupil_text
groups_width = refl

contents_wrong : (r : Record) (s : List ℕ) → old_form.lowest r.figures ≡ 0 → s ∈ spellings form122 r → text_form.parse s ≡ wrong 11
unfolding form122 text_form old_form mapped
contents_wrong r s h k =
    let f = r.figures in
    let m = in_each (spellings old_form f) (spellings serial r.serial) k in
    let l = (spelt_read old_exact f m.0 h m.2).0 ∙ old_width ∙ sym groups_width in
    let g = front_text ⊗ (middle_text ⊗ back_text) in
    ap text_form.parse m.4
    ∙ ap (mapped of_parts) (wrong_first _ (ap g.parse (take_at m.0 m.1 g.width l) ∙ groups_wrong f m.0 h m.2))

mixed_exact : Exact form122
unfolding form122
mixed_exact =
    iso_exact of_parts parts_of _ (λ p. refl) (λ r. refl)
    (⊗_exact _ _ (⊗_exact _ _ front_text_lem.exact (⊗_exact _ _ middle_text_lem.exact back_blamed.exact)) serial_blames.exact)

mixed_width : form122.width ≡ text_length
unfolding form122 front_text middle_text old_back old_zoom serial stop pointed pupil_text
mixed_width = refl

mixed_lowest : (r : Record) → old_lowest r.figures ≡ 0 → text_ok 9 r.serial ≡ true → form122.lowest r ≡ 0
unfolding form122 old_form serial
mixed_lowest r h k = zero_first _ _ (old_lowest_lem r.figures ∙ h) (fine _ 12 k)

-- the other setting asks for another length
apart : (summed checksum : Bool) (n : ℕ) → summed ≢ checksum → n ≡ text_length + ending_width summed → n ≡ text_length + ending_width checksum → ⊥
apart true true n d e k = d refl
apart true false n d e k = omega arith
apart false true n d e k = omega arith
apart false false n d e k = d refl

module _ (checksum : Bool) (m : List ℕ) (r : Record) (low : old_lowest r.figures ≡ 0) (ok : text_ok 9 r.serial ≡ true) (k : m ∈ messages_of form122 checksum r) where
  pub mixed_refused : read_of text_form checksum m ≡ Err (Contents 11)
  unfolding found
  mixed_refused =
      let q = in_map (framed checksum) (spellings form122 r) k in
      let s = q.0 in
      let l = (spelt_read mixed_exact r s (mixed_lowest r low ok) q.1).0 ∙ mixed_width in
      let o = opened checksum text_length m (subst (Opens checksum text_length) (sym q.2) (framed_opens checksum text_length s l)) in
      let t : take text_length m ≡ s = ap (take text_length) q.2 ∙ take_at s (ending checksum s) text_length l in
      reads_on text_form text_length text_form_width checksum m o ∙ ap (λ (c : List ℕ). found (text_form.parse c)) t
      ∙ ap found (contents_wrong r s (old_lowest_lem r.figures ∙ low) q.1)

  mixed_long : length m ≡ text_length + ending_width checksum
  mixed_long = messages_long form122 mixed_exact checksum m r (mixed_lowest r low ok) k ∙ ap (λ (n : ℕ). n + ending_width checksum) mixed_width

  pub mixed_old : read_of old_form false m ≡ Err (Length (length m))
  mixed_old =
      ((refuses old_form old_lowest Field old_length old_places old_blames old_lowest_lem old_width).read_when false m (Length (length m))).1
      (λ e. shorter false checksum (length m) e mixed_long, refl)

pub mixed_other : (summed checksum : Bool) (m : List ℕ) (r : Record) → old_lowest r.figures ≡ 0 → text_ok 9 r.serial ≡ true → m ∈ messages_of form122 summed r →
    summed ≢ checksum → read_of text_form checksum m ≡ Err (Length (length m))
mixed_other summed checksum m r low ok k d =
    ((refuses text_form record_lowest Field text_length text_places text_form_blames text_lowest text_form_width).read_when checksum m (Length (length m))).1
    (λ e. apart summed checksum (length m) d (mixed_long summed m r low ok k) (e ∙ sym (ending_by text_length checksum)), refl)
