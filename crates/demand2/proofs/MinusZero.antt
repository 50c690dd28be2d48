-- Minus zero, once for every form: the spellings of its contents are the pupil's, and the pupil's bytes stand in one place. Assumes nothing.
use Prim.Native.Nat.{ℕ, ◌+◌}
use mathlib.Core.Bool.{Bool}
use mathlib.Core.List.{List, [], ◌∷◌, ◌++◌, map, append_assoc}
use mathlib.Core.Logic.{◌≢◌, ◌↔◌, ◌⊎◌, inl, inr}
use mathlib.Core.Path.{◌≡◌, refl, sym, ap, ap₂, subst, ◌∙◌}
use native.Mathlib.Omega.{arith}
use lib.Dec.{eqb}
use lib.IntN.{ℤ, pos}
use lib.ListN.{length, take, drop, get_or, length-append}
use lib.Seq.{take_at, drop_at, drop-append-add}
use Rattle.std.specs.Prelude.{Err, Ok}
use Rattle.laws.specs.Member.{◌∈◌}
use Rattle.laws.specs.Over.{over}
use Rattle.laws.proofs.MemberLaws.{as_member, map_in, in_map}
use Rattle.laws.proofs.OverLaws.{over_fits, length_over}
use Rattle.laws.proofs.Tests.{told}
use Rattle.refusal.specs.declared.Refusal.TheVariants.{Field, Contents}
use Rattle.sign.specs.Sign.{size}
use Rattle.codec.specs.Codec.{got, Codec, spellings}
use Rattle.codec.specs.Places.{Place, field_of}
use Rattle.codec.proofs.Exact.{Exact, spelt_read}
use Rattle.codec.proofs.Blames.{Blames}
use Rattle.frame.specs.Frame.{ending, framed}
use Rattle.frame.specs.Message.{read_of, message_of, messages_of}
use Rattle.frame.proofs.Exactly.{reads_only, exactly}
use Rattle.frame.proofs.Faithful.{ending_by}
use Rattle.frame.proofs.Refuses.{contents_long, refuses}
use Rattle.pupil.specs.Pupil.{zero_too, pupil_text, pupil_packed, plus_text, minus_text, plus_packed, minus_packed}
use Rattle.pupil.proofs.Exact.{zero_of, too_in, in_too, TwoZeros, text_zeros, packed_zeros}
use Rattle.record.specs.Record.{record_lowest}
use Rattle.record.specs.Forms.{text_length, packed_length, pupil_of, text_form, packed_form}
use Rattle.record.specs.Places.{text_places, packed_places}
use Rattle.record.proofs.Exact.{text_form_blames, packed_form_blames, text_lowest, packed_lowest, text_form_width, packed_form_width}
use Rattle.record.proofs.PupilAt.{PupilAt, text_at, packed_at}
use Rattle.demand2.specs.MinusZero.{PlusOrMinus, MinusZero}

module _ {A : Type 0} (form : Codec A) (rule : A → ℕ) (of : A → ℤ) (pupil : Codec ℤ) (places : List Place) (w at : ℕ) (plus minus : List ℕ) (blames : Blames form 0 places)
    (wide : form.width ≡ w) (same : (r : A) → form.lowest r ≡ rule r) (zeros : TwoZeros pupil plus minus) (stands : PupilAt form rule of pupil places at) (differ : plus ≢ minus) where
  exact : Exact form
  exact = blames.exact

  -- the contents with these bytes in the pupil's place
  abbrev put : A → List ℕ → List ℕ
  put r t = stands.before r ++ (t ++ stands.behind r)

  -- each spelling of zero is as wide as the pupil, and is read as it
  of_zero : (t : List ℕ) → t ∈ (plus ∷ minus ∷ []) → (length t ≡ pupil.width) × (pupil.parse t ≡ got (pos 0))
  of_zero t k = spelt_read zeros.exact (pos 0) t zeros.sendable (subst (λ (l : List (List ℕ)). t ∈ l) (sym (zeros.spelt (pos 0) ∙ ap (λ (s : List ℕ). s ∷ minus ∷ []) zeros.sent)) k)

  plus_long : length plus ≡ pupil.width
  plus_long = (of_zero plus (inl refl)).0

  minus_long : length minus ≡ pupil.width
  minus_long = (of_zero minus (inr (inl refl))).0

  put_field : (r : A) (t x : List ℕ) → length t ≡ pupil.width → field_of places 10 (stands.before r ++ (t ++ x)) ≡ t
  put_field r t x l = stands.field _ ∙ ap (take pupil.width) (drop_at (stands.before r) (t ++ x) at (stands.long r)) ∙ take_at t x pupil.width l

  -- and what follows the contents
  put_then : (r : A) (t x : List ℕ) → put r t ++ x ≡ stands.before r ++ (t ++ (stands.behind r ++ x))
  put_then r t x = append_assoc (stands.before r) (t ++ stands.behind r) x ∙ ap (λ (y : List ℕ). stands.before r ++ y) (append_assoc t (stands.behind r) x)

  put_over : (r : A) (s t : List ℕ) → length s ≡ pupil.width → length t ≡ pupil.width → over (put r s) at t ≡ put r t
  put_over r s t k l =
      let b = stands.before r in
      let x = stands.behind r in
      let long : length (put r s) ≡ at + (length t + length x) =
      length-append b (s ++ x) ∙ ap₂ ◌+◌ (stands.long r) (length-append s x ∙ ap (λ (n : ℕ). n + length x) (k ∙ sym l)) in
      over_fits (put r s) t at (omega (arith, long))
      ∙ ap₂ (λ (y z : List ℕ). y ++ (t ++ z)) (take_at b (s ++ x) at (stands.long r))
      (ap (λ (n : ℕ). drop (n + length t) (put r s)) (sym (stands.long r)) ∙ drop-append-add b (s ++ x) (length t) ∙ drop_at s x (length t) (k ∙ sym l))

  print_is : (r : A) → form.print r ≡ put r (pupil.print (of r))
  print_is r = ap (λ (l : List (List ℕ)). get_or l 0 []) (stands.spelt r)

  -- a record whose pupil is 0 goes out with plus
  print_plus : (r : A) → of r ≡ pos 0 → form.print r ≡ put r plus
  print_plus r z = print_is r ∙ ap (put r) (ap pupil.print z ∙ zeros.sent)

  -- and its other spelling has minus there
  minus_put : (r : A) → of r ≡ pos 0 → over (form.print r) at minus ≡ put r minus
  minus_put r z = ap (λ (s : List ℕ). over s at minus) (print_plus r z) ∙ put_over r plus minus plus_long minus_long

  other : (r : A) → map (put r) (zero_too minus (of r)) ≡ zero_too (over (form.print r) at minus) (of r)
  other r = told (eqb (size (of r)) 0) (λ y. rw (y, minus_put r (zero_of _ y))) (λ n. rw n)

  spelt : (r : A) → spellings form r ≡ form.print r ∷ zero_too (over (form.print r) at minus) (of r)
  spelt r = stands.spelt r ∙ ap (map (put r)) (zeros.spelt (of r)) ∙ ap₂ ◌∷◌ (sym (print_is r)) (other r)

  minus_spells : (r : A) → of r ≡ pos 0 → over (form.print r) at minus ∈ spellings form r
  minus_spells r z =
      let s = over (form.print r) at minus in
      subst (λ (l : List (List ℕ)). s ∈ l) (sym (spelt r)) (inr (too_in s refl z))

  -- the pupil's bytes, where it may be sent
  print_field : (r : A) → rule r ≡ 0 → field_of places 10 (form.print r) ≡ pupil.print (of r)
  print_field r h = ap (field_of places 10) (print_is r) ∙ put_field r _ _ (zeros.exact.long _ (stands.low r h))

  never_minus : (r : A) → rule r ≡ 0 → field_of places 10 (form.print r) ≢ minus
  never_minus r h e =
      let z = of r in
      let m : pupil.print z ≡ minus = sym (print_field r h) ∙ e in
      let g : got z ≡ got (pos 0) = sym (zeros.exact.back z (stands.low r h)) ∙ ap pupil.parse m ∙ (of_zero minus (inr (inl refl))).1 in
      let zero : z ≡ pos 0 = cc in
      differ (sym zeros.sent ∙ ap pupil.print (sym zero) ∙ m)

  module _ (checksum : Bool) (m : List ℕ) (r : A) (e : read_of form checksum m ≡ Ok r) where
    abbrev z : ℤ
    z = of r

    sendable : form.lowest r ≡ 0
    sendable = (reads_only form exact checksum m r e).0

    abbrev sent : rule r ≡ 0
    sent = sym (same r) ∙ sendable

    -- an accepted message is the writer's, or has minus zero in the pupil's place
    read_so : PlusOrMinus form of at minus checksum r m
    read_so =
        let s = in_map (framed checksum) (spellings form r) (reads_only form exact checksum m r e).1 in
        by s.0 s.2 (subst (λ (l : List (List ℕ)). s.0 ∈ l) (spelt r) s.1)
      where
        by : (s : List ℕ) → m ≡ framed checksum s → (s ≡ form.print r) ⊎ (s ∈ zero_too (over (form.print r) at minus) z) → PlusOrMinus form of at minus checksum r m
        by s f (inl k) = inl (f ∙ ap (framed checksum) k)
        by s f (inr k) = let o = in_too _ z k in inr (o.1, f ∙ ap (framed checksum) o.0)

    either : {C : Type 0} → (m ≡ message_of form checksum r → C) → (z ≡ pos 0 → m ≡ framed checksum (put r minus) → C) → C
    either {C} f g = by read_so where
      by : PlusOrMinus form of at minus checksum r m → C
      by (inl k) = f k
      by (inr (o, k)) = g o (k ∙ ap (framed checksum) (minus_put r o))

    -- the writer's message has no minus zero, and the other has
    own_field : m ≡ message_of form checksum r → field_of places 10 m ≢ minus
    own_field k f =
        let t = pupil.print z in
        let x = ending checksum (form.print r) in
        let own : field_of places 10 m ≡ t = ap (field_of places 10) (k ∙ ap (λ (s : List ℕ). s ++ x) (print_is r) ∙ put_then r t x) ∙ put_field r t _ (zeros.exact.long z (stands.low r sent)) in
        never_minus r sent (print_field r sent ∙ sym own ∙ f)

    other_field : m ≡ framed checksum (put r minus) → field_of places 10 m ≡ minus
    other_field k = ap (field_of places 10) (k ∙ put_then r minus (ending checksum (put r minus))) ∙ put_field r minus _ minus_long

    reads_zero : field_of places 10 m ≡ minus → z ≡ pos 0
    reads_zero f = either (λ k. absurd (own_field k f)) (λ o k. o)

    comes_same : field_of places 10 m ≢ minus → message_of form checksum r ≡ m
    comes_same n = either (λ k. sym k) (λ o k. absurd (n (other_field k)))

    comes_plus : field_of places 10 m ≡ minus → message_of form checksum r ≡ framed checksum (over (take form.width m) at plus)
    comes_plus f =
        either
        (λ k. absurd (own_field k f))
        (λ o k.
        let p = print_plus r o in
        let back : over (put r minus) at plus ≡ put r plus = put_over r minus plus minus_long plus_long in
        let long : length (put r minus) ≡ form.width = sym (length_over (put r minus) plus at) ∙ ap length (back ∙ sym p) ∙ exact.long r sendable in
        let contents : take form.width m ≡ put r minus = ap (take form.width) k ∙ take_at (put r minus) (ending checksum (put r minus)) form.width long in
        ap (framed checksum) (p ∙ sym back ∙ ap (λ (s : List ℕ). over s at plus) (sym contents)))

  accepts : (checksum : Bool) (m : List ℕ) (r : A) → (read_of form checksum m ≡ Ok r) ↔ ((rule r ≡ 0) × PlusOrMinus form of at minus checksum r m)
  accepts checksum m r = (λ e. (sent checksum m r e, read_so checksum m r e), λ h. (exactly form exact checksum m r).1 (same r ∙ h.0, by h.1)) where
    by : PlusOrMinus form of at minus checksum r m → m ∈ messages_of form checksum r
    by (inl k) = inl k
    by (inr (o, k)) = as_member (messages_of form checksum r) k (map_in (framed checksum) (spellings form r) _ (minus_spells r o))

  -- field 10 with minus zero stands so in a spelling of a sendable record
  never_6 : (checksum : Bool) (m : List ℕ) → field_of places 10 m ≡ minus → read_of form checksum m ≢ Err (Contents 10)
  never_6 checksum m f e =
      let q = ((refuses form rule Field w places blames same wide).read_when checksum m (Contents 10)).0 e in
      let b = q.0 in
      let long = contents_long checksum w m (q.2 ∙ sym (ending_by w checksum)) b q.1 ∙ sym wide in
      let contents : take form.width m ≡ b = ap (take form.width) q.1 ∙ take_at b (ending checksum b) form.width long in
      let z = stands.zero in
      let a = z.0 in
      let s = over (form.print a) at minus in
      q.3.unspelt s (a, z.1, minus_spells a z.2)
      (ap (field_of places 10) (sym contents) ∙ sym (blames.within m 10) ∙ f
      ∙ sym (ap (field_of places 10) (minus_put a z.2) ∙ put_field a minus _ minus_long))

  pub minus_zero : MinusZero form rule of places at plus minus
  minus_zero = record {
    accepts = accepts;
    spelt = spelt;
    reads_zero = reads_zero;
    never_6 = never_6;
    sends_plus = λ r z. ap (field_of places 10) (print_plus r z) ∙ put_field r plus _ plus_long;
    never_minus = never_minus;
    comes_plus = comes_plus;
    comes_same = comes_same;
  }

pub text_zero : MinusZero text_form record_lowest pupil_of text_places 54 plus_text minus_text
text_zero =
    minus_zero text_form record_lowest pupil_of pupil_text text_places text_length 54 plus_text minus_text text_form_blames text_form_width text_lowest text_zeros text_at
    (λ e. let k : 43 ≡ 45 = ap (λ (s : List ℕ). get_or s 1 0) e in omega arith)

pub packed_zero : MinusZero packed_form record_lowest pupil_of packed_places 25 plus_packed minus_packed
packed_zero =
    minus_zero packed_form record_lowest pupil_of pupil_packed packed_places packed_length 25 plus_packed minus_packed packed_form_blames packed_form_width packed_lowest packed_zeros packed_at
    (λ e. let k : 64 ≡ 96 = ap (λ (s : List ℕ). get_or s 0 0) e in omega arith)
