-- A record found in parts: three groups and the serial, by what was read of each, are what a form made of them parses. Assumes nothing.
use Prim.Native.Nat.{ℕ, ◌+◌, ◌≤◌}
use mathlib.Core.Bool.{true, false}
use mathlib.Core.List.{List, [], ◌∷◌}
use mathlib.Core.Path.{◌≡◌, refl, sym, ◌∙◌}
use native.Mathlib.Omega.{arith}
use lib.ListN.{length, take, drop, length-drop}
use lib.Seq.{take-take, drop-drop, length-take-le}
use Rattle.std.specs.Prelude.{Err, Ok, Result}
use Rattle.laws.proofs.ListLaws.{drop_of_take, last_part}
use Rattle.refusal.specs.declared.Wrong.{Wrong}
use Rattle.codec.specs.Codec.{Codec, Got, got, wrong, passed, both, mapped, filled, text_behind, ◌⊗◌, via_iso, parsed}
use Rattle.codec.proofs.Texts.{filled_whole}
use Rattle.codec.proofs.Fields.{parsed_whole, parsed_other}
use Rattle.record.specs.Forms.{Front, Middle, Back, serial, figures_of, groups_of, of_parts, parts_of}
use Rattle.record.specs.declared.Figures.{Figures}
use Rattle.record.specs.declared.Record.{Record}
use Rattle.serial.proofs.Field.{serial_read}
use Rattle.gather.specs.Gather.{eleven_says, record_with, record_says}

-- ---- with the serial

serial_width : serial.width ≡ 10
unfolding serial
serial_width = refl

module _ {e : Result Figures Wrong} (s : List ℕ) where
  pub figures_wrong : {w : Wrong} → e ≡ Err w → record_says e s ≡ wrong w.0
  unfolding record_says eleven_says both mapped
  figures_wrong h = rw h

  module _ {f : Figures} (h : e ≡ Ok f) where
    pub serial_short : (length s ≡ 10 → ⊥) → record_says e s ≡ wrong 12
    unfolding record_says eleven_says both mapped
    serial_short n = rw (h, parsed_other serial 12 serial_width s n)

    pub serial_wrong : length s ≡ 10 → text_behind (83 ∷ []) s ≡ false → record_says e s ≡ wrong 12
    unfolding record_says eleven_says both mapped passed
    serial_wrong l n = rw (h, parsed_whole serial 12 serial_width s l, serial_read s, n)

    pub all_found : {t : List ℕ} → length s ≡ 10 → text_behind (83 ∷ []) s ≡ true → t ≡ filled 9 (take 9 (drop 1 s)) → record_says e s ≡ got (record { figures = f; serial = t })
    unfolding record_says eleven_says both mapped passed
    all_found l y n =
        let nine : length (take 9 (drop 1 s)) ≡ 9 = length-take-le 9 (drop 1 s) (simp length-drop (omega arith)) in
        rw (h, parsed_whole serial 12 serial_width s l, serial_read s, y, n, filled_whole 9 (take 9 (drop 1 s)) nine, last_part 1 9 s l)

-- ---- the parts of a form

remade : (p : Got (Front × (Middle × Back))) (q : Got (List ℕ)) → mapped of_parts (both p q) ≡ mapped record_with (both (mapped figures_of p) q)
unfolding mapped both
remade (got a) (got b) = refl
remade (got a) (wrong i) = refl
remade (wrong i) q = refl

-- a part is as long as it is cut
cut : (s : List ℕ) (n m : ℕ) → n + m ≤ length s → length (take m (drop n s)) ≡ m
cut s n m h = length-take-le m (drop n s) (simp length-drop (omega arith))

module _ (front : Codec Front) (middle : Codec Middle) (back : Codec Back) (i j k : ℕ) (p : front.width ≡ i) (q : middle.width ≡ j) (r : back.width ≡ k) (s : List ℕ) where
  -- three groups alone: what was read of them and gathered
  pub figures_found : {f : Got Front} {m : Got Middle} {b : Got Back} (e : Result Figures Wrong) → length s ≡ i + (j + k) →
      f ≡ parsed front 1 (take i s) → m ≡ parsed middle 5 (take j (drop i s)) → b ≡ parsed back 9 (take k (drop (i + j) s)) →
      eleven_says e ≡ mapped figures_of (both f (both m b)) → eleven_says e ≡ (via_iso figures_of groups_of (front ⊗ (middle ⊗ back))).parse s
  figures_found e l x y z g =
      rw (
        g,
        x ∙ parsed_whole front 1 p _ (cut s 0 i (omega arith)),
        y ∙ parsed_whole middle 5 q _ (cut s i j (omega arith)),
        z ∙ parsed_whole back 9 r _ (cut s (i + j) k (omega arith)),
        p,
        q,
        drop-drop j i s,
        last_part (i + j) k s (omega arith),
      )

module _ (front : Codec Front) (middle : Codec Middle) (back : Codec Back) (i j k : ℕ) (p : front.width ≡ i) (q : middle.width ≡ j) (r : back.width ≡ k) (s : List ℕ) (l : length s ≡ i + (j + k) + 10) where
  -- three groups, and the serial behind them
  abbrev pub form : Codec Record
  form = via_iso of_parts parts_of ((front ⊗ (middle ⊗ back)) ⊗ serial)

  pub record_parts : form.parse s ≡
      mapped record_with (both (mapped figures_of (both (front.parse (take i s)) (both (middle.parse (take j (drop i s))) (back.parse (take k (drop (i + j) s))))))
      (serial.parse (take 10 (drop (i + (j + k)) s))))
  record_parts =
      let x : drop i (take (i + (j + k)) s) ≡ take (j + k) (drop i s) = drop_of_take i (j + k) (i + (j + k)) s refl in
      let y : drop j (take (j + k) (drop i s)) ≡ take k (drop j (drop i s)) = drop_of_take j k (j + k) (drop i s) refl in
      rw (
        p,
        q,
        r,
        take-take i (i + (j + k)) s (omega arith),
        x,
        take-take j (j + k) (drop i s) (omega arith),
        y,
        drop-drop j i s,
        last_part (i + (j + k)) 10 s l,
      )
      (remade _ _)

  -- what was read of the parts and gathered
  pub record_found : {f : Got Front} {m : Got Middle} {b : Got Back} (e : Result Figures Wrong) →
      f ≡ parsed front 1 (take i s) → m ≡ parsed middle 5 (take j (drop i s)) → b ≡ parsed back 9 (take k (drop (i + j) s)) →
      eleven_says e ≡ mapped figures_of (both f (both m b)) → record_says e (take 10 (drop (i + (j + k)) s)) ≡ form.parse s
  unfolding record_says
  record_found e x y z g =
      rw (
        g,
        x ∙ parsed_whole front 1 p _ (cut s 0 i (omega arith)),
        y ∙ parsed_whole middle 5 q _ (cut s i j (omega arith)),
        z ∙ parsed_whole back 9 r _ (cut s (i + j) k (omega arith)),
        parsed_whole serial 12 serial_width _ (cut s (i + (j + k)) 10 (omega arith)),
      )
      (sym record_parts)
