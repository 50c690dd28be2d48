-- How long the bodies of a valid source's messages are: each form is as wide as its table, each text as long as its item. Assumes nothing.
use Prim.Native.Nat.{ℕ, suc, ◌+◌, ◌≤◌, ◌<◌}
use mathlib.Core.Bool.{Bool, true, false}
use mathlib.Core.List.{List, [], ◌∷◌}
use mathlib.Core.Path.{◌≡◌, refl, ap, ◌∙◌}
use native.Mathlib.Nat.{le_of_eq}
use native.Mathlib.Omega.{arith}
use lib.ListN.{length, get_or}
use Rattle.codec.specs.Codec.{text_ok}
use Rattle.codec.proofs.Texts.{text_long}
use Rattle.codec.proofs.Exact.{holds, first_zero}
use Rattle.digits.proofs.Laws.{length_digits}
use Rattle.frame.specs.Frame.{ending, ending_width, framed}
use Rattle.frame.proofs.Exactly.{ending_short, ending_some, framed_long}
use Rattle.record.specs.Record.{record_lowest}
use Rattle.record.specs.Forms.{text_length, packed_length, text_form, packed_form}
use Rattle.record.proofs.Exact.{text_form_exact, text_lowest, text_form_width, packed_form_exact, packed_lowest, packed_form_width}
use Rattle.fixed.specs.Fixed.{fixed_lowest, settings_lowest}
use Rattle.fixed.specs.Form.{fixed_length, fixed_form}
use Rattle.fixed.specs.declared.Settings.{Settings}
use Rattle.fixed.proofs.Exact.{fixed_form_exact, fixed_lowest_lem, fixed_form_width}
use Rattle.units.proofs.Ranges.{sendable_in_either_unit}
use Rattle.state.specs.declared.Source.{Source}
use Rattle.state.specs.declared.Sending.{Sending}
use Rattle.state.specs.declared.Sending.TheVariants as sending
use Rattle.state.specs.State.{valid_source}
use Rattle.rules.specs.Does.{record_now, blur_of, record_is, record_message}
use Rattle.rules.specs.Lens.{greeting, longest_record}
use Rattle.rules.proofs.Valid.{Valid, valid_told}

-- ---- the frame

-- a message is at most a checksum and LF CR longer than its body, and never empty
pub framed_at_most : (checksum : Bool) (body : List ℕ) → length (framed checksum body) ≤ length body + ending_width true
framed_at_most checksum body = omega (arith, framed_long checksum (length body) body refl, ending_short checksum)

pub framed_some : (checksum : Bool) (body : List ℕ) → 0 < length (framed checksum body)
framed_some checksum body = omega (arith, framed_long checksum (length body) body refl, ending_some checksum)

-- a start's < LF CR is a message too
pub greeting_is : greeting ≡ framed false (60 ∷ [])
unfolding ending
greeting_is = refl

-- ---- the texts

-- what settings in range say
pub record Items (s : Settings) : Type 0 where
  pub fixed : fixed_lowest s.fixed ≡ 0
  pub serial : text_ok 9 s.fixed.serial ≡ true
  pub version : length s.fixed.version ≡ 4
  pub maker : length s.maker ≡ 15
  pub type_name_lem : length s.type_name ≡ 30

pub items_told : (s : Settings) → settings_lowest s ≡ 0 → Items s
unfolding settings_lowest fixed_lowest
items_told s h =
    let p = first_zero _ _ h in
    let maker = first_zero _ _ p.1 in
    let name = first_zero _ _ maker.1 in
    let serial = first_zero _ _ p.0 in
    let owner = first_zero _ _ serial.1 in
    let version = (first_zero _ _ owner.1).1 in
    record {
      fixed = p.0;
      serial = holds _ 0 serial.0;
      version = text_long 4 _ (holds _ 7 version);
      maker = text_long 15 _ (holds _ 8 maker.0);
      type_name_lem = text_long 30 _ (holds _ 9 name.0);
    }

-- ---- the numbers

pub blur_long : (n : ℕ) (s : Settings) → length (blur_of n s) ≡ 6
blur_long n s = ap (λ (k : ℕ). suc (suc (suc k))) (length_digits 10 48 (omega arith) 3 (get_or s.blur n 0))

-- ---- the forms

module _ (s : Source) (p : Valid s) where
  items : Items s.settings
  items = items_told s.settings p.settings

  sendable : record_lowest (record_now s) ≡ 0
  sendable = sendable_in_either_unit s.measurement s.modes.unit s.settings.fixed.serial p.measurement p.unit items.serial

  record_text_long : length (text_form.print (record_now s)) ≡ text_length
  record_text_long = text_form_exact.long (record_now s) (text_lowest (record_now s) ∙ sendable) ∙ text_form_width

  record_packed_long : length (packed_form.print (record_now s)) ≡ packed_length
  record_packed_long = packed_form_exact.long (record_now s) (packed_lowest (record_now s) ∙ sendable) ∙ packed_form_width

  pub fixed_long : length (fixed_form.print s.settings.fixed) ≡ fixed_length
  fixed_long = fixed_form_exact.long s.settings.fixed (fixed_lowest_lem s.settings.fixed ∙ items.fixed) ∙ fixed_form_width

  -- whatever continuous sending sends
  pub record_body : (x : Sending) → length (record_is x s) ≤ text_length
  unfolding record_is
  record_body sending.Off = le_of_eq record_text_long
  record_body sending.Text = le_of_eq record_text_long
  record_body sending.Packed = omega (arith, record_packed_long)

  record_fits : length (record_message s) ≤ longest_record
  unfolding record_message
  record_fits =
      let body = record_is s.modes.sending s in
      omega (arith, framed_at_most s.modes.checksum body, record_body s.modes.sending)

pub record_at_most : (s : Source) → valid_source s ≡ true → length (record_message s) ≤ longest_record
record_at_most s v = record_fits s (valid_told s v)

pub record_some : (s : Source) → 0 < length (record_message s)
unfolding record_message
record_some s = framed_some s.modes.checksum (record_is s.modes.sending s)
