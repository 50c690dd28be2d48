-- What the port's entries promise beside their exact answers: statements only. A refusal is given in its case and in no other,
-- and changes no state; a valid port stays valid.
use Rattle.std.specs.Prelude.{ℕ, ◌+◌, ◌≤◌, ◌<◌, true, false, ◌&&◌, ◌↔◌, ◌⊎◌, ◌≢◌, ◌≡◌, is_some, Some, Ok, Err}
use Rattle.refusal.specs.declared.Refusal.{Refusal}
use Rattle.refusal.specs.declared.Refusal.TheVariants as refusal
use Rattle.fixed.specs.Fixed.{settings_lowest}
use Rattle.fixed.specs.declared.Settings.{Settings}
use Rattle.units.specs.Measurement.{measurement_verdict}
use Rattle.units.specs.declared.Measurement.{Measurement}
use Rattle.line.specs.declared.Line.{Line}
use Rattle.line.specs.Line.{blank, ends, valid_line}
use Rattle.port.specs.declared.Port.{Port}
use Rattle.port.specs.Port.{valid_port, slot_of, receive_of, measure_of, started_port, start_of}

-- "A start leaves `<` LF CR to be sent, an empty line, no command waiting": the whole port is new
abbrev pub LeavesNew : Type 0
LeavesNew = (old : Port) (l : Line) (s : Settings) (m : Measurement) → (start_of old l s m).verdict ≡ Ok tt →
    ((start_of old l s m).port ≡ started_port s m) × ((start_of old l s m).line ≡ blank)

-- "unit by the start-up letter (I, B imperial; M, b metric)"
pub record StartUnit : Type 0 where
  pub imperial : (s : Settings) (m : Measurement) → (s.fixed.lens.letter ≡ 73) ⊎ (s.fixed.lens.letter ≡ 66) → (started_port s m).source.modes.unit ≡ 73
  pub metric : (s : Settings) (m : Measurement) → (s.fixed.lens.letter ≡ 77) ⊎ (s.fixed.lens.letter ≡ 98) → (started_port s m).source.modes.unit ≡ 77

-- the cases of a received byte: 16; else 7, at the carriage return of a line that comes while a command waits
abbrev pub ReceiveCase : Port → Line → ℕ → Refusal → Type 0
ReceiveCase p l b r =
    ((valid_port p && valid_line l ≡ false) × (r ≡ refusal.State))
    ⊎ ((valid_port p && valid_line l ≡ true) × (ends l b ≡ true) × (is_some p.waiting ≡ true) × (r ≡ refusal.Dropped))

-- of a measurement: 16; else 1, with its field
abbrev pub MeasureCase : Port → Measurement → Refusal → Type 0
MeasureCase p m r = ((valid_port p ≡ false) × (r ≡ refusal.State)) ⊎ ((valid_port p ≡ true) × (measurement_verdict m ≡ Err r))

-- of a start: 8 with the lowest item; else 1, with its field
abbrev pub StartCase : Settings → Measurement → Refusal → Type 0
StartCase s m r = ((settings_lowest s ≢ 0) × (r ≡ refusal.Setting (settings_lowest s))) ⊎ ((settings_lowest s ≡ 0) × (measurement_verdict m ≡ Err r))

-- "Bad settings, measurements .. change no state"; "a command refused with 7 leaves its line empty and all else as it was"
pub record RefusedSame : Type 0 where
  pub slot : (p : Port) (r : Refusal) → (slot_of p).sent ≡ Err r → (slot_of p).port ≡ p
  pub receive : (p : Port) (l : Line) (b : ℕ) (r : Refusal) → (receive_of p l b).verdict ≡ Err r → (receive_of p l b).port ≡ p
  pub receive_16 : (p : Port) (l : Line) (b : ℕ) → (receive_of p l b).verdict ≡ Err refusal.State → (receive_of p l b).line ≡ l
  pub receive_7 : (p : Port) (l : Line) (b : ℕ) → (receive_of p l b).verdict ≡ Err refusal.Dropped → (receive_of p l b).line ≡ blank
  pub measure : (p : Port) (m : Measurement) (r : Refusal) → (measure_of p m).verdict ≡ Err r → (measure_of p m).port ≡ p
  pub start : (old : Port) (l : Line) (s : Settings) (m : Measurement) (r : Refusal) → (start_of old l s m).verdict ≡ Err r →
      ((start_of old l s m).port ≡ old) × ((start_of old l s m).line ≡ l)

-- "No number is given outside its case; where no case holds, the entry does its work. 16 comes before all."
pub record ByCase : Type 0 where
  pub slot : (p : Port) (r : Refusal) → ((slot_of p).sent ≡ Err r) ↔ ((valid_port p ≡ false) × (r ≡ refusal.State))
  pub receive : (p : Port) (l : Line) (b : ℕ) (r : Refusal) → ((receive_of p l b).verdict ≡ Err r) ↔ ReceiveCase p l b r
  pub measure : (p : Port) (m : Measurement) (r : Refusal) → ((measure_of p m).verdict ≡ Err r) ↔ MeasureCase p m r
  -- "A start checks 8, then 1, never 16"
  pub start : (old : Port) (l : Line) (s : Settings) (m : Measurement) (r : Refusal) → ((start_of old l s m).verdict ≡ Err r) ↔ StartCase s m r

-- a start and every entry keep a valid port valid, and a valid line
pub record KeptValid : Type 0 where
  pub start : (old : Port) (l : Line) (s : Settings) (m : Measurement) → (start_of old l s m).verdict ≡ Ok tt → valid_port (start_of old l s m).port ≡ true
  pub slot : (p : Port) → valid_port p ≡ true → valid_port (slot_of p).port ≡ true
  pub receive : (p : Port) (l : Line) (b : ℕ) → valid_port p ≡ true → valid_port (receive_of p l b).port ≡ true
  pub line : (p : Port) (l : Line) (b : ℕ) → valid_line l ≡ true → valid_line (receive_of p l b).line ≡ true
  pub measure : (p : Port) (m : Measurement) → valid_port p ≡ true → valid_port (measure_of p m).port ≡ true

-- "a count past its buffer or message, or a number, letter or text byte outside its range here": what a state of ours is, part by part
pub record Ours (p : Port) : Type 0 where
  pub settings : settings_lowest p.source.settings ≡ 0
  pub measurement : measurement_verdict p.source.measurement ≡ Ok tt
  pub film : p.source.modes.film ≤ 31
  pub unit : (p.source.modes.unit ≡ 73) ⊎ (p.source.modes.unit ≡ 77)
  pub rate : p.source.modes.rate ≤ 7
  pub next_rate_lem : p.source.modes.next_rate ≤ 7
  pub message : p.message.len ≤ 128
  pub sent : p.message.at ≤ p.message.len
  pub waiting : (l : Line) → p.waiting ≡ Some l → l.len ≤ 64

abbrev pub SixteenWhen : Type 0
SixteenWhen = (p : Port) → (valid_port p ≡ true) ↔ Ours p

-- "the rate number changes in the slot of its last byte", and a slot before it changes nothing but the place
pub record RateWhen : Type 0 where
  pub last_byte : (p : Port) → valid_port p ≡ true → p.message.at + 1 ≡ p.message.len →
      (slot_of p).port.source.modes.rate ≡ p.source.modes.next_rate
  pub before : (p : Port) → valid_port p ≡ true → p.message.at + 1 < p.message.len → (slot_of p).port.source ≡ p.source
