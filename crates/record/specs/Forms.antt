-- The text form and the packed form of a record: two tables of fields, in the order of document 01. Letters stand as their bytes: 68 is D.
use Rattle.std.specs.Prelude.{ℕ, List, ◌++◌, ℤ}
use Rattle.codec.specs.Codec.{Codec, number, text, tagged, ◌⊗◌, via_iso}
use Rattle.pointed.specs.Pointed.{pointed}
use Rattle.stop.specs.Stop.{stop, pair}
use Rattle.pupil.specs.Pupil.{pupil_text, pupil_packed}
use Rattle.record.specs.Record.{top_distance}
use Rattle.record.specs.declared.Figures.{Figures}
use Rattle.record.specs.declared.Record.{Record}

-- the fields by groups: 1 to 4, 5 to 8, 9 to 11
abbrev pub Front : Type 0
Front = ℕ × (ℕ × (ℕ × ℕ))

abbrev pub Middle : Type 0
Middle = ℕ × (ℕ × (ℕ × ℕ))

abbrev pub Back : Type 0
Back = ℕ × (ℤ × ℕ)

-- D, T, t, +
unfoldable pub front_text : Codec Front
front_text =
    tagged 68 1 (number 1 10 48 7 top_distance)
    ⊗ (tagged 84 2 (number 2 10 48 4 4095)
    ⊗ (tagged 116 3 stop
    ⊗ tagged 43 4 (number 4 10 48 1 9)))

-- Z, H, N, F
unfoldable pub middle_text : Codec Middle
middle_text =
    tagged 90 5 (number 5 10 48 4 1023)
    ⊗ (tagged 72 6 (number 6 10 48 7 top_distance)
    ⊗ (tagged 78 7 (number 7 10 48 7 top_distance)
    ⊗ tagged 70 8 (number 8 10 48 7 top_distance)))

-- V
abbrev pub view_text : Codec ℕ
view_text = tagged 86 9 (pointed 9 3 4095)

-- V, E, and the zoom as it is written
abbrev pub back_by : Codec ℕ → Codec Back
back_by zoom = view_text ⊗ (pupil_text ⊗ zoom)

-- z
abbrev pub zoom_text : Codec ℕ
zoom_text = tagged 122 11 (number 11 10 48 4 1000)

-- V, E, z
unfoldable pub back_text : Codec Back
back_text = back_by zoom_text

-- d and four groups, two groups, the shared pair
unfoldable pub front_packed : Codec Front
front_packed = tagged 100 1 (number 1 64 64 4 top_distance) ⊗ (number 2 64 64 2 4095 ⊗ pair)

unfoldable pub middle_packed : Codec Middle
middle_packed =
    number 5 64 64 2 1023 ⊗ (number 6 64 64 4 top_distance ⊗ (number 7 64 64 4 top_distance ⊗ number 8 64 64 4 top_distance))

unfoldable pub back_packed : Codec Back
back_packed = number 9 64 64 2 4095 ⊗ (pupil_packed ⊗ number 11 64 64 2 1000)

-- S, in both forms
unfoldable pub serial : Codec (List ℕ)
serial = tagged 83 12 (text 12 9)

abbrev pub Groups : Type 0
Groups = Front × (Middle × Back)

abbrev pub Parts : Type 0
Parts = Groups × List ℕ

abbrev pub front_of : Figures → Front
front_of f = (f.focus, (f.aperture, (f.stop, f.tenth)))

abbrev pub middle_of : Figures → Middle
middle_of f = (f.focal, (f.hyperfocal, (f.near, f.far)))

abbrev pub back_of : Figures → Back
back_of f = (f.view, (f.pupil, f.zoom))

abbrev pub figures_of : Groups → Figures
figures_of p = record {
  focus = p.0.0;
  aperture = p.0.1.0;
  stop = p.0.1.1.0;
  tenth = p.0.1.1.1;
  focal = p.1.0.0;
  hyperfocal = p.1.0.1.0;
  near = p.1.0.1.1.0;
  far = p.1.0.1.1.1;
  view = p.1.1.0;
  pupil = p.1.1.1.0;
  zoom = p.1.1.1.1;
}

abbrev pub groups_of : Figures → Groups
groups_of f = (front_of f, (middle_of f, back_of f))

abbrev pub of_parts : Parts → Record
of_parts p = record { figures = figures_of p.0; serial = p.1 }

abbrev pub with_serial : Figures → List ℕ → Record
with_serial f s = record { figures = f; serial = s }

abbrev pub parts_of : Record → Parts
parts_of r = (groups_of r.figures, r.serial)

abbrev pub pupil_of : Record → ℤ
pupil_of r = r.figures.pupil

-- how many bytes a record's contents take: as text, and packed
abbrev pub text_length : ℕ
text_length = 74

abbrev pub packed_length : ℕ
packed_length = 39

-- fields 1 to 10 as text, 59 bytes
abbrev pub ten_text : Figures → List ℕ
ten_text f = front_text.print (front_of f) ++ (middle_text.print (middle_of f) ++ (view_text.print f.view ++ pupil_text.print f.pupil))

abbrev pub ten_length : ℕ
ten_length = 59

-- a record's contents as text
unfoldable pub text_form : Codec Record
text_form = via_iso of_parts parts_of ((front_text ⊗ (middle_text ⊗ back_text)) ⊗ serial)

-- a record's contents packed
unfoldable pub packed_form : Codec Record
packed_form = via_iso of_parts parts_of ((front_packed ⊗ (middle_packed ⊗ back_packed)) ⊗ serial)
