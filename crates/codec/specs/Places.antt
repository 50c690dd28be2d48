-- Where the fields stand in a message's contents, and which of them is the first wrong one: said of bytes, apart from any reader.
use Rattle.std.specs.Prelude.{ℕ, zero, suc, ◌+◌, ◌<◌, List, [], ◌∷◌, ◌≢◌, ◌≡◌, take, drop}
use Rattle.laws.specs.Member.{◌∈◌}

-- a field's place: so many bytes from here on, and what of them is the field's
pub record Place : Type 0 where
  pub from : ℕ
  pub width : ℕ
  pub share : List ℕ → List ℕ

-- bytes that are one field's alone, its tag among them
abbrev pub alone : ℕ → ℕ → Place
alone from width = record { from = from; width = width; share = λ s. s }

-- such fields end to end, by their widths
abbrev pub end_to_end : ℕ → List ℕ → List Place
end_to_end from [] = []
end_to_end from (w ∷ ws) = alone from w ∷ end_to_end (from + w) ws

-- the same places n bytes further on
abbrev pub further : ℕ → List Place → List Place
further n [] = []
further n (p ∷ ps) = record { from = n + p.from; width = p.width; share = p.share } ∷ further n ps

abbrev pub share_in : Place → List ℕ → List ℕ
share_in p s = p.share (take p.width (drop p.from s))

-- field i of the contents s, counted from 1; nothing where there is no field i
unfoldable pub field_of : List Place → ℕ → List ℕ → List ℕ
field_of [] i s = []
field_of (p ∷ ps) zero s = []
field_of (p ∷ ps) (suc zero) s = share_in p s
field_of (p ∷ ps) (suc (suc i)) s = field_of ps (suc i) s

-- bytes that spell sendable contents
abbrev pub Spelt : {A : Type 0} → (A → ℕ) → (A → List (List ℕ)) → List ℕ → Type 0
Spelt {A} rule spellings t = (a : A) × (rule a ≡ 0) × (t ∈ spellings a)

-- field i is the first wrong one of s: the fields before it stand so in a spelling of sendable contents, and it stands so in none
pub record FirstWrong {A : Type 0} (rule : A → ℕ) (spellings : A → List (List ℕ)) (places : List Place) (s : List ℕ) (i : ℕ) : Type 0 where
  pub before : (t : List ℕ) × Spelt rule spellings t × ((j : ℕ) → j < i → field_of places j s ≡ field_of places j t)
  pub unspelt : (t : List ℕ) → Spelt rule spellings t → field_of places i s ≢ field_of places i t
