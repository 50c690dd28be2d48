-- What of the shared pair is the stop's and what the tenth's, where both stand in the same two bytes.
use Rattle.std.specs.Prelude.{ℕ, ◌/◌, ◌%◌, List, [], ◌∷◌, get_or}
use Rattle.codec.specs.Places.{Place}

-- the first byte, and bit 6 of the second, which is bit 7 of the stop
abbrev pub stop_share : List ℕ → List ℕ
stop_share s = get_or s 0 0 ∷ (get_or s 1 0 / 64 % 2) ∷ []

-- "the rest of the second byte": its top bit, and its low six
abbrev pub tenth_share : List ℕ → List ℕ
tenth_share s = (get_or s 1 0 / 128) ∷ (get_or s 1 0 % 64) ∷ []

abbrev pub pair_places : List Place
pair_places = record { from = 0; width = 2; share = stop_share } ∷ record { from = 0; width = 2; share = tenth_share } ∷ []
