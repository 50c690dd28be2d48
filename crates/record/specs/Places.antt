-- Where the twelve fields stand in a record's contents: document 01's columns 'Text' and 'Packed', in bytes. "A tag counts to the field after it."
use Rattle.std.specs.Prelude.{List, [], ◌∷◌, ◌++◌}
use Rattle.codec.specs.Places.{Place, end_to_end, further}
use Rattle.stop.specs.Places.{pair_places}

-- D + 7, T + 4, t + 3, + and 1, Z + 4, H + 7, N + 7, F + 7, V + 5, E + 4, z + 4, S + 9
unfoldable pub text_places : List Place
text_places = end_to_end 0 (8 ∷ 5 ∷ 4 ∷ 2 ∷ 5 ∷ 8 ∷ 8 ∷ 8 ∷ 6 ∷ 5 ∷ 5 ∷ 10 ∷ [])

-- d + 4, 2, the shared pair of fields 3 and 4, then 2, 4, 4, 4, 2, 2, 2, S + 9
unfoldable pub packed_places : List Place
packed_places = end_to_end 0 (5 ∷ 2 ∷ []) ++ further 7 pair_places ++ end_to_end 9 (2 ∷ 4 ∷ 4 ∷ 4 ∷ 2 ∷ 2 ∷ 2 ∷ 10 ∷ [])
