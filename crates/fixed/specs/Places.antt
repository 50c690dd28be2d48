-- Where items 1 to 8 stand in the contents of the N message, in bytes. "A tag counts to the field after it; the two N spaces to item 8."
use Rattle.std.specs.Prelude.{List, [], ◌∷◌}
use Rattle.codec.specs.Places.{Place, end_to_end}

-- N S + 9, O + 31, L + 1, N + 3, M + 3, U + 1, T + 2, two spaces B + 4
unfoldable pub fixed_places : List Place
fixed_places = end_to_end 0 (11 ∷ 32 ∷ 2 ∷ 4 ∷ 4 ∷ 2 ∷ 3 ∷ 7 ∷ [])
