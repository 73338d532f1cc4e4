-- How answers are shown.
use Rattle.std.specs.Prelude.{ℕ, ◌/◌, ◌%◌, List, [], ◌∷◌, nat_eq, false, if◌then◌else◌}
use Rattle.std.specs.List.{flat_map}
use Rattle.std.specs.Fmt.{decimal, digit_glyph}

-- before each value
abbrev pub comma : ℕ
comma = 44

-- a byte as two hex digits
abbrev pub hex_of : ℕ → List ℕ
hex_of b = digit_glyph false (b / 16) ∷ digit_glyph false (b % 16) ∷ []

-- each byte so
abbrev pub hex : List ℕ → List ℕ
hex bs = flat_map hex_of bs

-- the offset of a bad field; with none it is 0, and nothing stands there
abbrev pub offset_shown : ℕ → List ℕ
offset_shown n = if nat_eq n 0 then [] else comma ∷ decimal n
