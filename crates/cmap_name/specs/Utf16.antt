-- UTF-16 (Unicode, "Unicode Encoding Forms" and "Surrogates"): the units of characters, and how they are read.
use Rattle.std.specs.Prelude.{ℕ, ◌+◌, ◌-◌, ◌*◌, ◌/◌, ◌%◌, Bool, ◌&&◌, List, [], ◌∷◌, Option, Some, None, if◌then◌else◌, nat_le, nat_lt}
use Rattle.std.specs.List.{flat_map}
use Rattle.std.specs.Str.{chars}
use Rattle.basics.specs.Optional.{with_prefix}

-- a character below 0x10000 is a unit; one from there on is two surrogates, which have its upper and its lower ten bits
abbrev pub units_of : ℕ → List ℕ
units_of c =
    if nat_lt c 0x10000 then c ∷ []
    else (0xD800 + (c - 0x10000) / 0x400) ∷ (0xDC00 + (c - 0x10000) % 0x400) ∷ []

-- the units of a text, which is given in UTF-8
abbrev pub text_units : List ℕ → List ℕ
text_units text = flat_map units_of (chars text)

abbrev pub is_high_surrogate : ℕ → Bool
is_high_surrogate unit = nat_le 0xD800 unit && nat_lt unit 0xDC00

abbrev pub is_low_surrogate : ℕ → Bool
is_low_surrogate unit = nat_le 0xDC00 unit && nat_lt unit 0xE000

-- the character of a high surrogate and a low one
abbrev pub paired : ℕ → ℕ → ℕ
paired high low = 0x10000 + 0x400 * (high - 0xD800) + (low - 0xDC00)

-- The characters of units, where a high surrogate may stand before them. Nothing where a surrogate is by itself.
abbrev pub characters_after : Option ℕ → List ℕ → Option (List ℕ)
characters_after None [] = Some []
characters_after (Some high) [] = None
characters_after None (unit ∷ units) =
    if is_high_surrogate unit then characters_after (Some unit) units
    else (if is_low_surrogate unit then None else with_prefix (unit ∷ []) (characters_after None units))
characters_after (Some high) (unit ∷ units) =
    if is_low_surrogate unit then with_prefix (paired high unit ∷ []) (characters_after None units) else None

abbrev pub characters_in : List ℕ → Option (List ℕ)
characters_in units = characters_after None units
