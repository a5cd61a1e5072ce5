-- Which glyphs a subtable covers (OpenType, "Common table formats", "Coverage table"), in the order of their coverage
-- indexes.
use Rattle.std.specs.Prelude.{ℕ, ◌+◌, ◌-◌, Bool, true, ◌&&◌, List, [], ◌∷◌, ◌++◌, drop, Option, Some, None, if◌then◌else◌, nat_eq, nat_le, nat_lt}
use Rattle.basics.specs.Optional.{◌>>=◌}
use Rattle.be_bytes.specs.Reading.{records, uint16}
use Rattle.variation_rules.specs.PackedPoints.{count_from}

-- startGlyphID, endGlyphID, startCoverageIndex
pub record GlyphRange : Type 0 where
  pub first : ℕ
  pub last : ℕ
  pub index : ℕ

abbrev pub range_in : List ℕ → Option GlyphRange
range_in bytes = do
  first ← uint16 bytes
  last ← uint16 (drop 2 bytes)
  index ← uint16 (drop 4 bytes)
  Some (record { first = first; last = last; index = index })

-- the glyphs of the ranges, the first of which has this coverage index; each range goes on where the one before ends
abbrev pub covered_from : ℕ → List GlyphRange → Option (List ℕ)
covered_from index [] = Some []
covered_from index (range ∷ ranges) =
    if nat_eq range.index index && nat_le range.first range.last
    then (covered_from (index + (range.last + 1 - range.first)) ranges >>= λ more. Some (count_from (range.last + 1 - range.first) range.first ++ more))
    else None

-- each glyph is above the one before it
abbrev pub is_rising : List ℕ → Bool
is_rising [] = true
is_rising (glyph ∷ []) = true
is_rising (glyph ∷ next ∷ glyphs) = nat_lt glyph next && is_rising (next ∷ glyphs)

-- coverageFormat; in format 1 glyphCount and the glyphs, in format 2 rangeCount and the ranges
abbrev pub covered_in : List ℕ → Option (List ℕ)
covered_in bytes = do
  format ← uint16 bytes
  count ← uint16 (drop 2 bytes)
  if nat_eq format 1 then records uint16 2 count (drop 4 bytes)
      else (if nat_eq format 2 then (records range_in 6 count (drop 4 bytes) >>= λ ranges. covered_from 0 ranges) else None)

-- the glyphs rise
abbrev pub coverage_in : List ℕ → Option (List ℕ)
coverage_in bytes = do
  glyphs ← covered_in bytes
  if is_rising glyphs then Some glyphs else None
