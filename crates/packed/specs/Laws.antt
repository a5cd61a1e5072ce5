-- Laws of packed lists: each list has one spelling in maximal runs.
use Rattle.std.specs.Prelude.{◌≡◌, ℕ, ℤ, List}
use Rattle.variation_rules.specs.PackedDeltas.{PacksDeltas}
use Rattle.variation_rules.specs.PackedPoints.{PacksListedPoints}

abbrev pub OneSpellingOfDeltas : Type 0
OneSpellingOfDeltas = (values : List ℤ) (bytes other : List ℕ) → PacksDeltas bytes values → PacksDeltas other values → bytes ≡ other

-- whatever the number of points that the glyph has
abbrev pub OneSpellingOfPoints : Type 0
OneSpellingOfPoints = (points : List ℕ) (total some_total : ℕ) (bytes other : List ℕ) → PacksListedPoints total bytes points → PacksListedPoints some_total other points → bytes ≡ other
