-- The version of a font that tells none.
use Rattle.std.specs.Prelude.{ℕ, ◌/◌, ◌%◌, List, ◌++◌, codes, decimal}

-- a number below 1,000 in three digits
abbrev pub three_digits : ℕ → List ℕ
three_digits n = decimal (n / 100) ++ (decimal (n / 10 % 10) ++ decimal (n % 10))

-- the version that stands where none is written
unfoldable pub version_text : ℕ → ℕ → List ℕ
version_text major minor = codes "Version " ++ (decimal major ++ (codes "." ++ three_digits minor))
