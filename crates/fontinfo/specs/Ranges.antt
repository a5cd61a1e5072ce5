-- The ranges in which the numbers of font information lie.
use Rattle.std.specs.Prelude.{ℤ, pos, negsuc, ◌≤ℤ◌}
use Rattle.fontinfo.specs.declared.keys.Range.{Range}

-- numbers that 16 bits with a sign hold, the least one aside
abbrev pub metric : Range
metric = record { least = negsuc 32766; greatest = pos 32767 }

-- those that aren't negative
abbrev pub height : Range
height = record { least = pos 0; greatest = pos 32767 }

abbrev pub version : Range
version = record { least = pos 0; greatest = pos 999 }

abbrev pub weight : Range
weight = record { least = pos 1; greatest = pos 1000 }

abbrev pub width : Range
width = record { least = pos 1; greatest = pos 9 }

abbrev pub units : Range
units = record { least = pos 16; greatest = pos 16384 }

pub record IsWithin (range : Range) (n : ℤ) : Type 0 where
  pub low : range.least ≤ℤ n
  pub high : n ≤ℤ range.greatest
