-- Limits that the steps of the writer keep; only they and their proofs need them.
use Rattle.std.specs.Prelude.{◌≡◌, ℕ, ◌<◌, ◌≤◌, ◌^◌, length, All}
use Rattle.region_support.specs.Regions.{IsNormalised}
use Rattle.rule_boxes.specs.declared.cell.Cell.{Cell}

-- a box on at most 8 axes, with at most 64 lists
pub record IsSmallCell (cell : Cell) : Type 0 where
  pub few_axes : length cell.low.items ≤ 8
  pub same_axes : length cell.high.items ≡ length cell.low.items
  pub low : All IsNormalised cell.low.items
  pub high : All IsNormalised cell.high.items
  pub few_numbers : length cell.rules ≤ 64
  pub small_numbers : All (λ number. number < 64) cell.rules

-- two numbers of glyphs
pub record IsGlyphPair (pair : ℕ × ℕ) : Type 0 where
  pub first : pair.0 < 2 ^ 16
  pub second : pair.1 < 2 ^ 16
