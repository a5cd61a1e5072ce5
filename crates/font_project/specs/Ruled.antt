-- The rules of the document, for the glyphs of the font.
use Rattle.std.specs.Prelude.{◌≡◌, ℕ, List, length, Result}
use Rattle.basics.specs.declared.fault.Fault.{Fault}
use Rattle.rule_boxes.specs.Cells.{AreCells}
use Rattle.font_sources.specs.declared.found.FontSources.{FontSources}
use Rattle.font_model.specs.Fonts.{numbered}
use Rattle.font_rules.specs.RuleNumbers.{AreAllNumbered, sets_of, substitutions_of}
use Rattle.font_project.specs.declared.ruled.Ruled.{Ruled}

-- the pairs of each rule, by the numbers of glyphs, or the first fault of the rules; path is that of the document
abbrev pub rules_of : List ℕ → FontSources → Result (List (List (ℕ × ℕ))) Fault
rules_of path found = substitutions_of path (numbered 0 found.names) (length found.design.axes) found.design.rules

-- the glyphs are numbered in their order, the pairs are those of the rules, and the boxes those in which the rules hold
pub record AreRuled (found : FontSources) (ruled : Ruled) : Type 0 where
  pub names : ruled.names.entries ≡ numbered 0 found.names
  pub subs : AreAllNumbered (numbered 0 found.names) found.design.rules ruled.substitutions.subs
  pub cells : AreCells (length found.design.axes) (sets_of found.design.rules) ruled.substitutions.cells
