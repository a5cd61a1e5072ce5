-- What stands in place of a glyph, by the table `GSUB` of a font's file; and that it is what the rules make of it.
use Rattle.std.specs.Prelude.{◌≡◌, ℕ, ◌≤◌, ℤ, List, length, Option, Some, None, IfSome, slice_get}
use Rattle.std.specs.Str.{bytes_eq}
use Rattle.basics.specs.Optional.{◌>>=◌}
use Rattle.designspace.specs.declared.document.Designspace.{Designspace}
use Rattle.feature_var.specs.Meaning.{feature_tag}
use Rattle.feature_var.specs.Table.{Substitutions, matching, substitute, substitutions_in}
use Rattle.font_build.specs.FontTags.{GSUB}
use Rattle.font_model.specs.Fonts.{numbered}
use Rattle.font_rules.specs.Laws.{named_subs}
use Rattle.font_rules.specs.RuleNumbers.{number_of, sets_of}
use Rattle.rule_boxes.specs.Cells.{IsLocation}
use Rattle.rule_boxes.specs.Substitution.{ruled}
use Rattle.sfnt_write.specs.FontFile.{directory_in, table_in}

-- a table that is there has to be read
abbrev pub read_if_there : Option (List ℕ) → Option (Option Substitutions)
read_if_there None = Some None
read_if_there (Some gsub) = substitutions_in gsub >>= λ table. Some (Some table)

-- the table of a file with a directory, or none
abbrev pub substitutions_of_file : List ℕ → Option (Option Substitutions)
substitutions_of_file file = directory_in file >>= λ _. read_if_there (table_in file GSUB)

-- the glyph that stands in place of this one at the location; the glyph itself where there is no table
abbrev pub substitute_by : Option Substitutions → List ℤ → ℕ → ℕ
substitute_by None at glyph = glyph
substitute_by (Some table) at glyph = substitute table at glyph

-- how many records of the table match at the location
abbrev pub match_count : Option Substitutions → List ℤ → ℕ
match_count None at = 0
match_count (Some table) at = length (matching table.variations at)

-- Of a font with this design and these glyphs, by their names in glyph order: the table is there and can be read, or isn't
-- there. At every location in place of a glyph stands the one whose name the
-- rules, one after another, make of its name; of the records one at most matches; and the feature is `rclt` where the
-- rules come after other substitutions, else `rvrn`.
pub record HasSubstitutions (design : Designspace) (names : List (List ℕ)) (file : List ℕ) : Type 0 where
  pub table : Option Substitutions
  pub read : substitutions_of_file file ≡ Some table
  pub ruled_are : (at : List ℤ) (glyph : ℕ) (name : List ℕ) → IsLocation (length design.axes) at → slice_get names glyph ≡ Some name
      → number_of (numbered 0 names) (ruled bytes_eq (sets_of design.rules) (named_subs design.rules) at name) ≡ Some (substitute_by table at glyph)
  pub one_matches : (at : List ℤ) → IsLocation (length design.axes) at → match_count table at ≤ 1
  pub feature : IfSome table (λ own. own.feature.tag ≡ feature_tag design.last)
