-- What the file has of substitutions.
use Rattle.std.proofs.Common.{◌≡◌, ◌≢◌, ℕ, ◌≤◌, ℤ, Bool, true, List, [], ◌∷◌, All, length, Option, Some, None, refl, sym, ap, subst, ◌∙◌, arith}
use Rattle.std.proofs.lemmas.List.{length-map}
use Rattle.std.specs.Prelude.{IfSome, is_some, nat_eq, option_map, Vec}
use Rattle.std.specs.declared.alloc.Global.{Global}
use Rattle.std.specs.Str.{bytes_eq}
use Rattle.basics.specs.Optional.{◌>>=◌}
use Rattle.feature_var.specs.Meaning.{IsTableOf, MeansSubstitutions, axes_of, feature_tag}
use Rattle.feature_var.specs.Table.{Substitutions, listed_by, matching}
use Rattle.feature_var.specs.Variations.{Variation}
use Rattle.font_build.proofs.FileLemmas.{InFile}
use Rattle.font_build.proofs.Laws.{names_law}
use Rattle.font_build.proofs.NumberLemmas.{number_found, numbers_differ}
use Rattle.font_build.proofs.RuleLemmas.{axes_are}
use Rattle.font_build.specs.FontTags.{GSUB}
use Rattle.font_build.specs.Substitution.{HasSubstitutions, match_count, read_if_there, substitute_by}
use Rattle.font_build.specs.TableSteps.{AreTablesOf}
use Rattle.font_build.specs.declared.tables.Tables.{Tables}
use Rattle.font_model.specs.Fit.{IsFit, names_of}
use Rattle.font_model.specs.declared.parts.Project.{Project}
use Rattle.font_rules.specs.Laws.{NumbersDiffer, named_subs}
use Rattle.font_rules.specs.RuleNumbers.{number_of, sets_of}
use Rattle.font_tables.specs.FontFacts.{has_substitutions}
use Rattle.rule_boxes.specs.Cells.{IsCell, IsLocation, holding, lists_at, some_list}
use Rattle.rule_boxes.specs.Substitution.{ruled, substituted}
use Rattle.rule_boxes.specs.declared.cell.Cell.{Cell}
use Rattle.sfnt_write.specs.FontFile.{IsFontFile, TableRecord, table_in}

-- ---- whether there is a table

there_for : (last : Bool) (cells : List Cell) (subs : List (List (ℕ × ℕ))) (bytes : List ℕ) → IsTableOf last cells subs (Some bytes) → true ≡ has_substitutions cells
there_for last [] subs bytes is = absurd (is.0 refl)
there_for last (cell ∷ cells) subs bytes is = refl

pub gsub_there : (last : Bool) (cells : List Cell) (subs : List (List (ℕ × ℕ))) (gsub : Option (Vec ℕ Global)) → IsTableOf last cells subs (option_map (λ own. own.items) gsub) → is_some gsub ≡ has_substitutions cells
gsub_there last cells subs None is = ap has_substitutions (sym is)
gsub_there last cells subs (Some gsub) is = there_for last cells subs gsub.items is

-- ---- what it means

-- A table, or none, that makes of glyphs what these boxes and pairs do; its tag is that of these substitutions.
record ActsByBoxes (axes : ℕ) (last : Bool) (cells : List Cell) (subs : List (List (ℕ × ℕ))) (gsub : Option (List ℕ)) : Type 0 where
  table : Option Substitutions
  read : read_if_there gsub ≡ Some table
  glyphs : (at : List ℤ) (glyph : ℕ) → IsLocation axes at → substitute_by table at glyph ≡ substituted nat_eq cells subs at glyph
  count : (at : List ℤ) → IsLocation axes at → match_count table at ≡ length (lists_at cells at)
  feature : IfSome table (λ own. own.feature.tag ≡ feature_tag last)

-- it is there
table_acts : (last : Bool) (cells : List Cell) (subs : List (List (ℕ × ℕ))) (bytes : List ℕ) → cells ≢ [] → MeansSubstitutions last cells subs bytes → ActsByBoxes (axes_of cells) last cells subs (Some bytes)
table_acts last cells subs bytes some means = record {
  table = Some means.table;
  read = ap (λ (read : Option Substitutions). read >>= λ own. Some (Some own)) means.read;
  glyphs = λ at glyph place. means.substitution_is at glyph place;
  count = λ at place.
      sym (length-map (matching means.table.variations at) (λ (own : Variation). listed_by [] own.alternates))
      ∙ ap (λ (lists : List (List ℕ)). length lists) (means.matching_are at place);
  feature = means.tag_is;
}

gsub_acts : (axes rules : ℕ) (last : Bool) (cells : List Cell) (subs : List (List (ℕ × ℕ))) (gsub : Option (List ℕ)) → All (IsCell axes rules) cells → IsTableOf last cells subs gsub → ActsByBoxes axes last cells subs gsub
gsub_acts axes rules last cells subs None each is = record {
  table = None;
  read = refl;
  glyphs = λ at glyph place. ap (λ (own : List Cell). substituted nat_eq own subs at glyph) (sym is);
  count = λ at place. ap (λ (own : List Cell). length (lists_at own at)) (sym is);
  feature = tt;
}
gsub_acts axes rules last cells subs (Some bytes) each is =
    subst (λ (n : ℕ). ActsByBoxes n last cells subs (Some bytes)) (axes_are axes rules cells each is.0) (table_acts last cells subs bytes is.0 is.1)

-- ---- all

one_list : (numbers : List ℕ) → length (some_list numbers) ≤ 1
one_list [] = omega arith
one_list (number ∷ numbers) = omega arith

pub has_substitutions_of : (project : Project) (tables : Tables) (file : List ℕ) → IsFit project → AreTablesOf project tables → IsFontFile file → InFile tables file → HasSubstitutions project.design (names_of project.names.entries) file
has_substitutions_of project tables file fit are is_font own =
    let axes = length project.design.axes in
    let rules = project.design.rules in
    let entries = project.names.entries in
    let gsub : Option (List ℕ) = option_map (λ (bytes : Vec ℕ Global). bytes.items) tables.gsub in
    let acts = gsub_acts axes (length (sets_of rules)) project.design.last project.cells project.subs gsub fit.cells.each are.substitutions in
    let differ : NumbersDiffer entries = subst NumbersDiffer (sym fit.names.numbers) (numbers_differ (names_of entries)) in
    record {
      table = acts.table;
      read =
          ap (λ (directory : Option (List TableRecord)). directory >>= λ _. read_if_there (table_in file GSUB)) is_font.directory_there
          ∙ ap read_if_there own.gsub ∙ acts.read;
      ruled_are = λ at glyph name place there.
          let number : number_of entries name ≡ Some glyph = ap (λ (all : List (List ℕ × ℕ)). number_of all name) fit.names.numbers ∙ number_found 0 (names_of entries) glyph name fit.names.once there ∙ ap (λ (n : ℕ). Some n) (omega arith) in
          ap (λ (all : List (List ℕ × ℕ)). number_of all (ruled bytes_eq (sets_of rules) (named_subs rules) at name)) (sym fit.names.numbers)
          ∙ names_law entries rules project.subs axes project.cells at name glyph differ fit.subs fit.cells place number
          ∙ ap (λ (n : ℕ). Some n) (sym (acts.glyphs at glyph place));
      one_matches = λ at place.
          let lists = ap (λ (all : List (List ℕ)). length all) (fit.cells.lists at place) in
          omega (arith, acts.count at place, lists, one_list (holding (sets_of rules) at));
      feature = acts.feature;
    }
