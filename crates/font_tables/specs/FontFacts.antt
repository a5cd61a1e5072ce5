-- What the font of a project tells in the tables of fixed fields.
use Rattle.std.specs.Prelude.{Bool, true, false, List, [], ◌∷◌, map}
use Rattle.delta_solve.specs.Outlines.{advance_of}
use Rattle.font_model.specs.Fit.{names_of}
use Rattle.font_model.specs.declared.parts.Project.{Project}
use Rattle.font_tables.specs.Outlines.{lengths_of, needs_long_offsets, outlines_of}
use Rattle.glif.specs.declared.shape.Outline.{Outline}
use Rattle.glyf_loca.specs.Bounds.{outline_bounds}
use Rattle.plain_tables.specs.declared.facts.Facts.{Facts}
use Rattle.rule_boxes.specs.declared.cell.Cell.{Cell}

-- whether the font has a table `GSUB`: whether some rule holds anywhere
abbrev pub has_substitutions : List Cell → Bool
has_substitutions [] = false
has_substitutions (cell ∷ cells) = true

-- a font with these outlines
abbrev pub facts_with : Project → List Outline → Facts
facts_with project outlines = record {
  info = project.info;
  names = names_of project.names.entries;
  advances = map advance_of outlines;
  bounds = map outline_bounds outlines;
  lengths = map lengths_of outlines;
  codes = project.codes;
  long = needs_long_offsets outlines;
  substitutes = has_substitutions project.cells;
}

abbrev pub facts_of : Project → Facts
facts_of project = facts_with project (outlines_of project)
