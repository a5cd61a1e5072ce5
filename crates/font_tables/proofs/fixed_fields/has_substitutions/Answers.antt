use Rattle.std.proofs.Common.{◌≡◌, List, [], ◌∷◌, length, not, refl, ap, ◌∙◌, arith}
use Rattle.std.proofs.lemmas.Bool.{ne_eqb}
use Rattle.std.specs.Prelude.{nat_eq}
use Rattle.font_tables.specs.FontFacts.{has_substitutions}
use Rattle.rule_boxes.specs.declared.cell.Cell.{Cell}
use Rattle.font_tables.proofs.fixed_fields.has_substitutions.Goals as goal

-- a list that isn't empty has a first box
some_there : (cells : List Cell) → not (nat_eq (length cells) 0) ≡ has_substitutions cells
some_there [] = refl
some_there (cell ∷ cells) = ap not (ne_eqb (length (cell ∷ cells)) 0 (λ same. absurd (omega (arith, same))))

pub returns : goal.returns
returns c = ap not c.is_empty.ensures ∙ some_there c.args.cells.now
