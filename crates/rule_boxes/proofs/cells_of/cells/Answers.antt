use Rattle.std.proofs.Common.{◌≡◌, ℕ, List, Option, Some, None, refl, sym, ◌∙◌, ap, subst}
use Rattle.rule_boxes.specs.declared.area.Zone.{Zone}
use Rattle.rule_boxes.specs.declared.cell.Cell.{Cell}
use Rattle.rule_boxes.specs.Cells.{AreCells}
use Rattle.rule_boxes.specs.Grid.{grid_above}
use Rattle.rule_boxes.specs.Merging.{IsMerged, cells_of}
use Rattle.rule_boxes.specs.Overlay.{overlaid}
use Rattle.rule_boxes.proofs.CellLaws.{answer_law}
use Rattle.rule_boxes.proofs.cells_of.cells.Goals as goal

none_if : (found : Option ℕ) → ((product : ℕ) → found ≡ Some product → ⊥) → found ≡ None
none_if None none = refl
none_if (Some product) none = absurd (none product refl)

pub returns : goal.returns
returns c =
    let axes = c.args.axes in
    let rules = c.args.rules.now in
    let none : grid_above axes rules ≡ None =
    ap (grid_above axes) (sym c.as_slice-rules.ensures) ∙ (sym c.in_ok-product.ensures ∙ none_if c.in_ok-product.field-0 c.in_default.not-Some) in
    let zones : c.deref.result.now ≡ overlaid axes rules = c.deref.ensures.value ∙ (c.in_ok-zones.ensures ∙ ap (overlaid axes) c.as_slice-rules.ensures) in
    let merged : IsMerged (overlaid axes rules) c.in_ok-merged.merged.items = subst (λ (l : List Zone). IsMerged l c.in_ok-merged.merged.items) zones c.in_ok-merged.ensures in
    let answer = answer_law axes rules c.in_ok-merged.merged.items c.requires.axes c.requires.conditions c.requires.rules none merged in
    let same : cells_of axes c.in_ok-merged.merged.items ≡ cells_of axes c.deref-2.result.now = ap (cells_of axes) (sym c.deref-2.ensures.value) in
    let all : AreCells axes rules (cells_of axes c.deref-2.result.now) = subst (AreCells axes rules) same answer.1 in
    (answer.0, subst (λ (l : List Cell). AreCells axes rules l) (sym c.in_ok-cells_of.ensures) all)
