use Rattle.std.proofs.Common.{◌≡◌, ◌+◌, List, [], ◌∷◌, length, drop, refl, sym, ◌∙◌, ap}
use Rattle.std.proofs.lemmas.List.{drop_more, drop_all}
use Rattle.rule_boxes.specs.declared.condition.Condition.{Condition}
use Rattle.rule_boxes.specs.Grid.{turns_at, is_cut, least}
use Rattle.rule_boxes.specs.Marks.{marked_by}
use Rattle.rule_boxes.proofs.MarkLemmas.{length_marked, unmarked, marked_next}
use Rattle.rule_boxes.proofs.grid.mark_cuts.Goals as goal

pub loop-condition-preserved : goal.loop-condition-preserved
loop-condition-preserved c =
    let index = c.loop-condition.condition-index in
    let conditions = c.args.conditions.now in
    let axis = c.args.axis in
    let marks = c.loop-condition.marks in
    let condition = c.condition-item.result in
    let later = drop (index + 1) conditions in
    let split : drop index conditions ≡ condition ∷ later =
    drop_more conditions index condition c.loop-condition-test.true ∙ ap (λ (first : Condition). first ∷ later) (sym c.condition-item.is) in
    let marked : c.mark_condition.new.marks ≡ marked_by (λ value. turns_at axis value condition) least marks = c.mark_condition.ensures in
    record {
      count = ap length marked ∙ (length_marked (λ value. turns_at axis value condition) least marks ∙ c.loop-condition.invariant.count);
      rest = ap (marked_by (is_cut later axis) least) marked
          ∙ (marked_next condition later axis least marks
          ∙ (ap (λ (l : List Condition). marked_by (is_cut l axis) least marks) (sym split) ∙ c.loop-condition.invariant.rest));
    }

pub returns : goal.returns
returns c =
    let index = c.loop-condition.condition-index in
    let conditions = c.args.conditions.now in
    let axis = c.args.axis in
    let marks = c.loop-condition.marks in
    sym (unmarked (is_cut [] axis) least marks (λ k value here at. refl))
    ∙ (ap (λ (l : List Condition). marked_by (is_cut l axis) least marks) (sym (drop_all index conditions c.loop-condition-test.false)) ∙ c.loop-condition.invariant.rest)
