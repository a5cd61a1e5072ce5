use Rattle.std.proofs.Common.{◌≡◌, ℤ, pos, ◌+ℤ◌, true, false, ◌∙◌, sym, ap, to_z, of_z, w32, FitsSigned, int_eq, eq-eqb, rules}
use Rattle.std.specs.Prelude.{int_le, nat_eq}
use Rattle.std.proofs.lemmas.Int.{to_z-of_z}
use Rattle.std.proofs.lemmas.Bool.{ne_eqb, and_left, and_right}
use Rattle.rule_boxes.specs.Grid.{least}
use Rattle.rule_boxes.specs.Marks.{marked_by}
use Rattle.rule_boxes.proofs.MarkLemmas.{condition_marked, condition_unmarked}
use Rattle.rule_boxes.proofs.grid.mark_condition.Goals as goal
use Rattle.rule_boxes.proofs.grid.mark_condition.Goals.{else-condition-axis-via-then-condition-axis+else-raw, else-condition-axis-via-else-condition-axis}

pub returns-then-raw : goal.returns-then-raw
returns-then-raw c =
    let condition = c.args.condition.now in
    let axis = c.args.axis in
    let low_fits : FitsSigned w32 c.raw.result = search rules in
    let high_fits : FitsSigned w32 c.raw-then-condition-axis.result = search rules in
    let low_again_fits : FitsSigned w32 c.raw-then-raw.result = search rules in
    let high_again_fits : FitsSigned w32 c.raw-then-raw-2.result = search rules in
    let low : to_z w32 (of_z w32 c.raw.result) ≡ condition.low = to_z-of_z w32 c.raw.result low_fits ∙ c.raw.ensures in
    let high : to_z w32 (of_z w32 c.raw-then-condition-axis.result) ≡ condition.high = to_z-of_z w32 c.raw-then-condition-axis.result high_fits ∙ c.raw-then-condition-axis.ensures in
    let low_again : to_z w32 (of_z w32 c.raw-then-raw.result) ≡ condition.low = to_z-of_z w32 c.raw-then-raw.result low_again_fits ∙ c.raw-then-raw.ensures in
    let high_again : to_z w32 (of_z w32 c.raw-then-raw-2.result) ≡ condition.high = to_z-of_z w32 c.raw-then-raw-2.result high_again_fits ∙ c.raw-then-raw-2.ensures in
    let some : int_le condition.low condition.high ≡ true = (λ k. int_le (sym low k) (sym high k)) ∙ c.if-raw.true in
    let first : c.mark.new.marks ≡ marked_by (λ other. int_eq other (to_z w32 (of_z w32 c.raw-then-raw.result))) least c.args.marks.now = c.mark.ensures in
    let second : c.mark_after.new.marks ≡ marked_by (λ other. int_eq other (to_z w32 (of_z w32 c.raw-then-raw-2.result) +ℤ pos 1)) least c.mark.new.marks = c.mark_after.ensures in
    second ∙ ((λ k. marked_by (λ other. int_eq other (high_again k +ℤ pos 1)) least ((first ∙ ap (λ (z : ℤ). marked_by (λ other. int_eq other z) least c.args.marks.now) low_again) k))
    ∙ condition_marked condition axis least c.args.marks.now (eq-eqb condition.axis axis c.if-condition-axis.true) some)

pub returns-else-condition-axis : goal.returns-else-condition-axis
returns-else-condition-axis c =
    let condition = c.args.condition.now in
    let axis = c.args.axis in
    elim c.else-condition-axis.branch [
      | else-condition-axis-via-then-condition-axis+else-raw w ↦
          let low_fits : FitsSigned w32 w.raw.result = search rules in
          let high_fits : FitsSigned w32 w.raw-then-condition-axis.result = search rules in
          let low : to_z w32 (of_z w32 w.raw.result) ≡ condition.low = to_z-of_z w32 w.raw.result low_fits ∙ w.raw.ensures in
          let high : to_z w32 (of_z w32 w.raw-then-condition-axis.result) ≡ condition.high = to_z-of_z w32 w.raw-then-condition-axis.result high_fits ∙ w.raw-then-condition-axis.ensures in
          let none : int_le condition.low condition.high ≡ false = (λ k. int_le (sym low k) (sym high k)) ∙ w.if-raw.false in
          condition_unmarked condition axis least c.args.marks.now (and_right (nat_eq condition.axis axis) (int_le condition.low condition.high) none)
      | else-condition-axis-via-else-condition-axis w ↦
          condition_unmarked condition axis least c.args.marks.now (and_left (nat_eq condition.axis axis) (int_le condition.low condition.high) (ne_eqb condition.axis axis w.if-condition-axis.false))
    ]
