use Rattle.std.proofs.Common.{◌≡◌, ◌+◌, ℕ, List, Bool, length, drop, sym, ◌∙◌, ap, arith}
use Rattle.std.specs.List.{count_by}
use Rattle.std.proofs.lemmas.List.{take_at}
use Rattle.rule_boxes.specs.declared.condition.Condition.{Condition}
use Rattle.rule_boxes.specs.Grid.{is_cut, cuts_after, intervals_on, least, steps}
use Rattle.rule_boxes.specs.Marks.{marked_by}
use Rattle.rule_boxes.proofs.MarkLemmas.{length_marked, cuts_counted}
use Rattle.rule_boxes.proofs.grid.intervals_on.Goals as goal

is_one_more : (conditions : List Condition) (axis count : ℕ) → count ≡ cuts_after (is_cut conditions axis) least steps → count + 1 ≡ intervals_on conditions axis
unfolding intervals_on
is_one_more conditions axis count is = omega (arith, is)

pub returns-clause-value : goal.returns-clause-value
returns-clause-value c =
    let conditions = c.args.conditions.now in
    let axis = c.args.axis in
    let blank = c.in_ok-marks.marks.items in
    let after = c.mark_cuts.new.marks in
    let size = c.in_ok-marks.marks.len in
    let size_is : size ≡ 32768 = c.in_ok-marks.ensures.len in
    let marked : after ≡ marked_by (is_cut conditions axis) least blank =
    c.mark_cuts.ensures ∙ ap (marked_by (is_cut conditions axis) least) c.as_mut_slice.ensures.value in
    let long : length after ≡ size = ap length marked ∙ (length_marked (is_cut conditions axis) least blank ∙ sym c.in_ok-marks.marks.ok.0) in
    let whole : c.as_slice.result.now ≡ after = c.as_slice.ensures.value ∙ take_at after (drop (length after) blank) size long in
    let cuts = cuts_counted conditions axis 32768 blank (c.in_ok-marks.ensures.items_if_clones_equal (λ y same. same)) in
    is_one_more conditions axis c.count_of.result
    (c.count_of.ensures ∙ (ap (count_by (λ (mark : Bool). mark)) (whole ∙ marked) ∙ cuts))
