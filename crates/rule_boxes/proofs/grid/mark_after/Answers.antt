use Rattle.std.proofs.Common.{◌≡◌, pos, ◌+ℤ◌, ◌<ℤ◌, inr, to_z, of_z, w32, arith}
use Rattle.std.proofs.lemmas.Int.{ints, to_z-of_z}
use Rattle.rule_boxes.proofs.MarkLemmas.{unmarked_value}
use Rattle.rule_boxes.proofs.grid.mark_after.Goals as goal

pub returns-else-value-lt16384 : goal.returns-else-value-lt16384
returns-else-value-lt16384 c =
    let value = c.args.value in
    let same : to_z w32 (of_z w32 value) ≡ value = to_z-of_z w32 value c.ranges.value in
    let high : pos 16384 <ℤ (value +ℤ pos 1) = let h = c.if-value-lt16384.false in grind (arith, ints) in
    unmarked_value (value +ℤ pos 1) c.args.marks.now c.requires (inr high)
