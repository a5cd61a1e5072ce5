use Rattle.std.proofs.Common.{◌≡◌, ◌+◌, ◌<◌, ℕ, ℤ, pos, negsuc, ◌+ℤ◌, ◌-ℤ◌, ◌≤ℤ◌, ◌<ℤ◌, inl, inr, ◌∙◌, ap, to_z, of_z, w32, arith}
use Rattle.std.specs.Prelude.{unsigned_abs}
use Rattle.std.proofs.lemmas.Int.{ints, to_z-of_z}
use Rattle.rule_boxes.specs.Grid.{least, steps}
use Rattle.rule_boxes.proofs.MarkLemmas.{set_marked, unmarked_value}
use Rattle.rule_boxes.proofs.grid.mark.Goals as goal
use Rattle.rule_boxes.proofs.grid.mark.Goals.{else-value-gtminus16384-via-then-value-gtminus16384+else-value-le16384, else-value-gtminus16384-via-else-value-gtminus16384}

-- the index of a value's mark
index_is : (value : ℤ) (index : ℕ) → negsuc 16383 <ℤ value → value ≤ℤ pos 16384 → index ≡ unsigned_abs (value -ℤ negsuc 16382) → (value ≡ least +ℤ pos (index + 1)) × (index < steps)
index_is value index low high is = (omega (arith, ints), omega (arith, ints))

pub returns-then-value-le16384 : goal.returns-then-value-le16384
returns-then-value-le16384 c =
    let value = c.args.value in
    let same : to_z w32 (of_z w32 value) ≡ value = to_z-of_z w32 value c.ranges.value in
    let low : negsuc 16383 <ℤ value = let h = c.if-value-gtminus16384.true in grind (arith, ints) in
    let high : value ≤ℤ pos 16384 = let h = c.if-value-le16384.true in grind (arith, ints) in
    let at = index_is value c.abs_diff.result low high (c.abs_diff.ensures ∙ ap (λ (z : ℤ). unsigned_abs (z -ℤ negsuc 16382)) same) in
    let count = c.requires in
    set_marked value least c.abs_diff.result c.args.marks.now at.0 (omega (arith, at.1))

pub returns-else-value-gtminus16384 : goal.returns-else-value-gtminus16384
returns-else-value-gtminus16384 c =
    let value = c.args.value in
    let same : to_z w32 (of_z w32 value) ≡ value = to_z-of_z w32 value c.ranges.value in
    elim c.else-value-gtminus16384.branch [
      | else-value-gtminus16384-via-then-value-gtminus16384+else-value-le16384 w ↦
          let high : pos 16384 <ℤ value = let h = w.if-value-le16384.false in grind (arith, ints) in
          unmarked_value value c.args.marks.now c.requires (inr high)
      | else-value-gtminus16384-via-else-value-gtminus16384 w ↦
          let low : value ≤ℤ least = let h = w.if-value-gtminus16384.false in grind (arith, ints) in
          unmarked_value value c.args.marks.now c.requires (inl low)
    ]
