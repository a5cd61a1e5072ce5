use Rattle.std.proofs.Common.{length, sum, ap, arith}
use Rattle.glyph_variations.specs.Conditions.{default_points}
use Rattle.font_tables.proofs.ListSteps.{points_count}
use Rattle.font_tables.proofs.drawings.outline_of.Goals as goal

pub contours_of-requires : goal.contours_of-requires
contours_of-requires c =
    let on = c.as_slice.result.now in
    let positions = c.default_points.result.now in
    let tuples = ap (λ t. length (default_points t)) c.as_slice-tuples.ensures in
    let count = points_count on positions (omega (arith, ap length c.as_slice.ensures, ap length c.default_points.ensures, tuples, c.requires.kinds)) in
    omega (arith, ap sum c.as_slice-2.ensures, ap length c.deref.ensures.value, ap length c.in_ok-points.ensures, count, ap length c.default_points.ensures, tuples, c.requires.contours)
