use Rattle.std.proofs.Common.{length, ap, arith}
use Rattle.font_tables.proofs.ListSteps.{few_contours}
use Rattle.font_tables.proofs.fixed_fields.lengths_of.Goals as goal

pub overflow_cast-result-2 : goal.overflow_cast-result-2
overflow_cast-result-2 c =
    omega (arith, ap length c.as_slice-contours.ensures, few_contours c.args.outline.now.contours c.requires.contours_within, c.requires.points)
