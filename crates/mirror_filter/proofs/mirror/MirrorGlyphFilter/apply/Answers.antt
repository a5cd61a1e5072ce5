use Rattle.std.proofs.Common.{length}
use Rattle.std.specs.Prelude.{sum_by}
use Rattle.glif.specs.declared.shape.Outline.{Outline}
use Rattle.glif.specs.Shapes.{contour_kinds}
use Rattle.mirror_filter.proofs.Images.{kinds_mirrored, points_mirrored, alike_mirrored, applied_has}
use Rattle.mirror_filter.proofs.mirror.MirrorGlyphFilter.apply.Goals as goal

pub returns-clause-kinds_follow : goal.returns-clause-kinds_follow
returns-clause-kinds_follow c = applied_has contour_kinds _ _ c.image_of-answer.result c.image_of-answer.ensures (kinds_mirrored _ c.args.outline.now)

pub returns-clause-points : goal.returns-clause-points
returns-clause-points c = applied_has (λ (outline : Outline). sum_by length outline.contours) _ _ c.image_of-answer.result c.image_of-answer.ensures (points_mirrored _ c.args.outline.now)

pub returns-clause-alike : goal.returns-clause-alike
returns-clause-alike c = alike_mirrored c.args.self.now.width
