use Rattle.std.proofs.Common.{◌≡◌, sym, ap, subst, ◌∙◌}
use Rattle.std.specs.Prelude.{All}
use Rattle.glif.specs.Limits.{IsPointWithin}
use Rattle.glyf_loca.specs.Bounds.{points_in}
use Rattle.glyf_loca.proofs.PointLemmas.{points_within}
use Rattle.glyf_loca.proofs.simple.put_glyph.Goals as goal

pub bounds_of-bounds-requires : goal.bounds_of-bounds-requires
bounds_of-bounds-requires c =
    let points_are : c.deref.result.now ≡ points_in c.args.outline.now.contours = c.deref.ensures.value ∙ c.in_ok-points.ensures ∙ ap points_in c.as_slice-contours.ensures in
    subst (All IsPointWithin) (sym points_are) (points_within c.args.outline.now.contours c.requires.within.contours_within)
