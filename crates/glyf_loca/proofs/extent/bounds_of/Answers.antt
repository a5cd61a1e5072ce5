-- The points are none, or a first one and the rest.
use Rattle.std.proofs.Common.{◌≡◌, ◌-◌, pos, false, List, ◌∷◌, length, drop, take, get_or, sym, ap, ◌∙◌, arith}
use Rattle.std.proofs.lemmas.List.{drop_more, nil_from_length, take_rest}
use Rattle.std.proofs.lemmas.List.Elements.{All-drop, All-take}
use Rattle.glif.specs.Limits.{IsPointWithin}
use Rattle.glif.specs.declared.shape.Point.{Point}
use Rattle.glyf_loca.specs.Bounds.{bounds_of}
use Rattle.glyf_loca.proofs.BoundsLemmas.{bounds_by_steps}
use Rattle.glyf_loca.proofs.extent.bounds_of.Goals as goal

pub returns-in_default : goal.returns-in_default
unfolding bounds_of
returns-in_default c = sym (ap bounds_of (nil_from_length c.args.points.now (omega arith)))

pub extended-bounds-requires : goal.extended-bounds-requires
extended-bounds-requires c =
    let points : List Point = c.args.points.now in
    All-take IsPointWithin (length points - 1) (drop 1 points) (All-drop IsPointWithin 1 points c.requires) c.loop-point.point-index _ c.loop-point-test.true

pub returns : goal.returns
returns c =
    let points : List Point = c.args.points.now in
    let point : Point = get_or points 0 (record { x = pos 0; y = pos 0; on = false }) in
    let rest : List Point = take (length points - 1) (drop 1 points) in
    let kept = c.loop-point.invariant in
    let whole : points ≡ point ∷ rest = drop_more points 0 (record { x = pos 0; y = pos 0; on = false }) (omega arith) ∙ ap (λ (ps : List Point). point ∷ ps) (sym (take_rest points 1)) in
    bounds_by_steps point rest c.loop-point.point-index c.at-bounds.result c.loop-point.bounds c.loop-point-test.false c.at-bounds.ensures kept.x_min kept.y_min kept.x_max kept.y_max
    ∙ ap bounds_of (sym whole)
