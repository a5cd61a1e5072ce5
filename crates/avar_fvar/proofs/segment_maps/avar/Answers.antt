use Rattle.std.proofs.Common.{◌≡◌, ◌+◌, ◌<◌, ◌++◌, [], ◌∷◌, List, ℕ, take, get_or, ap, map, length, subst, sym, ◌∙◌, arith}
use Rattle.std.proofs.lemmas.Grind.{common_steps}
use Rattle.std.proofs.lemmas.List.{length-map, map_more, take_all}
use Rattle.std.proofs.lemmas.List.Elements.{All-push}
use Rattle.std.specs.Prelude.{All}
use Rattle.norm_loc.specs.PairBounds.{AreSegments}
use Rattle.avar_fvar.specs.SegmentMaps.{pairs_of, segment_maps_in}
use Rattle.avar_fvar.specs.declared.records.AxisRecord.{AxisRecord}
use Rattle.avar_fvar.proofs.SegmentReading.{avar_back, maps_as_axes}
use Rattle.avar_fvar.proofs.segment_maps.avar.Goals as goal

axis_more : (axes : List AxisRecord) (i : ℕ) (axis : AxisRecord) → i < length axes → axis ≡ get_or axes i axis → All AreSegments (map pairs_of (take i axes)) → AreSegments (pairs_of axis) → All AreSegments (map pairs_of (take (i + 1) axes))
axis_more axes i axis within is all own =
    subst (All AreSegments) (sym (map_more pairs_of axes i axis within ∙ ap (λ (a : AxisRecord). map pairs_of (take i axes) ++ pairs_of a ∷ []) (sym is)))
    (All-push AreSegments (map pairs_of (take i axes)) (pairs_of axis) all own)

pub loop-axis-preserved : goal.loop-axis-preserved
loop-axis-preserved c = record {
  written = grind (arith, common_steps);
  segments = axis_more c.as_slice-axes.result.now c.loop-axis.axis-index c.axis-item.result (omega arith) c.axis-item.is c.loop-axis.invariant.segments c.in_ok-put_axis_map.ensures.segments;
}

pub returns-clause-written : goal.returns-clause-written
returns-clause-written c = grind (arith, common_steps)

pub returns-clause-means : goal.returns-clause-means
returns-clause-means c =
    let axes : List AxisRecord = c.args.axes.now in
    let all : take c.loop-axis.axis-index c.as_slice-axes.result.now ≡ axes = take_all c.loop-axis.axis-index c.as_slice-axes.result.now (omega arith) ∙ c.as_slice-axes.ensures in
    let counted : length (map pairs_of axes) ≡ length axes = length-map axes pairs_of in
    ap segment_maps_in (returns-clause-written c)
    ∙ avar_back (map pairs_of axes) (omega (arith, counted)) (subst (λ (xs : List AxisRecord). All AreSegments (map pairs_of xs)) all c.loop-axis.invariant.segments)

pub returns-clause-maps : goal.returns-clause-maps
returns-clause-maps c =
    let axes : List AxisRecord = c.args.axes.now in
    let all : take c.loop-axis.axis-index c.as_slice-axes.result.now ≡ axes = take_all c.loop-axis.axis-index c.as_slice-axes.result.now (omega arith) ∙ c.as_slice-axes.ensures in
    maps_as_axes axes c.loop-axis.bytes.items (returns-clause-means c) (subst (λ (xs : List AxisRecord). All AreSegments (map pairs_of xs)) all c.loop-axis.invariant.segments)
