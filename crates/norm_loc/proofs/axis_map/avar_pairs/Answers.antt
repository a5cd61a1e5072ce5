use Rattle.std.proofs.Common.{◌≡◌, ℤ, List, ◌∙◌, sym, subst}
use Rattle.std.proofs.lemmas.Result.{IfOk-weaker}
use Rattle.norm_loc.specs.AvarPairs.{avar_pairs}
use Rattle.norm_loc.specs.AxisMaps.{Mapping, design_of}
use Rattle.norm_loc.specs.Normalising.{AreRising}
use Rattle.norm_loc.specs.PairBounds.{AreSegments}
use Rattle.norm_loc.specs.Spans.{limits}
use Rattle.norm_loc.proofs.SegmentLemmas.{avar_pairs_segments}
use Rattle.norm_loc.proofs.axis_map.avar_pairs.Goals as goal

pub returns-clause-segments : goal.returns-clause-segments
returns-clause-segments c =
    let m : Mapping = record { user = limits c.map.inside.user; nodes = c.map.inside.nodes } in
    let rise : AreRising m.user = record { low = c.map.inside.user.low; high = c.map.inside.user.high } in
    let own : AreRising (limits c.map.inside.design) = record { low = c.map.inside.design.low; high = c.map.inside.design.high } in
    let design : AreRising (design_of m) = subst AreRising c.map.invariant.spans own in
    let pairs : c.as_slice.result.now ≡ avar_pairs m = c.as_slice.ensures ∙ c.map.invariant.made in
    let segments : AreSegments c.as_slice.result.now = subst AreSegments (sym pairs) (avar_pairs_segments m rise design) in
    IfOk-weaker c.copied.result (λ (copy : List (ℤ × ℤ)). copy ≡ c.as_slice.result.now) AreSegments (λ copy same. subst AreSegments (sym same) segments) c.copied.ensures
