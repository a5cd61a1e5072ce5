use Rattle.std.proofs.Common.{◌≡◌, FitsSigned, to_z-of_z, arith, ◌∙◌, sym, subst}
use Rattle.std.proofs.lemmas.Int.{ints}
use Rattle.std.specs.Int.{w32, w64}
use Rattle.norm_loc.specs.AxisMaps.{Mapping, forward}
use Rattle.norm_loc.specs.Normalising.{AreRising}
use Rattle.norm_loc.specs.Spans.{limits}
use Rattle.norm_loc.proofs.MapLemmas.{forward_between, forward_within, in_range_is, narrowed, same_limits}
use Rattle.norm_loc.proofs.axis_map.design_span.Goals as goal

pub overflow_cast-default : goal.overflow_cast-default
overflow_cast-default c =
    let m : Mapping = record { user = limits c.args.user.now; nodes = c.args.nodes.now } in
    let rise : AreRising m.user = record { low = c.args.user.now.low; high = c.args.user.now.high } in
    let least = narrowed c.try_from.result c.design_value.result c.in_ok-min.min (record { sfits = c.design_value.type_inv }) c.try_from.ensures c.in_ok-min.ensures.value in
    let greatest = narrowed c.try_from-2.result c.design_value-2.result c.in_ok-max.max (record { sfits = c.design_value-2.type_inv }) c.try_from-2.ensures c.in_ok-max.ensures.value in
    let low : FitsSigned w32 (forward m m.user.min) = subst (FitsSigned w32) c.design_value.ensures least.0 in
    let high : FitsSigned w32 (forward m m.user.max) = subst (FitsSigned w32) c.design_value-2.ensures greatest.0 in
    let fits = forward_between m rise c.requires low high m.user.default in
    let short : FitsSigned w32 c.design_value-default.result = subst (FitsSigned w32) (sym c.design_value-default.ensures) fits in
    let wide : FitsSigned w64 c.design_value-default.result = omega (arith, ints) in
    simp to_z-of_z short

pub invariant_of-result : goal.invariant_of-result
invariant_of-result c =
    let m : Mapping = record { user = limits c.args.user.now; nodes = c.args.nodes.now } in
    let rise : AreRising m.user = record { low = c.args.user.now.low; high = c.args.user.now.high } in
    let least = narrowed c.try_from.result c.design_value.result c.in_ok-min.min (record { sfits = c.design_value.type_inv }) c.try_from.ensures c.in_ok-min.ensures.value in
    let greatest = narrowed c.try_from-2.result c.design_value-2.result c.in_ok-max.max (record { sfits = c.design_value-2.type_inv }) c.try_from-2.ensures c.in_ok-max.ensures.value in
    let low : FitsSigned w32 (forward m m.user.min) = subst (FitsSigned w32) c.design_value.ensures least.0 in
    let high : FitsSigned w32 (forward m m.user.max) = subst (FitsSigned w32) c.design_value-2.ensures greatest.0 in
    let fits = forward_between m rise c.requires low high m.user.default in
    let short : FitsSigned w32 c.design_value-default.result = subst (FitsSigned w32) (sym c.design_value-default.ensures) fits in
    let wide : FitsSigned w64 c.design_value-default.result = omega (arith, ints) in
    let min_fits : FitsSigned w32 c.in_ok-min.min = subst (FitsSigned w32) (sym least.1) least.0 in
    let max_fits : FitsSigned w32 c.in_ok-max.max = subst (FitsSigned w32) (sym greatest.1) greatest.0 in
    let min : c.from_raw.result ≡ forward m m.user.min = (simp to_z-of_z at c.from_raw.ensures) ∙ (least.1 ∙ c.design_value.ensures) in
    let default : c.from_raw-2.result ≡ forward m m.user.default = (simp to_z-of_z at c.from_raw-2.ensures) ∙ c.design_value-default.ensures in
    let max : c.from_raw-3.result ≡ forward m m.user.max = (simp to_z-of_z at c.from_raw-3.ensures) ∙ (greatest.1 ∙ c.design_value-2.ensures) in
    let within = forward_within m rise c.requires m.user.default in
    record { low = omega (arith, ints, within, min, default); high = omega (arith, ints, within, max, default) }

pub returns : goal.returns
returns c =
    let m : Mapping = record { user = limits c.args.user.now; nodes = c.args.nodes.now } in
    let rise : AreRising m.user = record { low = c.args.user.now.low; high = c.args.user.now.high } in
    let least = narrowed c.try_from.result c.design_value.result c.in_ok-min.min (record { sfits = c.design_value.type_inv }) c.try_from.ensures c.in_ok-min.ensures.value in
    let greatest = narrowed c.try_from-2.result c.design_value-2.result c.in_ok-max.max (record { sfits = c.design_value-2.type_inv }) c.try_from-2.ensures c.in_ok-max.ensures.value in
    let low : FitsSigned w32 (forward m m.user.min) = subst (FitsSigned w32) c.design_value.ensures least.0 in
    let high : FitsSigned w32 (forward m m.user.max) = subst (FitsSigned w32) c.design_value-2.ensures greatest.0 in
    let fits = forward_between m rise c.requires low high m.user.default in
    let short : FitsSigned w32 c.design_value-default.result = subst (FitsSigned w32) (sym c.design_value-default.ensures) fits in
    let wide : FitsSigned w64 c.design_value-default.result = omega (arith, ints) in
    let min_fits : FitsSigned w32 c.in_ok-min.min = subst (FitsSigned w32) (sym least.1) least.0 in
    let max_fits : FitsSigned w32 c.in_ok-max.max = subst (FitsSigned w32) (sym greatest.1) greatest.0 in
    let min : c.from_raw.result ≡ forward m m.user.min = (simp to_z-of_z at c.from_raw.ensures) ∙ (least.1 ∙ c.design_value.ensures) in
    let default : c.from_raw-2.result ≡ forward m m.user.default = (simp to_z-of_z at c.from_raw-2.ensures) ∙ c.design_value-default.ensures in
    let max : c.from_raw-3.result ≡ forward m m.user.max = (simp to_z-of_z at c.from_raw-3.ensures) ∙ (greatest.1 ∙ c.design_value-2.ensures) in
    (same_limits c.from_raw.result c.from_raw-2.result c.from_raw-3.result (forward m m.user.min) (forward m m.user.default) (forward m m.user.max) min default max, in_range_is m low high)
