use Rattle.std.proofs.Common.{◌≡◌, ℤ, List, FitsSigned, to_z-of_z, arith, ◌∙◌, sym, ap, subst}
use Rattle.std.proofs.lemmas.Int.{ints}
use Rattle.std.specs.Int.{w32, w64}
use Rattle.norm_loc.specs.AxisMaps.{Mapping, forward}
use Rattle.norm_loc.specs.Spans.{limits}
use Rattle.norm_loc.proofs.MapLemmas.{faultless_parts, forward_fits}
use Rattle.norm_loc.proofs.axis_map.forward.Goals as goal

pub overflow_cast-design_value : goal.overflow_cast-design_value
overflow_cast-design_value c =
    let m : Mapping = record { user = limits c.map.inside.user; nodes = c.map.inside.nodes } in
    let parts = faultless_parts m c.map.invariant.faultless in
    let fits = forward_fits m (record { low = c.map.inside.user.low; high = c.map.inside.user.high }) parts.ordered_nodes parts.in_range c.args.v in
    let value : c.design_value.result ≡ forward m c.args.v = c.design_value.ensures ∙ ap (λ (xs : List (ℤ × ℤ)). forward (record { user = limits c.map.inside.user; nodes = xs }) c.args.v) c.as_slice.ensures in
    let short : FitsSigned w32 c.design_value.result = subst (FitsSigned w32) (sym value) fits in
    let wide : FitsSigned w64 c.design_value.result = omega (arith, ints) in
    simp to_z-of_z short

pub returns : goal.returns
returns c =
    let m : Mapping = record { user = limits c.map.inside.user; nodes = c.map.inside.nodes } in
    let parts = faultless_parts m c.map.invariant.faultless in
    let fits = forward_fits m (record { low = c.map.inside.user.low; high = c.map.inside.user.high }) parts.ordered_nodes parts.in_range c.args.v in
    let value : c.design_value.result ≡ forward m c.args.v = c.design_value.ensures ∙ ap (λ (xs : List (ℤ × ℤ)). forward (record { user = limits c.map.inside.user; nodes = xs }) c.args.v) c.as_slice.ensures in
    let short : FitsSigned w32 c.design_value.result = subst (FitsSigned w32) (sym value) fits in
    let wide : FitsSigned w64 c.design_value.result = omega (arith, ints) in
    let raw : c.from_raw.result ≡ c.design_value.result = simp to_z-of_z at c.from_raw.ensures in
    raw ∙ (value ∙ ap (λ (n : Mapping). forward n c.args.v) c.map.view_is)
