use Rattle.std.proofs.Common.{◌≡◌, ℤ, List, FitsSigned, to_z-of_z, arith, ◌∙◌, sym, ap, subst}
use Rattle.std.proofs.lemmas.Int.{ints}
use Rattle.std.specs.Int.{w32, w64}
use Rattle.norm_loc.specs.declared.follow.Direction.TheVariants.{Backward}
use Rattle.norm_loc.specs.AxisMaps.{Mapping, backward, design_of}
use Rattle.norm_loc.specs.Following.{KeysRise, followed}
use Rattle.norm_loc.specs.Normalising.{Limits, brought}
use Rattle.norm_loc.specs.Spans.{limits}
use Rattle.norm_loc.proofs.MapLemmas.{faultless_parts}
use Rattle.norm_loc.proofs.RisingLemmas.{keys_rise, ordered}
use Rattle.norm_loc.proofs.axis_map.backward.Goals as goal

pub followed-value-requires : goal.followed-value-requires
followed-value-requires c =
    let m : Mapping = record { user = limits c.map.inside.user; nodes = c.map.inside.nodes } in
    let parts = faultless_parts m c.map.invariant.faultless in
    let min : FitsSigned w64 c.wide.result = omega (arith, ints) in
    let max : FitsSigned w64 c.wide-2.result = omega (arith, ints) in
    let wide : FitsSigned w64 c.brought-value.result = omega (arith, ints) in
    let short : FitsSigned w32 c.brought-value.result = omega (arith, ints) in
    (omega arith, (subst (KeysRise Backward) (sym c.as_slice.ensures) (keys_rise Backward c.map.inside.nodes (ordered c.map.inside.nodes parts.ordered_nodes)), simp to_z-of_z short))

pub returns : goal.returns
returns c =
    let m : Mapping = record { user = limits c.map.inside.user; nodes = c.map.inside.nodes } in
    let min : FitsSigned w64 c.wide.result = omega (arith, ints) in
    let max : FitsSigned w64 c.wide-2.result = omega (arith, ints) in
    let w : FitsSigned w64 c.wide-3.result = omega (arith, ints) in
    let user_min : FitsSigned w64 c.wide-4.result = omega (arith, ints) in
    let user_max : FitsSigned w64 c.wide-5.result = omega (arith, ints) in
    let at : FitsSigned w64 c.brought-value.result = omega (arith, ints) in
    let found : FitsSigned w64 c.followed-value.result = record { sfits = c.followed-value.type_inv } in
    let wide : FitsSigned w64 c.brought-value-2.result = omega (arith, ints) in
    let short : FitsSigned w32 c.brought-value-2.result = omega (arith, ints) in
    let raw : c.from_raw.result ≡ c.brought-value-2.result = simp to_z-of_z at c.from_raw.ensures in
    let last : c.brought-value-2.result ≡ brought c.wide-4.result c.wide-5.result c.followed-value.result = simp to_z-of_z at c.brought-value-2.ensures.value in
    let last_own = rw (c.wide-4.ensures.value, c.wide-5.ensures.value) at last in
    let middle : c.followed-value.result ≡ followed Backward c.as_slice.result.now c.brought-value.result = simp to_z-of_z at c.followed-value.ensures in
    let first : c.brought-value.result ≡ brought c.wide.result c.wide-2.result c.wide-3.result = simp to_z-of_z at c.brought-value.ensures.value in
    let first_own = rw (c.wide.ensures.value, c.wide-2.ensures.value, c.wide-3.ensures.value) at first in
    let spans = ap (λ (l : Limits). brought l.min l.max c.args.w) c.map.invariant.spans in
    let whole : c.followed-value.result ≡ followed Backward c.map.inside.nodes (brought (design_of m).min (design_of m).max c.args.w) =
    middle ∙ (ap (λ (xs : List (ℤ × ℤ)). followed Backward xs c.brought-value.result) c.as_slice.ensures ∙ ap (followed Backward c.map.inside.nodes) (first_own ∙ spans)) in
    raw ∙ (last_own ∙ (ap (brought c.map.inside.user.min c.map.inside.user.max) whole ∙ ap (λ (n : Mapping). backward n c.args.w) c.map.view_is))
