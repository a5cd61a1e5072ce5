use Rattle.std.proofs.Common.{◌≡◌, ℤ, pos, neg_ℤ, ◌≤ℤ◌, List, FitsSigned, to_z-of_z, arith, ◌∙◌, sym, ap, subst}
use Rattle.std.proofs.lemmas.Int.{ints}
use Rattle.std.specs.Int.{w32, w64}
use Rattle.norm_loc.specs.declared.follow.Direction.TheVariants.{Forward}
use Rattle.norm_loc.specs.AvarPairs.{avar_at, avar_pairs}
use Rattle.norm_loc.specs.AxisMaps.{Mapping, design_of}
use Rattle.norm_loc.specs.Following.{KeysRise, followed}
use Rattle.norm_loc.specs.Normalising.{AreRising}
use Rattle.norm_loc.specs.Spans.{limits}
use Rattle.norm_loc.specs.PairBounds.{IsCoordinate}
use Rattle.norm_loc.proofs.BoundLemmas.{avar_pairs_pairs, followed_fits}
use Rattle.norm_loc.proofs.PairLemmas.{avar_pairs_rise}
use Rattle.norm_loc.proofs.SegmentLemmas.{avar_at_coordinate}
use Rattle.norm_loc.proofs.axis_map.avar_at.Goals as goal

pub followed-requires : goal.followed-requires
followed-requires c =
    let m : Mapping = record { user = limits c.map.inside.user; nodes = c.map.inside.nodes } in
    let wide : FitsSigned w64 c.wide.result = omega (arith, ints) in
    let short : FitsSigned w32 c.wide.result = omega (arith, ints) in
    let pairs : c.as_slice.result.now ≡ avar_pairs m = c.as_slice.ensures ∙ c.map.invariant.made in
    (omega arith, (subst (KeysRise Forward) (sym pairs) (avar_pairs_rise m), simp to_z-of_z short))

pub overflow_cast-followed : goal.overflow_cast-followed
overflow_cast-followed c =
    let m : Mapping = record { user = limits c.map.inside.user; nodes = c.map.inside.nodes } in
    let rise : AreRising m.user = record { low = c.map.inside.user.low; high = c.map.inside.user.high } in
    let own : AreRising (limits c.map.inside.design) = record { low = c.map.inside.design.low; high = c.map.inside.design.high } in
    let design : AreRising (design_of m) = subst AreRising c.map.invariant.spans own in
    let at : FitsSigned w64 c.wide.result = omega (arith, ints) in
    let coordinate : IsCoordinate c.wide.result = record { low = omega (arith, ints); high = omega (arith, ints) } in
    let pairs : c.as_slice.result.now ≡ avar_pairs m = c.as_slice.ensures ∙ c.map.invariant.made in
    let followed_is : c.followed.result ≡ followed Forward c.as_slice.result.now c.wide.result = simp to_z-of_z at c.followed.ensures in
    let value : c.followed.result ≡ followed Forward (avar_pairs m) c.wide.result = followed_is ∙ ap (λ (xs : List (ℤ × ℤ)). followed Forward xs c.wide.result) pairs in
    let short : FitsSigned w32 c.followed.result = subst (FitsSigned w32) (sym value) (followed_fits (avar_pairs m) c.wide.result (avar_pairs_pairs m rise design) coordinate) in
    let wide : FitsSigned w64 c.followed.result = omega (arith, ints) in
    simp to_z-of_z short

pub returns-clause-value : goal.returns-clause-value
returns-clause-value c =
    let m : Mapping = record { user = limits c.map.inside.user; nodes = c.map.inside.nodes } in
    let rise : AreRising m.user = record { low = c.map.inside.user.low; high = c.map.inside.user.high } in
    let own : AreRising (limits c.map.inside.design) = record { low = c.map.inside.design.low; high = c.map.inside.design.high } in
    let design : AreRising (design_of m) = subst AreRising c.map.invariant.spans own in
    let at : FitsSigned w64 c.wide.result = omega (arith, ints) in
    let coordinate : IsCoordinate c.wide.result = record { low = omega (arith, ints); high = omega (arith, ints) } in
    let pairs : c.as_slice.result.now ≡ avar_pairs m = c.as_slice.ensures ∙ c.map.invariant.made in
    let followed_is : c.followed.result ≡ followed Forward c.as_slice.result.now c.wide.result = simp to_z-of_z at c.followed.ensures in
    let value : c.followed.result ≡ followed Forward (avar_pairs m) c.wide.result = followed_is ∙ ap (λ (xs : List (ℤ × ℤ)). followed Forward xs c.wide.result) pairs in
    let short : FitsSigned w32 c.followed.result = subst (FitsSigned w32) (sym value) (followed_fits (avar_pairs m) c.wide.result (avar_pairs_pairs m rise design) coordinate) in
    let wide : FitsSigned w64 c.followed.result = omega (arith, ints) in
    let raw : c.from_raw.result ≡ c.followed.result = simp to_z-of_z at c.from_raw.ensures in
    raw ∙ (value ∙ (ap (followed Forward (avar_pairs m)) c.wide.ensures.value ∙ ap (λ (n : Mapping). avar_at n c.args.v) c.map.view_is))

-- what a coordinate becomes is one
becomes : (map : Mapping) (m : Mapping) (v result : ℤ) → m ≡ map → AreRising m.user → AreRising (design_of m) → neg_ℤ (pos 16384) ≤ℤ v → v ≤ℤ pos 16384 → result ≡ avar_at map v → IsCoordinate result
becomes map m v result is rise fall low high value =
    subst IsCoordinate (sym (value ∙ ap (λ (n : Mapping). avar_at n v) (sym is))) (avar_at_coordinate m rise fall v (record { low = low; high = high }))

pub returns-clause-low : goal.returns-clause-low
returns-clause-low c =
    let own : AreRising (limits c.map.inside.design) = record { low = c.map.inside.design.low; high = c.map.inside.design.high } in
    (becomes c.args.map.now (record { user = limits c.map.inside.user; nodes = c.map.inside.nodes }) c.args.v c.from_raw.result c.map.view_is
    (record { low = c.map.inside.user.low; high = c.map.inside.user.high }) (subst AreRising c.map.invariant.spans own) c.requires.low c.requires.high (returns-clause-value c)).low

pub returns-clause-high : goal.returns-clause-high
returns-clause-high c =
    let own : AreRising (limits c.map.inside.design) = record { low = c.map.inside.design.low; high = c.map.inside.design.high } in
    (becomes c.args.map.now (record { user = limits c.map.inside.user; nodes = c.map.inside.nodes }) c.args.v c.from_raw.result c.map.view_is
    (record { low = c.map.inside.user.low; high = c.map.inside.user.high }) (subst AreRising c.map.invariant.spans own) c.requires.low c.requires.high (returns-clause-value c)).high
