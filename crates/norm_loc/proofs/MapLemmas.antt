-- What a map without a fault keeps.
use Rattle.std.proofs.Common.{◌≡◌, ℤ, pos, neg_ℤ, ◌≤ℤ◌, Bool, true, false, Option, Some, None, refl, FitsSigned, arith, to_z, of_z, to_z-of_z, Result, Ok, Err}
use Rattle.std.proofs.lemmas.Int.{ints}
use Rattle.std.specs.Prelude.{int_lt, int_le, if◌then◌else◌, ◌&&◌, option_map}
use Rattle.std.specs.Int.{w32, w64}
use Rattle.std.specs.Result.{OkIff, result_ok}
use Rattle.norm_loc.specs.declared.stop.MapStop.{MapStop}
use Rattle.norm_loc.specs.declared.stop.MapStop.TheVariants.{MapOrder, MapRange, MapCollapse}
use Rattle.norm_loc.specs.AvarPairs.{fixed_pairs}
use Rattle.norm_loc.specs.AxisMaps.{Mapping, design_of, forward}
use Rattle.norm_loc.specs.MapFaults.{against, collapsed, fault_of, fits, is_in_range, or_else, unordered}
use Rattle.norm_loc.specs.Normalising.{AreRising, Limits, brought}
use Rattle.norm_loc.proofs.Choices.{at_most, both, lt_false, map_none, or_none, yes}
use Rattle.norm_loc.proofs.RisingLemmas.{followed_rises, ordered}

pub record IsFaultless (m : Mapping) : Type 0 where
  pub ordered_nodes : unordered m.nodes ≡ None
  pub in_range : is_in_range m ≡ true
  pub alone : against m.user (design_of m) fixed_pairs 0 m.nodes ≡ None

range_kept : (b : Bool) → (let o : Option MapStop = if b then None else Some MapRange in o ≡ None) → b ≡ true
range_kept true e = refl
range_kept false e = absurd cc

pub faultless_parts : (m : Mapping) → fault_of m ≡ None → IsFaultless m
faultless_parts m e =
    let first = or_none (option_map MapOrder (unordered m.nodes)) (or_else (if is_in_range m then None else Some MapRange) (option_map MapCollapse (collapsed m))) e in
    let second = or_none (if is_in_range m then None else Some MapRange) (option_map MapCollapse (collapsed m)) first.1 in
    let third = or_none (against m.user (design_of m) fixed_pairs 0 m.nodes) _ (map_none MapCollapse (collapsed m) second.1) in
    record { ordered_nodes = map_none MapOrder (unordered m.nodes) first.0; in_range = range_kept (is_in_range m) second.0; alone = third.0 }

pub brought_self : (a b v : ℤ) → a ≤ℤ v → v ≤ℤ b → brought a b v ≡ v
unfolding brought
brought_self a b v low high = rw (lt_false v a low, lt_false b v high) refl

pub brought_within : (a b v : ℤ) → a ≤ℤ b → (a ≤ℤ brought a b v) × (brought a b v ≤ℤ b)
unfolding brought
brought_within a b v less = by (int_lt v a) (int_lt b v) refl refl
  where
    by : (low high : Bool) → int_lt v a ≡ low → int_lt b v ≡ high → (a ≤ℤ (if low then a else (if high then b else v))) × ((if low then a else (if high then b else v)) ≤ℤ b)
    by true high l h = (omega (arith, ints), omega (arith, ints))
    by false true l h = (omega (arith, ints), omega (arith, ints))
    by false false l h = (omega (arith, ints), omega (arith, ints))

-- user values in order have design values in order
pub forward_rises : (m : Mapping) (v w : ℤ) → unordered m.nodes ≡ None → brought m.user.min m.user.max v ≤ℤ brought m.user.min m.user.max w → forward m v ≤ℤ forward m w
forward_rises m v w e less = followed_rises m.nodes (brought m.user.min m.user.max v) (brought m.user.min m.user.max w) (ordered m.nodes e) less

-- each design value lies between those of the ends
pub forward_within : (m : Mapping) → AreRising m.user → unordered m.nodes ≡ None → (v : ℤ) → (forward m m.user.min ≤ℤ forward m v) × (forward m v ≤ℤ forward m m.user.max)
forward_within m rise e v =
    let ends : m.user.min ≤ℤ m.user.max = omega (arith, ints, rise.low, rise.high) in
    let within = brought_within m.user.min m.user.max v ends in
    let least : brought m.user.min m.user.max m.user.min ≡ m.user.min = brought_self m.user.min m.user.max m.user.min (omega (arith, ints)) ends in
    let greatest : brought m.user.min m.user.max m.user.max ≡ m.user.max = brought_self m.user.min m.user.max m.user.max ends (omega (arith, ints)) in
    (forward_rises m m.user.min v e (rw least within.0), forward_rises m v m.user.max e (rw greatest within.1))

fits_of : (v : ℤ) → fits v ≡ true → FitsSigned w32 v
fits_of v e =
    let two = both (int_le (neg_ℤ (pos 2147483648)) v) (int_le v (pos 2147483647)) e in
    let low = at_most (neg_ℤ (pos 2147483648)) v two.0 in
    let high = at_most v (pos 2147483647) two.1 in
    omega (arith, ints)

pub forward_fits : (m : Mapping) → AreRising m.user → unordered m.nodes ≡ None → is_in_range m ≡ true → (v : ℤ) → FitsSigned w32 (forward m v)
forward_fits m rise e range v =
    let two = both (fits (forward m m.user.min)) (fits (forward m m.user.max)) range in
    let low : FitsSigned w32 (forward m m.user.min) = fits_of (forward m m.user.min) two.0 in
    let high : FitsSigned w32 (forward m m.user.max) = fits_of (forward m m.user.max) two.1 in
    let within = forward_within m rise e v in
    omega (arith, ints, within)

pub forward_between : (m : Mapping) → AreRising m.user → unordered m.nodes ≡ None → FitsSigned w32 (forward m m.user.min) → FitsSigned w32 (forward m m.user.max) → (v : ℤ) → FitsSigned w32 (forward m v)
forward_between m rise e low high v =
    let within = forward_within m rise e v in
    omega (arith, ints, within)

and_true : (a b : Bool) → a ≡ true → b ≡ true → (a && b) ≡ true
and_true true true e f = refl
and_true true false e f = absurd cc
and_true false b e f = absurd cc

fits_is : (v : ℤ) → FitsSigned w32 v → fits v ≡ true
fits_is v short =
    and_true (int_le (neg_ℤ (pos 2147483648)) v) (int_le v (pos 2147483647))
    (yes (int_le (neg_ℤ (pos 2147483648)) v) (λ (e : int_le (neg_ℤ (pos 2147483648)) v ≡ false). omega (arith, ints)))
    (yes (int_le v (pos 2147483647)) (λ (e : int_le v (pos 2147483647) ≡ false). omega (arith, ints)))

pub in_range_is : (m : Mapping) → FitsSigned w32 (forward m m.user.min) → FitsSigned w32 (forward m m.user.max) → is_in_range m ≡ true
in_range_is m low high =
    and_true (fits (forward m m.user.min)) (fits (forward m m.user.max)) (fits_is (forward m m.user.min) low) (fits_is (forward m m.user.max) high)

-- a number narrowed without a loss
pub narrowed : {E : Type 0} (t : Result ℤ E) (r y : ℤ) → FitsSigned w64 r → OkIff t (FitsSigned w32 (to_z w64 (of_z w64 r))) (to_z w64 (of_z w64 r)) → (let o : Option ℤ = Some y in o ≡ result_ok t) → FitsSigned w32 r × (y ≡ r)
narrowed (Ok z) r y wide told e =
    let short = simp to_z-of_z at told.0 in
    let same = simp to_z-of_z at told.1 in
    (short, cc)
narrowed (Err f) r y wide told e = absurd cc

pub same_limits : (a b c x y z : ℤ) → a ≡ x → b ≡ y → c ≡ z → (let l : Limits = record { min = a; default = b; max = c } in l ≡ (record { min = x; default = y; max = z }))
same_limits a b c x y z p q r = cc
