-- The scalar of a region at a location (OpenType, "Algorithm for interpolation of instance values"), in
-- fixed point: after each axis it is rounded to the nearest number, ties up.
use Rattle.std.specs.Prelude.{ℕ, ℤ, pos, ◌-ℤ◌, ◌*ℤ◌, ◌^◌, List, [], ◌∷◌, Bool, if◌then◌else◌, ◌||◌, ◌&&◌, int_lt, int_le}
use Rattle.std.specs.Ordering.{int_eq}
use Rattle.std.specs.Prelude.{unsigned_abs}
use Rattle.fixpoint.specs.Rounding.{round_up}
use Rattle.variation_rules.specs.declared.region.Triple.{Triple}

-- the axis doesn't count: no peak, an order that is none, or a region on both sides of the default
abbrev pub is_ignored : Triple → Bool
is_ignored t =
    int_eq t.peak (pos 0) || (int_lt t.peak t.start || (int_lt t.end t.peak || (int_lt t.start (pos 0) && int_lt (pos 0) t.end)))

-- the axis's factor as a fraction: 1 at the peak, 0 at and beyond the ends, a straight line between
abbrev pub height : Triple → ℤ → ℤ × ℤ
height t v =
    if int_lt v t.peak then (if int_le v t.start then (pos 0, pos 1) else (v -ℤ t.start, t.peak -ℤ t.start))
    else (if int_lt t.peak v then (if int_le t.end v then (pos 0, pos 1) else (t.end -ℤ v, t.end -ℤ t.peak))
    else (pos 1, pos 1))

abbrev pub factor : Triple → ℤ → ℤ × ℤ
factor t v = if is_ignored t then (pos 1, pos 1) else height t v

-- one axis more
unfoldable pub scaled : ℤ → Triple → ℤ → ℤ
scaled scalar t v = round_up (scalar *ℤ (factor t v).0) (unsigned_abs (factor t v).1)

-- the axes in order, from the scalar so far
abbrev pub scalar_from : ℤ → List Triple → List ℤ → ℤ
scalar_from scalar [] _ = scalar
scalar_from scalar (t ∷ ts) [] = scalar
scalar_from scalar (t ∷ ts) (v ∷ vs) = scalar_from (scaled scalar t v) ts vs

-- The scalar at a location of one coordinate an axis, in units of 2 to the minus places.
abbrev pub scalar_of : ℕ → List Triple → List ℤ → ℤ
scalar_of places region at = scalar_from (pos (2 ^ places)) region at
