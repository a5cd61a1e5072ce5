-- What a coordinate becomes by the pairs of an axis (OpenType, "avar", segment maps).
use Rattle.std.specs.Prelude.{ℤ, ◌+ℤ◌, ◌*ℤ◌, ◌-ℤ◌, ◌&&◌, List, ◌∷◌, Option, Some, None, if◌then◌else◌, int_le, int_lt, unsigned_abs}
use Rattle.fixpoint.specs.Rounding.{round_up}

-- on the line from one pair to another, rounded to the nearest, ties up
abbrev pub on_line : ℤ × ℤ → ℤ × ℤ → ℤ → ℤ
on_line p q v = p.1 +ℤ round_up ((q.1 -ℤ p.1) *ℤ (v -ℤ p.0)) (unsigned_abs (q.0 -ℤ p.0))

-- It lies between two neighbouring pairs, and becomes what lies on the line from one to the other. One that lies
-- between none becomes nothing.
abbrev pub mapped : List (ℤ × ℤ) → ℤ → Option ℤ
mapped (p ∷ q ∷ pairs) v =
    if int_lt p.0 q.0 && int_le p.0 v && int_le v q.0 then Some (on_line p q v) else mapped (q ∷ pairs) v
mapped _ v = None
