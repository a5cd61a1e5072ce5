-- The packed part of a tuple: when its points are all, and how many bytes it takes.
use Rattle.std.proofs.Common.{◌≡◌, ℕ, zero, suc, ◌+◌, ◌-◌, ◌*◌, ◌<◌, ◌≤◌, List, [], ◌∷◌, ◌++◌, length, map, All, FitsSigned, refl, ap, subst, ◌∙◌, arith, length-append, append_assoc}
use Rattle.std.specs.Int.{w16}
use Rattle.std.proofs.lemmas.List.Elements.{All-map}
use Rattle.fixpoint.specs.declared.plane.Pair.{Pair}
use Rattle.variation_rules.specs.PackedDeltas.{PacksDeltas}
use Rattle.variation_rules.specs.PackedPoints.{PacksPoints, RisesWithin, count_from}
use Rattle.variation_rules.specs.declared.tuple.TupleVariation.{TupleVariation}
use Rattle.gvar_table.specs.Layout.{IsWrittenPart}
use Rattle.gvar_table.specs.Tuples.{ArePointDeltas, IsDelta}

-- numbers that rise below an end rise below a later one
pub rises_wider : (low end wider : ℕ) (points : List ℕ) → end ≤ wider → RisesWithin low end points → RisesWithin low wider points
rises_wider low end wider [] h rises = tt
rises_wider low end wider (point ∷ points) h rises = (rises.0, omega (arith, h, rises.1), rises_wider (point + 1) end wider points h rises.2)

-- there are at most as many as have room
pub rises_few : (low end : ℕ) (points : List ℕ) → RisesWithin low end points → length points ≤ end - low
rises_few low end [] rises = omega arith
rises_few low end (point ∷ points) rises = omega (arith, rises.0, rises.1, rises_few (point + 1) end points rises.2)

-- and where there are as many, they are all
rises_all : (n low end : ℕ) (points : List ℕ) → end ≡ low + n → RisesWithin low end points → n ≤ length points → points ≡ count_from n low
rises_all zero low end [] e rises many = refl
rises_all zero low end (point ∷ points) e rises many = absurd (omega (arith, rises.0, rises.1))
rises_all (suc n) low end [] e rises many = absurd (omega arith)
rises_all (suc n) low end (point ∷ points) e rises many =
    let first : point ≡ low = omega (arith, rises.0, rises.1, rises_few (point + 1) end points rises.2) in
    let rest : points ≡ count_from n (point + 1) = rises_all n (point + 1) end points (omega (arith, first)) rises.2 (omega arith) in
    ap (λ p. p ∷ points) first ∙ ap (λ l. low ∷ l) (rest ∙ ap (λ p. count_from n (p + 1)) first)

-- as many points as a glyph has are all of them
pub all_points : (count : ℕ) (points : List ℕ) → RisesWithin 0 count points → count ≤ length points → points ≡ count_from count 0
all_points count points rises many = rises_all count 0 count points (omega arith) rises many

count_from_length : (n first : ℕ) → length (count_from n first) ≡ n
count_from_length zero first = refl
count_from_length (suc n) first = ap suc (count_from_length n (first + 1))

-- fewer aren't
pub not_all : (count : ℕ) (points : List ℕ) → length points < count → points ≡ count_from count 0 → ⊥
not_all count points few e = absurd (omega (arith, ap length e, count_from_length count 0))

-- the numbers of deltas are of 16 bits
pub xs_fit : (deltas : List Pair) → All IsDelta deltas → All (FitsSigned w16) (map (λ (delta : Pair). delta.x) deltas)
xs_fit deltas are = All-map (FitsSigned w16) (λ (delta : Pair). delta.x) deltas (λ k d h. (are k d h).x)

pub ys_fit : (deltas : List Pair) → All IsDelta deltas → All (FitsSigned w16) (map (λ (delta : Pair). delta.y) deltas)
ys_fit deltas are = All-map (FitsSigned w16) (λ (delta : Pair). delta.y) deltas (λ k d h. (are k d h).y)

-- the three packed lists one after another are the part of the tuple
pub written_part : (count : ℕ) (tuple : TupleVariation) (points point_bytes x_bytes y_bytes more part : List ℕ) (deltas : List Pair)
    → count ≤ 4004 → ArePointDeltas count tuple.points tuple.deltas
    → points ≡ tuple.points → deltas ≡ tuple.deltas
    → PacksPoints count point_bytes points → PacksDeltas x_bytes (map (λ (delta : Pair). delta.x) deltas) → PacksDeltas y_bytes (map (λ (delta : Pair). delta.y) deltas)
    → length point_bytes ≤ 2 + 3 * length points → length x_bytes ≤ 3 * length deltas → length y_bytes ≤ 3 * length deltas
    → more ≡ point_bytes ++ x_bytes → part ≡ more ++ y_bytes → IsWrittenPart count part tuple
written_part count tuple points point_bytes x_bytes y_bytes more part deltas few moves same_points same_deltas packs_points packs_x packs_y short_points short_x short_y first second =
    let joined : part ≡ point_bytes ++ (x_bytes ++ y_bytes) = second ∙ ap (λ m. m ++ y_bytes) first ∙ append_assoc point_bytes x_bytes y_bytes in
    let own : length tuple.points ≤ 4004 = omega (arith, rises_few 0 count tuple.points moves.rise) in
    record {
      is_part = record {
        point_bytes = point_bytes;
        x_bytes = x_bytes;
        y_bytes = y_bytes;
        points = subst (PacksPoints count point_bytes) same_points packs_points;
        xs = subst (λ (all : List Pair). PacksDeltas x_bytes (map (λ (delta : Pair). delta.x) all)) same_deltas packs_x;
        ys = subst (λ (all : List Pair). PacksDeltas y_bytes (map (λ (delta : Pair). delta.y) all)) same_deltas packs_y;
        one_each = moves.one_each;
        spelled = joined;
      };
      small = omega (arith, ap length joined, length-append point_bytes (x_bytes ++ y_bytes), length-append x_bytes y_bytes, ap length same_points, ap length same_deltas, moves.one_each, own);
    }
