-- Faults of deltas, point by point and master by master.
use Rattle.std.proofs.Common.{◌≡◌, ℕ, suc, pos, false, ◌+◌, ◌-◌, ◌<◌, ◌≤◌, List, [], ◌∷◌, ◌++◌, length, map, flat_map, get_or, Option, Some, None, refl, sym, ◌∙◌, ap, subst, arith}
use Rattle.std.proofs.lemmas.List.{get_or-map}
use Rattle.fixpoint.specs.declared.plane.Pair.{Pair}
use Rattle.std.proofs.lemmas.List.Concat.{length-flat_map}
use Rattle.glif.specs.Limits.{IsWithinLimits}
use Rattle.glif.specs.declared.shape.Point.{Point}
use Rattle.glif.specs.declared.shape.Outline.{Outline}
use Rattle.variation_rules.specs.InferredDelta.{still}
use Rattle.variation_rules.specs.PackedPoints.{count_from}
use Rattle.delta_solve.specs.GlyphModels.{first_some, IsStopOf}
use Rattle.delta_solve.specs.Outlines.{all_points, position, x_at, y_at}
use Rattle.delta_solve.specs.declared.model.DeltaStop.{DeltaStop}
use Rattle.delta_solve.specs.declared.model.DeltaStop.TheVariants.{DeltaRange, NoMemory}

-- ---- the first fault

-- where there is none in prefix, it is the first of the rest
pub first_some_past : (a b : List (Option DeltaStop)) → first_some a ≡ None → first_some (a ++ b) ≡ first_some b
first_some_past [] b none = refl
first_some_past (None ∷ a) b none = first_some_past a b none
first_some_past (Some stop ∷ a) b none = absurd (cc)

-- and one in prefix stays the first
pub first_some_stays : (a b : List (Option DeltaStop)) (stop : DeltaStop) → first_some a ≡ Some stop → first_some (a ++ b) ≡ Some stop
first_some_stays [] b stop some = absurd (cc)
first_some_stays (None ∷ a) b stop some = first_some_stays a b stop some
first_some_stays (Some other ∷ a) b stop some = some

-- a call may stop with the fault
pub stop_of : (fault : Option DeltaStop) (stop : DeltaStop) → fault ≡ Some stop → IsStopOf fault stop
stop_of fault NoMemory is = tt
stop_of fault (DeltaRange master point y value) is = is

pub stop_before : (a b : List (Option DeltaStop)) (stop : DeltaStop) → IsStopOf (first_some a) stop → IsStopOf (first_some (a ++ b)) stop
stop_before a b NoMemory is = tt
stop_before a b (DeltaRange master point y value) is = first_some_stays a b (DeltaRange master point y value) is

-- the same of one fault after others
pub last_found : (prefix : List (Option DeltaStop)) (last : Option DeltaStop) (stop : DeltaStop) → first_some prefix ≡ None → last ≡ Some stop → IsStopOf (first_some (prefix ++ last ∷ [])) stop
last_found prefix last stop none is = stop_of (first_some (prefix ++ last ∷ [])) stop (first_some_past prefix (last ∷ []) none ∙ ap (λ fault. first_some (fault ∷ [])) is)

pub last_none : (prefix : List (Option DeltaStop)) (last : Option DeltaStop) → first_some prefix ≡ None → last ≡ None → first_some (prefix ++ last ∷ []) ≡ None
last_none prefix last none is = first_some_past prefix (last ∷ []) none ∙ ap (λ fault. first_some (fault ∷ [])) is

-- ---- the loop over points, and that over masters

-- what is left begins with this one
count_more : (n k : ℕ) → k < n → count_from (n - k) k ≡ k ∷ count_from (n - (k + 1)) (k + 1)
count_more n k inside =
    let left : n - k ≡ suc (n - (k + 1)) = omega arith in
    ap (λ (m : ℕ). count_from m k) left

-- without a fault here the first one is among those that are left
pub fault_passed : (faults : ℕ → List (Option DeltaStop)) (n k : ℕ) (whole : Option DeltaStop) → k < n → first_some (faults k) ≡ None → first_some (flat_map faults (count_from (n - k) k)) ≡ whole → first_some (flat_map faults (count_from (n - (k + 1)) (k + 1))) ≡ whole
fault_passed faults n k whole inside none so_far =
    let rest = flat_map faults (count_from (n - (k + 1)) (k + 1)) in
    sym (first_some_past (faults k) rest none) ∙ (sym (ap (λ numbers. first_some (flat_map faults numbers)) (count_more n k inside)) ∙ so_far)

-- and one here is the first of all
pub fault_found : (faults : ℕ → List (Option DeltaStop)) (n k : ℕ) (whole : Option DeltaStop) (stop : DeltaStop) → k < n → IsStopOf (first_some (faults k)) stop → first_some (flat_map faults (count_from (n - k) k)) ≡ whole → IsStopOf whole stop
fault_found faults n k whole stop inside is so_far =
    let rest = flat_map faults (count_from (n - (k + 1)) (k + 1)) in
    let whole_is : first_some (faults k ++ rest) ≡ whole = sym (ap (λ numbers. first_some (flat_map faults numbers)) (count_more n k inside)) ∙ so_far in
    subst (λ fault. IsStopOf fault stop) whole_is (stop_before (faults k) rest stop is)

-- at the end there is none
pub fault_none : (faults : ℕ → List (Option DeltaStop)) (n k : ℕ) (whole : Option DeltaStop) → n ≤ k → first_some (flat_map faults (count_from (n - k) k)) ≡ whole → whole ≡ None
fault_none faults n k whole ended so_far =
    let nothing : n - k ≡ 0 = omega arith in
    sym so_far ∙ ap (λ (m : ℕ). first_some (flat_map faults (count_from m k))) nothing

-- ---- the position of a point

abbrev pub origin : Point
origin = record { x = pos 0; y = pos 0; on = false }

pub x_here : (points : List Point) (k : ℕ) → k < length points → x_at k (map position points) ≡ (get_or points k origin).x
x_here points k inside = ap (λ (pair : Pair). pair.x) (get_or-map position points k origin still inside)

pub y_here : (points : List Point) (k : ℕ) → k < length points → y_at k (map position points) ≡ (get_or points k origin).y
y_here points k inside = ap (λ (pair : Pair). pair.y) (get_or-map position points k origin still inside)

-- ---- how many points an outline has

pub few_points : (outline : Outline) → IsWithinLimits outline → length (all_points outline) ≤ 4000
few_points outline within = omega (arith, length-flat_map (λ (contour : List Point). contour) outline.contours, within.points)
