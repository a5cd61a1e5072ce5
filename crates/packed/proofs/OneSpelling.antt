-- A list of deltas, and a list of points, are packed in maximal runs in one way.
use Rattle.std.proofs.Common.{◌≡◌, ℕ, ℤ, ◌+◌, ◌<◌, inl, inr, List, [], ◌∷◌, ◌++◌, length, refl, sym, ap, ◌∙◌, arith}
use Rattle.variation_rules.specs.PackedDeltas.{DeltaRun, PacksDeltas, class_of_delta, delta_bytes}
use Rattle.variation_rules.specs.PackedPoints.{PointRun, IsCount, PacksListedPoints, class_of_difference, point_bytes, points_after}
use Rattle.packed.proofs.RunLists.{same_bytes}
use Rattle.packed.proofs.DeltaRuns as deltas
use Rattle.packed.proofs.PointRuns as points

pub one_of_deltas : (values : List ℤ) (bytes other : List ℕ) → PacksDeltas bytes values → PacksDeltas other values → bytes ≡ other
one_of_deltas values bytes other first second =
    let whole = deltas.to_whole first.runs first.are.each first.own in
    let wholly = deltas.to_whole second.runs second.are.each second.own in
    let same = same_bytes class_of_delta 64 (λ (r : DeltaRun). r.class) (λ (r : DeltaRun). r.values) delta_bytes first.runs second.runs whole wholly (deltas.to_long first.runs first.long) (deltas.to_long second.runs second.long) (sym first.are.meant ∙ second.are.meant) in
    first.are.spelled ∙ same ∙ sym second.are.spelled

-- differences are told by the numbers that they lead to
same_differences : (before : ℕ) (some more : List ℕ) → points_after before some ≡ points_after before more → some ≡ more
same_differences before [] [] e = refl
same_differences before [] (d ∷ more) e = cc
same_differences before (d ∷ some) [] e = cc
same_differences before (c ∷ some) (d ∷ more) e =
    let first : before + c ≡ before + d = cc in
    let rest : points_after (before + c) some ≡ points_after (before + d) more = cc in
    let one : c ≡ d = omega (arith, first) in
    ap (λ x. x ∷ some) one ∙ ap (λ l. d ∷ l) (same_differences (before + d) some more (ap (λ p. points_after p some) (sym first) ∙ rest))

-- a count in as few bytes as hold it has one spelling
one_count : (count : ℕ) (bytes other : List ℕ) → IsCount count bytes → IsCount count other → (count < 128 → length bytes ≡ 1) → (count < 128 → length other ≡ 1) → bytes ≡ other
one_count count bytes other (inl a) (inl b) short shorter = a.1 ∙ sym b.1
one_count count bytes other (inl a) (inr b) short shorter = absurd (omega (arith, shorter a.0, ap length b.1))
one_count count bytes other (inr a) (inl b) short shorter = absurd (omega (arith, short b.0, ap length a.1))
one_count count bytes other (inr a) (inr b) short shorter = a.1 ∙ sym b.1

pub one_of_points : (listed : List ℕ) (total some_total : ℕ) (bytes other : List ℕ) → PacksListedPoints total bytes listed → PacksListedPoints some_total other listed → bytes ≡ other
one_of_points listed total some_total bytes other first second =
    let whole = points.to_whole first.are.runs first.are.each first.own in
    let wholly = points.to_whole second.are.runs second.are.each second.own in
    let differ = same_differences 0 _ _ (sym first.are.meant ∙ second.are.meant) in
    let same = same_bytes class_of_difference 128 (λ (r : PointRun). r.class) (λ (r : PointRun). r.differences) point_bytes first.are.runs second.are.runs whole wholly (points.to_long first.are.runs first.long) (points.to_long second.are.runs second.long) differ in
    let count = one_count (length listed) first.are.count_bytes second.are.count_bytes first.are.count second.are.count first.short second.short in
    first.are.spelled ∙ ap (λ c. c ++ points.bytes_of first.are.runs) count ∙ ap (λ b. second.are.count_bytes ++ b) same ∙ sym second.are.spelled
