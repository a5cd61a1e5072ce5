-- The count and the packed differences stand for the points.
use Rattle.std.proofs.Common.{◌≡◌, ◌++◌, length, ap, ◌∙◌, sym}
use Rattle.variation_rules.specs.PackedPoints.{points_after}
use Rattle.packed.specs.Differences.{count_bytes}
use Rattle.packed.proofs.PointRuns.{listed, listed_length}
use Rattle.packed.proofs.points.pack_points.Goals as goal

pub returns-clause-packed : goal.returns-clause-packed
returns-clause-packed c =
    let counted : c.push_count.new.bytes.items ≡ count_bytes (length c.args.points.now) = c.in_ok-push_count.ensures ∙ ap (λ b. b ++ count_bytes (length c.args.points.now)) c.new-bytes.ensures.items in
    let leads = c.in_ok-differences.ensures ∙ ap (points_after 0) (sym c.deref.ensures.value) in
    λ total rises. listed total _ _ _ _ c.requires.some c.requires.few rises leads counted c.in_ok-push_differences.ensures

pub returns-clause-short : goal.returns-clause-short
returns-clause-short c =
    let counted : c.push_count.new.bytes.items ≡ count_bytes (length c.args.points.now) = c.in_ok-push_count.ensures ∙ ap (λ b. b ++ count_bytes (length c.args.points.now)) c.new-bytes.ensures.items in
    let leads = c.in_ok-differences.ensures ∙ ap (points_after 0) (sym c.deref.ensures.value) in
    listed_length _ _ _ _ leads counted c.in_ok-push_differences.ensures
