use Rattle.std.proofs.Common.{ℕ, List, ◌++◌, ◌∷◌, [], ap, sym, ◌∙◌}
use Rattle.variation_decoder.proofs.Rising.{count_from_more}
use Rattle.variation_decoder.proofs.packed.all_points.Goals as goal

pub loop-point-preserved : goal.loop-point-preserved
loop-point-preserved c =
    c.in_ok-push.ensures.ok ∙ ap (λ (points : List ℕ). points ++ c.loop-point.point ∷ []) c.loop-point.invariant ∙ sym (count_from_more c.loop-point.point)
