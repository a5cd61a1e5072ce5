use Rattle.std.proofs.Common.{◌≡◌, ℕ, pos, arith}
use Rattle.std.proofs.lemmas.List.{length_push}
use Rattle.fixpoint.specs.declared.plane.Pair.{Pair}
use Rattle.variation_rules.specs.DrawnOutline.{drawn}
use Rattle.variation_rules.specs.declared.drawing.DrawnPoint.{DrawnPoint}
use Rattle.variation_rules.proofs.FillingLemmas.{each_pushed}
use Rattle.variation_rules.proofs.drawing.draw.Goals as goal

-- one point more
pub loop-i-preserved : goal.loop-i-preserved
loop-i-preserved c =
    let points = c.args.points.now in
    let at = c.args.at.now in
    let tuples = c.as_slice-tuples.result.now in
    let fills = c.in-Some.fills.items in
    let before = c.loop-i.drawn.items in
    let origin : DrawnPoint = record { x = pos 0; y = pos 0 } in
    rw c.in_ok-push.ensures.items (record {
      count = omega (arith, length_push before c.moved_point.result);
      x = each_pushed (λ (k : ℕ) (p : DrawnPoint). p.x ≡ drawn (λ (point : Pair). point.x) points at tuples fills k) before c.moved_point.result origin c.loop-i.i c.loop-i.invariant.count c.loop-i.invariant.x (rw (← c.deref.ensures.value) c.moved_point.ensures.x);
      y = each_pushed (λ (k : ℕ) (p : DrawnPoint). p.y ≡ drawn (λ (point : Pair). point.y) points at tuples fills k) before c.moved_point.result origin c.loop-i.i c.loop-i.invariant.count c.loop-i.invariant.y (rw (← c.deref.ensures.value) c.moved_point.ensures.y);
    })
