use Rattle.std.proofs.Common.{◌≡◌, ◌∷◌, ap, length, arith}
use Rattle.std.specs.Vec.Iter.{into_iter_items}
use Rattle.compat.proofs.Faults.{outlines_more, first_few}
use Rattle.compat.proofs.outlines.outlines_of.Goals as goal

pub loop-drawing-preserved : goal.loop-drawing-preserved
loop-drawing-preserved c =
    let next : into_iter_items c.loop-drawing.rest ≡ c.in-Some.flat ∷ into_iter_items c.next.new.self = c.in-Some.ensures.items in
    let lengths = ap length next in
    let push = c.in_ok-push.ensures in (
      outlines_more c.args.drawings.now c.loop-drawing.drawing-index c.drawing-item.result c.in-Some.flat (into_iter_items c.loop-drawing.rest) (into_iter_items c.next.new.self) c.loop-drawing.outlines.items c.push.new.self.items _ c.outline_of.result c.into_contours.result
          c.loop-drawing-test.true c.drawing-item.is next c.into_contours.ensures c.outline_of.ensures c.loop-drawing.invariant.0 push.items,
      omega (arith, lengths, c.loop-drawing.invariant.1),
      (first_few c.in-Some.flat (into_iter_items c.loop-drawing.rest) (into_iter_items c.next.new.self) next c.loop-drawing.invariant.2).1,
    )

pub into_contours-requires : goal.into_contours-requires
into_contours-requires c =
    let next : into_iter_items c.loop-drawing.rest ≡ c.in-Some.flat ∷ into_iter_items c.next.new.self = c.in-Some.ensures.items in
    (first_few c.in-Some.flat (into_iter_items c.loop-drawing.rest) (into_iter_items c.next.new.self) next c.loop-drawing.invariant.2).0
