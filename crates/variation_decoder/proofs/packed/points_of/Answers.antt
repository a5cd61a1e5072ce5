use Rattle.std.proofs.Common.{◌≡◌, ◌+◌, get_or, arith}
use Rattle.std.proofs.lemmas.Bool.{lt-ltb, le-leb, or_left, or_right}
use Rattle.variation_decoder.specs.Points.{rising}
use Rattle.variation_decoder.proofs.Rising.{rising_goes_on, rising_stops, rising_is_done}
use Rattle.variation_decoder.proofs.packed.points_of.Goals as goal
use Rattle.variation_decoder.proofs.packed.points_of.Goals.{then-point-low-via-then-point-low, then-point-low-via-else-point-low+then-point-from}

pub returns : goal.returns
returns c =
    let l = c.loop-difference in
    rising_is_done l.points l.before l.low c.args.total l.difference-index c.args.differences.now (rising 0 0 c.args.total c.args.differences.now) c.loop-difference-test.false l.invariant.same

pub loop-difference-preserved : goal.loop-difference-preserved
loop-difference-preserved c =
    let l = c.loop-difference in
    let point = c.from.result + c.from-in-loop-difference.result in
    let sum : point ≡ l.before + get_or c.args.differences.now l.difference-index 0 = omega arith in
    record {
      same = rw c.in_ok-push.ensures.ok (rising_goes_on l.points l.before l.low c.args.total l.difference-index point c.args.differences.now (rising 0 0 c.args.total c.args.differences.now) c.loop-difference-test.true sum (omega arith) (omega arith) l.invariant.same);
      before = omega arith;
      low = omega arith;
    }

pub returns-then-point-low : goal.returns-then-point-low
returns-then-point-low c =
    let l = c.loop-difference in
    let point = c.from.result + c.from-in-loop-difference.result in
    let sum : point ≡ l.before + get_or c.args.differences.now l.difference-index 0 = omega arith in
    rising_stops l.points l.before l.low c.args.total l.difference-index point c.args.differences.now (rising 0 0 c.args.total c.args.differences.now) c.loop-difference-test.true sum
    (elim c.then-point-low.branch [
      | then-point-low-via-then-point-low w ↦ or_left _ _ (lt-ltb _ _ w.if-point-low.true)
      | then-point-low-via-else-point-low+then-point-from w ↦ or_right _ _ (le-leb c.args.total point (omega arith))
    ])
    l.invariant.same
