use Rattle.std.proofs.Common.{◌≡◌, ℤ, ◌+ℤ◌, arith}
use Rattle.std.proofs.lemmas.Int.{ints}
use Rattle.glif.specs.declared.shape.Point.{Point}
use Rattle.filters.specs.Shift.{shifted_point}
use Rattle.filters.proofs.shift.shifted_point.Goals as goal

same_point : (dx dy x y : ℤ) (point : Point) → x ≡ point.x +ℤ dx → y ≡ point.y +ℤ dy → (let here : Point = record { x = x; y = y; on = point.on } in here ≡ shifted_point dx dy point)
same_point dx dy x y point right up = cc

pub returns : goal.returns
returns c = same_point c.args.dx c.args.dy _ _ c.args.point (omega (arith, ints)) (omega (arith, ints))
