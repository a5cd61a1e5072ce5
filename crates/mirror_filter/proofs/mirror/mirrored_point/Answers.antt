use Rattle.std.proofs.Common.{◌≡◌, ℤ, ◌-ℤ◌, arith}
use Rattle.std.proofs.lemmas.Int.{ints}
use Rattle.glif.specs.declared.shape.Point.{Point}
use Rattle.mirror_filter.specs.Mirror.{mirrored_point}
use Rattle.mirror_filter.proofs.mirror.mirrored_point.Goals as goal

same_point : (width x y : ℤ) (point : Point) → x ≡ width -ℤ point.x → y ≡ point.y → (let here : Point = record { x = x; y = y; on = point.on } in here ≡ mirrored_point width point)
same_point width x y point right up = cc

pub returns : goal.returns
returns c = same_point c.args.width _ _ c.args.point (omega (arith, ints)) (omega (arith, ints))
