use Rattle.std.proofs.Common.{◌≡◌, ◌≤◌, ℕ, ℤ, List, length, map, take, ap, ◌∙◌, arith}
use Rattle.std.proofs.lemmas.Int.{ints}
use Rattle.std.proofs.lemmas.List.{take_all}
use Rattle.glif.specs.declared.shape.Point.{Point}
use Rattle.glif.specs.declared.shape.Outline.{Outline}
use Rattle.filters.specs.Shift.{shifted_point, shifted}
use Rattle.filters.proofs.shift.shifted.Goals as goal

same_outline : (dx dy right up advance : ℤ) (contours : List (List Point)) (outline : Outline) (n : ℕ) → contours ≡ map (map (shifted_point right up)) (take n outline.contours) → length outline.contours ≤ n
    → right ≡ dx → up ≡ dy → advance ≡ outline.advance → (let image : Outline = record { advance = advance; contours = contours } in image ≡ shifted dx dy outline)
same_outline dx dy right up advance contours outline n moved ends same_right same_up same = let all = take_all n outline.contours ends in cc

pub returns : goal.returns
returns c =
    let lengths = ap length c.as_slice-contour-items.ensures in
    same_outline c.args.dx c.args.dy _ _ _ c.from_vec.result c.args.outline.now _ (c.from_vec.ensures ∙ c.loop-contour.invariant) (omega (arith, lengths)) (omega (arith, ints)) (omega (arith, ints)) (omega (arith, ints))
