use Rattle.std.proofs.Common.{◌≡◌, ◌≤◌, ℕ, ℤ, List, length, map, take, ap, ◌∙◌, arith}
use Rattle.std.proofs.lemmas.Int.{ints}
use Rattle.std.proofs.lemmas.List.{take_all}
use Rattle.glif.specs.declared.shape.Point.{Point}
use Rattle.glif.specs.declared.shape.Outline.{Outline}
use Rattle.mirror_filter.specs.Mirror.{mirrored_point, mirrored}
use Rattle.mirror_filter.proofs.mirror.mirrored.Goals as goal

same_outline : (width sum advance : ℤ) (contours : List (List Point)) (outline : Outline) (n : ℕ) → contours ≡ map (map (mirrored_point sum)) (take n outline.contours) → length outline.contours ≤ n
    → sum ≡ width → advance ≡ outline.advance → (let image : Outline = record { advance = advance; contours = contours } in image ≡ mirrored width outline)
same_outline width sum advance contours outline n moved ends same_width same = let all = take_all n outline.contours ends in cc

pub returns : goal.returns
returns c =
    let lengths = ap length c.as_slice-contour-items.ensures in
    same_outline c.args.width _ _ c.from_vec.result c.args.outline.now _ (c.from_vec.ensures ∙ c.loop-contour.invariant) (omega (arith, lengths)) (omega (arith, ints)) (omega (arith, ints))
