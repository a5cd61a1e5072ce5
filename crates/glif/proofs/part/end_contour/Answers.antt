use Rattle.std.proofs.Common.{map, sym, ◌∙◌}
use Rattle.markup_rules.specs.Tree.{children_of}
use Rattle.glif.specs.Contours.{contour_of}
use Rattle.glif.specs.Gathered.{IsContour}
use Rattle.glif.specs.Parts.{tag_alone}
use Rattle.glif.proofs.Alone.{by_tags, contour_alone, list_of_trees}
use Rattle.glif.proofs.Keeping.{contour_ended}
use Rattle.glif.proofs.part.end_contour.Goals as goal

pub returns : goal.returns
returns c = λ contour o g is.
    let gathered : IsContour c.args.contour.contour (children_of (by_tags contour)) = rw (list_of_trees (map tag_alone contour.children)) is.contour in
    let read = c.in_ok-held.ensures (contour_of (by_tags contour)) (c.end.ensures (by_tags contour) is.at gathered) in
    rw c.in_ok-shapes.ensures (contour_ended contour o g c.args.contour c.in_ok-held.field-0 is (sym (read ∙ contour_alone contour)))
