use Rattle.std.proofs.Common.{map}
use Rattle.markup_rules.specs.Outcome.{begun}
use Rattle.markup.specs.Tags.{opening_of}
use Rattle.glif.specs.Parts.{tag_alone}
use Rattle.glif.proofs.Keeping.{point_begun}
use Rattle.glif.proofs.part.start_point.Goals as goal

pub returns : goal.returns
returns c = λ root contour o g is.
    let tag = c.args.tag.now in
    rw c.passing_at.ensures (point_begun contour o g (begun tag.at (opening_of tag)) c.args.contour _ is (c.in_ok-take.ensures (map tag_alone contour.children) is.contour))
