use Rattle.std.proofs.Common.{◌≡◌, sym, ap, ◌∙◌}
use Rattle.markup_rules.specs.Reading.{is_nil}
use Rattle.glif.specs.Contours.{point_of}
use Rattle.glif.proofs.Gathering.{fault_drawn, faulty_drawn, nil_test, point_drawn}
use Rattle.glif.proofs.contour.Contour.draw.Goals as goal

pub returns-then-is_some-clause-drawn : goal.returns-then-is_some-clause-drawn
returns-then-is_some-clause-drawn g c = λ trees before.
    faulty_drawn c.args.self.now.fault c.args.self.now.drawn trees (g.T.Tagged.tree c.args.element.now) (sym c.is_some.ensures ∙ c.if-is_some.true) before

pub returns-in-Ok-clause-drawn : goal.returns-in-Ok-clause-drawn
returns-in-Ok-clause-drawn g c = λ trees before.
    let tree = g.T.Tagged.tree c.args.element.now in
    let first : is_nil c.args.self.now.drawn.points ≡ c.is_empty-is_first.result = sym (nil_test c.args.self.now.drawn.points) ∙ sym c.is_empty-is_first.ensures in
    let read = ap (λ b. point_of b tree) first ∙ (sym (c.in_ok-point.ensures (point_of c.is_empty-is_first.result tree) c.read_point.ensures) ∙ c.in-Ok.is) in
    point_drawn c.args.self.now.fault c.args.self.now.drawn c.push.new.self c.push.result trees tree c.in-Ok.point (sym c.is_some.ensures ∙ c.if-is_some.false) before read
    (λ drawn points. c.push.ensures trees tree drawn c.requires c.offset.ensures points)

pub returns-in-Err-clause-drawn : goal.returns-in-Err-clause-drawn
returns-in-Err-clause-drawn g c = λ trees before.
    let tree = g.T.Tagged.tree c.args.element.now in
    let first : is_nil c.args.self.now.drawn.points ≡ c.is_empty-is_first.result = sym (nil_test c.args.self.now.drawn.points) ∙ sym c.is_empty-is_first.ensures in
    let read = ap (λ b. point_of b tree) first ∙ (sym (c.in_ok-point.ensures (point_of c.is_empty-is_first.result tree) c.read_point.ensures) ∙ c.in-Err.is) in
    fault_drawn c.args.self.now.fault c.args.self.now.drawn trees tree c.in-Err.spot (sym c.is_some.ensures ∙ c.if-is_some.false) before read
