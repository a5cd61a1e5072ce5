use Rattle.std.proofs.Common.{OnOk, ◌∷◌}
use Rattle.markup_rules.specs.Outcome.{begun, ended}
use Rattle.markup.specs.Tags.{opening_of}
use Rattle.glif.specs.Parts.{IsKept}
use Rattle.glif.proofs.Passing.{adopted_into}
use Rattle.glif.proofs.part.DrawingPartPart.empty.Goals as goal

pub returns : goal.returns
returns c = λ s kept.
    let tag = c.args.tag.now in
    let inner = begun tag.at (opening_of tag) ∷ s.frames in
    adopted_into (λ root frames. OnOk c.end.result (IsKept c.end.new.self root frames)) (ended (begun tag.at (opening_of tag))) s.frames inner s
    (c.end.ensures (record s { frames = inner }) (c.in_ok-begin.ensures s.root s.frames kept))
