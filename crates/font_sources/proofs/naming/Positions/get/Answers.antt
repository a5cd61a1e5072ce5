use Rattle.std.proofs.Common.{◌≡◌, ◌∙◌}
use Rattle.font_sources.specs.Naming.{position_of}
use Rattle.font_sources.proofs.Names.{position_below}
use Rattle.font_sources.proofs.naming.Positions.get.Goals as goal

pub returns-clause-within : goal.returns-clause-within
returns-clause-within c =
    let value : c.copied.result ≡ position_of c.args.self.now c.args.name.now = cc (c.copied.ensures ∙ c.get.ensures.value ∙ c.self.inside.right c.args.name.now, c.self.view_is) in
    position_below c.args.self.now c.args.name.now c.copied.result value
