use Rattle.std.proofs.Common.{ap, ◌∙◌}
use Rattle.std.specs.Option.{option_map}
use Rattle.ufo_source.proofs.index.Index.get.Goals as goal

pub returns : goal.returns
returns g c = cc (ap (option_map (λ entry. entry.now)) (c.copied.ensures ∙ c.get.ensures.value) ∙ c.self.inside.right c.args.name.now, c.self.view_is)
