use Rattle.std.proofs.Common.{◌∙◌, ap}
use Rattle.std.specs.Option.{option_map}
use Rattle.ufo_source.specs.Naming.{entry_named}
use Rattle.ufo_source.proofs.Drawings.{found_named}
use Rattle.ufo_source.proofs.wanted.read_named.Goals as goal

pub returns-clause-named : goal.returns-clause-named
returns-clause-named g c =
    found_named c.args.index.now c.args.name.now (option_map (λ entry. entry.now) c.get-found.result) c.read_found.result
    (c.get-found.ensures ∙ ap (entry_named c.args.index.now) c.as_str.ensures) c.read_found.ensures.named
