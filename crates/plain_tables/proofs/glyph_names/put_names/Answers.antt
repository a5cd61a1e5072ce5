use Rattle.std.proofs.Common.{◌≡◌, ℕ, List, ◌++◌, ap, ◌∙◌, arith}
use Rattle.std.proofs.lemmas.Grind.{common_steps}
use Rattle.std.proofs.lemmas.List.{take_all}
use Rattle.std.specs.List.{flat_map}
use Rattle.plain_tables.specs.Conditions.{IsNameWithin}
use Rattle.plain_tables.specs.GlyphNames.{name_bytes}
use Rattle.plain_tables.proofs.GlyphLemmas.{held}
use Rattle.plain_tables.proofs.glyph_names.put_names.Goals as goal

pub put_name-requires : goal.put_name-requires
put_name-requires c = held IsNameWithin c.args.names.now c.loop-name.name-index c.name-item.result c.loop-name-test.true c.requires c.name-item.is

pub loop-name-preserved : goal.loop-name-preserved
loop-name-preserved c = grind (arith, common_steps)

pub returns : goal.returns
returns c =
    c.loop-name.invariant
    ∙ ap (λ (names : List (List ℕ)). c.args.out.now.items ++ flat_map name_bytes names) (take_all c.loop-name.name-index c.args.names.now c.loop-name-test.false)
