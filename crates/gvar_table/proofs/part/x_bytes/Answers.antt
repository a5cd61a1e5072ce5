-- The x numbers of deltas fit words.
use Rattle.std.proofs.Common.{All, FitsSigned, subst, sym, ◌∙◌}
use Rattle.std.specs.Int.{w16}
use Rattle.gvar_table.proofs.PartLemmas.{xs_fit}
use Rattle.gvar_table.proofs.part.x_bytes.Goals as goal

pub pack_deltas-requires : goal.pack_deltas-requires
pack_deltas-requires c =
    subst (All (FitsSigned w16)) (sym (c.deref.ensures.value ∙ c.in_ok-xs.ensures)) (xs_fit c.args.deltas.now c.requires)
