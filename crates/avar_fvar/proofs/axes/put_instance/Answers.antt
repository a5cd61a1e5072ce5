use Rattle.std.proofs.Common.{◌≡◌, take, subst, ◌∙◌, FitsSigned, arith}
use Rattle.std.proofs.lemmas.Grind.{common_steps}
use Rattle.std.proofs.lemmas.Int.{ints}
use Rattle.std.proofs.lemmas.List.{take_all}
use Rattle.std.proofs.lemmas.List.Elements.{All-more}
use Rattle.std.specs.Prelude.{All}
use Rattle.std.specs.Int.{w32}
use Rattle.avar_fvar.proofs.axes.put_instance.Goals as goal

pub loop-coordinate-preserved : goal.loop-coordinate-preserved
loop-coordinate-preserved c =
    let raw : FitsSigned w32 c.raw.result = omega (arith, ints) in
    let own = subst (FitsSigned w32) (c.raw.ensures ∙ c.coordinate-item.is) raw in
    record {
      written = grind (arith, common_steps);
      fit = All-more (FitsSigned w32) c.as_slice-coordinate-items.result.now c.loop-coordinate.coordinate-index c.coordinate-item.result (omega arith) c.loop-coordinate.invariant.fit own;
    }

pub returns-clause-fits : goal.returns-clause-fits
returns-clause-fits c =
    let whole : take c.loop-coordinate.coordinate-index c.as_slice-coordinate-items.result.now ≡ c.args.instance.now.user =
    take_all c.loop-coordinate.coordinate-index c.as_slice-coordinate-items.result.now (omega arith) ∙ c.as_slice-coordinate-items.ensures in
    record {
      name_id = omega arith;
      user = subst (All (FitsSigned w32)) whole c.loop-coordinate.invariant.fit;
    }
