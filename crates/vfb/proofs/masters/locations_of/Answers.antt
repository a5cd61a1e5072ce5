use Rattle.std.proofs.Common.{◌∙◌, ap, map, take_all}
use Rattle.region_support.specs.Coordinates.{coordinates_of}
use Rattle.commands.specs.declared.located.Located.{Located}
use Rattle.vfb.proofs.MasterLemmas.{pushed_as, locations_seen}
use Rattle.vfb.proofs.masters.locations_of.Goals as goal

pub loop-one-preserved : goal.loop-one-preserved
loop-one-preserved c =
    pushed_as (λ (one : Located). one.at.items) _ c.args.located.now c.loop-one.one-index _ c.one-item.result _ _ _ c.loop-one-test.true c.one-item.is c.in_ok-copy_location.ensures c.loop-one.invariant c.in_ok-push.ensures.items

pub returns : goal.returns
returns c =
    ap coordinates_of c.from_vec.ensures ∙ (c.loop-one.invariant
    ∙ (ap (map (λ (one : Located). one.at.items)) (take_all c.loop-one.one-index c.args.located.now c.loop-one-test.false) ∙ locations_seen c.args.located.now))
