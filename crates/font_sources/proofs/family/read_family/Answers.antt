use Rattle.std.proofs.Common.{◌+◌, ◌-◌, length, drop, refl, take_all, length-drop, arith}
use Rattle.font_sources.proofs.Whole.{family_parted}
use Rattle.font_sources.proofs.family.read_family.Goals as goal

pub returns-clause-within : goal.returns-clause-within
returns-clause-within g c =
    let listed = c.args.listed.now in
    let number = c.args.number in
    family_parted listed number c.index-listed-number.result _ _ c.read_parted.result c.requires c.index-listed-number.is refl
    (take_all (length listed - (number + 1)) (drop (number + 1) listed) (omega (arith, length-drop (number + 1) listed))) c.read_parted.ensures.within
