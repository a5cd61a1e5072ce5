use Rattle.std.proofs.Common.{◌≡◌, map, drop}
use Rattle.vfb.specs.Masters.{all_alike}
use Rattle.commands.specs.Words.{seen}
use Rattle.vfb.proofs.contours.all_alike.Given as goal

abbrev pub invariant-loop-index : goal.invariant-loop-index
invariant-loop-index l = all_alike l.default (map seen l.located) l.drawings ≡ all_alike l.default (map seen (drop l.index l.located)) (drop l.index l.drawings)
