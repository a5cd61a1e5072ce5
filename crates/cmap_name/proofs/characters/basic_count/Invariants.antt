use Rattle.std.proofs.Common.{◌≡◌, ◌++◌, take, drop}
use Rattle.cmap_name.specs.Groups.{basic_codes}
use Rattle.cmap_name.proofs.characters.basic_count.Given as goal

-- all codes so far are among those that are wanted
abbrev pub invariant-loop-index : goal.invariant-loop-index
invariant-loop-index l = take l.index l.codes ++ basic_codes (drop l.index l.codes) ≡ basic_codes l.codes
