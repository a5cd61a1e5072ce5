use Rattle.std.proofs.Common.{◌≡◌, ◌++◌, drop}
use Rattle.std.specs.Prelude.{All}
use Rattle.cmap_name.specs.Groups.{FitsGroup, groups_of, joined}
use Rattle.cmap_name.proofs.groups.groups_of.Given as goal

-- The runs that are closed, and the current one before those of the codes that are left, are those of all codes.
abbrev pub invariant-loop-code : goal.invariant-loop-code
invariant-loop-code l = record {
  value : l.groups.items ++ joined l.current (groups_of (drop l.code-index l.others)) ≡ joined l.initial.current (groups_of l.others);
  current : FitsGroup l.current;
  closed : All FitsGroup l.groups.items;
}
