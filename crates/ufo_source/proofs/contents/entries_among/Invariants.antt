use Rattle.std.proofs.Common.{◌≡◌, map, drop}
use Rattle.basics.specs.Reading.{with_prefix}
use Rattle.plist.specs.Values.{plain_entry}
use Rattle.ufo_source.specs.Contents.{entries_among}
use Rattle.ufo_source.proofs.contents.entries_among.Given as goal

abbrev pub invariant-loop-entry : goal.invariant-loop-entry
invariant-loop-entry l = with_prefix l.glyphs (entries_among (map plain_entry (drop l.entry-index l.entries))) ≡ entries_among (map plain_entry l.entries)
