use Rattle.std.proofs.Common.{◌≡◌, drop, map}
use Rattle.basics.specs.Reading.{with_prefix}
use Rattle.markup_rules.specs.Tree.{trees_of}
use Rattle.markup.specs.Plain.{plain}
use Rattle.plist.specs.Reading.{items_of, entries_of}
use Rattle.plist.specs.Values.{plain_value, plain_entry}
use Rattle.plist.proofs.Forms.{entries_by}
use Rattle.plist.proofs.reader.+plist.Given as goal

abbrev pub invariant-read_entries-loop-element : goal.invariant-read_entries-loop-element
invariant-read_entries-loop-element l = with_prefix (map plain_entry l.entries.items) (entries_by (plain l.dict) l.pending (trees_of (map plain (drop l.element-index l.elements)))) ≡ entries_of (plain l.dict) (trees_of (map plain l.elements))

abbrev pub invariant-read_items-loop-element : goal.invariant-read_items-loop-element
invariant-read_items-loop-element l = with_prefix (map plain_value l.values.items) (items_of (trees_of (map plain (drop l.element-index l.elements)))) ≡ items_of (trees_of (map plain l.elements))
