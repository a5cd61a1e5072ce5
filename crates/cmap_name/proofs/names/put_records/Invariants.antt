use Rattle.std.proofs.Common.{◌≡◌, ◌+◌, ◌*◌, ◌≤◌, ◌++◌, take, drop}
use Rattle.std.specs.Prelude.{All}
use Rattle.std.specs.List.{flat_map, sum_by}
use Rattle.font_text.specs.Utf16.{utf16_length}
use Rattle.cmap_name.specs.NameLayout.{name_record_bytes, name_records_from}
use Rattle.cmap_name.specs.Steps.{IsName}
use Rattle.cmap_name.proofs.names.put_records.Given as goal

-- The records so far and those that are left are all records; the texts that are left have room.
abbrev pub invariant-loop-id : goal.invariant-loop-id
invariant-loop-id l = record {
  written : l.out.items ++ flat_map name_record_bytes (name_records_from l.offset (drop l.id-index l.names)) ≡ l.initial.out.items ++ flat_map name_record_bytes (name_records_from 0 l.names);
  small : l.offset + sum_by (λ own. 2 * utf16_length own.1) (drop l.id-index l.names) ≤ 65535;
  fit : All IsName (take l.id-index l.names);
}
