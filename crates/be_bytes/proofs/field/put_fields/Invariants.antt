use Rattle.std.proofs.Common.{◌≡◌, ◌++◌, take}
use Rattle.be_bytes.specs.Fields.{fields_bytes}
use Rattle.be_bytes.proofs.field.put_fields.Given as goal

-- the fields so far are appended
abbrev pub invariant-loop-field : goal.invariant-loop-field
invariant-loop-field l = l.out.items ≡ l.initial.out.items ++ fields_bytes (take l.field-index l.fields)
