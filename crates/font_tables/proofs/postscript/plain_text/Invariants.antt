use Rattle.std.proofs.Common.{◌≡◌, take}
use Rattle.std.specs.List.{filter}
use Rattle.std.specs.String.{string_bytes}
use Rattle.font_tables.specs.FontNames.{is_plain}
use Rattle.font_tables.proofs.postscript.plain_text.Given as goal

abbrev pub invariant-loop-byte : goal.invariant-loop-byte
invariant-loop-byte l = string_bytes l.plain ≡ take 63 (filter is_plain (take l.byte-index l.text))
