use Rattle.std.proofs.Common.{◌≡◌, ◌+◌, length, drop, sum_by}
use Rattle.std.specs.Str.{chars}
use Rattle.font_text.specs.Utf16.{unit_count}
use Rattle.font_text.proofs.utf16.utf16_length.Given as goal

abbrev pub invariant-loop-character : goal.invariant-loop-character
invariant-loop-character l = l.units + sum_by unit_count (drop (length l.yielded) (chars l.text)) ≡ sum_by unit_count (chars l.text)
