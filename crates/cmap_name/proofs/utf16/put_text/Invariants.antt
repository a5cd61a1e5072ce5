use Rattle.std.proofs.Common.{◌≡◌, ◌++◌, length, drop}
use Rattle.std.specs.List.{flat_map}
use Rattle.std.specs.Str.{chars}
use Rattle.cmap_name.specs.CharacterLayout.{word}
use Rattle.cmap_name.specs.Utf16.{units_of}
use Rattle.cmap_name.proofs.utf16.put_text.Given as goal

-- the characters so far and those that are left are all
abbrev pub invariant-loop-character : goal.invariant-loop-character
invariant-loop-character l =
    l.out.items ++ flat_map word (flat_map units_of (drop (length l.yielded) (chars l.text))) ≡ l.initial.out.items ++ flat_map word (flat_map units_of (chars l.text))
