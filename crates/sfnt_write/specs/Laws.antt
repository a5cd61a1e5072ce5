-- From what is true of the tables that were given to what is true of those that the file has.
use Rattle.std.specs.Prelude.{◌≡◌, ◌≢◌, ℕ, List, Some}
use Rattle.sfnt_write.specs.FontFile.{HEAD, table_in}
use Rattle.sfnt_write.specs.Holds.{HasTable, HoldsTables, IsHeadWith}
use Rattle.sfnt_write.specs.Tables.{IsPlainHead, Slice, bytes_of}

-- the file's table of a tag is the one that was given, so that it means what that one means
abbrev pub TablesAreGiven : Type 0
TablesAreGiven = (tables : List Slice) (file : List ℕ) (tag : ℕ) (bytes : List ℕ) → HoldsTables tables file → tag ≢ HEAD → bytes_of tag tables ≡ Some bytes → table_in file tag ≡ Some bytes

-- the file's head has all bytes of the one that was given but the adjustment
abbrev pub HeadIsGiven : Type 0
HeadIsGiven = (tables : List Slice) (file head : List ℕ) (holds : HoldsTables tables file) → IsPlainHead head → bytes_of HEAD tables ≡ Some head → HasTable file HEAD (IsHeadWith holds.adjustment head)
