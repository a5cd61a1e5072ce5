-- What a font file has of the tables that it was made of, and what it means that its tables mean something.
use Rattle.std.specs.Prelude.{◌≡◌, ◌≢◌, ℕ, ◌+◌, ◌^◌, ◌<◌, ◌≤◌, List, length, drop, Some, option_map}
use Rattle.be_bytes.specs.Reading.{prefix_of, uint32}
use Rattle.sfnt_write.specs.FontFile.{HEAD, IsFontFile, table_in}
use Rattle.sfnt_write.specs.Layout.{with_adjustment}
use Rattle.sfnt_write.specs.Tables.{Slice, bytes_of}

-- It is a font file; its table of each tag is the one that was given, head but for the adjustment, and there is none
-- where none was given.
pub record HoldsTables (tables : List Slice) (file : List ℕ) : Type 0 where
  pub is_font : IsFontFile file
  pub others : (tag : ℕ) → tag ≢ HEAD → table_in file tag ≡ bytes_of tag tables
  pub adjustment : ℕ
  pub fits : adjustment < 2 ^ 32
  pub head : table_in file HEAD ≡ option_map (with_adjustment adjustment) (bytes_of HEAD tables)

-- the file has a table of the tag, and this holds of its bytes
pub record HasTable (file : List ℕ) (tag : ℕ) (P : List ℕ → Type 0) : Type 0 where
  pub bytes : List ℕ
  pub there : table_in file tag ≡ Some bytes
  pub meant : P bytes

-- These bytes are head's but for checksumAdjustment, which is n: so many bytes at an offset are the same where they
-- end before it, and all bytes after it are.
pub record IsHeadWith (n : ℕ) (head bytes : List ℕ) : Type 0 where
  pub size : length bytes ≡ length head
  pub before : (offset size : ℕ) → offset + size ≤ 8 → prefix_of size (drop offset bytes) ≡ prefix_of size (drop offset head)
  pub adjustment : uint32 (drop 8 bytes) ≡ Some n
  pub after : (offset : ℕ) → 12 ≤ offset → drop offset bytes ≡ drop offset head
