-- What the steps of the work make.
use Rattle.std.specs.Prelude.{◌≡◌, ℕ, ◌+◌, ◌%◌, ◌^◌, ◌<◌, ◌≤◌, List, length, All}
use Rattle.std.specs.List.{sum_by}
use Rattle.be_bytes.specs.WordSum.{word_sum}
use Rattle.search_fields.specs.SearchFields.{AreSearchFields}
use Rattle.search_fields.specs.declared.SearchFields.{SearchFields}
use Rattle.sfnt_write.specs.FontFile.{HEAD}
use Rattle.sfnt_write.specs.Layout.{directory_bytes}
use Rattle.sfnt_write.specs.Tables.{Slice}

-- the sums of the words of all tables
abbrev pub tables_sum : List Slice → ℕ
tables_sum tables = sum_by (λ own. word_sum own.bytes) tables

-- a tag has four letters
abbrev pub FitsTag : Slice → Type 0
FitsTag own = own.tag < 2 ^ 32

-- where the table is head, it has the field of the adjustment
abbrev pub HasField : Slice → Type 0
HasField own = own.tag ≡ HEAD → 12 ≤ length own.bytes

-- the table directory, and the sum of the whole file with head's adjustment 0
pub record IsDirectory (tables : List Slice) (bytes : List ℕ) (sum : ℕ) : Type 0 where
  pub search : SearchFields
  pub search_are : AreSearchFields 16 (length tables) search
  pub bytes_are : bytes ≡ directory_bytes search tables
  pub sum_is : sum ≡ (word_sum bytes + tables_sum tables) % 2 ^ 32
  pub fit : All FitsTag tables
