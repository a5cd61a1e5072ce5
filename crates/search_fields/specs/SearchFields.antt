-- The fields by which a reader of a table finds a record by halving (OpenType, "Table directory" and "cmap", format 4).
use Rattle.std.specs.Prelude.{◌≡◌, ℕ, ◌+◌, ◌*◌, ◌^◌, ◌<◌, ◌≤◌}
use Rattle.search_fields.specs.declared.SearchFields.{SearchFields}

-- the fields of so many records of this size, in bytes
pub record AreSearchFields (size count : ℕ) (fields : SearchFields) : Type 0 where
  -- 2 to the entrySelector is the greatest power of two not above the count
  pub not_above : 2 ^ fields.entry_selector ≤ count
  pub greatest : count < 2 * 2 ^ fields.entry_selector
  -- the bytes of so many records
  pub search_range : fields.search_range ≡ size * 2 ^ fields.entry_selector
  -- and of all others
  pub range_shift : fields.search_range + fields.range_shift ≡ size * count

-- so many records of a size have one answer
abbrev pub OneAnswer : Type 0
OneAnswer = (size count : ℕ) (a b : SearchFields) → AreSearchFields size count a → AreSearchFields size count b → a ≡ b
