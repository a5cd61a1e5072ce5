-- The table is read back as it was written.
use Rattle.std.proofs.Common.{◌≡◌, ℕ, ℤ, List, ◌++◌, drop, Some, None, refl}
use Rattle.be_bytes.specs.Fields.{fields_bytes}
use Rattle.be_bytes.specs.Reading.{uint16, uint32}
use Rattle.variation_rules.specs.declared.region.Triple.{Triple}
use Rattle.item_var_store.specs.Rows.{MeansRows}
use Rattle.item_var_store.specs.Store.{Store, store_in}
use Rattle.hvar.specs.Advances.{MeansAdvances, advances_in}
use Rattle.hvar.specs.Layout.{header_fields}

read_table : (bytes : List ℕ) (offset : ℕ) (store : Store) → uint16 bytes ≡ Some 1 → uint16 (drop 2 bytes) ≡ Some 0 → uint32 (drop 4 bytes) ≡ Some offset → uint32 (drop 8 bytes) ≡ Some 0 → uint32 (drop 12 bytes) ≡ Some 0 → uint32 (drop 16 bytes) ≡ Some 0
    → store_in (drop offset bytes) ≡ Some store → advances_in bytes ≡ Some (record { store = store; map = None })
read_table bytes offset store a b c d e f g = rw (a, b, c, d, e, f, g) refl

pub means_advances : (axes : ℕ) (regions : List (List Triple)) (rows : List (List ℤ)) (own : List ℕ) → MeansRows axes regions rows own → MeansAdvances axes regions rows (fields_bytes header_fields ++ own)
unfolding header_fields
means_advances axes regions rows own means = record {
  table = record { store = means.store; map = None };
  read = read_table (fields_bytes header_fields ++ own) 20 means.store refl refl refl refl refl refl means.read;
  axes_are = means.has.axes_are;
  regions_are = means.has.regions_are;
  row_is = means.has.row_is;
  movement_is = means.has.value_is;
}
