-- Laws of the layout.
use Rattle.std.specs.Prelude.{◌≡◌, ℕ, List}
use Rattle.variation_rules.specs.declared.tuple.TupleVariation.{TupleVariation}
use Rattle.gvar_table.specs.declared.tuple.Tuple.{Tuple}
use Rattle.gvar_table.specs.Layout.{IsWritten}
use Rattle.gvar_table.specs.Table.{IsWrittenTable}

-- tuples have one spelling
abbrev pub OneSpelling : Type 0
OneSpelling = (count : ℕ) (tuples : List TupleVariation) (bytes other : List ℕ) → IsWritten count bytes tuples → IsWritten count other tuples → bytes ≡ other

-- and so have the tuples of all glyphs
abbrev pub OneTable : Type 0
OneTable = (axes : ℕ) (counts : List ℕ) (glyphs : List (List Tuple)) (bytes other : List ℕ) → IsWrittenTable axes counts glyphs bytes → IsWrittenTable axes counts glyphs other → bytes ≡ other
