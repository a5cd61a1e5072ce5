-- The join of the pieces is a font file, and has each table.
use Rattle.std.proofs.Common.{◌≡◌, ◌≢◌, ℕ, ◌+◌, ◌-◌, ◌%◌, ◌^◌, ◌<◌, List, [], ◌∷◌, ◌++◌, length, map, Option, Some, None, refl, sym, ap, subst, ◌∙◌, arith, inl, inr}
use Rattle.std.proofs.lemmas.Bool.{cond-false}
use Rattle.std.proofs.lemmas.Bool.Decides.{eqb_tells}
use Rattle.std.proofs.lemmas.List.{append-nil}
use Rattle.std.proofs.lemmas.List.Elements.{recursion_from_All}
use Rattle.std.specs.Prelude.{All, nat_eq, option_map}
use Rattle.std.specs.List.{AllByRecursion, concat}
use Rattle.basics.specs.Optional.{◌>>=◌}
use Rattle.be_bytes.specs.WordSum.{word_sum}
use Rattle.be_bytes.proofs.RecordLemmas.{each_of}
use Rattle.search_fields.specs.declared.SearchFields.{SearchFields}
use Rattle.sfnt_write.specs.FontFile.{HEAD, IsFontFile, StandInOrder, TableRecord, directory_in, record_of, slice_in, table_in}
use Rattle.sfnt_write.specs.Holds.{HoldsTables}
use Rattle.sfnt_write.specs.Layout.{ArePieces, adjusted, adjustment_of, directory_bytes, piece_of, plain_file, records_from, tables_offset, with_adjustment}
use Rattle.sfnt_write.specs.Steps.{FitsTag, HasField, IsDirectory, tables_sum}
use Rattle.sfnt_write.specs.Tables.{CanBeFont, Slice, bytes_of, slice_of}
use Rattle.sfnt_write.specs.declared.table.Table.{Table}
use Rattle.sfnt_write.proofs.DirectoryReading.{directory_read, directory_size, records_count}
use Rattle.sfnt_write.proofs.HeadBytes.{IsPlain, each_plain}
use Rattle.sfnt_write.proofs.Pieces.{HeadStands, found, head_stands, stand}
use Rattle.sfnt_write.proofs.WordSums.{sum_of_tables}

pub tables_plain : (tables : List Slice) → CanBeFont tables → AllByRecursion IsPlain tables
tables_plain tables can = each_plain 0 tables can.head can.rise can.head_there can.head_plain

-- the sum of the whole file with the adjustment 0
pub plain_sum : (search : SearchFields) (tables : List Slice) → word_sum (plain_file search tables) ≡ word_sum (directory_bytes search tables) + tables_sum tables
plain_sum search tables = sum_of_tables (directory_bytes search tables) tables (omega (arith, directory_size search tables))

adds_up : (words : ℕ) → ((0xB1B0_AFBA + (2 ^ 32 - words % 2 ^ 32)) % 2 ^ 32 + words) % 2 ^ 32 ≡ 0xB1B0_AFBA
adds_up words = omega arith

read_table : (file : List ℕ) (tag : ℕ) (directory : List TableRecord) → directory_in file ≡ Some directory → table_in file tag ≡ (record_of tag directory >>= slice_in file)
read_table file tag directory there = rw there refl

option_map_same : (f : List ℕ → List ℕ) (o : Option (List ℕ)) → ((b : List ℕ) → f b ≡ b) → option_map f o ≡ o
option_map_same f (Some b) same = ap Some (same b)
option_map_same f None same = refl

module _ (search : SearchFields) (tables : List Slice) (can : CanBeFont tables) (tags : AllByRecursion FitsTag tables) where
  abbrev prefix : List ℕ
  prefix = directory_bytes search tables

  abbrev n : ℕ
  n = adjustment_of (plain_file search tables)

  abbrev file : List ℕ
  file = prefix ++ concat (map (piece_of n) tables)

  abbrev start : ℕ
  start = tables_offset (length tables)

  directory_there : directory_in file ≡ Some (records_from start tables)
  directory_there = directory_read search tables (concat (map (piece_of n) tables)) can.few can.small tags

  n_fits : n < 2 ^ 32
  n_fits = omega arith

  head_there : HeadStands n file prefix start tables
  head_there = head_stands n file prefix 0 start tables can.head n_fits (tables_plain tables can) can.rise can.head_there refl (directory_size search tables)

  in_order : StandInOrder file 0 start (records_from start tables)
  in_order = stand n file prefix 0 start start tables (tables_plain tables can) can.rise refl (directory_size search tables) (omega arith) (omega arith)

  is_font : IsFontFile file
  is_font =
      let head = head_there in
      record {
        directory = records_from start tables;
        directory_there = directory_there;
        tables = subst (λ (count : ℕ). StandInOrder file 0 (tables_offset count) (records_from start tables)) (sym (records_count start tables)) in_order;
        head = head.head;
        head_there = head.there;
        head_whole = omega (arith, head.size);
        adjustment = n;
        adjustment_there = head.field;
        adjusted = ap (λ (b : List ℕ). (n + word_sum b) % 2 ^ 32) head.zeros ∙ adds_up (word_sum (plain_file search tables));
      }

  each_table : (tag : ℕ) → table_in file tag ≡ option_map (adjusted n tag) (bytes_of tag tables)
  each_table tag =
      read_table file tag (records_from start tables) directory_there
      ∙ found n file prefix start tables tag (tables_plain tables can) refl (directory_size search tables)

  other_same : (tag : ℕ) → tag ≢ HEAD → (b : List ℕ) → adjusted n tag b ≡ b
  other_same tag other b =
      elim (eqb_tells tag HEAD) [
        | inl is ↦ absurd (other is.1)
        | inr isnt ↦ cond-false (nat_eq tag HEAD) (with_adjustment n b) b isnt.0
      ]

  pub holds : HoldsTables tables file
  holds =
      record {
        is_font = is_font;
        others = λ tag other. each_table tag ∙ option_map_same (adjusted n tag) (bytes_of tag tables) (other_same tag other);
        adjustment = n;
        fits = n_fits;
        head = each_table HEAD;
      }

pub font_holds : (tables : List Slice) (pieces : List (List ℕ)) → CanBeFont tables → All FitsTag tables → ArePieces tables pieces → HoldsTables tables (concat pieces)
font_holds tables pieces can tags are =
    subst (λ (own : List (List ℕ)). HoldsTables tables (concat own)) (sym are.pieces_are) (holds are.search tables can (recursion_from_All FitsTag tables tags))

-- ---- the pieces that are made

pub fields_there : (tables : List Slice) → CanBeFont tables → AllByRecursion HasField tables
fields_there tables can =
    let field : (own : Slice) → IsPlain own → HasField own = λ own plain is. omega (arith, (plain is).size) in
    each_of IsPlain HasField field tables (tables_plain tables can)

none_left : (tables : List Table) → length tables ≡ 0 → tables ≡ []
none_left [] none = refl
none_left (own ∷ others) none = absurd (omega arith)

pub all_made : (pieces first : List (List ℕ)) (n : ℕ) (left tables : List Table) → length left ≡ 0 → pieces ++ map (piece_of n) (map slice_of left) ≡ first ++ map (piece_of n) (map slice_of tables) → pieces ≡ first ++ map (piece_of n) (map slice_of tables)
all_made pieces first n left tables none made =
    sym (append-nil pieces)
    ∙ ap (λ (others : List Table). pieces ++ map (piece_of n) (map slice_of others)) (sym (none_left left none))
    ∙ made

pub are_pieces : (tables : List Slice) (pieces : List (List ℕ)) (bytes : List ℕ) (sum n : ℕ) → IsDirectory tables bytes sum → n ≡ (0xB1B0_AFBA + (2 ^ 32 - sum)) % 2 ^ 32 → pieces ≡ bytes ∷ map (piece_of n) tables → ArePieces tables pieces
are_pieces tables pieces bytes sum n are n_is made =
    let whole : sum ≡ word_sum (plain_file are.search tables) % 2 ^ 32 =
    are.sum_is
    ∙ ap (λ (b : List ℕ). (word_sum b + tables_sum tables) % 2 ^ 32) are.bytes_are
    ∙ ap (λ (words : ℕ). words % 2 ^ 32) (sym (plain_sum are.search tables)) in
    let adjustment : n ≡ adjustment_of (plain_file are.search tables) = n_is ∙ ap (λ (s : ℕ). (0xB1B0_AFBA + (2 ^ 32 - s)) % 2 ^ 32) whole in
    record {
      search = are.search;
      search_are = are.search_are;
      pieces_are =
          made
          ∙ ap (λ (b : List ℕ). b ∷ map (piece_of n) tables) are.bytes_are
          ∙ ap (λ (m : ℕ). directory_bytes are.search tables ∷ map (piece_of m) tables) adjustment;
    }
