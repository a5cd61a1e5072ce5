-- The lift: what a table's bytes mean, the table of the file means.
use Rattle.std.proofs.Common.{◌≡◌, ◌≢◌, ℕ, ◌+◌, ◌-◌, ◌≤◌, ◌^◌, ◌<◌, List, [], ◌∷◌, ◌++◌, length, take, drop, true, Option, Some, refl, sym, ap, ◌∙◌, arith, append_assoc, length-append, length-drop}
use Rattle.std.proofs.lemmas.Bool.{le-leb}
use Rattle.std.proofs.lemmas.List.{drop-append-le, drop-drop, drop_at, take-append-le}
use Rattle.std.specs.Prelude.{nat_le, option_map}
use Rattle.std.specs.Int.{w32, to_be_bytes}
use Rattle.basics.specs.Optional.{◌>>=◌}
use Rattle.be_bytes.specs.Reading.{prefix_of, uint32}
use Rattle.be_bytes.proofs.FieldLemmas.{uint32-field}
use Rattle.sfnt_write.specs.FontFile.{HEAD, table_in}
use Rattle.sfnt_write.specs.Holds.{HasTable, HoldsTables, IsHeadWith}
use Rattle.sfnt_write.specs.Laws.{HeadIsGiven, TablesAreGiven}
use Rattle.sfnt_write.specs.Layout.{with_adjustment}
use Rattle.sfnt_write.specs.Tables.{IsPlainHead, Slice, bytes_of}
use Rattle.sfnt_write.proofs.HeadBytes.{first_size, parts_of, with_adjustment_size}

pub tables_are_given : TablesAreGiven
tables_are_given tables file tag bytes holds other given = holds.others tag other ∙ given

-- whatever holds of a table's bytes
pub lift : (P : List ℕ → Type 0) (tables : List Slice) (file : List ℕ) (tag : ℕ) (bytes : List ℕ) → HoldsTables tables file → tag ≢ HEAD → bytes_of tag tables ≡ Some bytes → P bytes → HasTable file tag P
lift P tables file tag bytes holds other given meant =
    record { bytes = bytes; there = tables_are_given tables file tag bytes holds other given; meant = meant }

-- what a table is read as
pub lift_reading : {A : Type 0} (read : List ℕ → Option A) (tables : List Slice) (file : List ℕ) (tag : ℕ) (bytes : List ℕ) (x : A) → HoldsTables tables file → tag ≢ HEAD → bytes_of tag tables ≡ Some bytes → read bytes ≡ Some x → (table_in file tag >>= read) ≡ Some x
lift_reading read tables file tag bytes x holds other given is =
    ap (λ (own : Option (List ℕ)). own >>= read) (tables_are_given tables file tag bytes holds other given) ∙ is

-- ---- head

prefix_within : (own rest : List ℕ) (size : ℕ) → size ≤ length own → prefix_of size (own ++ rest) ≡ Some (take size own)
prefix_within own rest size within =
    let there : nat_le size (length (own ++ rest)) ≡ true = le-leb size (length (own ++ rest)) (omega (arith, length-append own rest)) in
    rw there (ap Some (take-append-le size own rest within))

-- so many bytes at an offset, whatever follows
part_within : (first rest : List ℕ) (offset size : ℕ) → offset + size ≤ length first → prefix_of size (drop offset (first ++ rest)) ≡ Some (take size (drop offset first))
part_within first rest offset size within =
    ap (prefix_of size) (drop-append-le offset first rest (omega arith))
    ∙ prefix_within (drop offset first) rest size (omega (arith, length-drop offset first))

-- the bytes after the field
past_field : (first word last : List ℕ) (offset : ℕ) → length first ≡ 8 → length word ≡ 4 → 12 ≤ offset → drop offset (first ++ (word ++ last)) ≡ drop (offset - 12) last
past_field first word last offset eight four far =
    let far_is : offset ≡ 12 + (offset - 12) = omega arith in
    ap (λ (k : ℕ). drop k (first ++ (word ++ last))) far_is
    ∙ sym (drop-drop (offset - 12) 12 (first ++ (word ++ last)))
    ∙ ap (drop (offset - 12)) (ap (drop 12) (sym (append_assoc first word last)) ∙ drop_at (first ++ word) last 12 (omega (arith, length-append first word)))

pub head_with : (n : ℕ) (head : List ℕ) → n < 2 ^ 32 → IsPlainHead head → IsHeadWith n head (with_adjustment n head)
head_with n head fits plain =
    let first : List ℕ = take 8 head in
    let last : List ℕ = drop 4 (drop 8 head) in
    let word : List ℕ = to_be_bytes w32 n in
    let eight = first_size head plain in
    let parts = parts_of head plain in
    record {
      size = with_adjustment_size n head plain;
      before = λ offset size within.
          part_within first (word ++ last) offset size (omega (arith, eight))
          ∙ sym (part_within first (0 ∷ 0 ∷ 0 ∷ 0 ∷ last) offset size (omega (arith, eight)))
          ∙ ap (λ (b : List ℕ). prefix_of size (drop offset b)) (sym parts);
      adjustment = ap uint32 (drop_at first (word ++ last) 8 eight) ∙ uint32-field n last fits;
      after = λ offset far.
          past_field first word last offset eight refl far
          ∙ sym (past_field first (0 ∷ 0 ∷ 0 ∷ 0 ∷ []) last offset eight refl far)
          ∙ ap (drop offset) (sym parts);
    }

pub head_is_given : HeadIsGiven
head_is_given tables file head holds plain given =
    record {
      bytes = with_adjustment holds.adjustment head;
      there = holds.head ∙ ap (option_map (with_adjustment holds.adjustment)) given;
      meant = head_with holds.adjustment head holds.fits plain;
    }
