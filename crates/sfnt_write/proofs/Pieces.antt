-- The tables in a file that is a directory and their pieces, one after another.
use Rattle.std.proofs.Common.{◌≡◌, ℕ, ◌+◌, ◌%◌, ◌^◌, ◌≤◌, ◌<◌, Bool, true, false, List, [], ◌∷◌, ◌++◌, length, map, take, drop, replicate, Option, Some, refl, sym, ap, ◌∙◌, arith, length-append, append_assoc, inl, inr}
use Rattle.std.proofs.lemmas.Bool.{cond-false, cond-true, eqb-true}
use Rattle.std.proofs.lemmas.Bool.Decides.{eqb_tells}
use Rattle.std.proofs.lemmas.List.{drop_at}
use Rattle.std.specs.Prelude.{if◌then◌else◌, nat_eq, option_map}
use Rattle.std.specs.Int.{w32, to_be_bytes}
use Rattle.std.specs.List.{AllByRecursion, concat}
use Rattle.basics.specs.Optional.{◌>>=◌}
use Rattle.be_bytes.specs.Reading.{prefix_of, uint32}
use Rattle.be_bytes.proofs.FieldLemmas.{uint32-field}
use Rattle.be_bytes.proofs.RecordLemmas.{prefix_at}
use Rattle.sfnt_write.specs.FontFile.{HEAD, StandInOrder, TableRecord, record_of, slice_in, with_zeros}
use Rattle.sfnt_write.specs.Layout.{adjusted, filled, filling, piece_of, record_at, records_from}
use Rattle.sfnt_write.specs.Tables.{IsPlainHead, Rise, Slice, bytes_of}
use Rattle.sfnt_write.proofs.HeadBytes.{IsNotHead, IsPlain, adjusted_head, adjusted_other, adjusted_size, checksum_same, first_size, four_at, none_later, parts_of}
use Rattle.sfnt_write.proofs.WordSums.{filled_size, filled_whole}

-- ---- bytes after others

pub part_at : (file prefix own zeros more : List ℕ) (offset size : ℕ) → file ≡ prefix ++ ((own ++ zeros) ++ more) → length prefix ≡ offset → length own ≡ size → prefix_of size (drop offset file) ≡ Some own
part_at file prefix own zeros more offset size spelled at is =
    ap (λ (b : List ℕ). prefix_of size (drop offset b)) spelled
    ∙ ap (prefix_of size) (drop_at prefix ((own ++ zeros) ++ more) offset at ∙ append_assoc own zeros more)
    ∙ prefix_at own (zeros ++ more) size is

pub further : (file prefix block more : List ℕ) (offset : ℕ) → file ≡ prefix ++ (block ++ more) → length prefix ≡ offset → (file ≡ (prefix ++ block) ++ more) × (length (prefix ++ block) ≡ offset + length block)
further file prefix block more offset spelled at =
    (spelled ∙ sym (append_assoc prefix block more), omega (arith, length-append prefix block))

-- the size of a table's piece is that of the table as it was given, filled
piece_size : (n : ℕ) (own : Slice) → IsPlain own → length (piece_of n own) ≡ length (filled own.bytes)
piece_size n own plain =
    omega (arith, filled_size (adjusted n own.tag own.bytes), filled_size own.bytes, adjusted_size n own plain)

-- ---- each tag has its table

found_step : (test : Bool) (own : TableRecord) (others : Option TableRecord) (f : TableRecord → Option (List ℕ)) (h : List ℕ → List ℕ) (b : List ℕ) (more : Option (List ℕ)) → (test ≡ true → f own ≡ Some (h b)) → (others >>= f) ≡ option_map h more
    → ((if test then Some own else others) >>= f) ≡ option_map h (if test then Some b else more)
found_step true own others f h b more here later = here refl
found_step false own others f h b more here later = later

pub found : (n : ℕ) (file prefix : List ℕ) (offset : ℕ) (tables : List Slice) (tag : ℕ) → AllByRecursion IsPlain tables → file ≡ prefix ++ concat (map (piece_of n) tables) → length prefix ≡ offset
    → (record_of tag (records_from offset tables) >>= slice_in file) ≡ option_map (adjusted n tag) (bytes_of tag tables)
found n file prefix offset [] tag plain spelled at = refl
found n file prefix offset (own ∷ others) tag plain spelled at =
    let bytes : List ℕ = adjusted n own.tag own.bytes in
    let zeros : List ℕ = replicate (filling (length bytes)) 0 in
    let more : List ℕ = concat (map (piece_of n) others) in
    let there = part_at file prefix bytes zeros more offset (length own.bytes) spelled at (adjusted_size n own plain.0) in
    let next = further file prefix (piece_of n own) more offset spelled at in
    let size = piece_size n own plain.0 in
    let later = found n file (prefix ++ piece_of n own) (offset + length (filled own.bytes)) others tag plain.1 next.0 (omega (arith, next.1, size)) in
    let here : nat_eq own.tag tag ≡ true → slice_in file (record_at offset own) ≡ Some (adjusted n tag own.bytes) =
    λ (is : nat_eq own.tag tag ≡ true). there ∙ ap (λ (t : ℕ). Some (adjusted n t own.bytes)) (eqb-true own.tag tag is) in
    found_step (nat_eq own.tag tag) (record_at offset own) (record_of tag (records_from (offset + length (filled own.bytes)) others)) (slice_in file) (adjusted n tag) own.bytes (bytes_of tag others) here later

-- ---- the tables stand in order

pub stand : (n : ℕ) (file prefix : List ℕ) (tag low offset : ℕ) (tables : List Slice) → AllByRecursion IsPlain tables → Rise tag tables → file ≡ prefix ++ concat (map (piece_of n) tables) → length prefix ≡ offset → low ≤ offset → offset % 4 ≡ 0
    → StandInOrder file tag low (records_from offset tables)
stand n file prefix tag low offset [] plain rise spelled at above whole = tt
stand n file prefix tag low offset (own ∷ others) plain rise spelled at above whole =
    let bytes : List ℕ = adjusted n own.tag own.bytes in
    let zeros : List ℕ = replicate (filling (length bytes)) 0 in
    let more : List ℕ = concat (map (piece_of n) others) in
    let same = adjusted_size n own plain.0 in
    let next = further file prefix (piece_of n own) more offset spelled at in
    let size = piece_size n own plain.0 in
    let filled_is = filled_size own.bytes in
    let end : offset + length own.bytes ≤ length file = omega (arith, ap length next.0, length-append (prefix ++ piece_of n own) more, next.1, size, filled_is) in (
      record {
        rises = rise.0;
        after_others = above;
        aligned = whole;
        within = end;
        bytes = bytes;
        there = part_at file prefix bytes zeros more offset (length own.bytes) spelled at same;
        summed = checksum_same n own plain.0;
      },
      stand n file (prefix ++ piece_of n own) (own.tag + 1) (offset + length own.bytes) (offset + length (filled own.bytes)) others plain.1 rise.1 next.0 (omega (arith, next.1, size)) (omega (arith, filled_is)) (omega (arith, filled_whole own.bytes)),
    )

-- ---- head and its adjustment

-- the pieces of tables without head are the tables, filled
pieces_plain : (n : ℕ) (tables : List Slice) → AllByRecursion IsNotHead tables → map (piece_of n) tables ≡ map (λ own. filled own.bytes) tables
pieces_plain n [] none = refl
pieces_plain n (own ∷ others) none =
    elim (eqb_tells own.tag HEAD) [
      | inl is ↦ absurd (none.0 is.1)
      | inr isnt ↦
          ap (λ (b : List ℕ). filled b ∷ map (piece_of n) others) (adjusted_other n own isnt.0)
          ∙ ap (λ (bs : List (List ℕ)). filled own.bytes ∷ bs) (pieces_plain n others none.1)
    ]

-- the record of head, its field, and the file with this field taken as 0
pub record HeadStands (n : ℕ) (file prefix : List ℕ) (offset : ℕ) (tables : List Slice) : Type 0 where
  pub head : TableRecord
  pub there : record_of HEAD (records_from offset tables) ≡ Some head
  pub size : head.size ≡ 54
  pub field : uint32 (drop (head.offset + 8) file) ≡ Some n
  pub zeros : with_zeros (head.offset + 8) file ≡ prefix ++ concat (map (λ own. filled own.bytes) tables)

regroup : (prefix first word last zeros more : List ℕ) → prefix ++ (((first ++ (word ++ last)) ++ zeros) ++ more) ≡ (prefix ++ first) ++ (word ++ ((last ++ zeros) ++ more))
regroup prefix first word last zeros more = simp append_assoc

-- the first table is head
here_stands : (n : ℕ) (file prefix : List ℕ) (offset : ℕ) (own : Slice) (others : List Slice) → n < 2 ^ 32 → nat_eq own.tag HEAD ≡ true → IsPlainHead own.bytes → AllByRecursion IsNotHead others → length (adjusted n own.tag own.bytes) ≡ length own.bytes → file ≡ prefix ++ concat (map (piece_of n) (own ∷ others)) → length prefix ≡ offset
    → HeadStands n file prefix offset (own ∷ others)
here_stands n file prefix offset own others fits is plain none same spelled at =
    let first : List ℕ = take 8 own.bytes in
    let last : List ℕ = drop 4 (drop 8 own.bytes) in
    let word : List ℕ = to_be_bytes w32 n in
    let zeros : List ℕ = replicate (filling (length own.bytes)) 0 in
    let more : List ℕ = concat (map (λ other. filled other.bytes) others) in
    let eight = first_size own.bytes plain in
    let piece_is : piece_of n own ≡ (first ++ (word ++ last)) ++ zeros =
    ap (λ (size : ℕ). adjusted n own.tag own.bytes ++ replicate (filling size) 0) same ∙ ap (λ (b : List ℕ). b ++ zeros) (adjusted_head n own is) in
    let file_is : file ≡ (prefix ++ first) ++ (word ++ ((last ++ zeros) ++ more)) =
    spelled
    ∙ ap (λ (bs : List (List ℕ)). prefix ++ (piece_of n own ++ concat bs)) (pieces_plain n others none)
    ∙ ap (λ (b : List ℕ). prefix ++ (b ++ more)) piece_is
    ∙ regroup prefix first word last zeros more in
    let before : length (prefix ++ first) ≡ offset + 8 = omega (arith, length-append prefix first, eight) in
    record {
      head = record_at offset own;
      there = cond-true (nat_eq own.tag HEAD) (Some (record_at offset own)) (record_of HEAD (records_from (offset + length (filled own.bytes)) others)) is;
      size = plain.size;
      field = ap uint32 (ap (drop (offset + 8)) file_is ∙ drop_at (prefix ++ first) (word ++ ((last ++ zeros) ++ more)) (offset + 8) before) ∙ uint32-field n ((last ++ zeros) ++ more) fits;
      zeros =
          ap (with_zeros (offset + 8)) file_is
          ∙ four_at (prefix ++ first) word ((last ++ zeros) ++ more) (offset + 8) before refl
          ∙ sym (regroup prefix first (0 ∷ 0 ∷ 0 ∷ 0 ∷ []) last zeros more)
          ∙ ap (λ (b : List ℕ). prefix ++ ((b ++ zeros) ++ more)) (sym (parts_of own.bytes plain));
    }

-- another table is before head
later_stands : (n : ℕ) (file prefix : List ℕ) (offset : ℕ) (own : Slice) (others : List Slice) → nat_eq own.tag HEAD ≡ false → HeadStands n file (prefix ++ filled own.bytes) (offset + length (filled own.bytes)) others → HeadStands n file prefix offset (own ∷ others)
later_stands n file prefix offset own others isnt later =
    record {
      head = later.head;
      there = cond-false (nat_eq own.tag HEAD) (Some (record_at offset own)) (record_of HEAD (records_from (offset + length (filled own.bytes)) others)) isnt ∙ later.there;
      size = later.size;
      field = later.field;
      zeros = later.zeros ∙ append_assoc prefix (filled own.bytes) (concat (map (λ other. filled other.bytes) others));
    }

pub head_stands : (n : ℕ) (file prefix : List ℕ) (tag offset : ℕ) (tables : List Slice) (head : List ℕ) → n < 2 ^ 32 → AllByRecursion IsPlain tables → Rise tag tables → bytes_of HEAD tables ≡ Some head → file ≡ prefix ++ concat (map (piece_of n) tables) → length prefix ≡ offset
    → HeadStands n file prefix offset tables
head_stands n file prefix tag offset [] head fits plain rise there spelled at = absurd cc
head_stands n file prefix tag offset (own ∷ others) head fits plain rise there spelled at =
    elim (eqb_tells own.tag HEAD) [
      | inl is ↦ here_stands n file prefix offset own others fits is.0 (plain.0 is.1) (none_later (own.tag + 1) others (omega (arith, is.1)) rise.1) (adjusted_size n own plain.0) spelled at
      | inr isnt ↦
          let same : piece_of n own ≡ filled own.bytes = ap filled (adjusted_other n own isnt.0) in
          let more : List ℕ = concat (map (piece_of n) others) in
          let next = further file prefix (filled own.bytes) more offset (spelled ∙ ap (λ (b : List ℕ). prefix ++ (b ++ more)) same) at in
          let later : bytes_of HEAD others ≡ Some head = sym (cond-false (nat_eq own.tag HEAD) (Some own.bytes) (bytes_of HEAD others) isnt.0) ∙ there in
          later_stands n file prefix offset own others isnt.0 (head_stands n file (prefix ++ filled own.bytes) (own.tag + 1) (offset + length (filled own.bytes)) others head fits plain.1 rise.1 later next.0 next.1)
    ]
