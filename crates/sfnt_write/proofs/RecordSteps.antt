-- One table more in the loop over the records.
use Rattle.std.proofs.Common.{◌≡◌, ℕ, ◌+◌, ◌*◌, ◌%◌, ◌^◌, ◌<◌, ◌≤◌, List, [], ◌∷◌, ◌++◌, length, map, take, drop, get_or, sym, ap, subst, ◌∙◌, arith, append_assoc}
use Rattle.std.proofs.lemmas.List.{drop_more, map_more}
use Rattle.std.proofs.lemmas.List.Elements.{All-push}
use Rattle.std.proofs.lemmas.List.Sums.{sum_by-cons}
use Rattle.std.specs.Prelude.{All}
use Rattle.std.specs.List.{flat_map}
use Rattle.be_bytes.specs.WordSum.{word_sum}
use Rattle.sfnt_write.specs.Layout.{filled, record_at, record_bytes, records_from}
use Rattle.sfnt_write.specs.Steps.{FitsTag, tables_sum}
use Rattle.sfnt_write.specs.Tables.{Slice, slice_of, total_size}
use Rattle.sfnt_write.specs.declared.table.Table.{Table}
use Rattle.sfnt_write.proofs.WordSums.{filled_size}

-- a table of those that are left, and the others
pub left_is : (tables : List Table) (i : ℕ) (own : Table) → i < length tables → own ≡ get_or tables i own → drop i tables ≡ own ∷ drop (i + 1) tables
left_is tables i own within is = drop_more tables i own within ∙ ap (λ (table : Table). table ∷ drop (i + 1) tables) (sym is)

pub written_more : (out new whole : List ℕ) (offset end : ℕ) (left others : List Table) (own : Table) → left ≡ own ∷ others → new ≡ out ++ record_bytes (record_at offset (slice_of own)) → end ≡ offset + length (filled (slice_of own).bytes)
    → out ++ flat_map record_bytes (records_from offset (map slice_of left)) ≡ whole → new ++ flat_map record_bytes (records_from end (map slice_of others)) ≡ whole
written_more out new whole offset end left others own is new_is end_is before =
    ap (λ (b : List ℕ). b ++ flat_map record_bytes (records_from end (map slice_of others))) new_is
    ∙ ap (λ (n : ℕ). (out ++ record_bytes (record_at offset (slice_of own))) ++ flat_map record_bytes (records_from n (map slice_of others))) end_is
    ∙ append_assoc out (record_bytes (record_at offset (slice_of own))) (flat_map record_bytes (records_from (offset + length (filled (slice_of own).bytes)) (map slice_of others)))
    ∙ ap (λ (tables : List Table). out ++ flat_map record_bytes (records_from offset (map slice_of tables))) (sym is)
    ∙ before

pub size_left : (left others : List Table) (own : Table) → left ≡ own ∷ others → total_size (map slice_of left) ≡ length (slice_of own).bytes + total_size (map slice_of others)
size_left left others own is =
    ap (λ (tables : List Table). total_size (map slice_of tables)) is
    ∙ sum_by-cons (λ (table : Slice). length table.bytes) (slice_of own) (map slice_of others)

pub sum_left : (left others : List Table) (own : Table) → left ≡ own ∷ others → tables_sum (map slice_of left) ≡ word_sum (slice_of own).bytes + tables_sum (map slice_of others)
sum_left left others own is =
    ap (λ (tables : List Table). tables_sum (map slice_of tables)) is
    ∙ sum_by-cons (λ (table : Slice). word_sum table.bytes) (slice_of own) (map slice_of others)

pub sum_more : (sum checksum words others left whole : ℕ) → left ≡ words + others → checksum ≡ words % 2 ^ 32 → (sum + left) % 2 ^ 32 ≡ whole % 2 ^ 32 → ((sum + checksum) % 2 ^ 32 + others) % 2 ^ 32 ≡ whole % 2 ^ 32
sum_more sum checksum words others left whole left_is is before = omega arith

pub room_more : (offset end room : ℕ) (left others : List Table) (own : Table) → left ≡ own ∷ others → end ≡ offset + length (filled (slice_of own).bytes) → offset + total_size (map slice_of left) + 3 * length left ≤ room → end + total_size (map slice_of others) + 3 * length others ≤ room
room_more offset end room left others own is end_is before =
    omega (arith, size_left left others own is, ap length is, filled_size (slice_of own).bytes)

pub fit_more : (tables : List Table) (i : ℕ) (own : Table) → i < length tables → own ≡ get_or tables i own → All FitsTag (map slice_of (take i tables)) → FitsTag (slice_of own) → All FitsTag (map slice_of (take (i + 1) tables))
fit_more tables i own within is all fits =
    subst (All FitsTag) (sym (map_more slice_of tables i own within ∙ ap (λ (table : Table). map slice_of (take i tables) ++ slice_of table ∷ []) (sym is)))
    (All-push FitsTag (map slice_of (take i tables)) (slice_of own) all fits)
