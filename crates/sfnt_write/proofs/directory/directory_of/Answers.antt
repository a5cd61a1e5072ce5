use Rattle.std.proofs.Common.{◌≡◌, ℕ, ◌++◌, ◌%◌, ◌^◌, List, length, map, subst, sym, ap, ◌∙◌, arith}
use Rattle.std.proofs.lemmas.List.{length-map}
use Rattle.std.specs.List.{flat_map}
use Rattle.be_bytes.specs.Fields.{fields_bytes}
use Rattle.be_bytes.specs.WordSum.{word_sum}
use Rattle.search_fields.specs.SearchFields.{AreSearchFields}
use Rattle.search_fields.specs.declared.SearchFields.{SearchFields}
use Rattle.sfnt_write.specs.Layout.{header_fields, record_bytes, records_from, tables_offset}
use Rattle.sfnt_write.specs.Steps.{tables_sum}
use Rattle.sfnt_write.specs.Tables.{Slice, slice_of}
use Rattle.sfnt_write.proofs.directory.directory_of.Goals as goal

pub returns : goal.returns
returns c =
    let tables : List Slice = map slice_of c.args.tables.now in
    let search : SearchFields = c.search_fields-search.result in
    let count : length tables ≡ length c.args.tables.now = length-map c.args.tables.now slice_of in
    let records = c.in_ok-tables_sum.ensures in
    let words : c.sum32.result ≡ word_sum c.put_records.new.out.items % 2 ^ 32 = c.sum32.ensures ∙ ap (λ (b : List ℕ). word_sum b % 2 ^ 32) c.deref.ensures.value in
    let sums : c.in_ok-tables_sum.tables_sum ≡ tables_sum tables % 2 ^ 32 = records.sum in
    record {
      search = search;
      search_are = subst (λ (n : ℕ). AreSearchFields 16 n search) (sym count) c.search_fields-search.ensures;
      bytes_are =
          records.written
          ∙ ap (λ (b : List ℕ). b ++ flat_map record_bytes (records_from (tables_offset (length c.args.tables.now)) tables))
          (c.in_ok-put_fields.ensures ∙ ap (λ (b : List ℕ). b ++ fields_bytes c.header.result) c.new-bytes.ensures.items ∙ ap fields_bytes c.header.ensures)
          ∙ ap (λ (n : ℕ). fields_bytes (header_fields n search) ++ flat_map record_bytes (records_from (tables_offset n) tables)) (sym count);
      sum_is = omega (arith, words, sums);
      fit = records.fit;
    }
