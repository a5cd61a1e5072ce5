use Rattle.std.proofs.Common.{◌≡◌, ℕ, ◌+◌, ◌*◌, ◌≤◌, List, ◌++◌, length, Some, sym, ap, subst, ◌∙◌, arith, append_assoc}
use Rattle.std.specs.List.{flat_map}
use Rattle.be_bytes.specs.Fields.{fields_bytes}
use Rattle.fontinfo.specs.declared.info.Info.{Info}
use Rattle.plain_tables.specs.FixedFields.{AreRead, table_bytes}
use Rattle.plain_tables.specs.GlyphNames.{index_bytes, name_bytes, names_in, numbers_from, post_fields, post_of}
use Rattle.plain_tables.proofs.FieldRanges.{post_fit, post_follow}
use Rattle.plain_tables.proofs.FieldReading.{table_read}
use Rattle.plain_tables.proofs.NameReading.{post_back, post_size}
use Rattle.plain_tables.proofs.glyph_names.post.Goals as goal

pub returns-clause-written : goal.returns-clause-written
returns-clause-written c =
    let info : Info = c.args.facts.now.info in
    let names : List (List ℕ) = c.as_slice-names.result.now in
    let n : ℕ = length names in
    let indexes : List ℕ = flat_map index_bytes (numbers_from 258 n) in
    let strings : List ℕ = flat_map name_bytes names in
    c.in_ok-put_names.ensures
    ∙ ap (λ (bytes : List ℕ). bytes ++ strings) c.in_ok-put_indexes.ensures
    ∙ ap (λ (bytes : List ℕ). (bytes ++ indexes) ++ strings) (c.in_ok-bytes.ensures ∙ ap fields_bytes c.post_fields.ensures.value)
    ∙ append_assoc (table_bytes (post_fields info n)) indexes strings
    ∙ ap (λ (own : List (List ℕ)). table_bytes (post_fields info (length own)) ++ (flat_map index_bytes (numbers_from 258 (length own)) ++ flat_map name_bytes own)) c.as_slice-names.ensures

pub returns-clause-means : goal.returns-clause-means
returns-clause-means c =
    let info : Info = c.args.facts.now.info in
    let n : ℕ = length c.args.facts.now.names in
    let rest : List ℕ = flat_map index_bytes (numbers_from 258 n) ++ flat_map name_bytes c.args.facts.now.names in
    subst (AreRead (post_of c.args.facts.now)) (sym (returns-clause-written c))
    (table_read (post_of c.args.facts.now) rest (post_follow info n) (post_fit info n c.requires.numbers c.post_fields.ensures.italic (omega (arith, c.requires.greatest))))

pub returns-clause-names : goal.returns-clause-names
returns-clause-names c = ap names_in (returns-clause-written c) ∙ post_back c.args.facts.now c.requires.greatest

pub returns-clause-size : goal.returns-clause-size
returns-clause-size c =
    subst (λ (bytes : List ℕ). length bytes ≤ 34 + 66 * length c.args.facts.now.names) (sym (returns-clause-written c)) (post_size c.args.facts.now c.requires)
