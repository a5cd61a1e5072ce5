-- The table: a glyph after others, and that the bytes are determined.
use Rattle.std.proofs.Common.{◌≡◌, ℕ, zero, suc, ◌+◌, ◌*◌, ◌^◌, ◌<◌, ◌≤◌, List, [], ◌∷◌, ◌++◌, length, map, drop, get_or, refl, sym, ap, subst, ◌∙◌, arith, length-append, append_assoc}
use Rattle.std.proofs.lemmas.List.{append-nil, drop_all, drop_more}
use Rattle.std.specs.List.{flat_map, AllZip}
use Rattle.variation_rules.specs.Fields.{word}
use Rattle.gvar_table.specs.declared.tuple.Tuple.{Tuple}
use Rattle.gvar_table.specs.Layout.{IsWritten}
use Rattle.gvar_table.specs.Table.{AddsGlyph, AreAllWritten, AreGlyphsOf, IsWrittenTable, data_offset, ends_from, joined, long, offset_bytes, points_in_tuples, table_header}
use Rattle.gvar_table.specs.Tuples.{AreTuplesOf, variation_of}
use Rattle.gvar_table.proofs.OneWriting.{one_writing}

-- offsets and data of all glyphs
pub record StandFor (counts : List ℕ) (glyphs : List (List Tuple)) (offsets body : List ℕ) : Type 0 where
  pub blocks : List (List ℕ)
  pub each : AreAllWritten counts glyphs blocks
  pub offsets_are : offsets ≡ offset_bytes blocks
  pub body_is : body ≡ joined blocks

-- what stands for the glyphs after some, whose data end at this length, completes the whole
abbrev pub Completes : List ℕ → List (List Tuple) → List ℕ → List ℕ → List ℕ → List (List Tuple) → Type 0
Completes counts glyphs offsets body some_counts some_glyphs =
    (more : List (List ℕ)) → AreAllWritten some_counts some_glyphs more → StandFor counts glyphs (offsets ++ flat_map long (ends_from (length body) more)) (body ++ joined more)

-- one glyph more
glyph_added : (counts some_counts : List ℕ) (glyphs some_glyphs : List (List Tuple)) (count : ℕ) (tuples : List Tuple) (offsets new_offsets body new_body : List ℕ) → AddsGlyph count tuples offsets new_offsets body new_body
    → Completes counts glyphs offsets body (count ∷ some_counts) (tuples ∷ some_glyphs) → Completes counts glyphs new_offsets new_body some_counts some_glyphs
glyph_added counts some_counts glyphs some_glyphs count tuples offsets new_offsets body new_body adds completes more each =
    let whole = completes (adds.own ∷ more) (adds.is_written, each) in
    let end : length body + length adds.own ≡ length new_body = sym (ap length adds.body_after ∙ length-append body adds.own) in
    let prefix : offsets ++ flat_map long (ends_from (length body) (adds.own ∷ more)) ≡ new_offsets ++ flat_map long (ends_from (length new_body) more) =
    sym (append_assoc offsets (long (length body + length adds.own)) (flat_map long (ends_from (length body + length adds.own) more)))
    ∙ ap (λ o. o ++ flat_map long (ends_from (length body + length adds.own) more)) (sym adds.offset_after)
    ∙ ap (λ n. new_offsets ++ flat_map long (ends_from n more)) end in
    let back : body ++ joined (adds.own ∷ more) ≡ new_body ++ joined more = sym (append_assoc body adds.own (joined more)) ∙ ap (λ d. d ++ joined more) (sym adds.body_after) in
    subst (λ (d : List ℕ). StandFor counts glyphs (new_offsets ++ flat_map long (ends_from (length new_body) more)) d) back
    (subst (λ (o : List ℕ). StandFor counts glyphs o (body ++ joined (adds.own ∷ more))) prefix whole)

-- the same at an index of the list
pub next_glyph : (i count : ℕ) (counts : List ℕ) (tuples : List Tuple) (glyphs : List (List Tuple)) (offsets new_offsets body new_body : List ℕ) → i < length counts → i < length glyphs → count ≡ get_or counts i 0 → tuples ≡ get_or glyphs i tuples → AddsGlyph count tuples offsets new_offsets body new_body
    → Completes counts glyphs offsets body (drop i counts) (drop i glyphs) → Completes counts glyphs new_offsets new_body (drop (i + 1) counts) (drop (i + 1) glyphs)
next_glyph i count counts tuples glyphs offsets new_offsets body new_body inside within count_is tuples_are adds completes =
    let counts_prefix : drop i counts ≡ count ∷ drop (i + 1) counts = drop_more counts i 0 inside ∙ ap (λ c. c ∷ drop (i + 1) counts) (sym count_is) in
    let glyphs_prefix : drop i glyphs ≡ tuples ∷ drop (i + 1) glyphs = drop_more glyphs i tuples within ∙ ap (λ t. t ∷ drop (i + 1) glyphs) (sym tuples_are) in
    let at : Completes counts glyphs offsets body (count ∷ drop (i + 1) counts) (tuples ∷ drop (i + 1) glyphs) =
    subst (λ (t : List (List Tuple)). Completes counts glyphs offsets body (count ∷ drop (i + 1) counts) t) glyphs_prefix
    (subst (λ (c : List ℕ). Completes counts glyphs offsets body c (drop i glyphs)) counts_prefix completes) in
    glyph_added counts (drop (i + 1) counts) glyphs (drop (i + 1) glyphs) count tuples offsets new_offsets body new_body adds at

-- there is one count for each glyph
pub one_count_each : (axes : ℕ) (counts : List ℕ) (glyphs : List (List Tuple)) → AllZip (AreTuplesOf axes) counts glyphs → length counts ≡ length glyphs
one_count_each axes [] [] each = refl
one_count_each axes [] (tuples ∷ glyphs) each = absurd each
one_count_each axes (count ∷ counts) [] each = absurd each
one_count_each axes (count ∷ counts) (tuples ∷ glyphs) each = omega (arith, one_count_each axes counts glyphs each.1)

-- the tuples of a glyph can be written
pub tuples_at : (axes : ℕ) (counts : List ℕ) (glyphs : List (List Tuple)) (i : ℕ) (d : List Tuple) → i < length glyphs → AllZip (AreTuplesOf axes) counts glyphs → AreTuplesOf axes (get_or counts i 0) (get_or glyphs i d)
tuples_at axes [] [] i d inside each = absurd (omega arith)
tuples_at axes [] (tuples ∷ glyphs) i d inside each = absurd each
tuples_at axes (count ∷ counts) [] i d inside each = absurd each
tuples_at axes (count ∷ counts) (tuples ∷ glyphs) zero d inside each = each.0
tuples_at axes (count ∷ counts) (tuples ∷ glyphs) (suc i) d inside each = tuples_at axes counts glyphs i d (omega arith) each.1

-- how many bytes are still wanted for the glyphs from one on
abbrev pub wanted : ℕ → List ℕ → List (List Tuple) → ℕ
wanted i counts glyphs = 4 * length (drop i glyphs) + 23 * points_in_tuples (drop i counts) (drop i glyphs)

pub wanted_here : (i count : ℕ) (counts : List ℕ) (tuples : List Tuple) (glyphs : List (List Tuple)) → i < length counts → i < length glyphs → count ≡ get_or counts i 0 → tuples ≡ get_or glyphs i tuples → wanted i counts glyphs ≡ 4 + 23 * (count * length tuples) + wanted (i + 1) counts glyphs
wanted_here i count counts tuples glyphs inside within count_is tuples_are =
    let counts_prefix : drop i counts ≡ count ∷ drop (i + 1) counts = drop_more counts i 0 inside ∙ ap (λ c. c ∷ drop (i + 1) counts) (sym count_is) in
    let glyphs_prefix : drop i glyphs ≡ tuples ∷ drop (i + 1) glyphs = drop_more glyphs i tuples within ∙ ap (λ t. t ∷ drop (i + 1) glyphs) (sym tuples_are) in
    let opened : points_in_tuples (drop i counts) (drop i glyphs) ≡ count * length tuples + points_in_tuples (drop (i + 1) counts) (drop (i + 1) glyphs) = ap (λ c. points_in_tuples c (drop i glyphs)) counts_prefix ∙ ap (points_in_tuples (count ∷ drop (i + 1) counts)) glyphs_prefix in
    omega (arith, opened, ap length glyphs_prefix)

-- all glyphs together want less than 32 bits can count
pub wanted_at_first : (axes : ℕ) (counts : List ℕ) (glyphs : List (List Tuple)) → AreGlyphsOf axes counts glyphs → wanted 0 counts glyphs < 2 ^ 32
wanted_at_first axes counts glyphs are = omega (arith, are.few, are.small)

-- as many data as glyphs
block_each : (counts : List ℕ) (glyphs : List (List Tuple)) (blocks : List (List ℕ)) → AreAllWritten counts glyphs blocks → length blocks ≡ length glyphs
block_each [] [] [] each = refl
block_each [] [] (own ∷ blocks) each = absurd each
block_each [] (tuples ∷ glyphs) blocks each = absurd each
block_each (count ∷ counts) [] blocks each = absurd each
block_each (count ∷ counts) (tuples ∷ glyphs) [] each = absurd each
block_each (count ∷ counts) (tuples ∷ glyphs) (own ∷ blocks) each = omega (arith, block_each counts glyphs blocks each.1)

-- where no glyph is left, the table stands
pub written_table : (axes i : ℕ) (counts : List ℕ) (glyphs : List (List Tuple)) (offsets body bytes : List ℕ) → length counts ≤ i → length glyphs ≤ i → length body < 2 ^ 32 → Completes counts glyphs offsets body (drop i counts) (drop i glyphs) → bytes ≡ table_header axes (length glyphs) ++ (offsets ++ body) → IsWrittenTable axes counts glyphs bytes
written_table axes i counts glyphs offsets body bytes no_counts no_glyphs small completes spelled =
    let last : AreAllWritten (drop i counts) (drop i glyphs) [] =
    subst (λ (t : List (List Tuple)). AreAllWritten (drop i counts) t []) (sym (drop_all i glyphs no_glyphs))
    (subst (λ (c : List ℕ). AreAllWritten c [] []) (sym (drop_all i counts no_counts)) tt) in
    let whole = completes [] last in
    let offsets_are : offsets ≡ offset_bytes whole.blocks = sym (append-nil offsets) ∙ whole.offsets_are in
    let body_is : body ≡ joined whole.blocks = sym (append-nil body) ∙ whole.body_is in
    record {
      blocks = whole.blocks;
      each = whole.each;
      small = omega (arith, small, ap length body_is);
      spelled =
          spelled
          ∙ ap (λ n. table_header axes n ++ (offsets ++ body)) (sym (block_each counts glyphs whole.blocks whole.each))
          ∙ ap (λ o. table_header axes (length whole.blocks) ++ (o ++ body)) offsets_are
          ∙ ap (λ d. table_header axes (length whole.blocks) ++ (offset_bytes whole.blocks ++ d)) body_is;
    }

pub table_block_each : (axes : ℕ) (counts : List ℕ) (glyphs : List (List Tuple)) (bytes : List ℕ) (table : IsWrittenTable axes counts glyphs bytes) → length table.blocks ≡ length glyphs
table_block_each axes counts glyphs bytes table = block_each counts glyphs table.blocks table.each

-- the data of a glyph are those of its tuples
pub written_at : (counts : List ℕ) (glyphs : List (List Tuple)) (blocks : List (List ℕ)) (g : ℕ) → g < length glyphs → AreAllWritten counts glyphs blocks → IsWritten (get_or counts g 0) (get_or blocks g []) (map variation_of (get_or glyphs g []))
written_at [] [] blocks g inside each = absurd (omega arith)
written_at [] (tuples ∷ glyphs) blocks g inside each = absurd each
written_at (count ∷ counts) [] blocks g inside each = absurd (omega arith)
written_at (count ∷ counts) (tuples ∷ glyphs) [] g inside each = absurd each
written_at (count ∷ counts) (tuples ∷ glyphs) (own ∷ blocks) zero inside each = each.0
written_at (count ∷ counts) (tuples ∷ glyphs) (own ∷ blocks) (suc g) inside each = written_at counts glyphs blocks g (omega arith) each.1

-- the same tuples have the same data
one_list_of_blocks : (counts : List ℕ) (glyphs : List (List Tuple)) (blocks other : List (List ℕ)) → AreAllWritten counts glyphs blocks → AreAllWritten counts glyphs other → blocks ≡ other
one_list_of_blocks [] [] [] [] a b = refl
one_list_of_blocks [] [] [] (own ∷ other) a b = absurd b
one_list_of_blocks [] [] (own ∷ blocks) other a b = absurd a
one_list_of_blocks [] (tuples ∷ glyphs) blocks other a b = absurd a
one_list_of_blocks (count ∷ counts) [] blocks other a b = absurd a
one_list_of_blocks (count ∷ counts) (tuples ∷ glyphs) [] other a b = absurd a
one_list_of_blocks (count ∷ counts) (tuples ∷ glyphs) (own ∷ blocks) [] a b = absurd b
one_list_of_blocks (count ∷ counts) (tuples ∷ glyphs) (own ∷ blocks) (its ∷ other) a b =
    ap (λ o. o ∷ blocks) (one_writing count (map variation_of tuples) own its a.0 b.0) ∙ ap (λ d. its ∷ d) (one_list_of_blocks counts glyphs blocks other a.1 b.1)

pub one_table : (axes : ℕ) (counts : List ℕ) (glyphs : List (List Tuple)) (bytes other : List ℕ) → IsWrittenTable axes counts glyphs bytes → IsWrittenTable axes counts glyphs other → bytes ≡ other
one_table axes counts glyphs bytes other a b =
    a.spelled ∙ ap (λ d. table_header axes (length d) ++ (offset_bytes d ++ joined d)) (one_list_of_blocks counts glyphs a.blocks b.blocks a.each b.each) ∙ sym b.spelled

-- the header's fields, one after another
pub header_spelled : (axes glyphs offset : ℕ) (b0 b1 b2 b3 b4 b5 b6 b7 b8 : List ℕ) → offset ≡ data_offset glyphs → b1 ≡ b0 ++ word 1 → b2 ≡ b1 ++ word 0 → b3 ≡ b2 ++ word axes → b4 ≡ b3 ++ word 0 → b5 ≡ b4 ++ long offset → b6 ≡ b5 ++ word glyphs → b7 ≡ b6 ++ word 1 → b8 ≡ b7 ++ long offset → b8 ≡ b0 ++ table_header axes glyphs
unfolding table_header
header_spelled axes glyphs offset b0 b1 b2 b3 b4 b5 b6 b7 b8 is e1 e2 e3 e4 e5 e6 e7 e8 =
    e8 ∙ ap (λ b. b ++ long offset) (e7 ∙ ap (λ b. b ++ word 1) (e6 ∙ ap (λ b. b ++ word glyphs) (e5 ∙ ap (λ b. b ++ long offset) (e4 ∙ ap (λ b. b ++ word 0) (e3 ∙ ap (λ b. b ++ word axes) (e2 ∙ ap (λ b. b ++ word 0) e1))))))
    ∙ ap (λ p. ((((((((b0 ++ word 1) ++ word 0) ++ word axes) ++ word 0) ++ long p) ++ word glyphs) ++ word 1) ++ long p)) is
    ∙ simp append_assoc

-- the header, the offsets and the data, one after another
pub table_spelled : (header none prefix listed bytes offsets more_offsets body more_body : List ℕ) → none ≡ [] → prefix ≡ none ++ header → more_offsets ≡ offsets → listed ≡ prefix ++ more_offsets → more_body ≡ body → bytes ≡ listed ++ more_body → bytes ≡ header ++ (offsets ++ body)
table_spelled header none prefix listed bytes offsets more_offsets body more_body is_none prefix_is same_offsets listed_is same_body bytes_are =
    bytes_are ∙ ap (λ b. listed ++ b) same_body
    ∙ ap (λ l. l ++ body) (listed_is ∙ ap (λ o. prefix ++ o) same_offsets ∙ ap (λ f. f ++ offsets) (prefix_is ∙ ap (λ n. n ++ header) is_none))
    ∙ append_assoc header offsets body
