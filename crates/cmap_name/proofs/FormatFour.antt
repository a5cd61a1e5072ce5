-- A subtable of format 4 is read back as it was written, whatever follows, and gives the glyphs that its runs give.
use Rattle.std.proofs.Common.{◌≡◌, ℕ, ◌+◌, ◌*◌, ◌-◌, ◌/◌, ◌%◌, ◌^◌, ◌≤◌, ◌<◌, Bool, true, false, ◌&&◌, List, [], ◌∷◌, ◌++◌, length, length-append, map, drop, Option, Some, refl, sym, ap, ◌∙◌, append_assoc, arith}
use Rattle.std.proofs.lemmas.Bool.{leb-true}
use Rattle.std.proofs.lemmas.List.{append-nil, drop_at, length-map}
use Rattle.std.specs.Prelude.{if◌then◌else◌, nat_le}
use Rattle.std.specs.List.{AllByRecursion, flat_map}
use Rattle.be_bytes.specs.Fields.{fields_bytes}
use Rattle.be_bytes.specs.Reading.{prefix_of, records, uint16}
use Rattle.be_bytes.proofs.FieldLemmas.{uint16-field}
use Rattle.be_bytes.proofs.RecordLemmas.{ComesBack, each_of, prefix_at, records_back}
use Rattle.search_fields.specs.declared.SearchFields.{SearchFields}
use Rattle.cmap_name.specs.CharacterLayout.{IsFormat4, array_bytes, format_4_bytes, format_4_fields, item_of, last_segment, segment_of, segments_of, word}
use Rattle.cmap_name.specs.Characters.{Segments, glyph_in, glyph_in_groups, glyph_in_segments, segments_in, zipped}
use Rattle.cmap_name.specs.Steps.{FitsBasic}
use Rattle.cmap_name.specs.declared.format_4.Array.{Array}
use Rattle.cmap_name.specs.declared.format_4.Array.TheVariants.{EndCode, StartCode, IdDelta, IdRangeOffset}
use Rattle.cmap_name.specs.declared.format_4.Segment.{Segment}
use Rattle.cmap_name.specs.declared.groups.Group.{Group}
use Rattle.cmap_name.proofs.GroupLemmas.{GroupsRise, before_groups}

-- ---- an array

abbrev pub IsWord : ℕ → Type 0
IsWord n = n < 2 ^ 16

word_back : (n : ℕ) → IsWord n → ComesBack word uint16 2 n
word_back n fits = record { size_is = refl; back = uint16-field n [] fits }

each_word : (ns : List ℕ) → AllByRecursion IsWord ns → AllByRecursion (ComesBack word uint16 2) ns
each_word ns fit = each_of IsWord (ComesBack word uint16 2) word_back ns fit

pub words_read : (ns rest : List ℕ) (n : ℕ) → length ns ≡ n → AllByRecursion IsWord ns → records uint16 2 n (flat_map word ns ++ rest) ≡ Some ns
words_read ns rest n counted fit =
    ap (λ k. records uint16 2 k (flat_map word ns ++ rest)) (sym counted) ∙ records_back word uint16 2 ns rest (each_word ns fit)

pub words_size : (ns : List ℕ) → length (flat_map word ns) ≡ 2 * length ns
words_size [] = refl
words_size (n ∷ ns) = omega (arith, words_size ns)

array_size : (array : Array) (segments : List Segment) → length (array_bytes array segments) ≡ 2 * length segments
array_size array segments = omega (arith, words_size (map (item_of array) segments), length-map segments (item_of array))

array_read : (array : Array) (segments : List Segment) (rest : List ℕ) → AllByRecursion IsWord (map (item_of array) segments) → records uint16 2 (2 * length segments / 2) (array_bytes array segments ++ rest) ≡ Some (map (item_of array) segments)
array_read array segments rest fit =
    let half : 2 * length segments / 2 ≡ length segments = omega arith in
    words_read (map (item_of array) segments) rest (2 * length segments / 2) (length-map segments (item_of array) ∙ sym half) fit

-- what arrays have of runs fits
item_fits : (array : Array) (group : Group) → FitsBasic group → IsWord (item_of array (segment_of group))
item_fits EndCode group own = omega (arith, own.basic)
item_fits StartCode group own = omega (arith, own.basic, own.fits.ordered)
item_fits IdDelta group own = omega arith
item_fits IdRangeOffset group own = omega arith

last_fits : (array : Array) → IsWord (item_of array last_segment)
last_fits EndCode = omega arith
last_fits StartCode = omega arith
last_fits IdDelta = omega arith
last_fits IdRangeOffset = omega arith

items_fit : (array : Array) (groups : List Group) → AllByRecursion FitsBasic groups → AllByRecursion IsWord (map (item_of array) (segments_of groups))
items_fit array [] fit = (last_fits array, tt)
items_fit array (group ∷ groups) fit = (item_fits array group fit.0, items_fit array groups fit.1)

-- ---- the subtable

zipped_back : (segments : List Segment) → zipped (map (item_of EndCode) segments) (map (item_of StartCode) segments) (map (item_of IdDelta) segments) (map (item_of IdRangeOffset) segments) ≡ segments
zipped_back [] = refl
zipped_back (own ∷ segments) = ap (λ (rest : List Segment). own ∷ rest) (zipped_back segments)

read_segments : (bytes own : List ℕ) (size doubled : ℕ) (ends starts deltas offsets : List ℕ) → uint16 (drop 2 bytes) ≡ Some size → prefix_of size bytes ≡ Some own → uint16 (drop 6 own) ≡ Some doubled
    → records uint16 2 (doubled / 2) (drop 14 own) ≡ Some ends → records uint16 2 (doubled / 2) (drop (16 + doubled) own) ≡ Some starts → records uint16 2 (doubled / 2) (drop (16 + 2 * doubled) own) ≡ Some deltas → records uint16 2 (doubled / 2) (drop (16 + 3 * doubled) own) ≡ Some offsets
    → (let all : Segments = record { segments = zipped ends starts deltas offsets; bytes = drop (16 + 3 * doubled) own } in segments_in bytes ≡ Some all)
read_segments bytes own size doubled ends starts deltas offsets a b c d e f g = rw (a, b, c, d, e, f, g) refl

read_format_4 : (bytes : List ℕ) (own : Segments) (c : ℕ) → uint16 bytes ≡ Some 4 → segments_in bytes ≡ Some own → glyph_in bytes c ≡ glyph_in_segments own.segments own.bytes c
read_format_4 bytes own c a b = rw (a, b) refl

-- what follows a part of known size
after : (front more whole : List ℕ) (size : ℕ) → whole ≡ front ++ more → length front ≡ size → drop size whole ≡ more
after front more whole size is counted = ap (drop size) is ∙ drop_at front more size counted

after_ends : (h e p a d o : List ℕ) (doubled : ℕ) → length h ≡ 14 → length e ≡ doubled → length p ≡ 2 → drop (16 + doubled) (h ++ (e ++ (p ++ (a ++ (d ++ o))))) ≡ a ++ (d ++ o)
after_ends h e p a d o doubled hs es ps =
    after (h ++ (e ++ p)) (a ++ (d ++ o)) (h ++ (e ++ (p ++ (a ++ (d ++ o))))) (16 + doubled) (simp append_assoc) (omega (arith, length-append h (e ++ p), length-append e p))

after_starts : (h e p a d o : List ℕ) (doubled : ℕ) → length h ≡ 14 → length e ≡ doubled → length p ≡ 2 → length a ≡ doubled → drop (16 + 2 * doubled) (h ++ (e ++ (p ++ (a ++ (d ++ o))))) ≡ d ++ o
after_starts h e p a d o doubled hs es ps as1 =
    after (h ++ (e ++ (p ++ a))) (d ++ o) (h ++ (e ++ (p ++ (a ++ (d ++ o))))) (16 + 2 * doubled) (simp append_assoc) (omega (arith, length-append h (e ++ (p ++ a)), length-append e (p ++ a), length-append p a))

after_deltas : (h e p a d o : List ℕ) (doubled : ℕ) → length h ≡ 14 → length e ≡ doubled → length p ≡ 2 → length a ≡ doubled → length d ≡ doubled → drop (16 + 3 * doubled) (h ++ (e ++ (p ++ (a ++ (d ++ o))))) ≡ o
after_deltas h e p a d o doubled hs es ps as1 ds =
    after (h ++ (e ++ (p ++ (a ++ d)))) o (h ++ (e ++ (p ++ (a ++ (d ++ o))))) (16 + 3 * doubled) (simp append_assoc) (omega (arith, length-append h (e ++ (p ++ (a ++ d))), length-append e (p ++ (a ++ d)), length-append p (a ++ d), length-append a d))

whole_size : (h e p a d o : List ℕ) (doubled : ℕ) → length h ≡ 14 → length e ≡ doubled → length p ≡ 2 → length a ≡ doubled → length d ≡ doubled → length o ≡ doubled → length (h ++ (e ++ (p ++ (a ++ (d ++ o))))) ≡ 16 + 4 * doubled
whole_size h e p a d o doubled hs es ps as1 ds os =
    omega (arith, length-append h (e ++ (p ++ (a ++ (d ++ o)))), length-append e (p ++ (a ++ (d ++ o))), length-append p (a ++ (d ++ o)), length-append a (d ++ o), length-append d o)

format_4_size : (search : SearchFields) (segments : List Segment) → length (format_4_bytes search segments) ≡ 16 + 8 * length segments
unfolding format_4_fields
format_4_size search segments =
    whole_size (fields_bytes (format_4_fields (length segments) search)) (array_bytes EndCode segments) (word 0) (array_bytes StartCode segments) (array_bytes IdDelta segments) (array_bytes IdRangeOffset segments) (2 * length segments) refl (array_size EndCode segments) refl (array_size StartCode segments) (array_size IdDelta segments) (array_size IdRangeOffset segments)
    ∙ omega arith

count_is : (groups : List Group) → length (segments_of groups) ≡ length groups + 1
count_is groups = omega (arith, length-append (map segment_of groups) (last_segment ∷ []), length-map groups segment_of)

pub basic_size : (groups : List Group) (own : List ℕ) → IsFormat4 groups own → length own ≡ 16 + 8 * (length groups + 1)
basic_size groups own is =
    ap (λ (b : List ℕ). length b) is.bytes_are ∙ format_4_size is.search (segments_of groups) ∙ ap (λ n. 16 + 8 * n) (count_is groups)

format_4_segments : (search : SearchFields) (segments : List Segment) (rest : List ℕ) → length segments ≤ 8189 → ((array : Array) → AllByRecursion IsWord (map (item_of array) segments))
    → (let all : Segments = record { segments = segments; bytes = array_bytes IdRangeOffset segments } in segments_in (format_4_bytes search segments ++ rest) ≡ Some all)
unfolding format_4_fields
format_4_segments search segments rest few fit =
    let n : ℕ = length segments in
    let h : List ℕ = fields_bytes (format_4_fields n search) in
    let e : List ℕ = array_bytes EndCode segments in
    let a : List ℕ = array_bytes StartCode segments in
    let d : List ℕ = array_bytes IdDelta segments in
    let o : List ℕ = array_bytes IdRangeOffset segments in
    let es = array_size EndCode segments in
    let ss = array_size StartCode segments in
    let ds = array_size IdDelta segments in
    let own : List ℕ = format_4_bytes search segments in
    let size = format_4_size search segments in
    let deltas_after : drop (16 + 3 * (2 * n)) own ≡ o = after_deltas h e (word 0) a d o (2 * n) refl es refl ss ds in
    read_segments (own ++ rest) own (16 + 8 * n) (2 * n) (map (item_of EndCode) segments) (map (item_of StartCode) segments) (map (item_of IdDelta) segments) (map (item_of IdRangeOffset) segments)
    (uint16-field (16 + 8 * n) [] (omega arith))
    (prefix_at own rest (16 + 8 * n) size)
    (uint16-field (2 * n) [] (omega arith))
    (array_read EndCode segments (word 0 ++ (a ++ (d ++ o))) (fit EndCode))
    (ap (records uint16 2 (2 * n / 2)) (after_ends h e (word 0) a d o (2 * n) refl es refl) ∙ array_read StartCode segments (d ++ o) (fit StartCode))
    (ap (records uint16 2 (2 * n / 2)) (after_starts h e (word 0) a d o (2 * n) refl es refl ss) ∙ array_read IdDelta segments o (fit IdDelta))
    (ap (records uint16 2 (2 * n / 2)) (deltas_after ∙ sym (append-nil o)) ∙ array_read IdRangeOffset segments [] (fit IdRangeOffset))
    ∙ ap (λ (s : List Segment). let all : Segments = record { segments = s; bytes = drop (16 + 3 * (2 * n)) own } in Some all) (zipped_back segments)
    ∙ ap (λ (b : List ℕ). let all : Segments = record { segments = segments; bytes = b } in Some all) deltas_after

-- ---- the glyphs of runs

by_segment : (t u : Bool) (later : Option ℕ) (x y z : ℕ) → (t ≡ true → u ≡ true → x ≡ y) → (t ≡ true → u ≡ false → z ≡ 0) → later ≡ Some z → (if t then (if u then Some x else Some 0) else later) ≡ Some (if u && t then y else z)
by_segment true true later x y z inside before others = ap Some (inside refl refl)
by_segment true false later x y z inside before others = ap Some (sym (before refl refl))
by_segment false true later x y z inside before others = others
by_segment false false later x y z inside before others = others

last_by : (t u : Bool) (c : ℕ) → nat_le c 0xFFFF ≡ t → nat_le 0xFFFF c ≡ u → (let none : Option ℕ = Some 0 in (if t then (if u then Some ((c + 1) % 65536) else Some 0) else Some 0) ≡ none)
last_by true true c below above =
    let most = leb-true c 0xFFFF below in
    let least = leb-true 0xFFFF c above in
    ap Some (omega (arith, most, least))
last_by true false c below above = refl
last_by false u c below above = refl

delta_gives : (first last glyph c : ℕ) → first ≤ c → c ≤ last → last ≤ 0xFFFE → glyph + (last - first) < 2 ^ 16 → (c + (glyph + 65536 - first) % 65536) % 65536 ≡ glyph + (c - first)
delta_gives first last glyph c least most basic glyphs = omega arith

pub segments_read : (n : ℕ) (groups : List Group) (bytes : List ℕ) (c : ℕ) → GroupsRise n groups → AllByRecursion FitsBasic groups → glyph_in_segments (segments_of groups) bytes c ≡ Some (glyph_in_groups groups c)
segments_read n [] bytes c rise fit = last_by (nat_le c 0xFFFF) (nat_le 0xFFFF c) c refl refl
segments_read n (group ∷ groups) bytes c rise fit =
    by_segment (nat_le c group.last) (nat_le group.first c) (glyph_in_segments (segments_of groups) (drop 2 bytes) c) ((c + (group.glyph + 65536 - group.first) % 65536) % 65536) (group.glyph + (c - group.first)) (glyph_in_groups groups c)
    (λ (below : nat_le c group.last ≡ true). λ (above : nat_le group.first c ≡ true). delta_gives group.first group.last group.glyph c (leb-true group.first c above) (leb-true c group.last below) fit.0.basic fit.0.fits.glyphs)
    (λ (below : nat_le c group.last ≡ true). λ (above : nat_le group.first c ≡ false). before_groups (group.last + 1) c groups rise.2 (omega (arith, leb-true c group.last below)))
    (segments_read (group.last + 1) groups (drop 2 bytes) c rise.2 fit.1)

pub format_4_back : (search : SearchFields) (n : ℕ) (groups : List Group) (rest : List ℕ) (c : ℕ) → length groups + 1 ≤ 8189 → GroupsRise n groups → AllByRecursion FitsBasic groups → glyph_in (format_4_bytes search (segments_of groups) ++ rest) c ≡ Some (glyph_in_groups groups c)
unfolding format_4_fields
format_4_back search n groups rest c few rise fit =
    let segments : List Segment = segments_of groups in
    let bytes : List ℕ = array_bytes IdRangeOffset segments in
    let count = count_is groups in
    read_format_4 (format_4_bytes search segments ++ rest) (record { segments = segments; bytes = bytes }) c refl
    (format_4_segments search segments rest (omega (arith, count)) (λ array. items_fit array groups fit))
    ∙ segments_read n groups bytes c rise fit
