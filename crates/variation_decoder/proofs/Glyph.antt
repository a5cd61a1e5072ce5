-- The reader of a glyph's data finds what the data mean, and nothing else: the bytes mean these tuples exactly
-- where the reader finds them.
use Rattle.std.proofs.Common.{bit_and, ◌≡◌, ℕ, ℤ, ◌+◌, ◌*◌, ◌/◌, ◌%◌, ◌<◌, ◌^◌, inl, inr, Bool, true, false, cond, eqb, List, [], ◌++◌, length, Option, Some, None, refl, sym, ap, subst, ◌∙◌, length-append, arith}
use Rattle.std.proofs.lemmas.Bool.{eqb-true, eq-eqb, ne_eqb}
use Rattle.std.proofs.lemmas.List.{nil_from_length}
use Rattle.std.proofs.lemmas.Option.{same_Some}
use Rattle.variation_decoder.specs.declared.header.Head.{Head}
use Rattle.variation_decoder.specs.declared.reader.DataHeader.{DataHeader}
use Rattle.variation_rules.specs.declared.tuple.TupleVariation.{TupleVariation}
use Rattle.variation_rules.specs.Fields.{word}
use Rattle.variation_rules.specs.PackedDeltas.{ReadsDeltas}
use Rattle.variation_rules.specs.PackedPoints.{ReadsPoints}
use Rattle.variation_rules.specs.TupleVariations.{HasSharedPoints, shared_bits, IsGlyphData, MeansTuples}
use Rattle.variation_decoder.specs.Reading.{many, word_at}
use Rattle.variation_decoder.specs.Points.{points_at}
use Rattle.variation_decoder.specs.Tuples.{has_bits, header_at, shared_points_at, data_header_at, headers_at, tuples_at, glyph_data_at, tuples_of}
use Rattle.variation_decoder.proofs.Bits.{bit, bit_below, low_twelve, digit_is, bits_are, no_middle_bits, middle_bits_are_none}
use Rattle.variation_decoder.proofs.Steps.{when_some, either_some}
use Rattle.variation_decoder.proofs.Readers.{IsBytes, whole_stands, whole_again, Takes, IsReader, Then, Is, Made, Many, Count, then_reads, done_reads, made_reads, unless_reads, many_reads}
use Rattle.variation_decoder.proofs.FieldReaders.{Spells, word_reads}
use Rattle.variation_decoder.proofs.PointRuns.{points_read}
use Rattle.variation_decoder.proofs.Headers.{HeaderText, header_reads}
use Rattle.variation_decoder.proofs.TupleParts.{PartsText, parts_read, are_tuples, heads_of}
use Rattle.basics.specs.Optional.{◌>>=◌}
use Rattle.basics.proofs.Optional.{bind_some}

abbrev Words : List ℕ → ℕ → Type 0
Words = Spells word (λ n. n < 2 ^ 16)

-- ---- the count, the offset and the headers

abbrev make_data_header : ℕ → ℕ → List Head → DataHeader
make_data_header count offset heads = record { count = count; offset = offset; heads = heads }

abbrev HeadsText : ℕ → List (List ℤ) → ℕ → ℕ → List ℕ → DataHeader → Type 0
HeadsText axes peaks count offset text prefix = (has_bits 28672 count ≡ false) × Made (make_data_header count offset) (Count (HeaderText axes peaks) (bit_and count 4095)) text prefix

abbrev DataHeaderText : ℕ → List (List ℤ) → List ℕ → DataHeader → Type 0
DataHeaderText axes peaks = Then Words (λ count. Then Words (λ offset. HeadsText axes peaks count offset))

data_header_reads : (axes : ℕ) (peaks : List (List ℤ)) → IsReader (DataHeaderText axes peaks) (data_header_at axes peaks)
unfolding data_header_at
data_header_reads axes peaks =
    then_reads Words (λ count. Then Words (λ offset. HeadsText axes peaks count offset)) word_at
    (λ count bytes. word_at bytes >>= λ offset. cond (has_bits 28672 count) None (many (header_at axes peaks) (bit_and count 4095) offset.1 >>= λ heads. Some (make_data_header count offset.0 heads.0, heads.1))) word_reads
    (λ text count stands. then_reads Words (λ offset. HeadsText axes peaks count offset) word_at
    (λ offset bytes. cond (has_bits 28672 count) None (many (header_at axes peaks) (bit_and count 4095) bytes >>= λ heads. Some (make_data_header count offset heads.0, heads.1))) word_reads
    (λ text offset stands. unless_reads (has_bits 28672 count) (Made (make_data_header count offset) (Count (HeaderText axes peaks) (bit_and count 4095)))
    (λ bytes. many (header_at axes peaks) (bit_and count 4095) bytes >>= λ heads. Some (make_data_header count offset heads.0, heads.1))
    (made_reads (make_data_header count offset) (Count (HeaderText axes peaks) (bit_and count 4095)) (many (header_at axes peaks) (bit_and count 4095)) (many_reads (HeaderText axes peaks) (header_at axes peaks) (header_reads axes peaks) (bit_and count 4095)))))

-- the offset is the length of all this
abbrev HeadersText : ℕ → List (List ℤ) → List ℕ → DataHeader → Type 0
HeadersText axes peaks text prefix = DataHeaderText axes peaks text prefix × (prefix.offset ≡ length text)

headers_taken : (axes : ℕ) (peaks : List (List ℤ)) (bytes : List ℕ) (read : DataHeader × List ℕ) → IsBytes bytes → headers_at axes peaks bytes ≡ Some read → Takes (HeadersText axes peaks) bytes read
unfolding headers_at
headers_taken axes peaks bytes read fits e =
    let step = bind_some (data_header_at axes peaks bytes) (λ prefix. cond (eqb (prefix.0.offset + length prefix.1) (length bytes)) (Some prefix) None) read e in
    let ends = when_some (eqb (step.0.0.offset + length step.0.1) (length bytes)) (Some step.0) read step.2 in
    let taken = (data_header_reads axes peaks).takes bytes step.0 fits step.1 in
    let place : step.0.0.offset ≡ length taken.text =
    omega (arith, eqb-true (step.0.0.offset + length step.0.1) (length bytes) ends.0, ap length taken.parts, length-append taken.text step.0.1) in
    subst (λ (r : DataHeader × List ℕ). Takes (HeadersText axes peaks) bytes r) (same_Some step.0 read ends.1)
    (record { text = taken.text; parts = taken.parts; stands = (taken.stands, place) })

headers_again : (axes : ℕ) (peaks : List (List ℤ)) (text : List ℕ) (prefix : DataHeader) (rest : List ℕ) → HeadersText axes peaks text prefix → headers_at axes peaks (text ++ rest) ≡ Some (prefix, rest)
unfolding headers_at
headers_again axes peaks text prefix rest s =
    let place : eqb (prefix.offset + length rest) (length (text ++ rest)) ≡ true = eq-eqb (prefix.offset + length rest) (length (text ++ rest)) (omega (arith, s.1, length-append text rest)) in
    rw ((data_header_reads axes peaks).again text prefix rest s.0, place) refl

-- ---- the shared points

abbrev SharedText : ℕ → Bool → List ℕ → Option (List ℕ) → Type 0
SharedText total false = Is None
SharedText total true = Made (λ points. Some points) (ReadsPoints total)

shared_reads : (total : ℕ) (are_there : Bool) → IsReader (SharedText total are_there) (shared_points_at total are_there)
unfolding shared_points_at
shared_reads total false = done_reads None
shared_reads total true = made_reads (λ points. Some points) (ReadsPoints total) (points_at total) (points_read total)

-- shared points of the grammar with this bit, or none
shared_of : (total : ℕ) (are_there : Bool) (text : List ℕ) (points : Option (List ℕ)) → SharedText total are_there text points → HasSharedPoints ReadsPoints total points text × (shared_bits points ≡ 32768 * bit are_there)
shared_of total false text points s = subst (λ (p : Option (List ℕ)). HasSharedPoints ReadsPoints total p text × (shared_bits p ≡ 32768 * bit false)) (sym s.1) (s.0, refl)
shared_of total true text points s = subst (λ (p : Option (List ℕ)). HasSharedPoints ReadsPoints total p text × (shared_bits p ≡ 32768 * bit true)) (sym s.2) (s.1, refl)

of_shared : (total : ℕ) (text : List ℕ) (points : Option (List ℕ)) → HasSharedPoints ReadsPoints total points text → (are_there : Bool) × (shared_bits points ≡ 32768 * bit are_there) × SharedText total are_there text points
of_shared total text None s = (false, refl, (s, refl))
of_shared total text (Some points) s = (true, refl, (points, s, refl))

-- ---- the whole data

abbrev GlyphText : ℕ → ℕ → List (List ℤ) → List ℕ → List TupleVariation → Type 0
GlyphText axes total peaks = Then (HeadersText axes peaks) (λ prefix. Then (SharedText total (has_bits 32768 prefix.count)) (λ shared. PartsText total shared prefix.heads))

glyph_reads : (axes total : ℕ) (peaks : List (List ℤ)) → IsReader (GlyphText axes total peaks) (glyph_data_at axes total peaks)
unfolding glyph_data_at
glyph_reads axes total peaks =
    then_reads (HeadersText axes peaks) (λ prefix. Then (SharedText total (has_bits 32768 prefix.count)) (λ shared. PartsText total shared prefix.heads)) (headers_at axes peaks)
    (λ prefix bytes. shared_points_at total (has_bits 32768 prefix.count) bytes >>= λ shared. tuples_at total shared.0 prefix.heads shared.1) (record { takes = headers_taken axes peaks; again = headers_again axes peaks })
    (λ text prefix stands. then_reads (SharedText total (has_bits 32768 prefix.count)) (λ shared. PartsText total shared prefix.heads) (shared_points_at total (has_bits 32768 prefix.count))
    (λ shared bytes. tuples_at total shared prefix.heads bytes) (shared_reads total (has_bits 32768 prefix.count)) (λ text shared stands. parts_read total shared prefix.heads))

glyph_of : (axes total : ℕ) (peaks : List (List ℤ)) (bytes : List ℕ) (tuples : List TupleVariation) → GlyphText axes total peaks bytes tuples → IsGlyphData ReadsPoints ReadsDeltas axes total peaks bytes tuples
glyph_of axes total peaks bytes tuples s =
    let prefix = s.first in let fields = s.stands.0 in
    let count = fields.first in let offset = fields.next.first in let headers = fields.next.back in
    let heads : List Head = fields.next.next.1.0 in
    let made : prefix ≡ make_data_header count offset heads = fields.next.next.1.2 in
    let count_is : prefix.count ≡ count = ap (λ (f : DataHeader). f.count) made in
    let heads_are : heads ≡ prefix.heads = ap (λ (f : DataHeader). f.heads) (sym made) in
    let shared = shared_of total (has_bits 32768 prefix.count) s.next.prefix s.next.first s.next.stands in
    let many = subst (λ (hs : List Head). Many (HeaderText axes peaks) headers hs) heads_are fields.next.next.1.1.0 in
    let are = are_tuples axes total peaks s.next.first prefix.heads headers s.next.back tuples many s.next.next in
    -- the count word
    let flag : prefix.count / 32768 % 2 ≡ bit (has_bits 32768 prefix.count) = digit_is 15 prefix.count in
    let low = low_twelve count in
    let reserved : count / 4096 % 8 ≡ 0 = no_middle_bits count fields.next.next.0 in
    let number : length tuples ≡ bit_and count 4095 = are.1 ∙ ap length (sym heads_are) ∙ fields.next.next.1.1.1 in
    let count_spelled : count ≡ shared_bits s.next.first + length tuples = omega (arith, fields.stands.1, shared.1) in
    -- the offset word
    let words : s.prefix ≡ word count ++ (word offset ++ headers) =
    fields.split ∙ ap (λ (t : List ℕ). t ++ fields.back) fields.stands.0 ∙ ap (λ (t : List ℕ). word count ++ t) (fields.next.split ∙ ap (λ (t : List ℕ). t ++ headers) fields.next.stands.0) in
    let offset_spelled : offset ≡ 4 + length headers = omega (arith, ap (λ (f : DataHeader). f.offset) made, s.stands.1, ap length words) in
    let prefixes : s.prefix ≡ word (shared_bits s.next.first + length tuples) ++ (word (4 + length headers) ++ headers) =
    words ∙ ap (λ (n : ℕ). word n ++ (word offset ++ headers)) count_spelled ∙ ap (λ (n : ℕ). word (shared_bits s.next.first + length tuples) ++ (word n ++ headers)) offset_spelled in
    record {
      shared_points = s.next.first;
      headers = headers;
      shared_bytes = s.next.prefix;
      parts = s.next.back;
      few = omega arith;
      near = omega (arith, fields.next.stands.1);
      shared_list = shared.0;
      each = are.0;
      spelled = s.split ∙ ap (λ (t : List ℕ). t ++ s.back) prefixes ∙ ap (λ (t : List ℕ). word (shared_bits s.next.first + length tuples) ++ (word (4 + length headers) ++ (headers ++ t))) s.next.split;
    }

of_glyph : (axes total : ℕ) (peaks : List (List ℤ)) (bytes : List ℕ) (tuples : List TupleVariation) → IsGlyphData ReadsPoints ReadsDeltas axes total peaks bytes tuples → GlyphText axes total peaks bytes tuples
of_glyph axes total peaks bytes tuples s =
    let heads = heads_of axes total peaks s.shared_points s.headers s.parts tuples s.each in
    let shared = of_shared total s.shared_bytes s.shared_points s.shared_list in
    let count = shared_bits s.shared_points + length tuples in let offset = 4 + length s.headers in
    let small = bit_below shared.0 in
    let digit : count / 32768 % 2 ≡ bit shared.0 = omega (arith, s.few, shared.1) in
    let flag : has_bits 32768 count ≡ shared.0 = bits_are 15 count shared.0 digit in
    let low = low_twelve count in
    let number : length heads.0 ≡ bit_and count 4095 = omega (arith, s.few, shared.1, heads.3) in
    let reserved : has_bits 28672 count ≡ false = middle_bits_are_none count (omega (arith, s.few, shared.1)) in
    let place : offset ≡ length (word count ++ (word offset ++ s.headers)) = omega arith in
    record {
      first = make_data_header count offset heads.0;
      prefix = word count ++ (word offset ++ s.headers);
      back = s.shared_bytes ++ s.parts;
      split = s.spelled;
      stands = (
        record {
          first = count;
          prefix = word count;
          back = word offset ++ s.headers;
          split = refl;
          stands = (refl, omega (arith, s.few, shared.1));
          next = record {
            first = offset;
            prefix = word offset;
            back = s.headers;
            split = refl;
            stands = (refl, s.near);
            next = (reserved, (heads.0, (heads.1, number), refl));
          };
        },
        place,
      );
      next = record {
        first = s.shared_points;
        prefix = s.shared_bytes;
        back = s.parts;
        split = refl;
        stands = subst (λ (b : Bool). SharedText total b s.shared_bytes s.shared_points) (sym flag) shared.2;
        next = heads.2;
      };
    }

-- ---- the two laws

-- what is found is what the bytes mean
pub found_means : (axes total : ℕ) (peaks : List (List ℤ)) (bytes : List ℕ) (tuples : List TupleVariation) → IsBytes bytes → tuples_of axes total peaks bytes ≡ Some tuples → MeansTuples axes total peaks bytes tuples
unfolding tuples_of
found_means axes total peaks bytes tuples fits e =
    let read = glyph_data_at axes total peaks in
    elim (either_some (eqb (length bytes) 0) (Some []) (read bytes >>= λ tuples. cond (eqb (length tuples.1) 0) (Some tuples.0) None) tuples e) [
      | inl none ↦ inl (nil_from_length bytes (eqb-true (length bytes) 0 none.0), sym (same_Some [] tuples none.1))
      | inr some ↦
          let step = bind_some (read bytes) (λ tuples. cond (eqb (length tuples.1) 0) (Some tuples.0) None) tuples some.1 in
          let ends = when_some (eqb (length step.0.1) 0) (Some step.0.0) tuples step.2 in
          let stands = whole_stands (GlyphText axes total peaks) read (glyph_reads axes total peaks) bytes step.0 fits step.1 (eqb-true (length step.0.1) 0 ends.0) in
          inr (glyph_of axes total peaks bytes tuples (subst (λ (ts : List TupleVariation). GlyphText axes total peaks bytes ts) (same_Some step.0.0 tuples ends.1) stands))
    ]

-- and what they mean is found
pub means_found : (axes total : ℕ) (peaks : List (List ℤ)) (bytes : List ℕ) (tuples : List TupleVariation) → MeansTuples axes total peaks bytes tuples → tuples_of axes total peaks bytes ≡ Some tuples
unfolding tuples_of
means_found axes total peaks bytes tuples s =
    elim s [
      | inl none ↦ rw (none.0, none.1) refl
      | inr glyph ↦
          let some : eqb (length bytes) 0 ≡ false = ne_eqb (length bytes) 0 (λ none. omega (arith, ap length glyph.spelled)) in
          rw (some, whole_again (GlyphText axes total peaks) (glyph_data_at axes total peaks) (glyph_reads axes total peaks) bytes tuples (of_glyph axes total peaks bytes tuples glyph)) refl
    ]

-- so the bytes mean no two lists of tuples
pub means_one : (axes total : ℕ) (peaks : List (List ℤ)) (bytes : List ℕ) (xs ys : List TupleVariation) → MeansTuples axes total peaks bytes xs → MeansTuples axes total peaks bytes ys → xs ≡ ys
means_one axes total peaks bytes xs ys first second = same_Some xs ys (sym (means_found axes total peaks bytes xs first) ∙ means_found axes total peaks bytes ys second)
