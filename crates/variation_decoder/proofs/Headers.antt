-- The reader of headers reads what headers are.
use Rattle.std.proofs.Common.{◌≡◌, ℕ, ℤ, ◌+◌, ◌*◌, ◌/◌, ◌%◌, ◌<◌, ◌^◌, ◌⊎◌, inl, inr, Bool, true, false, cond, eqb, List, [], ◌∷◌, ◌++◌, length, map, Option, Some, None, refl, sym, ap, subst, ◌∙◌, arith, bit_and, FitsSigned, w16}
use Rattle.std.specs.Prelude.{slice_get}
use Rattle.std.specs.List.{flat_map, All, list_all}
use Rattle.std.proofs.lemmas.Bool.{eqb-true, eq-eqb, and_parts, and_from}
use Rattle.std.proofs.lemmas.Int.{ints}
use Rattle.std.proofs.lemmas.List.Elements.{All-nil, All-cons, All-head, All-tail}
use Rattle.std.proofs.lemmas.Option.{same_Some}
use Rattle.variation_decoder.specs.declared.header.Head.{Head}
use Rattle.variation_rules.specs.declared.region.Triple.{Triple}
use Rattle.variation_rules.specs.Fields.{word, signed_word}
use Rattle.variation_rules.specs.TupleVariations.{Peak, embedded, shared, Ends, Header, peak_bits, intermediate_bits, private_bits, tuple_index, peak_bytes, intermediate_bytes, header_bytes, IsTuple, PeaksAt, implied_triple, triples, region_of, AreEnds, HasRegion}
use Rattle.variation_decoder.specs.Reading.{word_at, signed_word_at}
use Rattle.variation_decoder.specs.Tuples.{has_bits, coordinates_at, is_coordinate, is_tuple, shared_peak, peak_at, region_at, header_at}
use Rattle.variation_decoder.proofs.Bits.{bit, bit_below, low_twelve, no_bits, none_of_no_bits, digit_is, bits_are}
use Rattle.variation_decoder.proofs.Steps.{when_some}
use Rattle.variation_decoder.proofs.Readers.{IsReader, Then, Is, Made, Many, Count, then_reads, done_reads, made_reads, unless_reads, either_reads, given_reads, same_reads, many_reads}
use Rattle.variation_decoder.proofs.FieldReaders.{Spells, word_reads, signed_word_reads, spelled_many, many_spelled}
use Rattle.basics.specs.Optional.{◌>>=◌}
use Rattle.basics.proofs.Optional.{bind_some}

-- ---- the bits of the tupleIndex

-- a tupleIndex without the reserved bit is the sum of its parts
index_parts : (n : ℕ) → n < 2 ^ 16 → has_bits 4096 n ≡ false → n ≡ 32768 * bit (has_bits 32768 n) + bit_and n 4095 + (16384 * bit (has_bits 16384 n) + 8192 * bit (has_bits 8192 n))
index_parts n below reserved =
    let e : n / 32768 % 2 ≡ bit (has_bits 32768 n) = digit_is 15 n in
    let i : n / 16384 % 2 ≡ bit (has_bits 16384 n) = digit_is 14 n in
    let p : n / 8192 % 2 ≡ bit (has_bits 8192 n) = digit_is 13 n in
    let r : n / 4096 % 2 ≡ 0 = digit_is 12 n ∙ ap bit reserved in
    let low = low_twelve n in
    omega arith

-- and the parts are found in the sum
module _ (e i p : Bool) (low n : ℕ) (small : low < 4096) (sum : n ≡ 32768 * bit e + low + (16384 * bit i + 8192 * bit p)) where
  embedded_bit : has_bits 32768 n ≡ e
  embedded_bit = let digit : n / 32768 % 2 ≡ bit e = omega (arith, bit_below e, bit_below i, bit_below p) in bits_are 15 n e digit

  intermediate_bit : has_bits 16384 n ≡ i
  intermediate_bit = let digit : n / 16384 % 2 ≡ bit i = omega (arith, bit_below e, bit_below i, bit_below p) in bits_are 14 n i digit

  private_bit : has_bits 8192 n ≡ p
  private_bit = let digit : n / 8192 % 2 ≡ bit p = omega (arith, bit_below e, bit_below i, bit_below p) in bits_are 13 n p digit

  reserved_bit : has_bits 4096 n ≡ false
  reserved_bit = let digit : n / 4096 % 2 ≡ 0 = omega (arith, bit_below e, bit_below i, bit_below p) in bits_are 12 n false digit

  low_bits : bit_and n 4095 ≡ low
  low_bits = let low_is : n % 4096 ≡ low = omega (arith, bit_below e, bit_below i, bit_below p) in low_twelve n ∙ low_is

-- ---- coordinates

abbrev pub CoordinatesText : ℕ → List ℕ → List ℤ → Type 0
CoordinatesText axes text coordinates = (text ≡ flat_map signed_word coordinates) × IsTuple axes coordinates

coordinates_read : (axes : ℕ) → IsReader (CoordinatesText axes) (coordinates_at axes)
coordinates_read axes =
    same_reads (Count (Spells signed_word (FitsSigned w16)) axes) (CoordinatesText axes) (coordinates_at axes)
    (λ text coordinates s.
    let spelled = spelled_many signed_word (FitsSigned w16) text coordinates s.0 in
    (spelled.0, record { length_is = s.1; fits = spelled.1 }))
    (λ text coordinates s. (subst (λ (t : List ℕ). Many (Spells signed_word (FitsSigned w16)) t coordinates) (sym s.0) (many_spelled signed_word (FitsSigned w16) coordinates s.1.fits), s.1.length_is))
    (many_reads (Spells signed_word (FitsSigned w16)) signed_word_at signed_word_reads axes)

fits_of_test : (z : ℤ) → is_coordinate z ≡ true → FitsSigned w16 z
fits_of_test z e = grind (arith, ints)

test_of_fits : (z : ℤ) → FitsSigned w16 z → is_coordinate z ≡ true
test_of_fits z fits = grind (arith, ints)

all_fit : (coordinates : List ℤ) → list_all is_coordinate coordinates ≡ true → All (FitsSigned w16) coordinates
all_fit [] e = All-nil (FitsSigned w16)
all_fit (z ∷ coordinates) e =
    let tests = and_parts (is_coordinate z) (list_all is_coordinate coordinates) e in
    All-cons (FitsSigned w16) z coordinates (fits_of_test z tests.0) (all_fit coordinates tests.1)

all_tested : (coordinates : List ℤ) → All (FitsSigned w16) coordinates → list_all is_coordinate coordinates ≡ true
all_tested [] fits = refl
all_tested (z ∷ coordinates) fits =
    and_from (is_coordinate z) (list_all is_coordinate coordinates) (test_of_fits z (All-head (FitsSigned w16) z coordinates fits)) (all_tested coordinates (All-tail (FitsSigned w16) z coordinates fits))

tuple_of_test : (axes : ℕ) (coordinates : List ℤ) → is_tuple axes coordinates ≡ true → IsTuple axes coordinates
tuple_of_test axes coordinates e =
    let tests = and_parts (eqb (length coordinates) axes) (list_all is_coordinate coordinates) e in
    record { length_is = eqb-true (length coordinates) axes tests.0; fits = all_fit coordinates tests.1 }

test_of_tuple : (axes : ℕ) (coordinates : List ℤ) → IsTuple axes coordinates → is_tuple axes coordinates ≡ true
test_of_tuple axes coordinates s =
    and_from (eqb (length coordinates) axes) (list_all is_coordinate coordinates) (eq-eqb (length coordinates) axes s.length_is) (all_tested coordinates s.fits)

shared_peak_is : (axes : ℕ) (peaks : List (List ℤ)) (index : ℕ) (peak : List ℤ) → shared_peak axes peaks index ≡ Some peak → (slice_get peaks index ≡ Some peak) × IsTuple axes peak
unfolding shared_peak
shared_peak_is axes peaks index peak e =
    let step = bind_some (slice_get peaks index) (λ peak. cond (is_tuple axes peak) (Some peak) None) peak e in
    let test = when_some (is_tuple axes step.0) (Some step.0) peak step.2 in
    let same : step.0 ≡ peak = same_Some step.0 peak test.1 in
    subst (λ (p : List ℤ). (slice_get peaks index ≡ Some p) × IsTuple axes p) same (step.1, tuple_of_test axes step.0 test.0)

shared_peak_again : (axes : ℕ) (peaks : List (List ℤ)) (index : ℕ) (peak : List ℤ) → slice_get peaks index ≡ Some peak → IsTuple axes peak → shared_peak axes peaks index ≡ Some peak
unfolding shared_peak
shared_peak_again axes peaks index peak e s = rw (e, test_of_tuple axes peak s) refl

-- ---- the peak

-- the peak in the header, or the shared one of the index
abbrev pub PeakText : ℕ → List (List ℤ) → ℕ → List ℕ → List ℤ → Type 0
PeakText axes peaks index text peak =
    ((has_bits 32768 index ≡ true) × ((has_bits 4095 index ≡ false) × CoordinatesText axes text peak))
    ⊎ ((has_bits 32768 index ≡ false) × ((found : List ℤ) × (shared_peak axes peaks (bit_and index 4095) ≡ Some found) × Is found text peak))

peak_reads : (axes : ℕ) (peaks : List (List ℤ)) (index : ℕ) → IsReader (PeakText axes peaks index) (peak_at axes peaks index)
unfolding peak_at
peak_reads axes peaks index =
    either_reads (has_bits 32768 index) (λ text peak. (has_bits 4095 index ≡ false) × CoordinatesText axes text peak) (λ text peak. (found : List ℤ) × (shared_peak axes peaks (bit_and index 4095) ≡ Some found) × Is found text peak)
    (λ bytes. cond (has_bits 4095 index) None (coordinates_at axes bytes)) (λ bytes. shared_peak axes peaks (bit_and index 4095) >>= λ peak. Some (peak, bytes))
    (unless_reads (has_bits 4095 index) (CoordinatesText axes) (coordinates_at axes) (coordinates_read axes))
    (given_reads (shared_peak axes peaks (bit_and index 4095)) Is (λ peak bytes. Some (peak, bytes)) (λ peak. done_reads peak))

-- a peak of the grammar with these bits
abbrev IsPeak : ℕ → List (List ℤ) → ℕ → List ℕ → List ℤ → Type 0
IsPeak axes peaks index text peak = (where_it_is : Peak) × PeaksAt axes peaks where_it_is peak × (text ≡ peak_bytes where_it_is) × (peak_bits where_it_is ≡ 32768 * bit (has_bits 32768 index) + bit_and index 4095)

peak_of : (axes : ℕ) (peaks : List (List ℤ)) (index : ℕ) (text : List ℕ) (peak : List ℤ) → PeakText axes peaks index text peak → IsPeak axes peaks index text peak
peak_of axes peaks index text peak s =
    elim s [
      | inl inside ↦ (embedded peak, (refl, inside.1.1.1), inside.1.1.0, omega (arith, ap bit inside.0, none_of_no_bits 4095 index inside.1.0))
      | inr outside ↦
          let found = shared_peak_is axes peaks (bit_and index 4095) outside.1.0 outside.1.1 in
          let is = sym outside.1.2.1 in (
            shared (bit_and index 4095),
            (omega (arith, low_twelve index), subst (λ (p : List ℤ). slice_get peaks (bit_and index 4095) ≡ Some p) is found.0, subst (λ (p : List ℤ). IsTuple axes p) is found.1),
            outside.1.2.0,
            omega (arith, ap bit outside.0),
          )
    ]

-- what a peak of the grammar says of its bits, and that it is found where an index has these
abbrev PeakIn : ℕ → List (List ℤ) → Peak → List ℤ → Type 0
PeakIn axes peaks where_it_is peak =
    (e : Bool) × (low : ℕ) × (low < 4096) × (peak_bits where_it_is ≡ 32768 * bit e + low)
    × ((n : ℕ) → has_bits 32768 n ≡ e → bit_and n 4095 ≡ low → PeakText axes peaks n (peak_bytes where_it_is) peak)

text_of_peak : (axes : ℕ) (peaks : List (List ℤ)) (where_it_is : Peak) (peak : List ℤ) → PeaksAt axes peaks where_it_is peak → PeakIn axes peaks where_it_is peak
text_of_peak axes peaks (embedded coordinates) peak at =
    (true, 0, omega arith, refl, λ n inside low. inl (inside, (no_bits 4095 n low, (ap (λ (cs : List ℤ). flat_map signed_word cs) at.0, at.1))))
text_of_peak axes peaks (shared index) peak at =
    (false, index, at.0, omega arith, λ n outside low. inr (outside, (peak, shared_peak_again axes peaks (bit_and n 4095) peak (ap (slice_get peaks) low ∙ at.1) at.2, (refl, refl))))

-- ---- the region

abbrev pub RegionText : ℕ → Bool → List ℤ → List ℕ → List Triple → Type 0
RegionText axes false peak = Is (map implied_triple peak)
RegionText axes true peak = Then (CoordinatesText axes) (λ starts. Made (λ ends. triples starts peak ends) (CoordinatesText axes))

region_reads : (axes : ℕ) (intermediate : Bool) (peak : List ℤ) → IsReader (RegionText axes intermediate peak) (region_at axes intermediate peak)
unfolding region_at
region_reads axes false peak = done_reads (map implied_triple peak)
region_reads axes true peak =
    then_reads (CoordinatesText axes) (λ starts. Made (λ ends. triples starts peak ends) (CoordinatesText axes)) (coordinates_at axes) (λ starts bytes. coordinates_at axes bytes >>= λ ends. Some (triples starts peak ends.0, ends.1)) (coordinates_read axes)
    (λ prefix starts stands. made_reads (λ ends. triples starts peak ends) (CoordinatesText axes) (coordinates_at axes) (coordinates_read axes))

-- an intermediate region of the grammar with this bit, or none
abbrev IsRegion : ℕ → Bool → List ℤ → List ℕ → List Triple → Type 0
IsRegion axes intermediate peak text region = (ends : Option Ends) × AreEnds axes ends × (text ≡ intermediate_bytes ends) × (region ≡ region_of peak ends) × (intermediate_bits ends ≡ 16384 * bit intermediate)

region_is_of : (axes : ℕ) (intermediate : Bool) (peak : List ℤ) (text : List ℕ) (region : List Triple) → RegionText axes intermediate peak text region → IsRegion axes intermediate peak text region
region_is_of axes false peak text region s = (None, tt, s.0, s.1, refl)
region_is_of axes true peak text region s =
    let ends : List ℤ = s.next.0 in (
      Some (record { starts = s.first; ends = ends }),
      (s.stands.1, s.next.1.1),
      s.split ∙ ap (λ (t : List ℕ). t ++ s.back) s.stands.0 ∙ ap (λ (t : List ℕ). flat_map signed_word s.first ++ t) s.next.1.0,
      s.next.2,
      refl,
    )

text_of_region : (axes : ℕ) (peak : List ℤ) (ends : Option Ends) → AreEnds axes ends → (intermediate : Bool) × (intermediate_bits ends ≡ 16384 * bit intermediate) × RegionText axes intermediate peak (intermediate_bytes ends) (region_of peak ends)
text_of_region axes peak None are = (false, refl, (refl, refl))
text_of_region axes peak (Some range) are = (
  true,
  refl,
  record {
    first = range.starts;
    prefix = flat_map signed_word range.starts;
    back = flat_map signed_word range.ends;
    split = refl;
    stands = (refl, are.0);
    next = (range.ends, (refl, are.1), refl);
  },
)

-- ---- a header

-- the text is a header of the grammar that says this
abbrev pub HeaderText : ℕ → List (List ℤ) → List ℕ → Head → Type 0
HeaderText axes peaks text head =
    (header : Header) × HasRegion axes peaks header head.region × (head.size < 2 ^ 16) × (header.private ≡ head.private) × (text ≡ header_bytes head.size header)

abbrev Words : List ℕ → ℕ → Type 0
Words = Spells word (λ n. n < 2 ^ 16)

abbrev make_head : ℕ → ℕ → List Triple → Head
make_head size index region = record { size = size; region = region; private = has_bits 8192 index }

abbrev IndexedText : ℕ → List (List ℤ) → ℕ → ℕ → List ℕ → Head → Type 0
IndexedText axes peaks size index text head =
    (has_bits 4096 index ≡ false) × Then (PeakText axes peaks index) (λ peak. Made (make_head size index) (RegionText axes (has_bits 16384 index) peak)) text head

abbrev FieldsText : ℕ → List (List ℤ) → List ℕ → Head → Type 0
FieldsText axes peaks = Then Words (λ size. Then Words (λ index. IndexedText axes peaks size index))

private_is : (private : Bool) → private_bits private ≡ 8192 * bit private
private_is true = refl
private_is false = refl

header_of : (axes : ℕ) (peaks : List (List ℤ)) (text : List ℕ) (head : Head) → FieldsText axes peaks text head → HeaderText axes peaks text head
header_of axes peaks text head s =
    let size = s.first in let n = s.next.first in let inner = s.next.next.1 in
    let peak = peak_of axes peaks n inner.prefix inner.first inner.stands in
    let region = region_is_of axes (has_bits 16384 n) inner.first inner.back inner.next.0 inner.next.1 in
    let header : Header = record { peak = peak.0; intermediate = region.0; private = has_bits 8192 n } in
    let index : n ≡ tuple_index header = omega (arith, index_parts n s.next.stands.1 s.next.next.0, peak.3, region.4, private_is (has_bits 8192 n)) in
    let parts : inner.prefix ++ inner.back ≡ peak_bytes peak.0 ++ intermediate_bytes region.0 =
    ap (λ (t : List ℕ). t ++ inner.back) peak.2 ∙ ap (λ (t : List ℕ). peak_bytes peak.0 ++ t) region.2 in
    let rest : s.back ≡ word (tuple_index header) ++ (peak_bytes peak.0 ++ intermediate_bytes region.0) =
    s.next.split ∙ ap (λ (t : List ℕ). t ++ s.next.back) (s.next.stands.0 ∙ ap word index) ∙ ap (λ (t : List ℕ). word (tuple_index header) ++ t) (inner.split ∙ parts) in
    let spelled : text ≡ header_bytes size header = s.split ∙ ap (λ (t : List ℕ). t ++ s.back) s.stands.0 ∙ ap (λ (t : List ℕ). word size ++ t) rest in
    subst (λ (h : Head). HeaderText axes peaks text h) (sym inner.next.2)
    (header, record { peak = inner.first; peaks_at = peak.1; ends = region.1; region_is = region.3 }, s.stands.1, refl, spelled)

of_header : (axes : ℕ) (peaks : List (List ℤ)) (text : List ℕ) (head : Head) → HeaderText axes peaks text head → FieldsText axes peaks text head
of_header axes peaks text head s =
    let header = s.0 in let n = tuple_index header in let peak = s.1.peak in
    let inside = text_of_peak axes peaks header.peak peak s.1.peaks_at in
    let between = text_of_region axes peak header.intermediate s.1.ends in
    let sum : n ≡ 32768 * bit inside.0 + inside.1 + (16384 * bit between.0 + 8192 * bit header.private) = omega (arith, inside.3, between.1, private_is header.private) in
    let below : n < 2 ^ 16 = omega (arith, inside.2, bit_below inside.0, bit_below between.0, bit_below header.private) in
    let is_intermediate = intermediate_bit inside.0 between.0 header.private inside.1 n inside.2 sum in
    let is_private = private_bit inside.0 between.0 header.private inside.1 n inside.2 sum in
    let region : RegionText axes (has_bits 16384 n) peak (intermediate_bytes header.intermediate) head.region =
    subst (λ (b : Bool). RegionText axes b peak (intermediate_bytes header.intermediate) head.region) (sym is_intermediate)
    (subst (λ (r : List Triple). RegionText axes between.0 peak (intermediate_bytes header.intermediate) r) (sym s.1.region_is) between.2) in
    let made : head ≡ make_head head.size n head.region = ap (λ (b : Bool). record head { private = b }) (sym (is_private ∙ s.3)) in
    record {
      first = head.size;
      prefix = word head.size;
      back = word n ++ (peak_bytes header.peak ++ intermediate_bytes header.intermediate);
      split = s.4;
      stands = (refl, s.2);
      next = record {
        first = n;
        prefix = word n;
        back = peak_bytes header.peak ++ intermediate_bytes header.intermediate;
        split = refl;
        stands = (refl, below);
        next = (
          reserved_bit inside.0 between.0 header.private inside.1 n inside.2 sum,
          record {
            first = peak;
            prefix = peak_bytes header.peak;
            back = intermediate_bytes header.intermediate;
            split = refl;
            stands = inside.4 n (embedded_bit inside.0 between.0 header.private inside.1 n inside.2 sum) (low_bits inside.0 between.0 header.private inside.1 n inside.2 sum);
            next = (head.region, region, made);
          },
        );
      };
    }

pub header_reads : (axes : ℕ) (peaks : List (List ℤ)) → IsReader (HeaderText axes peaks) (header_at axes peaks)
unfolding header_at
header_reads axes peaks =
    same_reads (FieldsText axes peaks) (HeaderText axes peaks) (header_at axes peaks) (header_of axes peaks) (of_header axes peaks)
    (then_reads Words (λ size. Then Words (λ index. IndexedText axes peaks size index)) word_at
    (λ size bytes. word_at bytes >>= λ index. cond (has_bits 4096 index.0) None (peak_at axes peaks index.0 index.1 >>= λ peak. region_at axes (has_bits 16384 index.0) peak.0 peak.1 >>= λ region. Some (make_head size index.0 region.0, region.1))) word_reads
    (λ prefix size stands. then_reads Words (λ index. IndexedText axes peaks size index) word_at
    (λ index bytes. cond (has_bits 4096 index) None (peak_at axes peaks index bytes >>= λ peak. region_at axes (has_bits 16384 index) peak.0 peak.1 >>= λ region. Some (make_head size index region.0, region.1))) word_reads
    (λ prefix index stands. unless_reads (has_bits 4096 index) (Then (PeakText axes peaks index) (λ peak. Made (make_head size index) (RegionText axes (has_bits 16384 index) peak)))
    (λ bytes. peak_at axes peaks index bytes >>= λ peak. region_at axes (has_bits 16384 index) peak.0 peak.1 >>= λ region. Some (make_head size index region.0, region.1))
    (then_reads (PeakText axes peaks index) (λ peak. Made (make_head size index) (RegionText axes (has_bits 16384 index) peak)) (peak_at axes peaks index)
    (λ peak bytes. region_at axes (has_bits 16384 index) peak bytes >>= λ region. Some (make_head size index region.0, region.1)) (peak_reads axes peaks index)
    (λ prefix peak stands. made_reads (make_head size index) (RegionText axes (has_bits 16384 index) peak) (region_at axes (has_bits 16384 index) peak) (region_reads axes (has_bits 16384 index) peak))))))
