-- The data of a glyph: a tuple after others, and that what is written means the tuples.
use Rattle.std.proofs.Common.{◌≡◌, ℕ, ℤ, ◌+◌, ◌*◌, ◌^◌, ◌<◌, ◌≤◌, ◌⊎◌, List, [], ◌∷◌, ◌++◌, length, map, drop, get_or, All, None, true, refl, sym, ap, subst, ◌∙◌, inl, inr, arith, length-append, append_assoc, zero-add}
use Rattle.std.proofs.lemmas.List.{append-nil, length-map, drop_all, drop_more}
use Rattle.std.proofs.lemmas.List.Elements.{All-head, All-tail, All-map}
use Rattle.variation_rules.specs.Fields.{word}
use Rattle.variation_rules.specs.PackedDeltas.{ReadsDeltas, PacksDeltas}
use Rattle.variation_rules.specs.PackedPoints.{ReadsPoints, PacksPoints}
use Rattle.variation_rules.specs.TupleVariations.{AreTuples, IsGlyphData, IsPart, MeansTuples, PacksTuples, header_bytes}
use Rattle.variation_rules.specs.declared.region.Triple.{Triple}
use Rattle.variation_rules.specs.declared.tuple.TupleVariation.{TupleVariation}
use Rattle.gvar_table.specs.declared.tuple.Tuple.{Tuple}
use Rattle.gvar_table.specs.Layout.{AddsTuple, AreWritten, IsWritten, IsWrittenPart, header_of}
use Rattle.gvar_table.specs.Tuples.{AreTuplesOf, IsRegionAxis, IsTupleOf, variation_of}
use Rattle.gvar_table.proofs.HeaderLemmas.{has_region, header_length}

-- one tuple more, with what stands for the rest, completes the whole
tuple_added : (count : ℕ) (tuple : TupleVariation) (tuples all : List TupleVariation) (headers new_headers parts new_parts : List ℕ) → AddsTuple count tuple headers new_headers parts new_parts
    → ((more_headers more_parts : List ℕ) → AreWritten count more_headers more_parts (tuple ∷ tuples) → AreWritten count (headers ++ more_headers) (parts ++ more_parts) all)
    → (more_headers more_parts : List ℕ) → AreWritten count more_headers more_parts tuples → AreWritten count (new_headers ++ more_headers) (new_parts ++ more_parts) all
tuple_added count tuple tuples all headers new_headers parts new_parts adds completes more_headers more_parts written =
    let header : List ℕ = header_bytes (length adds.part) (header_of tuple.region) in
    let whole = completes (header ++ more_headers) (adds.part ++ more_parts) (adds.part, more_headers, more_parts, adds.is_written, refl, refl, written) in
    let prefix : headers ++ (header ++ more_headers) ≡ new_headers ++ more_headers = sym (ap (λ h. h ++ more_headers) adds.header_after ∙ append_assoc headers header more_headers) in
    let back : parts ++ (adds.part ++ more_parts) ≡ new_parts ++ more_parts = sym (ap (λ p. p ++ more_parts) adds.part_after ∙ append_assoc parts adds.part more_parts) in
    subst (λ (p : List ℕ). AreWritten count (new_headers ++ more_headers) p all) back
    (subst (λ (h : List ℕ). AreWritten count h (parts ++ (adds.part ++ more_parts)) all) prefix whole)

-- the same for the tuple at an index of the list
pub next_tuple : (count i : ℕ) (tuple : Tuple) (tuples : List Tuple) (headers new_headers parts new_parts : List ℕ) → i < length tuples → tuple ≡ get_or tuples i tuple → AddsTuple count (variation_of tuple) headers new_headers parts new_parts
    → ((more_headers more_parts : List ℕ) → AreWritten count more_headers more_parts (map variation_of (drop i tuples)) → AreWritten count (headers ++ more_headers) (parts ++ more_parts) (map variation_of tuples))
    → (more_headers more_parts : List ℕ) → AreWritten count more_headers more_parts (map variation_of (drop (i + 1) tuples)) → AreWritten count (new_headers ++ more_headers) (new_parts ++ more_parts) (map variation_of tuples)
next_tuple count i tuple tuples headers new_headers parts new_parts inside is adds completes =
    let prefix : drop i tuples ≡ tuple ∷ drop (i + 1) tuples = drop_more tuples i tuple inside ∙ ap (λ t. t ∷ drop (i + 1) tuples) (sym is) in
    let at : (more_headers more_parts : List ℕ) → AreWritten count more_headers more_parts (variation_of tuple ∷ map variation_of (drop (i + 1) tuples)) → AreWritten count (headers ++ more_headers) (parts ++ more_parts) (map variation_of tuples) =
    λ more_headers more_parts written. completes more_headers more_parts (subst (λ (rest : List Tuple). AreWritten count more_headers more_parts (map variation_of rest)) (sym prefix) written) in
    tuple_added count (variation_of tuple) (map variation_of (drop (i + 1) tuples)) (map variation_of tuples) headers new_headers parts new_parts adds at

-- a header more takes at most 52 bytes
pub next_header : (axes count i : ℕ) (tuple : Tuple) (headers new_headers parts new_parts : List ℕ) → axes ≤ 8 → IsTupleOf axes count tuple → AddsTuple count (variation_of tuple) headers new_headers parts new_parts → length headers ≤ 52 * i → length new_headers ≤ 52 * (i + 1)
next_header axes count i tuple headers new_headers parts new_parts few is adds short =
    omega (arith, ap length adds.header_after, length-append headers (header_bytes (length adds.part) (header_of tuple.support.items)), header_length (length adds.part) tuple.support.items, is.axis_each)

-- the two words, the headers and the packed parts, one after another
pub data_spelled : (n offset : ℕ) (none prefix words listed bytes headers more_headers parts more_parts : List ℕ) → none ≡ [] → prefix ≡ none ++ word n → words ≡ prefix ++ word offset → more_headers ≡ headers → listed ≡ words ++ more_headers → more_parts ≡ parts → bytes ≡ listed ++ more_parts → bytes ≡ word n ++ (word offset ++ (headers ++ parts))
data_spelled n offset none prefix words listed bytes headers more_headers parts more_parts is_none prefix_is words_are same_headers listed_are same_parts bytes_are =
    bytes_are
    ∙ ap (λ p. listed ++ p) same_parts
    ∙ ap (λ l. l ++ parts) (listed_are ∙ ap (λ h. words ++ h) same_headers ∙ ap (λ w. w ++ headers) (words_are ∙ ap (λ f. f ++ word offset) (prefix_is ∙ ap (λ e. e ++ word n) is_none)))

-- where no tuple is left, the headers and the packed parts stand after the two words
pub all_written : (count i : ℕ) (tuples : List Tuple) (headers parts bytes : List ℕ) → 0 < length tuples → length tuples ≤ i → 4 + length headers < 2 ^ 16
    → ((more_headers more_parts : List ℕ) → AreWritten count more_headers more_parts (map variation_of (drop i tuples)) → AreWritten count (headers ++ more_headers) (parts ++ more_parts) (map variation_of tuples))
    → bytes ≡ word (length tuples) ++ (word (4 + length headers) ++ (headers ++ parts)) → IsWritten count bytes (map variation_of tuples)
all_written count i [] headers parts bytes some end near completes spelled = absurd (omega arith)
all_written count i (tuple ∷ tuples) headers parts bytes some end near completes spelled =
    let last : AreWritten count [] [] (map variation_of (drop i (tuple ∷ tuples))) = subst (λ (rest : List Tuple). AreWritten count [] [] (map variation_of rest)) (sym (drop_all i (tuple ∷ tuples) end)) (refl, refl) in
    let whole = completes [] [] last in
    record {
      headers = headers;
      parts = parts;
      near = near;
      each =
          subst (λ (p : List ℕ). AreWritten count headers p (map variation_of (tuple ∷ tuples))) (append-nil parts)
          (subst (λ (h : List ℕ). AreWritten count h (parts ++ []) (map variation_of (tuple ∷ tuples))) (append-nil headers) whole);
      spelled = spelled ∙ ap (λ n. word n ++ (word (4 + length headers) ++ (headers ++ parts))) (sym (length-map (tuple ∷ tuples) variation_of));
    }

-- a region with one axis that can be written for each axis of the font
pub record IsRegionOf (axes : ℕ) (region : List Triple) : Type 0 where
  pub axis_each : length region ≡ axes
  pub are : All IsRegionAxis region

-- with any spelling of packed lists that the written one is
module _ (Points : ℕ → List ℕ → List ℕ → Type 0) (Deltas : List ℕ → List ℤ → Type 0) (axes count : ℕ) (to_points : (bytes points : List ℕ) → PacksPoints count bytes points → Points count bytes points) (to_deltas : (bytes : List ℕ) (values : List ℤ) → PacksDeltas bytes values → Deltas bytes values) where
  part_is : (part : List ℕ) (tuple : TupleVariation) → IsWrittenPart count part tuple → IsPart Points Deltas count None true part tuple
  part_is part tuple written =
      let own = written.is_part in
      record {
        point_bytes = own.point_bytes;
        x_bytes = own.x_bytes;
        y_bytes = own.y_bytes;
        points = to_points own.point_bytes tuple.points own.points;
        xs = to_deltas _ _ own.xs;
        ys = to_deltas _ _ own.ys;
        one_each = own.one_each;
        spelled = own.spelled;
      }

  are_tuples : (headers parts : List ℕ) (tuples : List TupleVariation) → All (λ tuple. IsRegionOf axes tuple.region) tuples → AreWritten count headers parts tuples → AreTuples Points Deltas axes count [] None headers parts tuples
  are_tuples headers parts [] regions written = written
  are_tuples headers parts (tuple ∷ tuples) regions written =
      let first : IsRegionOf axes tuple.region = All-head (λ t. IsRegionOf axes t.region) tuple tuples regions in
      let rest : All (λ t. IsRegionOf axes t.region) tuples = All-tail (λ t. IsRegionOf axes t.region) tuple tuples regions in
      let own = written.3 in
      (header_of tuple.region, written.0, written.1, written.2, has_region axes tuple.region first.axis_each first.are, part_is written.0 tuple own, own.small, written.4, written.5, are_tuples written.1 written.2 tuples rest written.6)

  data_is : (bytes : List ℕ) (tuples : List TupleVariation) → length tuples < 2 ^ 12 → All (λ tuple. IsRegionOf axes tuple.region) tuples → IsWritten count bytes tuples → ((bytes ≡ []) × (tuples ≡ [])) ⊎ IsGlyphData Points Deltas axes count [] bytes tuples
  data_is bytes [] few regions written = inl (written, refl)
  data_is bytes (tuple ∷ tuples) few regions written = inr (record {
    shared_points = None;
    headers = written.headers;
    shared_bytes = [];
    parts = written.parts;
    few = few;
    near = written.near;
    shared_list = refl;
    each = are_tuples written.headers written.parts (tuple ∷ tuples) regions written.each;
    spelled = written.spelled ∙ ap (λ n. word n ++ (word (4 + length written.headers) ++ (written.headers ++ written.parts))) (sym (zero-add (length (tuple ∷ tuples))));
  })

reads_points : (count : ℕ) (bytes points : List ℕ) → PacksPoints count bytes points → ReadsPoints count bytes points
reads_points count bytes points (inl all) = inl (all.1, all.0)
reads_points count bytes points (inr listed) = let packed = listed.1 in inr packed.are

reads_deltas : (bytes : List ℕ) (values : List ℤ) → PacksDeltas bytes values → ReadsDeltas bytes values
reads_deltas bytes values packed = (packed.runs, packed.are)

regions_of : (axes count : ℕ) (tuples : List Tuple) → All (IsTupleOf axes count) tuples → All (λ tuple. IsRegionOf axes tuple.region) (map variation_of tuples)
regions_of axes count tuples each = All-map (λ tuple. IsRegionOf axes tuple.region) variation_of tuples (λ k d h. record { axis_each = (each k d h).axis_each; are = (each k d h).region })

-- what is written means the tuples
pub means : (axes count : ℕ) (bytes : List ℕ) (tuples : List Tuple) → AreTuplesOf axes count tuples → IsWritten count bytes (map variation_of tuples) → MeansTuples axes count [] bytes (map variation_of tuples)
means axes count bytes tuples are written =
    data_is ReadsPoints ReadsDeltas axes count (reads_points count) reads_deltas bytes (map variation_of tuples) (omega (arith, length-map tuples variation_of, are.few)) (regions_of axes count tuples are.each) written

-- and every packed list in it is in maximal runs
pub packs : (axes count : ℕ) (bytes : List ℕ) (tuples : List Tuple) → AreTuplesOf axes count tuples → IsWritten count bytes (map variation_of tuples) → PacksTuples axes count [] bytes (map variation_of tuples)
packs axes count bytes tuples are written =
    data_is PacksPoints PacksDeltas axes count (λ b p h. h) (λ b v h. h) bytes (map variation_of tuples) (omega (arith, length-map tuples variation_of, are.few)) (regions_of axes count tuples are.each) written
