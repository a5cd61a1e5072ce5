-- The outlines that are made in an order in which bases come first.
use Rattle.std.proofs.Common.{◌≡◌, ◌≤◌, ◌<◌, inl, inr, ℕ, ◌+◌, List, [], ◌∷◌, length, take, set, get_or, Option, Some, None, refl, sym, ◌∙◌, ap, subst, arith}
use Rattle.std.specs.Prelude.{All, Contains, slice_get, slice_index, slice_index_or}
use Rattle.std.specs.List.{filter_map, cons_option, AllZip}
use Rattle.std.proofs.lemmas.Bool.{cases_eq}
use Rattle.std.proofs.lemmas.Option.{get_or_from_slice_get}
use Rattle.std.proofs.lemmas.List.{get_or-set_same, get_or-set_other, get_or-take, get_or_default, length-map}
use Rattle.std.proofs.Math.ListN.{get_or-map}
use Rattle.std.proofs.lemmas.List.Elements.{All-nil, All-cons, All-weaker}
use Rattle.std.proofs.lemmas.Grind.{common_steps}
use Rattle.glif.specs.Limits.{IsWithinLimits, IsOffsetWithin}
use Rattle.glif.specs.declared.shape.Component.{Component}
use Rattle.glif.specs.declared.shape.Drawing.{Drawing}
use Rattle.compat.specs.References.{bases_at, IsClosed, IsOrder}
use Rattle.compat.specs.Names.{number_of, base_numbers, references, first_dangling}
use Rattle.compat.specs.Flattened.{AreFit}
use Rattle.compat.specs.Flats.{IsFlatOf, IsKept, AreKept, HasBases, IsJoined, AreMovable, joined_flat}
use Rattle.compat.specs.declared.flat.Flat.{Flat}
use Rattle.compat.specs.declared.flat.Flat.TheVariants.{Unknown, Few, Many}
use Rattle.compat.proofs.Kept.{blank, number_known, all_nearer, kept_joined, all_movable, IsBaseOf, named_all, none_dangle}

-- ---- the references of a drawing

pub bases_of : (drawings : List Drawing) (number : ℕ) → bases_at (references drawings) number ≡ base_numbers (number_of drawings) (get_or drawings number blank)
bases_of drawings number = get_or-map (base_numbers (number_of drawings)) drawings number blank

known_step : (end : ℕ) (more : List ℕ) → All (λ n. n < end) more → (found : Option ℕ) → ((n : ℕ) → found ≡ Some n → n < end) → All (λ n. n < end) (cons_option found more)
known_step end more all None less = all
known_step end more all (Some n) less = All-cons (λ n. n < end) n more (less n refl) all

known_all : (number : List ℕ → Option ℕ) (end : ℕ) → ((name : List ℕ) (n : ℕ) → number name ≡ Some n → n < end) → (components : List Component) → All (λ n. n < end) (filter_map (λ (component : Component). number component.base) components)
known_all number end less [] = All-nil (λ n. n < end)
known_all number end less (component ∷ components) = known_step end (filter_map (λ (component : Component). number component.base) components) (known_all number end less components) (number component.base) (less component.base)

pub closed_references : (drawings : List Drawing) → IsClosed (references drawings)
closed_references drawings number =
    let all = known_all (number_of drawings) (length drawings) (number_known drawings) (get_or drawings number blank).components in
    let sizes : length (references drawings) ≡ length drawings = simp length-map in
    rw (bases_of drawings number, sizes) all

pub named_at : (drawings : List Drawing) (number : ℕ) → first_dangling drawings ≡ None → number < length drawings → AllZip (IsBaseOf drawings) (get_or drawings number blank).components (bases_at (references drawings) number)
named_at drawings number none known =
    rw (bases_of drawings number) (named_all (number_of drawings) (get_or drawings number blank).components 0 (none_dangle (number_of drawings) 0 drawings none number blank known))

zip_length : {A B : Type 0} (R : A → B → Type 0) (xs : List A) (ys : List B) → AllZip R xs ys → length xs ≡ length ys
zip_length R [] [] all = refl
zip_length R [] (y ∷ ys) all = absurd all
zip_length R (x ∷ xs) [] all = absurd all
zip_length R (x ∷ xs) (y ∷ ys) all = let more = zip_length R xs ys all.1 in omega (arith, more)

-- ---- what the call that joins wants

pub one_each_at : (drawings : List Drawing) (number : ℕ) (drawing : Drawing) (bases : List ℕ) → first_dangling drawings ≡ None → number < length drawings → drawing ≡ get_or drawings number drawing → bases ≡ bases_at (references drawings) number
    → length drawing.components ≡ length bases
one_each_at drawings number drawing bases none known is same =
    let d : drawing ≡ get_or drawings number blank = is ∙ get_or_default drawings number drawing blank known in
    rw (d, same) (zip_length (IsBaseOf drawings) _ _ (named_at drawings number none known))

pub movable_at : (drawings : List Drawing) (flats : List Flat) (number : ℕ) (drawing : Drawing) (bases : List ℕ) → AreFit drawings → first_dangling drawings ≡ None → number < length drawings → drawing ≡ get_or drawings number drawing → bases ≡ bases_at (references drawings) number
    → HasBases drawings (references drawings) flats number → AreMovable flats drawing.components bases
movable_at drawings flats number drawing bases fit none known is same has =
    let d : drawing ≡ get_or drawings number blank = is ∙ get_or_default drawings number drawing blank known in
    rw (d, same) (all_movable drawings flats has.bound (get_or drawings number blank).components (bases_at (references drawings) number) has.few (named_at drawings number none known) (fit.offsets number blank known) has.kept)

-- ---- the order

pub stands_before : (order : List ℕ) (index base : ℕ) → Contains (take index order) base → (before : ℕ) × (before < index) × (before < length order) × (slice_index order before ≡ base)
stands_before order index base stands =
    let less = stands.1 in
    let short : stands.0 < index = grind (arith, common_steps, less) in
    let within : stands.0 < length order = grind (arith, common_steps, less) in
    (stands.0, short, within, get_or_default order stands.0 0 base within ∙ sym (get_or-take index order stands.0 base short) ∙ stands.2)

pub bases_kept : (drawings : List Drawing) (graph : List (List ℕ)) (order : List ℕ) (flats : List Flat) (index : ℕ) → IsOrder graph order → index < length order
    → ((before : ℕ) → before < index → IsKept drawings index flats (slice_index order before)) → All (IsKept drawings index flats) (bases_at graph (slice_index order index))
bases_kept drawings graph order flats index is less kept =
    All-weaker (Contains (take index order)) (IsKept drawings index flats)
    (λ base stands. let found = stands_before order index base stands in subst (IsKept drawings index flats) found.3 (kept found.0 found.1))
    (bases_at graph (slice_index order index)) (is.before index less)

later : (drawings : List Drawing) (low high : ℕ) (drawing : Drawing) → low ≤ high → (flat : Flat) → IsFlatOf drawings low drawing flat → IsFlatOf drawings high drawing flat
later drawings low high drawing less Unknown kept = absurd kept
later drawings low high drawing less (Few contours points) kept = (kept.0, kept.1, all_nearer low high less contours kept.2, kept.3)
later drawings low high drawing less (Many count) kept = kept

pub made_more : (drawings : List Drawing) (order : List ℕ) (flats : List Flat) (index number : ℕ) (flat : Flat) → AreFit drawings → first_dangling drawings ≡ None → number ≡ slice_index order index → number < length drawings → length flats ≡ length drawings
    → ((before : ℕ) → before < index → IsKept drawings index flats (slice_index order before)) → All (IsKept drawings index flats) (bases_at (references drawings) number) → IsJoined drawings (references drawings) flats number flat
    → (before : ℕ) → before < index + 1 → IsKept drawings (index + 1) (set flats number flat) (slice_index order before)
made_more drawings order flats index number flat fit none is known sizes kept bases joined before less drawing stands =
    elim (cases_eq (slice_index order before) number) [
      | inl e ↦
          let here : slice_get drawings number ≡ Some drawing = subst (λ n. slice_get drawings n ≡ Some drawing) e stands in
          let d : get_or drawings number blank ≡ drawing = get_or_from_slice_get drawings number drawing blank here in
          let made = kept_joined drawings flats index drawing (bases_at (references drawings) number) (subst (λ (d : Drawing). AllZip (IsBaseOf drawings) d.components (bases_at (references drawings) number)) d (named_at drawings number none known))
          (subst (λ (d : Drawing). All IsOffsetWithin d.components) d (fit.offsets number blank known)) (subst (λ (d : Drawing). IsWithinLimits d.outline) d (fit.within number blank known)) bases in
          let same = ap (λ n. slice_index_or (set flats number flat) n Unknown) e ∙ get_or-set_same flats number flat Unknown (omega (arith, known, sizes)) in
          subst (IsFlatOf drawings (index + 1) drawing) (sym (same ∙ joined drawing here)) made
      | inr apart ↦
          let short : before < index = elim (cases_eq before index) [ inl e ↦ absurd (apart (ap (slice_index order) e ∙ sym is)) | inr other ↦ omega (arith, less, other) ] in
          subst (IsFlatOf drawings (index + 1) drawing) (sym (get_or-set_other flats number (slice_index order before) flat Unknown apart))
          (later drawings index (index + 1) drawing (omega arith) (slice_index_or flats (slice_index order before) Unknown) (kept before short drawing stands))
    ]

pub all_kept : (drawings : List Drawing) (order : List ℕ) (flats : List Flat) (index : ℕ) → IsOrder (references drawings) order → length order ≤ index → length flats ≡ length drawings
    → ((before : ℕ) → before < index → IsKept drawings index flats (slice_index order before)) → AreKept drawings flats
all_kept drawings order flats index is ends sizes kept = record {
  sizes = sizes;
  bound = index;
  each = λ number known.
      let lengths : length (references drawings) ≡ length drawings = simp length-map in
      let stands = is.each number (omega (arith, lengths, known)) in
      let less = stands.1 in
      subst (IsKept drawings index flats) (get_or_default order stands.0 0 number stands.1 ∙ stands.2) (kept stands.0 (omega (arith, less, ends)));
}

-- ---- as the calls have it

pub read_references : (drawings : List Drawing) (graph : List (List ℕ)) (number : ℕ) (bases found : List ℕ) → graph ≡ references drawings → number < length drawings → bases ≡ found → found ≡ get_or graph number found
    → bases ≡ bases_at (references drawings) number
read_references drawings graph number bases found same known is reads =
    let lengths : length (references drawings) ≡ length drawings = simp length-map in
    let sizes = ap length same in
    is ∙ (reads ∙ (get_or_default graph number found [] (omega (arith, lengths, sizes, known)) ∙ ap (λ g. bases_at g number) same))

pub known_at : (drawings : List Drawing) (flats : List Flat) (number : ℕ) (bases : List ℕ) → length flats ≡ length drawings → bases ≡ bases_at (references drawings) number → All (λ base. base < length flats) bases
known_at drawings flats number bases sizes same =
    let lengths : length (references drawings) ≡ length drawings = simp length-map in
    rw (same, sizes ∙ sym lengths) (closed_references drawings number)

pub joined_is : (drawings : List Drawing) (graph : List (List ℕ)) (flats : List Flat) (number : ℕ) (drawing : Drawing) (bases : List ℕ) (flat : Flat) → graph ≡ references drawings → drawing ≡ get_or drawings number drawing → bases ≡ bases_at (references drawings) number
    → flat ≡ joined_flat flats drawing bases → IsJoined drawings graph flats number flat
joined_is drawings graph flats number drawing bases flat same_graph is same made other stands =
    let d : drawing ≡ other = is ∙ get_or_from_slice_get drawings number other drawing stands in
    made ∙ (ap (λ (d : Drawing). joined_flat flats d bases) d ∙ ap (joined_flat flats other) (same ∙ ap (λ g. bases_at g number) (sym same_graph)))

pub same_size : (drawings : List Drawing) (graph : List (List ℕ)) → graph ≡ references drawings → length graph ≡ length drawings
same_size drawings graph same = let lengths : length (references drawings) ≡ length drawings = simp length-map in ap length same ∙ lengths
