-- The reader of packed parts reads what packed parts are.
use Rattle.std.proofs.Common.{◌≡◌, ℕ, ℤ, suc, Bool, true, false, cond, ltb, eqb, List, [], ◌∷◌, ◌++◌, length, map, take, drop, Option, Some, None, refl, sym, ap, subst, ◌∙◌, length-append, length-take, arith}
use Rattle.std.proofs.lemmas.Bool.{ltb-false, le-ltb, eqb-true}
use Rattle.std.proofs.lemmas.List.{take_at, drop_at, take-append-drop, length-map}
use Rattle.std.proofs.lemmas.Option.{same_Some}
use Rattle.fixpoint.specs.declared.plane.Pair.{Pair}
use Rattle.variation_decoder.specs.declared.header.Head.{Head}
use Rattle.variation_rules.specs.declared.region.Triple.{Triple}
use Rattle.variation_rules.specs.declared.tuple.TupleVariation.{TupleVariation}
use Rattle.variation_rules.specs.PackedDeltas.{ReadsDeltas}
use Rattle.variation_rules.specs.PackedPoints.{ReadsPoints}
use Rattle.variation_rules.specs.TupleVariations.{header_bytes, HasRegion, HasPoints, IsPart, AreTuples}
use Rattle.variation_decoder.specs.Deltas.{deltas_at}
use Rattle.variation_decoder.specs.Tuples.{tuple_points_at, pairs, part_at, tuple_at, tuples_at}
use Rattle.variation_decoder.proofs.Steps.{unless_some, when_some}
use Rattle.variation_decoder.proofs.Readers.{IsBytes, IsBytes-prefix, whole_stands, whole_again, Takes, IsReader, Then, Is, Made, Many, then_reads, done_reads, made_reads, same_reads}
use Rattle.variation_decoder.proofs.DeltaRuns.{deltas_read}
use Rattle.variation_decoder.proofs.PointRuns.{points_read}
use Rattle.variation_decoder.proofs.Headers.{HeaderText}
use Rattle.basics.specs.Optional.{◌>>=◌}
use Rattle.basics.proofs.Optional.{bind_some}

-- ---- the points of a tuple

-- nothing is read
abbrev never : List ℕ → Option (List ℕ × List ℕ)
never bytes = None

never_reads : (total : ℕ) → IsReader (HasPoints ReadsPoints total None false) never
never_reads total = record {
  takes = λ bytes read fits e. absurd cc;
  again = λ text points rest s. let none : None ≡ Some points = s.1 in absurd cc;
}

tuple_points_read : (total : ℕ) (shared : Option (List ℕ)) (private : Bool) → IsReader (HasPoints ReadsPoints total shared private) (tuple_points_at total shared private)
unfolding tuple_points_at
tuple_points_read total shared true = points_read total
tuple_points_read total None false = never_reads total
tuple_points_read total (Some points) false =
    same_reads (Is points) (HasPoints ReadsPoints total (Some points) false) (λ bytes. Some (points, bytes))
    (λ text value s. (s.0, ap (λ (p : List ℕ). Some p) (sym s.1))) (λ text value s. (s.0, sym (same_Some points value s.1))) (done_reads points)

-- ---- pairs of numbers

abbrev x_of : Pair → ℤ
x_of delta = delta.x

abbrev y_of : Pair → ℤ
y_of delta = delta.y

pairs_xs : (xs ys : List ℤ) → length xs ≡ length ys → map x_of (pairs xs ys) ≡ xs
pairs_xs [] ys len = refl
pairs_xs (x ∷ xs) [] len = absurd cc
pairs_xs (x ∷ xs) (y ∷ ys) len = ap (λ (zs : List ℤ). x ∷ zs) (pairs_xs xs ys (omega arith))

pairs_ys : (xs ys : List ℤ) → length xs ≡ length ys → map y_of (pairs xs ys) ≡ ys
pairs_ys [] [] len = refl
pairs_ys [] (y ∷ ys) len = absurd cc
pairs_ys (x ∷ xs) [] len = absurd cc
pairs_ys (x ∷ xs) (y ∷ ys) len = ap (λ (zs : List ℤ). y ∷ zs) (pairs_ys xs ys (omega arith))

pairs_again : (deltas : List Pair) → pairs (map x_of deltas) (map y_of deltas) ≡ deltas
pairs_again [] = refl
pairs_again (delta ∷ deltas) = ap (λ (ds : List Pair). delta ∷ ds) (pairs_again deltas)

-- ---- a packed part

abbrev DeltasText : ℕ → List ℕ → List ℤ → Type 0
DeltasText wanted text values = ReadsDeltas text values × (length values ≡ wanted)

abbrev made_tuple : List Triple → List ℕ → List ℤ → List ℤ → TupleVariation
made_tuple region points xs ys = record { region = region; points = points; deltas = pairs xs ys }

abbrev PartFields : ℕ → Option (List ℕ) → Head → List ℕ → TupleVariation → Type 0
PartFields total shared head =
    Then (HasPoints ReadsPoints total shared head.private) (λ points.
    Then (DeltasText (length points)) (λ xs. Made (made_tuple head.region points xs) (DeltasText (length points))))

-- the part of a tuple with the header's region
abbrev pub PartText : ℕ → Option (List ℕ) → Head → List ℕ → TupleVariation → Type 0
PartText total shared head text tuple = IsPart ReadsPoints ReadsDeltas total shared head.private text tuple × (tuple.region ≡ head.region)

part_of : (total : ℕ) (shared : Option (List ℕ)) (head : Head) (text : List ℕ) (tuple : TupleVariation) → PartFields total shared head text tuple → PartText total shared head text tuple
part_of total shared head text tuple s =
    let points = s.first in let xs = s.next.first in
    let ys : List ℤ = s.next.next.0 in
    let y_text = s.next.next.1 in
    let same : length xs ≡ length ys = s.next.stands.1 ∙ sym y_text.1 in
    subst (λ (t : TupleVariation). PartText total shared head text t) (sym s.next.next.2) (
      record {
        point_bytes = s.prefix;
        x_bytes = s.next.prefix;
        y_bytes = s.next.back;
        points = s.stands;
        xs = subst (λ (zs : List ℤ). ReadsDeltas s.next.prefix zs) (sym (pairs_xs xs ys same)) s.next.stands.0;
        ys = subst (λ (zs : List ℤ). ReadsDeltas s.next.back zs) (sym (pairs_ys xs ys same)) y_text.0;
        one_each = sym (length-map (pairs xs ys) x_of) ∙ ap length (pairs_xs xs ys same) ∙ s.next.stands.1;
        spelled = s.split ∙ ap (λ (t : List ℕ). s.prefix ++ t) s.next.split;
      },
      refl,
    )

of_part : (total : ℕ) (shared : Option (List ℕ)) (head : Head) (text : List ℕ) (tuple : TupleVariation) → PartText total shared head text tuple → PartFields total shared head text tuple
of_part total shared head text tuple s =
    let part = s.0 in
    let xs_each : length (map x_of tuple.deltas) ≡ length tuple.points = length-map tuple.deltas x_of ∙ part.one_each in
    let ys_each : length (map y_of tuple.deltas) ≡ length tuple.points = length-map tuple.deltas y_of ∙ part.one_each in
    let made : tuple ≡ made_tuple head.region tuple.points (map x_of tuple.deltas) (map y_of tuple.deltas) =
    ap (λ (r : List Triple). record tuple { region = r }) s.1 ∙ ap (λ (ds : List Pair). record tuple { region = head.region; deltas = ds }) (sym (pairs_again tuple.deltas)) in
    record {
      first = tuple.points;
      prefix = part.point_bytes;
      back = part.x_bytes ++ part.y_bytes;
      split = part.spelled;
      stands = part.points;
      next = record {
        first = map x_of tuple.deltas;
        prefix = part.x_bytes;
        back = part.y_bytes;
        split = refl;
        stands = (part.xs, xs_each);
        next = (map y_of tuple.deltas, (part.ys, ys_each), made);
      };
    }

part_reads : (total : ℕ) (shared : Option (List ℕ)) (head : Head) → IsReader (PartText total shared head) (part_at total shared head)
unfolding part_at
part_reads total shared head =
    same_reads (PartFields total shared head) (PartText total shared head) (part_at total shared head) (part_of total shared head) (of_part total shared head)
    (then_reads (HasPoints ReadsPoints total shared head.private) (λ points. Then (DeltasText (length points)) (λ xs. Made (made_tuple head.region points xs) (DeltasText (length points)))) (tuple_points_at total shared head.private)
    (λ points bytes. deltas_at (length points) bytes >>= λ xs. deltas_at (length points) xs.1 >>= λ ys. Some (made_tuple head.region points xs.0 ys.0, ys.1)) (tuple_points_read total shared head.private)
    (λ prefix points stands. then_reads (DeltasText (length points)) (λ xs. Made (made_tuple head.region points xs) (DeltasText (length points))) (deltas_at (length points))
    (λ xs bytes. deltas_at (length points) bytes >>= λ ys. Some (made_tuple head.region points xs ys.0, ys.1)) (deltas_read (length points))
    (λ prefix xs stands. made_reads (made_tuple head.region points xs) (DeltasText (length points)) (deltas_at (length points)) (deltas_read (length points)))))

-- ---- a tuple after its header

-- a packed part of the size that the header says
abbrev pub TupleText : ℕ → Option (List ℕ) → Head → List ℕ → TupleVariation → Type 0
TupleText total shared head text tuple = PartText total shared head text tuple × (length text ≡ head.size)

tuple_taken : (total : ℕ) (shared : Option (List ℕ)) (head : Head) (bytes : List ℕ) (read : TupleVariation × List ℕ) → IsBytes bytes → tuple_at total shared head bytes ≡ Some read → Takes (TupleText total shared head) bytes read
unfolding tuple_at
tuple_taken total shared head bytes read fits e =
    let part = take head.size bytes in let rest = drop head.size bytes in
    let all = take-append-drop head.size bytes in
    let room = unless_some (ltb (length bytes) head.size) (part_at total shared head part >>= λ tuple. cond (eqb (length tuple.1) 0) (Some (tuple.0, rest)) None) read e in
    let step = bind_some (part_at total shared head part) (λ tuple. cond (eqb (length tuple.1) 0) (Some (tuple.0, rest)) None) read room.1 in
    let ends = when_some (eqb (length step.0.1) 0) (Some (step.0.0, rest)) read step.2 in
    let same : (step.0.0, rest) ≡ read = same_Some (step.0.0, rest) read ends.1 in
    let fits_part = IsBytes-prefix part rest (subst IsBytes (sym all) fits) in
    let stands = whole_stands (PartText total shared head) (part_at total shared head) (part_reads total shared head) part step.0 fits_part step.1 (eqb-true (length step.0.1) 0 ends.0) in
    let size : length part ≡ head.size = omega (arith, length-take head.size bytes, ltb-false (length bytes) head.size room.0) in
    subst (λ (r : TupleVariation × List ℕ). Takes (TupleText total shared head) bytes r) same
    (record { text = part; parts = sym all; stands = (stands, size) })

tuple_again : (total : ℕ) (shared : Option (List ℕ)) (head : Head) (text : List ℕ) (tuple : TupleVariation) (rest : List ℕ) → TupleText total shared head text tuple → tuple_at total shared head (text ++ rest) ≡ Some (tuple, rest)
unfolding tuple_at
tuple_again total shared head text tuple rest s =
    let long : ltb (length (text ++ rest)) head.size ≡ false = le-ltb (length (text ++ rest)) head.size (omega (arith, length-append text rest, s.1)) in
    let read = whole_again (PartText total shared head) (part_at total shared head) (part_reads total shared head) text tuple s.0 in
    rw (long, take_at text rest head.size s.1, drop_at text rest head.size s.1, read) refl

-- ---- a tuple for each header

abbrev pub PartsText : ℕ → Option (List ℕ) → List Head → List ℕ → List TupleVariation → Type 0
PartsText total shared [] = Is []
PartsText total shared (head ∷ heads) = Then (TupleText total shared head) (λ tuple. Made (λ more. tuple ∷ more) (PartsText total shared heads))

pub parts_read : (total : ℕ) (shared : Option (List ℕ)) (heads : List Head) → IsReader (PartsText total shared heads) (tuples_at total shared heads)
unfolding tuples_at
parts_read total shared [] = done_reads []
parts_read total shared (head ∷ heads) =
    then_reads (TupleText total shared head) (λ tuple. Made (λ (more : List TupleVariation). tuple ∷ more) (PartsText total shared heads)) (tuple_at total shared head)
    (λ tuple bytes. tuples_at total shared heads bytes >>= λ more. Some (tuple ∷ more.0, more.1)) (record { takes = tuple_taken total shared head; again = tuple_again total shared head })
    (λ prefix tuple stands. made_reads (λ (more : List TupleVariation). tuple ∷ more) (PartsText total shared heads) (tuples_at total shared heads) (parts_read total shared heads))

-- ---- headers and parts are tuples of the grammar

pub are_tuples : (axes total : ℕ) (peaks : List (List ℤ)) (shared : Option (List ℕ)) (heads : List Head) (headers parts : List ℕ) (tuples : List TupleVariation)
    → Many (HeaderText axes peaks) headers heads → PartsText total shared heads parts tuples
    → AreTuples ReadsPoints ReadsDeltas axes total peaks shared headers parts tuples × (length tuples ≡ length heads)
are_tuples axes total peaks shared [] headers parts tuples h p =
    subst (λ (ts : List TupleVariation). AreTuples ReadsPoints ReadsDeltas axes total peaks shared headers parts ts × (length ts ≡ 0)) (sym p.1) ((h, p.0), refl)
are_tuples axes total peaks shared (head ∷ heads) headers parts tuples h p =
    let more = are_tuples axes total peaks shared heads h.1 p.back p.next.0 h.4 p.next.1 in
    let tuple = p.first in let header = h.3.0 in let size = p.stands.1 in
    let region = subst (λ (r : List Triple). HasRegion axes peaks header r) (sym p.stands.0.1) h.3.1 in
    let part = subst (λ (b : Bool). IsPart ReadsPoints ReadsDeltas total shared b p.prefix tuple) (sym h.3.3) p.stands.0.0 in
    let spelled : headers ≡ header_bytes (length p.prefix) header ++ h.1 =
    h.2 ∙ ap (λ (t : List ℕ). t ++ h.1) (h.3.4 ∙ ap (λ (n : ℕ). header_bytes n header) (sym size)) in
    subst (λ (ts : List TupleVariation). AreTuples ReadsPoints ReadsDeltas axes total peaks shared headers parts ts × (length ts ≡ suc (length heads))) (sym p.next.2)
    ((header, p.prefix, h.1, p.back, region, part, omega (arith, h.3.2, size), spelled, p.split, more.0), ap suc more.1)

-- what each tuple's header says
abbrev pub HeadsOf : ℕ → ℕ → List (List ℤ) → Option (List ℕ) → List ℕ → List ℕ → List TupleVariation → Type 0
HeadsOf axes total peaks shared headers parts tuples =
    (heads : List Head) × Many (HeaderText axes peaks) headers heads × PartsText total shared heads parts tuples × (length heads ≡ length tuples)

pub heads_of : (axes total : ℕ) (peaks : List (List ℤ)) (shared : Option (List ℕ)) (headers parts : List ℕ) (tuples : List TupleVariation)
    → AreTuples ReadsPoints ReadsDeltas axes total peaks shared headers parts tuples → HeadsOf axes total peaks shared headers parts tuples
heads_of axes total peaks shared headers parts [] s = ([], s.0, (s.1, refl), refl)
heads_of axes total peaks shared headers parts (tuple ∷ tuples) s =
    let header = s.0 in let part = s.1 in
    let more = heads_of axes total peaks shared s.2 s.3 tuples s.9 in
    let head : Head = record { size = length part; region = tuple.region; private = header.private } in (
      head ∷ more.0,
      (header_bytes (length part) header, s.2, s.7, (header, s.4, s.6, refl, refl), more.1),
      record { first = tuple; prefix = part; back = s.3; split = s.8; stands = ((s.5, refl), refl); next = (tuples, more.2, refl) },
      ap suc more.3,
    )
