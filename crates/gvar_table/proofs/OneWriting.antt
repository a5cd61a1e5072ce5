-- Tuples have one spelling.
use Rattle.std.proofs.Common.{◌≡◌, ℕ, ◌+◌, List, [], ◌∷◌, ◌++◌, length, sym, ap, ◌∙◌, inl, inr}
use Rattle.packed.proofs.OneSpelling.{one_of_deltas, one_of_points}
use Rattle.variation_rules.specs.Fields.{word}
use Rattle.variation_rules.specs.PackedPoints.{PacksPoints}
use Rattle.variation_rules.specs.TupleVariations.{header_bytes}
use Rattle.variation_rules.specs.declared.tuple.TupleVariation.{TupleVariation}
use Rattle.gvar_table.specs.Layout.{AreWritten, IsWritten, IsWrittenPart, header_of}

one_of_points_bytes : (count : ℕ) (points bytes other : List ℕ) → PacksPoints count bytes points → PacksPoints count other points → bytes ≡ other
one_of_points_bytes count points bytes other (inl all) (inl both) = all.1 ∙ sym both.1
one_of_points_bytes count points bytes other (inl all) (inr listed) = absurd (listed.0 all.0)
one_of_points_bytes count points bytes other (inr listed) (inl all) = absurd (listed.0 all.0)
one_of_points_bytes count points bytes other (inr listed) (inr more) = one_of_points points count count bytes other listed.1 more.1

one_part : (count : ℕ) (part other : List ℕ) (tuple : TupleVariation) → IsWrittenPart count part tuple → IsWrittenPart count other tuple → part ≡ other
one_part count part other tuple first second =
    let a = first.is_part in
    let b = second.is_part in
    a.spelled
    ∙ ap (λ p. p ++ (a.x_bytes ++ a.y_bytes)) (one_of_points_bytes count tuple.points a.point_bytes b.point_bytes a.points b.points)
    ∙ ap (λ x. b.point_bytes ++ (x ++ a.y_bytes)) (one_of_deltas _ a.x_bytes b.x_bytes a.xs b.xs)
    ∙ ap (λ y. b.point_bytes ++ (b.x_bytes ++ y)) (one_of_deltas _ a.y_bytes b.y_bytes a.ys b.ys)
    ∙ sym b.spelled

-- headers and packed parts of the same tuples are the same
one_list : (count : ℕ) (headers other_headers parts other_parts : List ℕ) (tuples : List TupleVariation) → AreWritten count headers parts tuples → AreWritten count other_headers other_parts tuples → (headers ≡ other_headers) × (parts ≡ other_parts)
one_list count headers other_headers parts other_parts [] a b = (a.0 ∙ sym b.0, a.1 ∙ sym b.1)
one_list count headers other_headers parts other_parts (tuple ∷ tuples) a b =
    let own : a.0 ≡ b.0 = one_part count a.0 b.0 tuple a.3 b.3 in
    let rest = one_list count a.1 b.1 a.2 b.2 tuples a.6 b.6 in (
      a.4 ∙ ap (λ p. header_bytes (length p) (header_of tuple.region) ++ a.1) own ∙ ap (λ h. header_bytes (length b.0) (header_of tuple.region) ++ h) rest.0 ∙ sym b.4,
      a.5 ∙ ap (λ p. p ++ a.2) own ∙ ap (λ m. b.0 ++ m) rest.1 ∙ sym b.5,
    )

pub one_writing : (count : ℕ) (tuples : List TupleVariation) (bytes other : List ℕ) → IsWritten count bytes tuples → IsWritten count other tuples → bytes ≡ other
one_writing count [] bytes other a b = a ∙ sym b
one_writing count (tuple ∷ tuples) bytes other a b =
    let same = one_list count a.headers b.headers a.parts b.parts (tuple ∷ tuples) a.each b.each in
    a.spelled
    ∙ ap (λ h. word (length (tuple ∷ tuples)) ++ (word (4 + length h) ++ (h ++ a.parts))) same.0
    ∙ ap (λ p. word (length (tuple ∷ tuples)) ++ (word (4 + length b.headers) ++ (b.headers ++ p))) same.1
    ∙ sym b.spelled
