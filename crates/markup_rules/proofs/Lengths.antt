-- How long what is written is, with what follows it.
use Rattle.std.proofs.Common.{◌≡◌, ℕ, ◌+◌, List, [], ◌∷◌, ◌++◌, length, ap, ◌∙◌, arith}
use Rattle.std.specs.Prelude.{codes}
use Rattle.std.proofs.lemmas.List.{length-append}
use Rattle.markup_rules.specs.Syntax.{Content, content_then, content_text, Attribute, attribute_then, attributes_then, Tag, tag_then, end_tag_then, Aside, comment, instruction, aside_then, Inside, only, then_aside, then_empty, then_child, inside_then, Outside, white, and_aside, outside_then, Prolog, undeclared, declared, prolog_then}
use Rattle.markup_rules.proofs.CompleteTags.{content_append}
use Rattle.markup_rules.proofs.CompleteItems.{attribute_append}

pub content_length : (c : Content) (rest : List ℕ) → length (content_then c rest) ≡ length (content_text c) + length rest
content_length c rest = ap length (content_append c rest) ∙ length-append (content_text c) rest

pub aside_length : (a : Aside) (rest : List ℕ) → length (aside_then a rest) ≡ length (aside_then a []) + length rest
aside_length (comment body) rest = omega (arith, length-append body (codes "-->" ++ rest), length-append body (codes "-->"))
aside_length (instruction body) rest = omega (arith, length-append body (codes "?>" ++ rest), length-append body (codes "?>"))

attributes_length : (attributes : List Attribute) (rest : List ℕ) → length (attributes_then attributes rest) ≡ length (attributes_then attributes []) + length rest
attributes_length [] rest = omega arith
attributes_length (a ∷ attributes) rest =
    omega (
      arith,
      ap length (attribute_append a (attributes_then attributes rest)),
      length-append (attribute_then a []) (attributes_then attributes rest),
      ap length (attribute_append a (attributes_then attributes [])),
      length-append (attribute_then a []) (attributes_then attributes []),
      attributes_length attributes rest,
    )

pub tag_length : (t : Tag) (rest : List ℕ) → length (tag_then t rest) ≡ length (tag_then t []) + length rest
tag_length t rest =
    omega (
      arith,
      length-append t.name (attributes_then t.attributes (t.blanks ++ rest)),
      length-append t.name (attributes_then t.attributes (t.blanks ++ [])),
      attributes_length t.attributes (t.blanks ++ rest),
      attributes_length t.attributes (t.blanks ++ []),
      length-append t.blanks rest,
      length-append {A = ℕ} t.blanks [],
    )

pub end_tag_length : (name blanks rest : List ℕ) → length (end_tag_then name blanks rest) ≡ length (end_tag_then name blanks []) + length rest
end_tag_length name blanks rest =
    omega (arith, length-append name (blanks ++ (codes ">" ++ rest)), length-append name (blanks ++ codes ">"), length-append blanks (codes ">" ++ rest), length-append blanks (codes ">"))

pub inside_length : (i : Inside) (rest : List ℕ) → length (inside_then i rest) ≡ length (inside_then i []) + length rest
inside_length (only c) rest = omega (arith, content_length c rest)
inside_length (then_aside c a more) rest =
    omega (arith, content_length c (aside_then a (inside_then more rest)), content_length c (aside_then a (inside_then more [])), aside_length a (inside_then more rest), aside_length a (inside_then more []), inside_length more rest)
inside_length (then_empty c t more) rest =
    omega (arith, content_length c (tag_then t (codes "/>" ++ inside_then more rest)), content_length c (tag_then t (codes "/>" ++ inside_then more [])), tag_length t (codes "/>" ++ inside_then more rest), tag_length t (codes "/>" ++ inside_then more []), inside_length more rest)
inside_length (then_child c t inside blanks more) rest =
    let after = end_tag_then t.name blanks (inside_then more rest) in
    let last = end_tag_then t.name blanks (inside_then more []) in
    omega (
      arith,
      content_length c (tag_then t (codes ">" ++ inside_then inside after)),
      content_length c (tag_then t (codes ">" ++ inside_then inside last)),
      tag_length t (codes ">" ++ inside_then inside after),
      tag_length t (codes ">" ++ inside_then inside last),
      inside_length inside after,
      inside_length inside last,
      end_tag_length t.name blanks (inside_then more rest),
      end_tag_length t.name blanks (inside_then more []),
      inside_length more rest,
    )

outside_length : (o : Outside) (rest : List ℕ) → length (outside_then o rest) ≡ length (outside_then o []) + length rest
outside_length (white blanks) rest = omega (arith, length-append blanks rest, length-append {A = ℕ} blanks [])
outside_length (and_aside blanks a more) rest =
    omega (arith, length-append blanks (aside_then a (outside_then more rest)), length-append blanks (aside_then a (outside_then more [])), aside_length a (outside_then more rest), aside_length a (outside_then more []), outside_length more rest)

pub prolog_length : (p : Prolog) (rest : List ℕ) → length (prolog_then p rest) ≡ length (prolog_then p []) + length rest
prolog_length (undeclared o) rest = outside_length o rest
prolog_length (declared b d o) rest =
    let after = codes ">" ++ outside_then o rest in
    let last = codes ">" ++ outside_then o [] in
    omega (arith, outside_length b (codes "<!DOCTYPE" ++ (d ++ after)), outside_length b (codes "<!DOCTYPE" ++ (d ++ last)), length-append d after, length-append d last, outside_length o rest)
