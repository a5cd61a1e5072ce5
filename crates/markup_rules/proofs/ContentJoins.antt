-- Content before content, and of what stands in an element.
use Rattle.std.proofs.Common.{◌≡◌, ℕ, zero, suc, ◌+◌, List, [], ◌∷◌, ◌++◌, length, refl, sym, ap, ◌∙◌, append_assoc, arith}
use Rattle.std.specs.Prelude.{codes, encode_utf8}
use Rattle.std.proofs.lemmas.Str.{IsUtf8-nil, is_utf8-from_IsUtf8}
use Rattle.markup_rules.specs.Tree.{Tree, node, trees_of}
use Rattle.markup_rules.specs.Syntax.{reference_body, character, Content, run, then_reference, content_then, content_text, content_meaning, IsContent, IsRun, Tag, tag_then, tag_attributes, aside_then, Inside, only, then_aside, then_empty, then_child, inside_then, end_tag_then, IsInside, own_text, children_from}
use Rattle.markup_rules.proofs.SoundContent.{prepend, prepend_is, prepend_text, prepend_meaning}
use Rattle.markup_rules.proofs.Lengths.{content_length}

pub empty_run : IsRun []
empty_run = record { each = refl; utf8 = is_utf8-from_IsUtf8 [] IsUtf8-nil }

-- content and then content
abbrev pub join : Content → Content → Content
join (run bytes) d = prepend bytes d
join (then_reference bytes r c) d = then_reference bytes r (join c d)

pub join_is : (c d : Content) → IsContent c → IsContent d → IsContent (join c d)
join_is (run bytes) d is that = prepend_is bytes d is that
join_is (then_reference bytes r c) d is that = (is.0, is.1, join_is c d is.2 that)

pub join_text : (c d : Content) (rest : List ℕ) → content_then (join c d) rest ≡ content_then c (content_then d rest)
join_text (run bytes) d rest = prepend_text bytes d rest
join_text (then_reference bytes r c) d rest = ap (λ t. bytes ++ (38 ∷ (reference_body r ++ (59 ∷ t)))) (join_text c d rest)

pub join_meaning : (c d : Content) → content_meaning (join c d) ≡ content_meaning c ++ content_meaning d
join_meaning (run bytes) d = prepend_meaning bytes d
join_meaning (then_reference bytes r c) d =
    ap (λ t. bytes ++ (encode_utf8 (character r) ++ t)) (join_meaning c d) ∙
    sym (append_assoc bytes (encode_utf8 (character r) ++ content_meaning c) (content_meaning d) ∙ ap (λ t. bytes ++ t) (append_assoc (encode_utf8 (character r)) (content_meaning c) (content_meaning d)))

-- content before what stands in an element
abbrev pub with_content : Content → Inside → Inside
with_content c (only d) = only (join c d)
with_content c (then_aside d a more) = then_aside (join c d) a more
with_content c (then_empty d t more) = then_empty (join c d) t more
with_content c (then_child d t inside blanks more) = then_child (join c d) t inside blanks more

pub with_content_is : (room : ℕ) (c : Content) (i : Inside) → IsContent c → IsInside room i → IsInside room (with_content c i)
with_content_is room c (only d) is that = join_is c d is that
with_content_is room c (then_aside d a more) is that = (join_is c d is that.0, that.1, that.2)
with_content_is zero c (then_empty d t more) is that = absurd that
with_content_is (suc room) c (then_empty d t more) is that = (join_is c d is that.0, that.1, that.2)
with_content_is zero c (then_child d t inside blanks more) is that = absurd that
with_content_is (suc room) c (then_child d t inside blanks more) is that = (join_is c d is that.0, that.1, that.2, that.3, that.4)

pub with_content_text : (c : Content) (i : Inside) (rest : List ℕ) → inside_then (with_content c i) rest ≡ content_then c (inside_then i rest)
with_content_text c (only d) rest = join_text c d rest
with_content_text c (then_aside d a more) rest = join_text c d (aside_then a (inside_then more rest))
with_content_text c (then_empty d t more) rest = join_text c d (tag_then t (codes "/>" ++ inside_then more rest))
with_content_text c (then_child d t inside blanks more) rest = join_text c d (tag_then t (codes ">" ++ inside_then inside (end_tag_then t.name blanks (inside_then more rest))))

both_meanings : (c d : Content) (text : List ℕ) → content_meaning (join c d) ++ text ≡ content_meaning c ++ (content_meaning d ++ text)
both_meanings c d text = ap (λ t. t ++ text) (join_meaning c d) ∙ append_assoc (content_meaning c) (content_meaning d) text

pub with_content_own : (c : Content) (i : Inside) → own_text (with_content c i) ≡ content_meaning c ++ own_text i
with_content_own c (only d) = join_meaning c d
with_content_own c (then_aside d a more) = both_meanings c d (own_text more)
with_content_own c (then_empty d t more) = both_meanings c d (own_text more)
with_content_own c (then_child d t inside blanks more) = both_meanings c d (own_text more)

join_length : (at : ℕ) (c d : Content) (rest : List ℕ) → at + length (content_then (join c d) rest) ≡ (at + length (content_text c)) + length (content_then d rest)
join_length at c d rest = omega (arith, ap length (join_text c d rest), content_length c (content_then d rest))

abbrev empty_children : Tag → Inside → ℕ → List Tree
empty_children t more here = node t.name (tag_attributes t) (trees_of []) [] here ∷ children_from (here + length (tag_then t (codes "/>"))) more

abbrev child_children : Tag → Inside → List ℕ → Inside → ℕ → List Tree
child_children t inside blanks more here =
    let within = here + length (tag_then t (codes ">")) in
    node t.name (tag_attributes t) (trees_of (children_from within inside)) (own_text inside) here ∷ children_from (within + length (inside_then inside (end_tag_then t.name blanks []))) more

pub with_content_children : (at : ℕ) (c : Content) (i : Inside) → children_from at (with_content c i) ≡ children_from (at + length (content_text c)) i
with_content_children at c (only d) = refl
with_content_children at c (then_aside d a more) = ap (λ n. children_from n more) (join_length at c d (aside_then a []))
with_content_children at c (then_empty d t more) = ap (empty_children t more) (join_length at c d [])
with_content_children at c (then_child d t inside blanks more) = ap (child_children t inside blanks more) (join_length at c d [])
