-- Source texts by what is written: XML 1.0 without CDATA sections, entities of its own and an internal
-- document type. Each form is a type, with its text, its meaning and its conditions. A text is given
-- with what follows it: `name_then x rest` is the text of x and then rest.
use Rattle.std.specs.Prelude.{◌≡◌, ℕ, zero, suc, ◌+◌, ◌≤◌, Bool, not, ◌⊎◌, List, [], ◌∷◌, ◌++◌, length, codes, ◌==◌, IsTrue, map, encode_utf8, is_none, if◌then◌else◌}
use Rattle.std.specs.List.{list_all, list_any}
use Rattle.std.specs.Str.{is_utf8, bytes_eq}
use Rattle.std.specs.Str.Parse.{digits_value}
use Rattle.std.specs.Char.{is_ascii_digit, is_ascii_hexdigit}
use Rattle.markup_rules.specs.Bytes.{is_literal, is_name_byte, is_text, is_doctype, is_allowed, starts_name, starts_blank}
use Rattle.markup_rules.specs.Tree.{Tree, node, trees_of}
use Rattle.basics.specs.Bytes.{is_blank, begins, first_index}

-- ---- names

-- a name is text, begins as a name does, and goes on so
pub record IsName (name : List ℕ) : Type 0 where
  pub begun : IsTrue (starts_name name)
  pub bytes : IsTrue (list_all is_name_byte name)
  pub utf8 : IsTrue (is_utf8 name)

abbrev pub AreBlanks : List ℕ → Type 0
AreBlanks bytes = IsTrue (list_all is_blank bytes)

-- ---- references

pub data Reference : Type 0 where
  ampersand : Reference
  less : Reference
  greater : Reference
  quotation : Reference
  apostrophe : Reference
  decimal : (digits : List ℕ) → Reference
  hexadecimal : (digits : List ℕ) → Reference

-- what stands between & and ;
abbrev pub reference_body : Reference → List ℕ
reference_body ampersand = codes "amp"
reference_body less = codes "lt"
reference_body greater = codes "gt"
reference_body quotation = codes "quot"
reference_body apostrophe = codes "apos"
reference_body (decimal digits) = codes "#" ++ digits
reference_body (hexadecimal digits) = codes "#x" ++ digits

-- the character that it stands for
abbrev pub character : Reference → ℕ
character ampersand = 38
character less = 60
character greater = 62
character quotation = 34
character apostrophe = 39
character (decimal digits) = digits_value 10 digits
character (hexadecimal digits) = digits_value 16 digits

-- one digit at least, and a character that may stand in a source text
pub record IsNumbered (radix : ℕ) (class : ℕ → Bool) (digits : List ℕ) : Type 0 where
  pub some : 1 ≤ length digits
  pub each : IsTrue (list_all class digits)
  pub allowed : IsTrue (is_allowed (digits_value radix digits))

abbrev pub IsReference : Reference → Type 0
IsReference ampersand = Unit {0}
IsReference less = Unit {0}
IsReference greater = Unit {0}
IsReference quotation = Unit {0}
IsReference apostrophe = Unit {0}
IsReference (decimal digits) = IsNumbered 10 is_ascii_digit digits
IsReference (hexadecimal digits) = IsNumbered 16 is_ascii_hexdigit digits

-- ---- characters and references, with a run of characters, perhaps empty, before and after each reference

pub data Content : Type 0 where
  run : (bytes : List ℕ) → Content
  then_reference : (bytes : List ℕ) (reference : Reference) (rest : Content) → Content

abbrev pub content_then : Content → List ℕ → List ℕ
content_then (run bytes) rest = bytes ++ rest
content_then (then_reference bytes r content) rest = bytes ++ (codes "&" ++ (reference_body r ++ (codes ";" ++ content_then content rest)))

abbrev pub content_text : Content → List ℕ
content_text content = content_then content []

abbrev pub content_meaning : Content → List ℕ
content_meaning (run bytes) = bytes
content_meaning (then_reference bytes r content) = bytes ++ (encode_utf8 (character r) ++ content_meaning content)

pub record IsRun (bytes : List ℕ) : Type 0 where
  pub each : IsTrue (list_all is_literal bytes)
  pub utf8 : IsTrue (is_utf8 bytes)

abbrev pub IsContent : Content → Type 0
IsContent (run bytes) = IsRun bytes
IsContent (then_reference bytes r content) = IsRun bytes × IsReference r × IsContent content

-- ---- attributes

pub record Attribute : Type 0 where
  pub before : List ℕ
  pub name : List ℕ
  pub before_equals : List ℕ
  pub after_equals : List ℕ
  pub quote : ℕ
  pub value : Content

abbrev pub attribute_then : Attribute → List ℕ → List ℕ
attribute_then a rest = a.before ++ (a.name ++ (a.before_equals ++ (codes "=" ++ (a.after_equals ++ (a.quote ∷ content_then a.value (a.quote ∷ rest))))))

abbrev pub attribute_meaning : Attribute → List ℕ × List ℕ
attribute_meaning a = (a.name, content_meaning a.value)

pub record IsAttribute (a : Attribute) : Type 0 where
  pub apart : IsTrue (starts_blank a.before)
  pub blank_before : AreBlanks a.before
  pub named : IsName a.name
  pub blank_before_equals : AreBlanks a.before_equals
  pub blank_after_equals : AreBlanks a.after_equals
  pub quoted : (a.quote ≡ 34) ⊎ (a.quote ≡ 39)
  pub proper : IsContent a.value
  pub unquoted : IsTrue (list_all (λ b. not (b == a.quote)) (content_text a.value))

abbrev pub attributes_then : List Attribute → List ℕ → List ℕ
attributes_then [] rest = rest
attributes_then (a ∷ attributes) rest = attribute_then a (attributes_then attributes rest)

abbrev pub AreAttributes : List Attribute → Type 0
AreAttributes [] = Unit {0}
AreAttributes (a ∷ attributes) = IsAttribute a × AreAttributes attributes

-- of attributes with one name the first counts: those whose names aren't among the ones seen before
abbrev pub firsts : List (List ℕ) → List (List ℕ × List ℕ) → List (List ℕ × List ℕ)
firsts seen [] = []
firsts seen (a ∷ attributes) = if list_any (bytes_eq a.0) seen then firsts seen attributes else a ∷ firsts (seen ++ a.0 ∷ []) attributes

-- ---- tags, from < on, and up to what ends them

pub record Tag : Type 0 where
  pub name : List ℕ
  pub attributes : List Attribute
  pub blanks : List ℕ

abbrev pub tag_then : Tag → List ℕ → List ℕ
tag_then tag rest = codes "<" ++ (tag.name ++ attributes_then tag.attributes (tag.blanks ++ rest))

abbrev pub tag_attributes : Tag → List (List ℕ × List ℕ)
tag_attributes tag = firsts [] (map attribute_meaning tag.attributes)

pub record IsTag (tag : Tag) : Type 0 where
  pub named : IsName tag.name
  pub proper : AreAttributes tag.attributes
  pub blank : AreBlanks tag.blanks

abbrev pub end_tag_then : List ℕ → List ℕ → List ℕ → List ℕ
end_tag_then name blanks rest = codes "</" ++ (name ++ (blanks ++ (codes ">" ++ rest)))

-- ---- comments and instructions, which mean nothing

pub data Aside : Type 0 where
  comment : (body : List ℕ) → Aside
  instruction : (body : List ℕ) → Aside

abbrev pub aside_then : Aside → List ℕ → List ℕ
aside_then (comment body) rest = codes "<!--" ++ (body ++ (codes "-->" ++ rest))
aside_then (instruction body) rest = codes "<?" ++ (body ++ (codes "?>" ++ rest))

-- the text has the mark nowhere
abbrev pub IsWithout : List ℕ → List ℕ → Type 0
IsWithout mark bytes = IsTrue (is_none (first_index (begins mark) bytes))

pub record IsAsideOf (mark body : List ℕ) : Type 0 where
  pub text : IsTrue (is_text body)
  pub without : IsWithout mark body

abbrev pub IsAside : Aside → Type 0
IsAside (comment body) = IsAsideOf (codes "--") body
IsAside (instruction body) = IsAsideOf (codes "?>") body

-- ---- what stands in an element

pub data Inside : Type 0 where
  only : (content : Content) → Inside
  then_aside : (content : Content) (aside : Aside) (rest : Inside) → Inside
  then_empty : (content : Content) (tag : Tag) (rest : Inside) → Inside
  then_child : (content : Content) (tag : Tag) (inside : Inside) (blanks : List ℕ) (rest : Inside) → Inside

abbrev pub inside_then : Inside → List ℕ → List ℕ
inside_then (only c) rest = content_then c rest
inside_then (then_aside c aside more) rest = content_then c (aside_then aside (inside_then more rest))
inside_then (then_empty c tag more) rest = content_then c (tag_then tag (codes "/>" ++ inside_then more rest))
inside_then (then_child c tag inside blanks more) rest =
    content_then c (tag_then tag (codes ">" ++ inside_then inside (end_tag_then tag.name blanks (inside_then more rest))))

-- room: so many elements may stand one in another
abbrev pub IsInside : ℕ → Inside → Type 0
IsInside room (only c) = IsContent c
IsInside room (then_aside c aside more) = IsContent c × IsAside aside × IsInside room more
IsInside zero (then_empty c tag more) = ⊥
IsInside (suc room) (then_empty c tag more) = IsContent c × IsTag tag × IsInside (suc room) more
IsInside zero (then_child c tag inside blanks more) = ⊥
IsInside (suc room) (then_child c tag inside blanks more) = IsContent c × IsTag tag × IsInside room inside × AreBlanks blanks × IsInside (suc room) more

-- the element's own characters, in order
abbrev pub own_text : Inside → List ℕ
own_text (only c) = content_meaning c
own_text (then_aside c aside more) = content_meaning c ++ own_text more
own_text (then_empty c tag more) = content_meaning c ++ own_text more
own_text (then_child c tag inside blanks more) = content_meaning c ++ own_text more

-- the children, where the inside begins at an offset of the file
abbrev pub children_from : ℕ → Inside → List Tree
children_from at (only c) = []
children_from at (then_aside c aside more) = children_from (at + length (content_then c (aside_then aside []))) more
children_from at (then_empty c tag more) =
    let here = at + length (content_text c) in
    node tag.name (tag_attributes tag) (trees_of []) [] here ∷ children_from (here + length (tag_then tag (codes "/>"))) more
children_from at (then_child c tag inside blanks more) =
    let here = at + length (content_text c) in
    let within = here + length (tag_then tag (codes ">")) in
    node tag.name (tag_attributes tag) (trees_of (children_from within inside)) (own_text inside) here
    ∷ children_from (within + length (inside_then inside (end_tag_then tag.name blanks []))) more

-- ---- what stands round the root element

-- white space, comments and instructions
pub data Outside : Type 0 where
  white : (blanks : List ℕ) → Outside
  and_aside : (blanks : List ℕ) (aside : Aside) (rest : Outside) → Outside

abbrev pub outside_then : Outside → List ℕ → List ℕ
outside_then (white blanks) rest = blanks ++ rest
outside_then (and_aside blanks aside more) rest = blanks ++ aside_then aside (outside_then more rest)

abbrev pub IsOutside : Outside → Type 0
IsOutside (white blanks) = AreBlanks blanks
IsOutside (and_aside blanks aside more) = AreBlanks blanks × IsAside aside × IsOutside more

-- before the root, perhaps with one document type
pub data Prolog : Type 0 where
  undeclared : (outside : Outside) → Prolog
  declared : (before : Outside) (doctype : List ℕ) (after : Outside) → Prolog

abbrev pub prolog_then : Prolog → List ℕ → List ℕ
prolog_then (undeclared outside) rest = outside_then outside rest
prolog_then (declared before doctype after) rest = outside_then before (codes "<!DOCTYPE" ++ (doctype ++ (codes ">" ++ outside_then after rest)))

abbrev pub IsProlog : Prolog → Type 0
IsProlog (undeclared outside) = IsOutside outside
IsProlog (declared before doctype after) = IsOutside before × IsTrue (is_doctype doctype) × IsOutside after

-- the root element
pub data Root : Type 0 where
  empty_root : (tag : Tag) → Root
  full_root : (tag : Tag) (inside : Inside) (blanks : List ℕ) → Root

abbrev pub root_then : Root → List ℕ → List ℕ
root_then (empty_root tag) rest = tag_then tag (codes "/>" ++ rest)
root_then (full_root tag inside blanks) rest = tag_then tag (codes ">" ++ inside_then inside (end_tag_then tag.name blanks rest))

-- at most 64 elements stand one in another, and one of them is the root
abbrev pub IsRoot : Root → Type 0
IsRoot (empty_root tag) = IsTag tag
IsRoot (full_root tag inside blanks) = IsTag tag × IsInside 63 inside × AreBlanks blanks

-- the root's tree, where it begins at an offset of the file
abbrev pub root_tree : ℕ → Root → Tree
root_tree at (empty_root tag) = node tag.name (tag_attributes tag) (trees_of []) [] at
root_tree at (full_root tag inside blanks) =
    node tag.name (tag_attributes tag) (trees_of (children_from (at + length (tag_then tag (codes ">"))) inside)) (own_text inside) at

-- ---- whole texts

-- the byte order mark of UTF-8, with which a text may begin
abbrev pub order_mark : List ℕ
order_mark = 0xEF ∷ 0xBB ∷ 0xBF ∷ []

-- the text has this tree
pub record IsTree (text : List ℕ) (tree : Tree) : Type 0 where
  pub mark : List ℕ
  pub prolog : Prolog
  pub root : Root
  pub after : Outside
  pub marked : (mark ≡ []) ⊎ (mark ≡ order_mark)
  pub proper_prolog : IsProlog prolog
  pub proper_root : IsRoot root
  pub proper_after : IsOutside after
  pub spelled : text ≡ mark ++ prolog_then prolog (root_then root (outside_then after []))
  pub means : tree ≡ root_tree (length (mark ++ prolog_then prolog [])) root
