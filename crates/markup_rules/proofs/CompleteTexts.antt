-- What is written is read: whole texts.
use Rattle.std.proofs.Common.{◌≡◌, ℕ, ◌+◌, ◌-◌, ◌<◌, Bool, true, false, not, ◌&&◌, List, [], ◌∷◌, ◌++◌, length, get_or, Option, Some, None, Ok, refl, sym, ap, subst, ◌∙◌, append-nil, arith, ◌⊎◌, inl, inr}
use Rattle.std.specs.Prelude.{◌==◌, codes, IsAscii}
use Rattle.std.specs.List.{list_all}
use Rattle.std.proofs.lemmas.Bool.{and_parts, and_left, cases_lt}
use Rattle.std.proofs.lemmas.Bool.Decides.{nat_tests}
use Rattle.std.proofs.lemmas.List.{get_or_past, length-append}
use Rattle.std.proofs.lemmas.List.Sums.{AllPass-from_list_all}
use Rattle.std.proofs.lemmas.Str.{IsUtf8-from_ascii, is_utf8-from_IsUtf8}
use Rattle.markup_rules.specs.Bytes.{is_literal, is_doctype, starts_name}
use Rattle.markup_rules.specs.Tree.{Tree, node, trees_of}
use Rattle.markup_rules.specs.Syntax.{run, IsRun, tag_then, tag_attributes, end_tag_then, aside_then, inside_then, Outside, white, and_aside, outside_then, IsOutside, Prolog, undeclared, declared, prolog_then, IsProlog, Root, empty_root, full_root, root_then, IsRoot, root_tree, order_mark, IsTree}
use Rattle.markup_rules.specs.Syntax as written
use Rattle.markup_rules.specs.Reading.{declaration, data_between, data_to_end, opens, doctype, content, content_of, markup_of}
use Rattle.markup_rules.specs.Faults.{after_mark}
use Rattle.markup_rules.specs.Outcome.{initial, begun, outcome}
use Rattle.markup_rules.proofs.Steps.{rest_from, rest_begins, rest_done}
use Rattle.markup_rules.proofs.CompleteTags.{content_again, opening_of}
use Rattle.markup_rules.proofs.CompleteAsides.{doctype_cut, doctype_again, data_cut, last_cut, data_end_markup}
use Rattle.markup_rules.proofs.Lengths.{tag_length, prolog_length}
use Rattle.markup_rules.proofs.CompleteTrees.{state, take_item, aside_step, aside_tail, aside_prefix, start_step, empty_step, finish_step, grown, inside_reads}
use Rattle.basics.specs.Bytes.{is_blank, begins}
use Rattle.basics.proofs.Runs.{all_in}

-- ---- blanks

blank_literal : (b : ℕ) → is_blank b ≡ true → is_literal b ≡ true
blank_literal b blank = grind (arith, nat_tests)

blank_ascii : (b : ℕ) → is_blank b ≡ true → b < 128
blank_ascii b blank = grind (arith, nat_tests)

blank_no_less : (b : ℕ) → is_blank b ≡ true → not (b == 60) ≡ true
blank_no_less b blank = grind (arith, nat_tests)

blanks_ascii : (bytes : List ℕ) → list_all is_blank bytes ≡ true → IsAscii bytes
blanks_ascii bytes blank i =
    let all = AllPass-from_list_all is_blank bytes blank in
    elim (cases_lt i (length bytes)) [
      | inl lt ↦ blank_ascii (get_or bytes i 0) (all i 0 lt)
      | inr le ↦ subst (λ (b : ℕ). b < 128) (sym (get_or_past bytes i 0 le)) (omega arith)
    ]

blanks_run : (bytes : List ℕ) → list_all is_blank bytes ≡ true → IsRun bytes
blanks_run bytes blank = record {
  each = all_in is_blank is_literal blank_literal bytes blank;
  utf8 = is_utf8-from_IsUtf8 bytes (IsUtf8-from_ascii bytes (blanks_ascii bytes blank));
}

blanks_content : (bytes : List ℕ) → list_all is_blank bytes ≡ true → content_of bytes ≡ Some bytes
blanks_content bytes blank = ap content_of (sym (append-nil bytes)) ∙ content_again (run bytes) (blanks_run bytes blank)

-- ---- round the root

not_true : (b : Bool) → not b ≡ true → b ≡ false
not_true true e = absurd cc
not_true false e = refl

no_less_first : (b : ℕ) (bytes rest : List ℕ) (names : Bool) → list_all is_blank (b ∷ bytes) ≡ true → (opens (b ∷ rest) && names) ≡ false
no_less_first b bytes rest names blank =
    and_left (opens (b ∷ rest)) names (and_left (b == 60) (starts_name rest) (not_true (b == 60) (blank_no_less b (and_parts (is_blank b) (list_all is_blank bytes) blank).0)))

blanks_step : (total : ℕ) (root : Option Tree) (is_declared : Bool) (blanks rest : List ℕ) → list_all is_blank blanks ≡ true → rest_from total (state [] root is_declared) (blanks ++ 60 ∷ rest) ≡ rest_from total (state [] root is_declared) (60 ∷ rest)
blanks_step total root is_declared [] rest blank = refl
blanks_step total root is_declared (b ∷ blanks) rest blank =
    take_item total (state [] root is_declared) b (blanks ++ 60 ∷ rest) (60 ∷ rest) (data_between (b ∷ blanks)) (content true (b ∷ blanks)) (data_cut b blanks rest (all_in is_blank (λ b. not (b == 60)) blank_no_less (b ∷ blanks) blank))
    (record { is = data_markup_again (b ∷ blanks) blank; shallow = no_less_first b blanks (blanks ++ 60 ∷ rest) false blank; has_end = refl; allowed = refl })
  where
    data_markup_again : (bytes : List ℕ) → list_all is_blank bytes ≡ true → markup_of (data_between bytes) ≡ content true bytes
    data_markup_again bytes blank = (data_end_markup bytes bytes (blanks_content bytes blank)).0 ∙ ap (λ b. content b bytes) blank

last_step : (total : ℕ) (root : Option Tree) (is_declared : Bool) (blanks : List ℕ) → list_all is_blank blanks ≡ true → rest_from total (state [] root is_declared) (blanks ++ []) ≡ rest_from total (state [] root is_declared) []
last_step total root is_declared [] blank = refl
last_step total root is_declared (b ∷ blanks) blank =
    ap (rest_from total (state [] root is_declared)) (append-nil (b ∷ blanks)) ∙
    take_item total (state [] root is_declared) b blanks [] (data_to_end (b ∷ blanks)) (content true (b ∷ blanks)) (last_cut b blanks (all_in is_blank (λ b. not (b == 60)) blank_no_less (b ∷ blanks) blank))
    (record { is = (data_end_markup (b ∷ blanks) (b ∷ blanks) (blanks_content (b ∷ blanks) blank)).1 ∙ ap (λ is. content is (b ∷ blanks)) blank; shallow = no_less_first b blanks blanks false blank; has_end = refl; allowed = refl })

-- before something that begins with <
outside_step : (total : ℕ) (root : Option Tree) (is_declared : Bool) (o : Outside) (rest : List ℕ) → IsOutside o → rest_from total (state [] root is_declared) (outside_then o (60 ∷ rest)) ≡ rest_from total (state [] root is_declared) (60 ∷ rest)
outside_step total root is_declared (white blanks) rest is = blanks_step total root is_declared blanks rest is
outside_step total root is_declared (and_aside blanks a more) rest is =
    let left = outside_then more (60 ∷ rest) in
    ap (λ bs. rest_from total (state [] root is_declared) (blanks ++ bs)) (aside_prefix a left) ∙ (blanks_step total root is_declared blanks (aside_tail a left) is.0 ∙
    (ap (rest_from total (state [] root is_declared)) (sym (aside_prefix a left)) ∙ (aside_step total (state [] root is_declared) a left is.1 ∙ outside_step total root is_declared more rest is.2)))

-- at the end
after_step : (total : ℕ) (root : Option Tree) (is_declared : Bool) (o : Outside) → IsOutside o → rest_from total (state [] root is_declared) (outside_then o []) ≡ rest_from total (state [] root is_declared) []
after_step total root is_declared (white blanks) is = last_step total root is_declared blanks is
after_step total root is_declared (and_aside blanks a more) is =
    let left = outside_then more [] in
    ap (λ bs. rest_from total (state [] root is_declared) (blanks ++ bs)) (aside_prefix a left) ∙ (blanks_step total root is_declared blanks (aside_tail a left) is.0 ∙
    (ap (rest_from total (state [] root is_declared)) (sym (aside_prefix a left)) ∙ (aside_step total (state [] root is_declared) a left is.1 ∙ after_step total root is_declared more is.2)))

-- whether a document type stands before
abbrev has_doctype : Prolog → Bool
has_doctype (undeclared o) = false
has_doctype (declared b d o) = true

doctype_step : (total : ℕ) (text rest : List ℕ) → is_doctype text ≡ true → rest_from total (state [] None false) (codes "<!DOCTYPE" ++ (text ++ (codes ">" ++ rest))) ≡ rest_from total (state [] None true) rest
doctype_step total text rest is =
    take_item total (state [] None false) 60 (codes "!DOCTYPE" ++ (text ++ (codes ">" ++ rest))) rest (declaration (codes "DOCTYPE" ++ text)) doctype (doctype_cut text rest is)
    (record { is = doctype_again text is; shallow = refl; has_end = refl; allowed = refl })

prolog_step : (total : ℕ) (p : Prolog) (rest : List ℕ) → IsProlog p → rest_from total (state [] None false) (prolog_then p (60 ∷ rest)) ≡ rest_from total (state [] None (has_doctype p)) (60 ∷ rest)
prolog_step total (undeclared o) rest is = outside_step total None false o rest is
prolog_step total (declared b d o) rest is =
    outside_step total None false b (codes "!DOCTYPE" ++ (d ++ (codes ">" ++ outside_then o (60 ∷ rest)))) is.0 ∙
    (doctype_step total d (outside_then o (60 ∷ rest)) is.1 ∙ outside_step total None true o rest is.2)

-- ---- the root

root_step : (total : ℕ) (is_declared : Bool) (r : Root) (rest : List ℕ) → IsRoot r → (at : ℕ) → at + length (root_then r rest) ≡ total → rest_from total (state [] None is_declared) (root_then r rest) ≡ rest_from total (state [] (Some (root_tree at r)) is_declared) rest
root_step total is_declared (empty_root t) rest is at e =
    let found : total - length (tag_then t (codes "/>" ++ rest)) ≡ at = omega arith in
    empty_step total [] is_declared t rest is (omega arith) ∙ ap (λ n. rest_from total (state [] (Some (node t.name (tag_attributes t) (trees_of []) [] n)) is_declared) rest) found
root_step total is_declared (full_root t inside blanks) rest is at e =
    let after = end_tag_then t.name blanks rest in
    let within_text = inside_then inside after in
    let within = at + length (tag_then t (codes ">")) in
    let found : total - length (tag_then t (codes ">" ++ within_text)) ≡ at = omega arith in
    let sum : within + length within_text ≡ total = omega (arith, e, tag_length t (codes ">" ++ within_text), tag_length t (codes ">")) in
    start_step total [] is_declared t within_text is.0 (omega arith) ∙ (ap (λ n. rest_from total (state (begun n (opening_of t) ∷ []) None is_declared) within_text) found ∙
    (inside_reads 63 inside is.1 total within (begun at (opening_of t)) [] is_declared (47 ∷ (t.name ++ (blanks ++ (62 ∷ rest)))) (omega arith) sum ∙
    finish_step total (grown (begun at (opening_of t)) within inside) [] is_declared blanks rest is.0.named is.2))

-- ---- the byte order mark

-- no right text begins with the first byte of the mark
abbrev no_mark : List ℕ → Type 0
no_mark bytes = begins order_mark bytes ≡ false

blanks_no_mark : (blanks rest : List ℕ) → list_all is_blank blanks ≡ true → no_mark rest → no_mark (blanks ++ rest)
blanks_no_mark [] rest blank clear = clear
blanks_no_mark (b ∷ blanks) rest blank clear = and_left (0xEF == b) (begins (0xBB ∷ 0xBF ∷ []) (blanks ++ rest)) (blank_no_mark b (and_parts (is_blank b) (list_all is_blank blanks) blank).0)
  where
    blank_no_mark : (b : ℕ) → is_blank b ≡ true → (0xEF == b) ≡ false
    blank_no_mark b blank = grind (arith, nat_tests)

outside_no_mark : (o : Outside) (rest : List ℕ) → IsOutside o → no_mark rest → no_mark (outside_then o rest)
outside_no_mark (white blanks) rest is clear = blanks_no_mark blanks rest is clear
outside_no_mark (and_aside blanks a more) rest is clear =
    blanks_no_mark blanks (aside_then a (outside_then more rest)) is.0 (subst no_mark (sym (aside_prefix a (outside_then more rest))) refl)

prolog_no_mark : (p : Prolog) (rest : List ℕ) → IsProlog p → no_mark (prolog_then p (60 ∷ rest))
prolog_no_mark (undeclared o) rest is = outside_no_mark o (60 ∷ rest) is refl
prolog_no_mark (declared b d o) rest is = outside_no_mark b (codes "<!DOCTYPE" ++ (d ++ (codes ">" ++ outside_then o (60 ∷ rest)))) is.0 refl

mark_again : (mark rest : List ℕ) → (mark ≡ []) ⊎ (mark ≡ order_mark) → no_mark rest → after_mark (mark ++ rest) ≡ rest
mark_again mark rest (inl e) clear = ap (λ m. after_mark (m ++ rest)) e ∙ rw clear refl
mark_again mark rest (inr e) clear = ap (λ m. after_mark (m ++ rest)) e

-- ---- whole texts

-- a root begins with <
abbrev root_tail : Root → List ℕ → List ℕ
root_tail (empty_root t) rest = t.name ++ written.attributes_then t.attributes (t.blanks ++ (codes "/>" ++ rest))
root_tail (full_root t inside blanks) rest = t.name ++ written.attributes_then t.attributes (t.blanks ++ (codes ">" ++ inside_then inside (end_tag_then t.name blanks rest)))

root_prefix : (r : Root) (rest : List ℕ) → root_then r rest ≡ 60 ∷ root_tail r rest
root_prefix (empty_root t) rest = refl
root_prefix (full_root t inside blanks) rest = refl

abbrev whole : Prolog → Root → Outside → List ℕ
whole p r o = prolog_then p (root_then r (outside_then o []))

whole_reads : (total : ℕ) (p : Prolog) (r : Root) (o : Outside) → IsProlog p → IsRoot r → IsOutside o → (at : ℕ) → at + length (root_then r (outside_then o [])) ≡ total → rest_from total initial (whole p r o) ≡ Ok (root_tree at r)
whole_reads total p r o is_prolog is_root is_outside at e =
    let left = outside_then o [] in
    ap (λ bs. rest_from total initial (prolog_then p bs)) (root_prefix r left) ∙ (prolog_step total p (root_tail r left) is_prolog ∙
    (ap (rest_from total (state [] None (has_doctype p))) (sym (root_prefix r left)) ∙ (root_step total (has_doctype p) r left is_root at e ∙
    (after_step total (Some (root_tree at r)) (has_doctype p) o is_outside ∙ rest_done total (state [] (Some (root_tree at r)) (has_doctype p)) [] refl))))

written_again : (mark : List ℕ) (p : Prolog) (r : Root) (o : Outside) → (mark ≡ []) ⊎ (mark ≡ order_mark) → IsProlog p → IsRoot r → IsOutside o → outcome (mark ++ whole p r o) ≡ Ok (root_tree (length (mark ++ prolog_then p [])) r)
written_again mark p r o marked is_prolog is_root is_outside =
    let text = mark ++ whole p r o in
    let left = outside_then o [] in
    let clear = subst (λ bs. no_mark (prolog_then p bs)) (sym (root_prefix r left)) (prolog_no_mark p (root_tail r left) is_prolog) in
    let at = length (mark ++ prolog_then p []) in
    let sum : at + length (root_then r left) ≡ length text = omega (arith, length-append mark (whole p r o), length-append mark (prolog_then p []), prolog_length p (root_then r left)) in
    sym (rest_begins text) ∙ (ap (rest_from (length text) initial) (mark_again mark (whole p r o) marked clear) ∙ whole_reads (length text) p r o is_prolog is_root is_outside at sum)

pub tree_again : (text : List ℕ) (tree : Tree) → IsTree text tree → outcome text ≡ Ok tree
tree_again text tree is =
    ap outcome is.spelled ∙ (written_again is.mark is.prolog is.root is.after is.marked is.proper_prolog is.proper_root is.proper_after ∙ ap (λ t. Ok t) (sym is.means))
