-- What is written is cut off as one item, and is of its form: comments, instructions, document types and data.
use Rattle.std.proofs.Common.{◌≡◌, ℕ, suc, ◌+◌, Bool, true, false, cond, not, ◌&&◌, List, [], ◌∷◌, ◌++◌, length, drop, Option, Some, None, refl, sym, ap, ◌∙◌, append_assoc, arith}
use Rattle.std.specs.Prelude.{◌==◌, codes, option_map, is_none}
use Rattle.std.specs.List.{list_all}
use Rattle.std.specs.Str.{is_utf8}
use Rattle.std.proofs.lemmas.Bool.{and_parts, and_right}
use Rattle.std.proofs.lemmas.Bool.Decides.{nat_tests}
use Rattle.std.proofs.lemmas.List.{take_at, drop_at, length-append}
use Rattle.markup_rules.specs.Bytes.{is_doctype_byte, is_doctype, starts_blank}
use Rattle.markup_rules.specs.Syntax.{Content, content_text, content_meaning, IsContent, IsWithout, aside_then, IsAside}
use Rattle.markup_rules.specs.Syntax as written
use Rattle.markup_rules.specs.Reading.{Item, comment, instruction, declaration, data_between, data_to_end, body_by, markup_at, data_by, item_at, aside, doctype, content, content_of, data_markup, markup_of, comment_markup, instruction_markup, declaration_markup}
use Rattle.markup_rules.proofs.CompleteNames.{index_again}
use Rattle.markup_rules.proofs.CompleteTags.{content_again}
use Rattle.basics.specs.Bytes.{is_blank, begins, first_index, index_of}
use Rattle.basics.proofs.Runs.{all_in}

abbrev Cut : Type 0
Cut = Item × List ℕ

abbrev cut : Item → List ℕ → Cut
cut item rest = (item, rest)

-- ---- marks

-- the mark stands not here, and not in what follows
without_parts : (mark : List ℕ) (b : ℕ) (bytes : List ℕ) (here : Bool) (later : Option ℕ) → is_none (cond here (Some 0) (option_map (λ (n : ℕ). n + 1) later)) ≡ true → (here ≡ false) × (is_none later ≡ true)
without_parts mark b bytes true later e = absurd cc
without_parts mark b bytes false (Some n) e = absurd cc
without_parts mark b bytes false None e = (refl, refl)

longer_mark : (x y z : Bool) → (x && (y && true)) ≡ false → (x && (y && z)) ≡ false
longer_mark true true z e = absurd cc
longer_mark true false z e = refl
longer_mark false y z e = refl

next_index : (test : List ℕ → Bool) (b : ℕ) (bytes : List ℕ) (n : ℕ) → test (b ∷ bytes) ≡ false → first_index test bytes ≡ Some n → first_index test (b ∷ bytes) ≡ Some (suc n)
next_index test b bytes n none later = rw (none, later) (let e : n + 1 ≡ suc n = omega arith in ap (λ (k : ℕ). Some k) e)

-- the first --> after a body without --
comment_index : (body rest : List ℕ) → IsWithout (codes "--") body → first_index (begins (codes "-->")) (body ++ (codes "-->" ++ rest)) ≡ Some (length body)
comment_index [] rest without = refl
comment_index (b ∷ []) rest without = next_index (begins (codes "-->")) b (codes "-->" ++ rest) 0 (and_right (45 == b) false refl) refl
comment_index (b ∷ c ∷ body) rest without =
    let parts = without_parts (codes "--") b (c ∷ body) ((45 == b) && ((45 == c) && true)) (first_index (begins (codes "--")) (c ∷ body)) without in
    next_index (begins (codes "-->")) b (c ∷ (body ++ (codes "-->" ++ rest))) (suc (length body)) (longer_mark (45 == b) (45 == c) (begins (codes ">") (body ++ (codes "-->" ++ rest))) parts.0) (comment_index (c ∷ body) rest parts.1)

-- the first ?> after a body without it
instruction_index : (body rest : List ℕ) → IsWithout (codes "?>") body → first_index (begins (codes "?>")) (body ++ (codes "?>" ++ rest)) ≡ Some (length body)
instruction_index [] rest without = refl
instruction_index (b ∷ []) rest without = next_index (begins (codes "?>")) b (codes "?>" ++ rest) 0 (and_right (63 == b) false refl) refl
instruction_index (b ∷ c ∷ body) rest without =
    let parts = without_parts (codes "?>") b (c ∷ body) ((63 == b) && ((62 == c) && true)) (first_index (begins (codes "?>")) (c ∷ body)) without in
    next_index (begins (codes "?>")) b (c ∷ (body ++ (codes "?>" ++ rest))) (suc (length body)) parts.0 (instruction_index (c ∷ body) rest parts.1)

after_mark : (body mark rest : List ℕ) → drop (length body + length mark) (body ++ (mark ++ rest)) ≡ rest
after_mark body mark rest = ap (drop (length body + length mark)) (sym (append_assoc body mark rest)) ∙ drop_at (body ++ mark) rest (length body + length mark) (length-append body mark)

body_cut : (item : List ℕ → Item) (size : ℕ) (body mark rest : List ℕ) → length mark ≡ size → (found : Option ℕ) → found ≡ Some (length body) → body_by item size (body ++ (mark ++ rest)) found ≡ cut (item body) rest
body_cut item size body mark rest e found here =
    let after : drop (length body + size) (body ++ (mark ++ rest)) ≡ rest = ap (λ (n : ℕ). drop (length body + n) (body ++ (mark ++ rest))) (sym e) ∙ after_mark body mark rest in
    ap (body_by item size (body ++ (mark ++ rest))) here ∙ (ap (λ bs. cut (item bs) (drop (length body + size) (body ++ (mark ++ rest)))) (take_at body (mark ++ rest) (length body) refl) ∙ ap (cut (item body)) after)

-- ---- comments and instructions

-- the item of a comment or an instruction
abbrev aside_item : written.Aside → Item
aside_item (written.comment body) = comment body
aside_item (written.instruction body) = instruction body

pub aside_cut : (a : written.Aside) (rest : List ℕ) → IsAside a → item_at (aside_then a rest) ≡ cut (aside_item a) rest
unfolding item_at markup_at
aside_cut (written.comment body) rest is = body_cut comment 3 body (codes "-->") rest refl (first_index (begins (codes "-->")) (body ++ (codes "-->" ++ rest))) (comment_index body rest is.without)
aside_cut (written.instruction body) rest is = body_cut instruction 2 body (codes "?>") rest refl (first_index (begins (codes "?>")) (body ++ (codes "?>" ++ rest))) (instruction_index body rest is.without)

pub aside_again : (a : written.Aside) → IsAside a → markup_of (aside_item a) ≡ aside
unfolding markup_of comment_markup instruction_markup
aside_again (written.comment body) is = rw (is.without, is.text) refl
aside_again (written.instruction body) is = rw is.text refl

-- ---- document types

doctype_apart : (b : ℕ) → is_doctype_byte b ≡ true → not (b == 62) ≡ true
doctype_apart b byte = grind (arith, nat_tests)

pub doctype_cut : (text rest : List ℕ) → is_doctype text ≡ true → item_at (codes "<!DOCTYPE" ++ (text ++ (codes ">" ++ rest))) ≡ cut (declaration (codes "DOCTYPE" ++ text)) rest
unfolding item_at markup_at
doctype_cut text rest is =
    let bytes = (and_parts (list_all is_doctype_byte text) (is_utf8 text) (and_parts (starts_blank text) (list_all is_doctype_byte text && is_utf8 text) is).1).0 in
    let apart = all_in is_doctype_byte (λ b. not (b == 62)) doctype_apart text bytes in
    body_cut declaration 1 (codes "DOCTYPE" ++ text) (codes ">") rest refl (index_of 62 ((codes "DOCTYPE" ++ text) ++ 62 ∷ rest)) (index_again 62 (codes "DOCTYPE" ++ text) rest apart)

pub doctype_again : (text : List ℕ) → is_doctype text ≡ true → markup_of (declaration (codes "DOCTYPE" ++ text)) ≡ doctype
unfolding markup_of declaration_markup
doctype_again text is = rw is refl

-- ---- data

not_true : (b : Bool) → not b ≡ true → b ≡ false
not_true true e = absurd cc
not_true false e = refl

pub data_cut : (b : ℕ) (bytes rest : List ℕ) → list_all (λ b. not (b == 60)) (b ∷ bytes) ≡ true → item_at (b ∷ (bytes ++ 60 ∷ rest)) ≡ cut (data_between (b ∷ bytes)) (60 ∷ rest)
unfolding item_at
data_cut b bytes rest apart =
    let parts = and_parts (not (b == 60)) (list_all (λ b. not (b == 60)) bytes) apart in
    let found = index_again 60 (b ∷ bytes) rest apart in
    first_no_less b (bytes ++ 60 ∷ rest) (not_true (b == 60) parts.0) ∙ (ap (data_by ((b ∷ bytes) ++ 60 ∷ rest)) found ∙
    (ap (λ bs. cut (data_between bs) (drop (suc (length bytes)) ((b ∷ bytes) ++ 60 ∷ rest))) (take_at (b ∷ bytes) (60 ∷ rest) (suc (length bytes)) refl) ∙
    ap (cut (data_between (b ∷ bytes))) (drop_at (b ∷ bytes) (60 ∷ rest) (suc (length bytes)) refl)))
  where
    first_no_less : (b : ℕ) (bytes : List ℕ) → (b == 60) ≡ false → cond (b == 60) (markup_at bytes) (data_by (b ∷ bytes) (index_of 60 (b ∷ bytes))) ≡ data_by (b ∷ bytes) (index_of 60 (b ∷ bytes))
    first_no_less b bytes e = ap (λ is. cond is (markup_at bytes) (data_by (b ∷ bytes) (index_of 60 (b ∷ bytes)))) e

no_index : (bytes : List ℕ) → list_all (λ b. not (b == 60)) bytes ≡ true → index_of 60 bytes ≡ None
no_index [] apart = refl
no_index (b ∷ bytes) apart =
    let parts = and_parts (not (b == 60)) (list_all (λ b. not (b == 60)) bytes) apart in
    rw (not_true (b == 60) parts.0, no_index bytes parts.1) refl

pub last_cut : (b : ℕ) (bytes : List ℕ) → list_all (λ b. not (b == 60)) (b ∷ bytes) ≡ true → item_at (b ∷ bytes) ≡ cut (data_to_end (b ∷ bytes)) []
unfolding item_at
last_cut b bytes apart =
    let parts = and_parts (not (b == 60)) (list_all (λ b. not (b == 60)) bytes) apart in
    ap (λ is. cond is (markup_at bytes) (data_by (b ∷ bytes) (index_of 60 (b ∷ bytes)))) (not_true (b == 60) parts.0) ∙ ap (data_by (b ∷ bytes)) (no_index (b ∷ bytes) apart)

pub content_markup : (c : Content) → IsContent c → markup_of (data_between (content_text c)) ≡ content (list_all is_blank (content_text c)) (content_meaning c)
unfolding markup_of data_markup
content_markup c is = rw (content_again c is) refl

-- data of which the content is known, on both sides
pub data_end_markup : (bytes text : List ℕ) → content_of bytes ≡ Some text → (markup_of (data_between bytes) ≡ content (list_all is_blank bytes) text) × (markup_of (data_to_end bytes) ≡ content (list_all is_blank bytes) text)
unfolding markup_of data_markup
data_end_markup bytes text e = (rw e refl, rw e refl)
