-- What is written is read: the reading of a text that has a tree comes to that tree.
use Rattle.std.proofs.Common.{◌≡◌, ℕ, zero, suc, ◌+◌, ◌-◌, ◌<◌, Bool, true, false, not, ◌&&◌, List, [], ◌∷◌, ◌++◌, length, map, Option, Some, None, refl, sym, ap, subst, ◌∙◌, append_assoc, append-nil, arith}
use Rattle.std.specs.Prelude.{◌==◌, nat_le, codes}
use Rattle.std.specs.List.{list_all}
use Rattle.std.proofs.lemmas.Bool.{and_parts, and_right, and_left, lt-leb}
use Rattle.std.proofs.lemmas.List.{length-map}
use Rattle.std.proofs.lemmas.Slice.Eq.{bytes_eq-Decides}
use Rattle.basics.specs.Reading as outside
use Rattle.markup_rules.specs.Bytes.{starts_name}
use Rattle.markup_rules.specs.Tree.{Tree, node, trees_of}
use Rattle.markup_rules.specs.Syntax.{IsName, Content, content_then, content_text, content_meaning, IsContent, Tag, tag_then, tag_attributes, IsTag, end_tag_then, aside_then, IsAside, Inside, only, then_aside, then_empty, then_child, inside_then, IsInside, own_text, children_from}
use Rattle.markup_rules.specs.Syntax as written
use Rattle.markup_rules.specs.Reading.{Item, comment, instruction, tag, data_between, item_at, opens, Markup, start, empty, finish, aside, content, content_of, markup_of}
use Rattle.markup_rules.specs.Faults.{item_fault, lacks_end, is_allowed_at}
use Rattle.markup_rules.specs.Outcome.{Frame, State, context_of, begun, ended, adopted, changed, step_by}
use Rattle.markup_rules.proofs.Fuel.{entry_at}
use Rattle.markup_rules.proofs.Steps.{rest_from, rest_next}
use Rattle.markup_rules.proofs.Contents.{content_end}
use Rattle.markup_rules.proofs.CompleteTags.{content_append, content_again, tag_body, opening_of, start_markup, empty_markup, finish_markup}
use Rattle.markup_rules.proofs.CompleteItems.{content_no_less, tag_item, end_tag_item}
use Rattle.markup_rules.proofs.CompleteAsides.{aside_cut, aside_again, data_cut, content_markup}
use Rattle.markup_rules.proofs.Lengths.{content_length, aside_length, tag_length, end_tag_length, inside_length}
use Rattle.basics.specs.Bytes.{is_blank}

abbrev pub Cut : Type 0
Cut = Item × List ℕ

abbrev pub cut : Item → List ℕ → Cut
cut item rest = (item, rest)

abbrev pub state : List Frame → Option Tree → Bool → State
state frames root declared = record { frames = frames; root = root; declared = declared }

-- ---- one item

-- the item at the start has no fault
pub record IsRight (s : State) (bytes : List ℕ) (item : Item) (m : Markup) : Type 0 where
  pub is : markup_of item ≡ m
  pub shallow : (opens bytes && nat_le 64 (length (context_of s).names)) ≡ false
  pub has_end : lacks_end (context_of s) item ≡ false
  pub allowed : is_allowed_at (context_of s) m ≡ true

no_fault : (total : ℕ) (s : State) (b : ℕ) (bytes rest : List ℕ) (item : Item) (m : Markup) → item_at (b ∷ bytes) ≡ cut item rest → IsRight s (b ∷ bytes) item m → item_fault total (context_of s) (entry_at (b ∷ bytes)) ≡ None
no_fault total s b bytes rest item m e right =
    let context = context_of s in
    let has_end : lacks_end context (item_at (b ∷ bytes)).0 ≡ false = ap (λ (c : Cut). lacks_end context c.0) e ∙ right.has_end in
    let allowed : is_allowed_at context (markup_of (item_at (b ∷ bytes)).0) ≡ true = ap (λ (c : Cut). is_allowed_at context (markup_of c.0)) e ∙ (ap (is_allowed_at context) right.is ∙ right.allowed) in
    rw (right.shallow, has_end, allowed) refl

pub take_item : (total : ℕ) (s : State) (b : ℕ) (bytes rest : List ℕ) (item : Item) (m : Markup) → item_at (b ∷ bytes) ≡ cut item rest → IsRight s (b ∷ bytes) item m
    → rest_from total s (b ∷ bytes) ≡ rest_from total (changed (total - length (b ∷ bytes)) m s) rest
take_item total s b bytes rest item m e right =
    let at = total - length (b ∷ bytes) in
    rest_next total s b bytes ∙
    (ap (λ o. outside.◌>>=◌ (step_by total (entry_at (b ∷ bytes)) s o) (λ next. rest_from total next (item_at (b ∷ bytes)).1)) (no_fault total s b bytes rest item m e right) ∙
    (ap (λ (c : Cut). rest_from total (changed at (markup_of c.0) s) c.1) e ∙ ap (λ k. rest_from total (changed at k s) rest) right.is))

-- ---- asides

pub aside_step : (total : ℕ) (s : State) (a : written.Aside) (rest : List ℕ) → IsAside a → rest_from total s (aside_then a rest) ≡ rest_from total s rest
aside_step total s (written.comment body) rest is =
    take_item total s 60 (codes "!--" ++ (body ++ (codes "-->" ++ rest))) rest (comment body) aside (aside_cut (written.comment body) rest is)
    (record { is = aside_again (written.comment body) is; shallow = refl; has_end = refl; allowed = refl })
aside_step total s (written.instruction body) rest is =
    take_item total s 60 (codes "?" ++ (body ++ (codes "?>" ++ rest))) rest (instruction body) aside (aside_cut (written.instruction body) rest is)
    (record { is = aside_again (written.instruction body) is; shallow = refl; has_end = refl; allowed = refl })

-- ---- content

abbrev texted_frame : Frame → List ℕ → Frame
texted_frame f text = record f { text = f.text ++ text }

not_less : (b : ℕ) (bytes : List ℕ) → list_all (λ b. not (b == 60)) (b ∷ bytes) ≡ true → (b == 60) ≡ false
not_less b bytes apart = not_true (b == 60) (and_parts (not (b == 60)) (list_all (λ b. not (b == 60)) bytes) apart).0
  where
    not_true : (b : Bool) → not b ≡ true → b ≡ false
    not_true true e = absurd cc
    not_true false e = refl

some_same : (a b : List ℕ) → (let o : Option (List ℕ) = Some a in o ≡ Some b) → a ≡ b
some_same a b e = cc

content_cases : (total : ℕ) (f : Frame) (frames : List Frame) (declared : Bool) (c : Content) (rest text : List ℕ) → IsContent c → content_text c ≡ text
    → rest_from total (state (f ∷ frames) None declared) (text ++ 60 ∷ rest) ≡ rest_from total (state (texted_frame f (content_meaning c) ∷ frames) None declared) (60 ∷ rest)
content_cases total f frames declared c rest [] is e =
    let meaning : [] ≡ content_meaning c = some_same [] (content_meaning c) (sym content_end ∙ (ap content_of (sym e) ∙ content_again c is)) in
    ap (λ text. rest_from total (state (record f { text = text } ∷ frames) None declared) (60 ∷ rest)) (sym (append-nil f.text) ∙ ap (λ t. f.text ++ t) meaning)
content_cases total f frames declared c rest (b ∷ text) is e =
    let apart = subst (λ bs. list_all (λ b. not (b == 60)) bs ≡ true) e (content_no_less c is) in
    let markup = ap (λ bs. markup_of (data_between bs)) (sym e) ∙ content_markup c is in
    take_item total (state (f ∷ frames) None declared) b (text ++ 60 ∷ rest) (60 ∷ rest) (data_between (b ∷ text)) (content (list_all is_blank (content_text c)) (content_meaning c)) (data_cut b text rest apart)
    (record { is = markup; shallow = and_left (opens (b ∷ (text ++ 60 ∷ rest))) (nat_le 64 (suc (length (map (λ (f : Frame). f.name) frames)))) (and_left (b == 60) (starts_name (text ++ 60 ∷ rest)) (not_less b text apart)); has_end = refl; allowed = refl })

content_step : (total : ℕ) (f : Frame) (frames : List Frame) (declared : Bool) (c : Content) (rest : List ℕ) → IsContent c
    → rest_from total (state (f ∷ frames) None declared) (content_then c (60 ∷ rest)) ≡ rest_from total (state (texted_frame f (content_meaning c) ∷ frames) None declared) (60 ∷ rest)
content_step total f frames declared c rest is =
    ap (rest_from total (state (f ∷ frames) None declared)) (content_append c (60 ∷ rest)) ∙ content_cases total f frames declared c rest (content_text c) is refl

-- ---- tags

shallow_at : (opening : Bool) (frames : List Frame) → length frames < 64 → (opening && nat_le 64 (length (map (λ (f : Frame). f.name) frames))) ≡ false
shallow_at opening frames few =
    and_right opening (nat_le 64 (length (map (λ (f : Frame). f.name) frames))) (lt-leb 64 (length (map (λ (f : Frame). f.name) frames)) (omega (arith, length-map frames (λ (f : Frame). f.name))))

pub start_step : (total : ℕ) (frames : List Frame) (declared : Bool) (t : Tag) (rest : List ℕ) → IsTag t → length frames < 64
    → rest_from total (state frames None declared) (tag_then t (codes ">" ++ rest)) ≡ rest_from total (state (begun (total - length (tag_then t (codes ">" ++ rest))) (opening_of t) ∷ frames) None declared) rest
start_step total frames declared t rest is few =
    let bytes = t.name ++ written.attributes_then t.attributes (t.blanks ++ 62 ∷ rest) in
    take_item total (state frames None declared) 60 bytes rest (tag (tag_body t [])) (start (opening_of t)) (tag_item t [] rest is refl)
    (record { is = start_markup t is; shallow = shallow_at (opens (60 ∷ bytes)) frames few; has_end = refl; allowed = refl })

pub empty_step : (total : ℕ) (frames : List Frame) (declared : Bool) (t : Tag) (rest : List ℕ) → IsTag t → length frames < 64
    → rest_from total (state frames None declared) (tag_then t (codes "/>" ++ rest)) ≡ rest_from total (adopted (ended (begun (total - length (tag_then t (codes "/>" ++ rest))) (opening_of t))) frames (state frames None declared)) rest
empty_step total frames declared t rest is few =
    let bytes = t.name ++ written.attributes_then t.attributes (t.blanks ++ 47 ∷ 62 ∷ rest) in
    take_item total (state frames None declared) 60 bytes rest (tag (tag_body t (47 ∷ []))) (empty (opening_of t)) (tag_item t (47 ∷ []) rest is refl)
    (record { is = empty_markup t is; shallow = shallow_at (opens (60 ∷ bytes)) frames few; has_end = refl; allowed = refl })

pub finish_step : (total : ℕ) (f : Frame) (frames : List Frame) (declared : Bool) (blanks rest : List ℕ) → IsName f.name → list_all is_blank blanks ≡ true
    → rest_from total (state (f ∷ frames) None declared) (end_tag_then f.name blanks rest) ≡ rest_from total (adopted (ended f) frames (state (f ∷ frames) None declared)) rest
finish_step total f frames declared blanks rest is blank =
    take_item total (state (f ∷ frames) None declared) 60 (47 ∷ (f.name ++ (blanks ++ 62 ∷ rest))) rest (tag (47 ∷ (f.name ++ blanks))) (finish f.name) (end_tag_item f.name blanks rest is blank)
    (record { is = finish_markup f.name blanks is blank; shallow = refl; has_end = refl; allowed = (bytes_eq-Decides f.name f.name).1 refl })

-- ---- what stands in an element

-- an open element with what stands in it
abbrev pub grown : Frame → ℕ → Inside → Frame
grown f at i = record f { children = f.children ++ children_from at i; text = f.text ++ own_text i }

abbrev frame : Frame → List Tree → List ℕ → Frame
frame f children text = record f { children = children; text = text }

same_frame : (total : ℕ) (f : Frame) (frames : List Frame) (declared : Bool) (rest : List ℕ) (cs ds : List Tree) (t u : List ℕ) → cs ≡ ds → t ≡ u
    → rest_from total (state (frame f cs t ∷ frames) None declared) rest ≡ rest_from total (state (frame f ds u ∷ frames) None declared) rest
same_frame total f frames declared rest cs ds t u p q =
    ap (λ c. rest_from total (state (frame f c t ∷ frames) None declared) rest) p ∙ ap (λ s. rest_from total (state (frame f ds s ∷ frames) None declared) rest) q

-- an aside begins with <
abbrev pub aside_tail : written.Aside → List ℕ → List ℕ
aside_tail (written.comment body) rest = codes "!--" ++ (body ++ (codes "-->" ++ rest))
aside_tail (written.instruction body) rest = codes "?" ++ (body ++ (codes "?>" ++ rest))

pub aside_prefix : (a : written.Aside) (rest : List ℕ) → aside_then a rest ≡ 60 ∷ aside_tail a rest
aside_prefix (written.comment body) rest = refl
aside_prefix (written.instruction body) rest = refl

content_before_aside : (total : ℕ) (f : Frame) (frames : List Frame) (declared : Bool) (c : Content) (a : written.Aside) (rest : List ℕ) → IsContent c → IsAside a
    → rest_from total (state (f ∷ frames) None declared) (content_then c (aside_then a rest)) ≡ rest_from total (state (texted_frame f (content_meaning c) ∷ frames) None declared) rest
content_before_aside total f frames declared c a rest is is_aside =
    ap (λ bs. rest_from total (state (f ∷ frames) None declared) (content_then c bs)) (aside_prefix a rest) ∙ (content_step total f frames declared c (aside_tail a rest) is ∙
    (ap (rest_from total (state (texted_frame f (content_meaning c) ∷ frames) None declared)) (sym (aside_prefix a rest)) ∙ aside_step total (state (texted_frame f (content_meaning c) ∷ frames) None declared) a rest is_aside))

abbrev Reads : ℕ → Inside → Type 0
Reads room i = (total at : ℕ) (f : Frame) (frames : List Frame) (declared : Bool) (rest : List ℕ) → room + length frames < 64 → at + length (inside_then i (60 ∷ rest)) ≡ total
    → rest_from total (state (f ∷ frames) None declared) (inside_then i (60 ∷ rest)) ≡ rest_from total (state (grown f at i ∷ frames) None declared) (60 ∷ rest)

only_reads : (room : ℕ) (c : Content) → IsContent c → Reads room (only c)
only_reads room c is total at f frames declared rest few e =
    content_step total f frames declared c rest is ∙ same_frame total f frames declared (60 ∷ rest) f.children (f.children ++ []) (f.text ++ content_meaning c) (f.text ++ content_meaning c) (sym (append-nil f.children)) refl

aside_reads : (room : ℕ) (c : Content) (a : written.Aside) (more : Inside) → IsContent c → IsAside a → Reads room more → Reads room (then_aside c a more)
aside_reads room c a more is is_aside later total at f frames declared rest few e =
    let left = inside_then more (60 ∷ rest) in
    let next = at + length (content_then c (aside_then a [])) in
    let g = texted_frame f (content_meaning c) in
    let sum : next + length left ≡ total = omega (arith, e, content_length c (aside_then a left), content_length c (aside_then a []), aside_length a left) in
    content_before_aside total f frames declared c a left is is_aside ∙ (later total next g frames declared rest few sum ∙
    same_frame total f frames declared (60 ∷ rest) (f.children ++ children_from next more) (f.children ++ children_from next more) ((f.text ++ content_meaning c) ++ own_text more) (f.text ++ (content_meaning c ++ own_text more)) refl (append_assoc f.text (content_meaning c) (own_text more)))

-- a child among others
abbrev with_child : Frame → List ℕ → Tree → Frame
with_child f text tree = record f { children = f.children ++ tree ∷ []; text = f.text ++ text }

child_end : (total : ℕ) (f : Frame) (frames : List Frame) (declared : Bool) (rest text later_text : List ℕ) (tree : Tree) (later : List Tree)
    → rest_from total (state (frame f ((f.children ++ tree ∷ []) ++ later) ((f.text ++ text) ++ later_text) ∷ frames) None declared) rest ≡ rest_from total (state (frame f (f.children ++ (tree ∷ later)) (f.text ++ (text ++ later_text)) ∷ frames) None declared) rest
child_end total f frames declared rest text later_text tree later =
    same_frame total f frames declared rest ((f.children ++ tree ∷ []) ++ later) (f.children ++ (tree ∷ later)) ((f.text ++ text) ++ later_text) (f.text ++ (text ++ later_text)) (append_assoc f.children (tree ∷ []) later) (append_assoc f.text text later_text)

empty_reads : (room : ℕ) (c : Content) (t : Tag) (more : Inside) → IsContent c → IsTag t → Reads (suc room) more → Reads (suc room) (then_empty c t more)
empty_reads room c t more is is_tag later total at f frames declared rest few e =
    let left = inside_then more (60 ∷ rest) in
    let tail = t.name ++ written.attributes_then t.attributes (t.blanks ++ 47 ∷ 62 ∷ left) in
    let here = at + length (content_text c) in
    let next = here + length (tag_then t (codes "/>")) in
    let tree = node t.name (tag_attributes t) (trees_of []) [] here in
    let found : total - length (tag_then t (codes "/>" ++ left)) ≡ here = omega (arith, e, content_length c (tag_then t (codes "/>" ++ left))) in
    let sum : next + length left ≡ total = omega (arith, e, content_length c (tag_then t (codes "/>" ++ left)), tag_length t (codes "/>" ++ left), tag_length t (codes "/>")) in
    content_step total f frames declared c tail is ∙ (empty_step total (texted_frame f (content_meaning c) ∷ frames) declared t left is_tag (omega arith) ∙
    (ap (λ n. rest_from total (state (with_child f (content_meaning c) (node t.name (tag_attributes t) (trees_of []) [] n) ∷ frames) None declared) left) found ∙
    (later total next (with_child f (content_meaning c) tree) frames declared rest few sum ∙ child_end total f frames declared (60 ∷ rest) (content_meaning c) (own_text more) tree (children_from next more))))

child_reads : (room : ℕ) (c : Content) (t : Tag) (inside : Inside) (blanks : List ℕ) (more : Inside) → IsContent c → IsTag t → Reads room inside → list_all is_blank blanks ≡ true → Reads (suc room) more → Reads (suc room) (then_child c t inside blanks more)
child_reads room c t inside blanks more is is_tag inner blank later total at f frames declared rest few e =
    let left = inside_then more (60 ∷ rest) in
    let after = end_tag_then t.name blanks left in
    let within_text = inside_then inside after in
    let tail = t.name ++ written.attributes_then t.attributes (t.blanks ++ 62 ∷ within_text) in
    let here = at + length (content_text c) in
    let within = here + length (tag_then t (codes ">")) in
    let next = within + length (inside_then inside (end_tag_then t.name blanks [])) in
    let g = texted_frame f (content_meaning c) in
    let tree = node t.name (tag_attributes t) (trees_of (children_from within inside)) (own_text inside) here in
    let found : total - length (tag_then t (codes ">" ++ within_text)) ≡ here = omega (arith, e, content_length c (tag_then t (codes ">" ++ within_text))) in
    let inner_context : within + length within_text ≡ total = omega (arith, e, content_length c (tag_then t (codes ">" ++ within_text)), tag_length t (codes ">" ++ within_text), tag_length t (codes ">")) in
    let sum : next + length left ≡ total = omega (arith, inner_context, inside_length inside after, inside_length inside (end_tag_then t.name blanks []), end_tag_length t.name blanks left) in
    content_step total f frames declared c tail is ∙ (start_step total (g ∷ frames) declared t within_text is_tag (omega arith) ∙
    (ap (λ n. rest_from total (state (begun n (opening_of t) ∷ (g ∷ frames)) None declared) within_text) found ∙
    (inner total within (begun here (opening_of t)) (g ∷ frames) declared (47 ∷ (t.name ++ (blanks ++ (62 ∷ left)))) (omega arith) inner_context ∙
    (finish_step total (grown (begun here (opening_of t)) within inside) (g ∷ frames) declared blanks left is_tag.named blank ∙
    (later total next (with_child f (content_meaning c) tree) frames declared rest few sum ∙ child_end total f frames declared (60 ∷ rest) (content_meaning c) (own_text more) tree (children_from next more))))))

pub inside_reads : (room : ℕ) (i : Inside) → IsInside room i → Reads room i
inside_reads room (only c) is = only_reads room c is
inside_reads room (then_aside c a more) is = aside_reads room c a more is.0 is.1 (inside_reads room more is.2)
inside_reads zero (then_empty c t more) is = absurd is
inside_reads (suc room) (then_empty c t more) is = empty_reads room c t more is.0 is.1 (inside_reads (suc room) more is.2)
inside_reads zero (then_child c t inside blanks more) is = absurd is
inside_reads (suc room) (then_child c t inside blanks more) is = child_reads room c t inside blanks more is.0 is.1 (inside_reads room inside is.2) is.3 (inside_reads (suc room) more is.4)
