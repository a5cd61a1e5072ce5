-- What is read is written so: a tree that the reading of a text comes to is the tree of the text.
use Rattle.std.proofs.Common.{◌≡◌, ℕ, zero, suc, ◌+◌, ◌-◌, ◌<◌, ◌≤◌, Bool, true, false, cond, ◌&&◌, List, [], ◌∷◌, ◌++◌, length, map, Option, Some, None, Ok, refl, sym, ap, subst, ◌∙◌, append_assoc, append-nil, arith}
use Rattle.std.specs.Prelude.{nat_le, codes, Result}
use Rattle.std.specs.List.{list_all}
use Rattle.std.specs.Str.{bytes_eq}
use Rattle.std.proofs.lemmas.Bool.{leb-false}
use Rattle.std.proofs.lemmas.List.{length-map}
use Rattle.std.proofs.lemmas.Slice.Eq.{bytes_eq-Decides}
use Rattle.basics.specs.declared.kinds.Kind.TheVariants.{Unfinished, BadText, TooDeep}
use Rattle.basics.specs.declared.fault.Spot.{Spot}
use Rattle.basics.specs.Reading as outside
use Rattle.markup_rules.specs.Bytes.{starts_name}
use Rattle.markup_rules.specs.Tree.{Tree, node, trees_of}
use Rattle.markup_rules.specs.Syntax.{IsName, Content, run, content_then, content_text, content_meaning, IsContent, Tag, tag_then, tag_attributes, IsTag, end_tag_then, aside_then, IsAside, Inside, only, then_aside, then_empty, then_child, inside_then, IsInside, own_text, children_from}
use Rattle.markup_rules.specs.Syntax as written
use Rattle.markup_rules.specs.Reading.{item_at, opens, Markup, markup_of}
use Rattle.markup_rules.specs.Faults.{spot, lacks_end, is_allowed_at}
use Rattle.markup_rules.specs.Outcome.{Frame, State, context_of, begun, ended, adopted, changed, step_by, root_or_fault}
use Rattle.markup_rules.proofs.Fuel.{entry_at, item_length}
use Rattle.markup_rules.proofs.Steps.{rest_from, rest_next, rest_done}
use Rattle.markup_rules.proofs.CompleteTags.{opening_of}
use Rattle.markup_rules.proofs.Lengths.{content_length, aside_length, tag_length, end_tag_length, inside_length}
use Rattle.markup_rules.proofs.SoundItems.{Read, of_aside, of_doctype, of_finish, of_start, of_empty, of_content, of_bad, item_read}
use Rattle.markup_rules.proofs.CompleteTrees.{state, grown}
use Rattle.markup_rules.proofs.ContentJoins.{with_content, with_content_is, with_content_text, with_content_own, with_content_children, empty_run}
use Rattle.basics.specs.Bytes.{is_blank}

-- ---- one item

-- the item at the start had no fault, and what follows comes to the tree
pub record Takes (total : ℕ) (s : State) (bytes : List ℕ) (tree : Tree) : Type 0 where
  pub shallow : (opens bytes && nat_le 64 (length (context_of s).names)) ≡ false
  pub allowed : is_allowed_at (context_of s) (markup_of (item_at bytes).0) ≡ true
  pub later : rest_from total (changed (total - length bytes) (markup_of (item_at bytes).0) s) (item_at bytes).1 ≡ Ok tree

abbrev next_of : ℕ → State → List ℕ → Option Spot → Result Tree Spot
next_of total s bytes fault = outside.◌>>=◌ (step_by total (entry_at bytes) s fault) (λ next. rest_from total next (item_at bytes).1)

abbrev fault_if : ℕ → State → List ℕ → Bool → Bool → Bool → Option Spot
fault_if total s bytes deep lacking allowed = cond deep (Some (spot TooDeep (total - length bytes))) (cond lacking (Some (spot Unfinished total)) (cond allowed None (Some (spot BadText (total - length bytes)))))

takes_cases : (total : ℕ) (s : State) (bytes : List ℕ) (tree : Tree) (deep lacking allowed : Bool) → (opens bytes && nat_le 64 (length (context_of s).names)) ≡ deep → is_allowed_at (context_of s) (markup_of (item_at bytes).0) ≡ allowed
    → next_of total s bytes (fault_if total s bytes deep lacking allowed) ≡ Ok tree → Takes total s bytes tree
takes_cases total s bytes tree true lacking allowed p q e = absurd cc
takes_cases total s bytes tree false true allowed p q e = absurd cc
takes_cases total s bytes tree false false true p q e = record { shallow = p; allowed = q; later = e }
takes_cases total s bytes tree false false false p q e = absurd cc

pub step_takes : (total : ℕ) (s : State) (b : ℕ) (bytes : List ℕ) (tree : Tree) → rest_from total s (b ∷ bytes) ≡ Ok tree → Takes total s (b ∷ bytes) tree
step_takes total s b bytes tree e =
    takes_cases total s (b ∷ bytes) tree (opens (b ∷ bytes) && nat_le 64 (length (context_of s).names)) (lacks_end (context_of s) (item_at (b ∷ bytes)).0) (is_allowed_at (context_of s) (markup_of (item_at (b ∷ bytes)).0)) refl refl
    (sym (rest_next total s b bytes) ∙ e)

-- ---- what stands in an element

-- what a state comes to where its innermost element ends
abbrev closed_from : ℕ → Frame → List Frame → Bool → List ℕ → Result Tree Spot
closed_from total f frames declared rest = rest_from total (adopted (ended f) frames (state (f ∷ frames) None declared)) rest

record FoundInside (total at room : ℕ) (f : Frame) (frames : List Frame) (declared : Bool) (bytes : List ℕ) (tree : Tree) : Type 0 where
  inside : Inside
  blanks : List ℕ
  rest : List ℕ
  is : IsInside room inside
  named : IsName f.name
  blank : list_all is_blank blanks ≡ true
  spelled : bytes ≡ inside_then inside (end_tag_then f.name blanks rest)
  shorter : length rest < length bytes
  later : closed_from total (grown f at inside) frames declared rest ≡ Ok tree

abbrev frame : Frame → List Tree → List ℕ → Frame
frame f children text = record f { children = children; text = text }

same_closed : (total : ℕ) (f : Frame) (frames : List Frame) (declared : Bool) (rest : List ℕ) (cs ds : List Tree) (t u : List ℕ) → cs ≡ ds → t ≡ u → closed_from total (frame f cs t) frames declared rest ≡ closed_from total (frame f ds u) frames declared rest
same_closed total f frames declared rest cs ds t u p q =
    ap (λ c. closed_from total (frame f c t) frames declared rest) p ∙ ap (λ s. closed_from total (frame f ds s) frames declared rest) q

abbrev InsideTo : ℕ → Type 0
InsideTo n = (room total at : ℕ) (f : Frame) (frames : List Frame) (declared : Bool) (bytes : List ℕ) (tree : Tree) → length bytes ≤ n → room + length frames ≡ 63 → at + length bytes ≡ total
    → rest_from total (state (f ∷ frames) None declared) bytes ≡ Ok tree → FoundInside total at room f frames declared bytes tree

at_finish : (total at room : ℕ) (f : Frame) (frames : List Frame) (declared : Bool) (bytes rest name blanks : List ℕ) (tree : Tree) → IsName name → list_all is_blank blanks ≡ true → name ≡ f.name → bytes ≡ end_tag_then name blanks rest → length rest < length bytes
    → closed_from total f frames declared rest ≡ Ok tree → FoundInside total at room f frames declared bytes tree
at_finish total at room f frames declared bytes rest name blanks tree is blank same spelled shorter later = record {
  inside = only (run []);
  blanks = blanks;
  rest = rest;
  is = empty_run;
  named = subst IsName same is;
  blank = blank;
  spelled = spelled ∙ ap (λ n. end_tag_then n blanks rest) same;
  shorter = shorter;
  later = same_closed total f frames declared rest (f.children ++ []) f.children (f.text ++ []) f.text (append-nil f.children) (append-nil f.text) ∙ later;
}

at_aside : (total at room : ℕ) (f : Frame) (frames : List Frame) (declared : Bool) (bytes left : List ℕ) (a : written.Aside) (tree : Tree) → IsAside a → bytes ≡ aside_then a left
    → FoundInside total (at + length (aside_then a [])) room f frames declared left tree → length left < length bytes → FoundInside total at room f frames declared bytes tree
at_aside total at room f frames declared bytes left a tree is spelled later less = record {
  inside = then_aside (run []) a later.inside;
  blanks = later.blanks;
  rest = later.rest;
  is = (empty_run, is, later.is);
  named = later.named;
  blank = later.blank;
  spelled = spelled ∙ ap (aside_then a) later.spelled;
  shorter = omega (arith, later.shorter);
  later = later.later;
}

at_content : (total at room : ℕ) (f : Frame) (frames : List Frame) (declared : Bool) (bytes left : List ℕ) (c : Content) (tree : Tree) → IsContent c → bytes ≡ content_then c left
    → FoundInside total (at + length (content_text c)) room (record f { text = f.text ++ content_meaning c }) frames declared left tree → length left < length bytes → FoundInside total at room f frames declared bytes tree
at_content total at room f frames declared bytes left c tree is spelled later less = record {
  inside = with_content c later.inside;
  blanks = later.blanks;
  rest = later.rest;
  is = with_content_is room c later.inside is later.is;
  named = later.named;
  blank = later.blank;
  spelled = spelled ∙ (ap (content_then c) later.spelled ∙ sym (with_content_text c later.inside (end_tag_then f.name later.blanks later.rest)));
  shorter = omega (arith, later.shorter);
  later =
      same_closed total f frames declared later.rest (f.children ++ children_from at (with_content c later.inside)) (f.children ++ children_from (at + length (content_text c)) later.inside)
      (f.text ++ own_text (with_content c later.inside)) ((f.text ++ content_meaning c) ++ own_text later.inside)
      (ap (λ cs. f.children ++ cs) (with_content_children at c later.inside)) (ap (λ t. f.text ++ t) (with_content_own c later.inside) ∙ sym (append_assoc f.text (content_meaning c) (own_text later.inside))) ∙ later.later;
}

-- one child more
abbrev with_child : Frame → Tree → Frame
with_child f tree = record f { children = f.children ++ tree ∷ [] }

child_closed : (total : ℕ) (f : Frame) (frames : List Frame) (declared : Bool) (rest later_text : List ℕ) (tree : Tree) (later : List Tree)
    → closed_from total (frame f (f.children ++ (tree ∷ later)) (f.text ++ later_text)) frames declared rest ≡ closed_from total (frame f ((f.children ++ tree ∷ []) ++ later) (f.text ++ later_text)) frames declared rest
child_closed total f frames declared rest later_text tree later =
    same_closed total f frames declared rest (f.children ++ (tree ∷ later)) ((f.children ++ tree ∷ []) ++ later) (f.text ++ later_text) (f.text ++ later_text) (sym (append_assoc f.children (tree ∷ []) later)) refl

abbrev empty_tree : Tag → ℕ → Tree
empty_tree t here = node t.name (tag_attributes t) (trees_of []) [] here

at_empty : (total at room : ℕ) (f : Frame) (frames : List Frame) (declared : Bool) (bytes left : List ℕ) (t : Tag) (tree : Tree) → IsTag t → bytes ≡ tag_then t (codes "/>" ++ left)
    → FoundInside total ((at + 0) + length (tag_then t (codes "/>"))) (suc room) (with_child f (empty_tree t (at + 0))) frames declared left tree → length left < length bytes → FoundInside total at (suc room) f frames declared bytes tree
at_empty total at room f frames declared bytes left t tree is spelled later less = record {
  inside = then_empty (run []) t later.inside;
  blanks = later.blanks;
  rest = later.rest;
  is = (empty_run, is, later.is);
  named = later.named;
  blank = later.blank;
  spelled = spelled ∙ ap (λ bs. tag_then t (codes "/>" ++ bs)) later.spelled;
  shorter = omega (arith, later.shorter);
  later = child_closed total f frames declared later.rest (own_text later.inside) (empty_tree t (at + 0)) (children_from ((at + 0) + length (tag_then t (codes "/>"))) later.inside) ∙ later.later;
}

-- the offset within a child, and its tree
abbrev within_of : ℕ → Tag → ℕ
within_of at t = (at + 0) + length (tag_then t (codes ">"))

abbrev child_tree : ℕ → Tag → Inside → Tree
child_tree at t inside = node t.name (tag_attributes t) (trees_of (children_from (within_of at t) inside)) (own_text inside) (at + 0)

abbrev after_of : ℕ → Tag → Inside → List ℕ → ℕ
after_of at t inside blanks = within_of at t + length (inside_then inside (end_tag_then t.name blanks []))

at_child : (total at room : ℕ) (f : Frame) (frames : List Frame) (declared : Bool) (bytes left : List ℕ) (t : Tag) (tree : Tree) → IsTag t → bytes ≡ tag_then t (codes ">" ++ left)
    → (inner : FoundInside total (within_of at t) room (begun (at + 0) (opening_of t)) (f ∷ frames) declared left tree)
    → FoundInside total (after_of at t inner.inside inner.blanks) (suc room) (with_child f (child_tree at t inner.inside)) frames declared inner.rest tree → length left < length bytes → FoundInside total at (suc room) f frames declared bytes tree
at_child total at room f frames declared bytes left t tree is spelled inner later less = record {
  inside = then_child (run []) t inner.inside inner.blanks later.inside;
  blanks = later.blanks;
  rest = later.rest;
  is = (empty_run, is, inner.is, inner.blank, later.is);
  named = later.named;
  blank = later.blank;
  spelled = spelled ∙ ap (λ bs. tag_then t (codes ">" ++ bs)) (inner.spelled ∙ ap (λ bs. inside_then inner.inside (end_tag_then t.name inner.blanks bs)) later.spelled);
  shorter = omega (arith, later.shorter, inner.shorter);
  later = child_closed total f frames declared later.rest (own_text later.inside) (child_tree at t inner.inside) (children_from (after_of at t inner.inside inner.blanks) later.inside) ∙ later.later;
}

-- ---- the cases of an item in an element

innermost_is : (name open_name : List ℕ) → bytes_eq name open_name ≡ true → name ≡ open_name
innermost_is name open_name e = (bytes_eq-Decides name open_name).0 e

names_length : (frames : List Frame) → length (map (λ (f : Frame). f.name) frames) ≡ length frames
names_length frames = length-map frames (λ (f : Frame). f.name)

-- a tag whose name begins so stands in fewer than 64 elements
has_room : (frames : List Frame) → nat_le 64 (suc (length (map (λ (f : Frame). f.name) frames))) ≡ false → length frames < 63
has_room frames e = omega (arith, leb-false 64 (suc (length (map (λ (f : Frame). f.name) frames))) e, names_length frames)

opens_tag : (t : Tag) (rest : List ℕ) → IsTag t → opens (tag_then t rest) ≡ true
opens_tag t rest is = starts_before t.name (written.attributes_then t.attributes (t.blanks ++ rest)) is.named.begun
  where
    starts_before : (name rest : List ℕ) → starts_name name ≡ true → starts_name (name ++ rest) ≡ true
    starts_before [] rest e = absurd cc
    starts_before (b ∷ name) rest e = e

tag_room : (t : Tag) (bytes rest : List ℕ) (frames : List Frame) → IsTag t → bytes ≡ tag_then t rest → (opens bytes && nat_le 64 (suc (length (map (λ (f : Frame). f.name) frames)))) ≡ false → length frames < 63
tag_room t bytes rest frames is spelled e =
    has_room frames (sym (ap (λ o. o && nat_le 64 (suc (length (map (λ (f : Frame). f.name) frames)))) (ap opens spelled ∙ opens_tag t rest is)) ∙ e)

abbrev Here : ℕ → ℕ → Frame → List Frame → Bool → List ℕ → Markup → List ℕ → Tree → Type 0
Here total at f frames declared bytes m left tree = rest_from total (changed (total - length bytes) m (state (f ∷ frames) None declared)) left ≡ Ok tree

inside_read : (n room total at : ℕ) (f : Frame) (frames : List Frame) (declared : Bool) (bytes left : List ℕ) (m : Markup) (tree : Tree) → InsideTo n → length left ≤ n → length left < length bytes → room + length frames ≡ 63 → at + length bytes ≡ total
    → (opens bytes && nat_le 64 (suc (length (map (λ (f : Frame). f.name) frames)))) ≡ false → is_allowed_at (context_of (state (f ∷ frames) None declared)) m ≡ true → Here total at f frames declared bytes m left tree → Read bytes left m → FoundInside total at room f frames declared bytes tree
inside_read n room total at f frames declared bytes left m tree rec few less room_is e shallow allowed here (of_aside a is same spelled) =
    let next = sym (ap (λ k. rest_from total (changed (total - length bytes) k (state (f ∷ frames) None declared)) left) same) ∙ here in
    let sum : (at + length (aside_then a [])) + length left ≡ total = omega (arith, e, ap length spelled, aside_length a left) in
    at_aside total at room f frames declared bytes left a tree is spelled (rec room total (at + length (aside_then a [])) f frames declared left tree few room_is sum next) less
inside_read n room total at f frames declared bytes left m tree rec few less room_is e shallow allowed here (of_doctype text is same spelled) =
    absurd (cc (allowed, ap (is_allowed_at (context_of (state (f ∷ frames) None declared))) same))
inside_read n room total at f frames declared bytes left m tree rec few less room_is e shallow allowed here (of_finish name blanks is blank same spelled) =
    let right = sym (ap (is_allowed_at (context_of (state (f ∷ frames) None declared))) same) ∙ allowed in
    let next = sym (ap (λ k. rest_from total (changed (total - length bytes) k (state (f ∷ frames) None declared)) left) same) ∙ here in
    at_finish total at room f frames declared bytes left name blanks tree is blank (innermost_is name f.name right) spelled less next
inside_read n zero total at f frames declared bytes left m tree rec few less room_is e shallow allowed here (of_start t is same spelled) =
    absurd (omega (arith, tag_room t bytes (codes ">" ++ left) frames is spelled shallow, room_is))
inside_read n (suc room) total at f frames declared bytes left m tree rec few less room_is e shallow allowed here (of_start t is same spelled) =
    let found : total - length bytes ≡ at + 0 = omega arith in
    let next = sym (ap (λ k. rest_from total (changed (total - length bytes) k (state (f ∷ frames) None declared)) left) same ∙ ap (λ k. rest_from total (state (begun k (opening_of t) ∷ (f ∷ frames)) None declared) left) found) ∙ here in
    let within : within_of at t + length left ≡ total = omega (arith, e, ap length spelled, tag_length t (codes ">" ++ left), tag_length t (codes ">")) in
    let inner = rec room total (within_of at t) (begun (at + 0) (opening_of t)) (f ∷ frames) declared left tree few (omega arith) within next in
    let sum : after_of at t inner.inside inner.blanks + length inner.rest ≡ total =
    omega (arith, within, ap length inner.spelled, inside_length inner.inside (end_tag_then t.name inner.blanks inner.rest), inside_length inner.inside (end_tag_then t.name inner.blanks []), end_tag_length t.name inner.blanks inner.rest) in
    at_child total at room f frames declared bytes left t tree is spelled inner
    (rec (suc room) total (after_of at t inner.inside inner.blanks) (with_child f (child_tree at t inner.inside)) frames declared inner.rest tree (omega (arith, inner.shorter)) room_is sum inner.later) less
inside_read n zero total at f frames declared bytes left m tree rec few less room_is e shallow allowed here (of_empty t is same spelled) =
    absurd (omega (arith, tag_room t bytes (codes "/>" ++ left) frames is spelled shallow, room_is))
inside_read n (suc room) total at f frames declared bytes left m tree rec few less room_is e shallow allowed here (of_empty t is same spelled) =
    let found : total - length bytes ≡ at + 0 = omega arith in
    let next = sym (ap (λ k. rest_from total (changed (total - length bytes) k (state (f ∷ frames) None declared)) left) same ∙ ap (λ k. rest_from total (state (with_child f (empty_tree t k) ∷ frames) None declared) left) found) ∙ here in
    let sum : ((at + 0) + length (tag_then t (codes "/>"))) + length left ≡ total = omega (arith, e, ap length spelled, tag_length t (codes "/>" ++ left), tag_length t (codes "/>")) in
    at_empty total at room f frames declared bytes left t tree is spelled (rec (suc room) total ((at + 0) + length (tag_then t (codes "/>"))) (with_child f (empty_tree t (at + 0))) frames declared left tree few room_is sum next) less
inside_read n room total at f frames declared bytes left m tree rec few less room_is e shallow allowed here (of_content c is same spelled) =
    let next = sym (ap (λ k. rest_from total (changed (total - length bytes) k (state (f ∷ frames) None declared)) left) same) ∙ here in
    let sum : (at + length (content_text c)) + length left ≡ total = omega (arith, e, ap length spelled, content_length c left) in
    at_content total at room f frames declared bytes left c tree is spelled (rec room total (at + length (content_text c)) (record f { text = f.text ++ content_meaning c }) frames declared left tree few room_is sum next) less
inside_read n room total at f frames declared bytes left m tree rec few less room_is e shallow allowed here (of_bad same) =
    absurd (cc (allowed, ap (is_allowed_at (context_of (state (f ∷ frames) None declared))) same))

nothing_left : (total : ℕ) (s : State) (tree : Tree) → s.root ≡ None → rest_from total s [] ≡ Ok tree → ⊥
nothing_left total s tree none e = absurd (cc (rest_done total s [] refl, ap (root_or_fault total) none, e))

inside_to : (n : ℕ) → InsideTo n
inside_to n room total at f frames declared [] tree few room_is e here = absurd (nothing_left total (state (f ∷ frames) None declared) tree refl here)
inside_to zero room total at f frames declared (b ∷ bytes) tree few room_is e here = absurd (omega arith)
inside_to (suc n) room total at f frames declared (b ∷ bytes) tree few room_is e here =
    let taken = step_takes total (state (f ∷ frames) None declared) b bytes tree here in
    let shorter = item_length b bytes in
    inside_read n room total at f frames declared (b ∷ bytes) (item_at (b ∷ bytes)).1 (markup_of (item_at (b ∷ bytes)).0) tree (inside_to n) (omega (arith, shorter)) (omega (arith, shorter)) room_is e taken.shallow taken.allowed taken.later (item_read b bytes)

pub record IsFoundInside (total at : ℕ) (f : Frame) (declared : Bool) (bytes : List ℕ) (tree : Tree) : Type 0 where
  pub inside : Inside
  pub blanks : List ℕ
  pub rest : List ℕ
  pub is : IsInside 63 inside
  pub blank : list_all is_blank blanks ≡ true
  pub spelled : bytes ≡ inside_then inside (end_tag_then f.name blanks rest)
  pub shorter : length rest < length bytes
  pub later : rest_from total (state [] (Some (ended (grown f at inside))) declared) rest ≡ Ok tree

-- of the root
pub inside_takes : (total at : ℕ) (f : Frame) (declared : Bool) (bytes : List ℕ) (tree : Tree) → at + length bytes ≡ total → rest_from total (state (f ∷ []) None declared) bytes ≡ Ok tree → IsFoundInside total at f declared bytes tree
inside_takes total at f declared bytes tree e here =
    let found = inside_to (length bytes) 63 total at f [] declared bytes tree (omega arith) (omega arith) e here in
    record { inside = found.inside; blanks = found.blanks; rest = found.rest; is = found.is; blank = found.blank; spelled = found.spelled; shorter = found.shorter; later = found.later }
