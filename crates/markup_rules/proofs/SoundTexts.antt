-- What is read is written so: whole texts.
use Rattle.std.proofs.Common.{◌≡◌, ℕ, zero, suc, ◌+◌, ◌-◌, ◌≤◌, Bool, true, false, cond, List, [], ◌∷◌, ◌++◌, length, drop, Some, None, Ok, refl, sym, ap, subst, ◌∙◌, append_assoc, arith, ◌⊎◌, inl, inr}
use Rattle.std.specs.Prelude.{codes, Result}
use Rattle.std.specs.List.{list_all}
use Rattle.std.proofs.lemmas.Bool.{and_from}
use Rattle.std.proofs.lemmas.List.{length-append}
use Rattle.std.proofs.lemmas.List.Folds.{list_all-append}
use Rattle.basics.specs.declared.fault.Spot.{Spot}
use Rattle.markup_rules.specs.Bytes.{is_doctype}
use Rattle.markup_rules.specs.Tree.{Tree, node, trees_of}
use Rattle.markup_rules.specs.Syntax.{Content, content_then, content_text, tag_then, tag_attributes, aside_then, IsAside, Outside, white, and_aside, outside_then, IsOutside, Prolog, undeclared, declared, prolog_then, IsProlog, Root, empty_root, full_root, root_then, IsRoot, root_tree, order_mark, IsTree}
use Rattle.markup_rules.specs.Syntax as written
use Rattle.markup_rules.specs.Reading.{item_at, Markup, markup_of}
use Rattle.markup_rules.specs.Faults.{is_allowed_at}
use Rattle.markup_rules.specs.Outcome.{State, initial, context_of, begun, changed, outcome}
use Rattle.markup_rules.proofs.Fuel.{item_length}
use Rattle.markup_rules.proofs.Steps.{rest_from, rest_begins, rest_done}
use Rattle.markup_rules.proofs.CompleteTags.{content_append, opening_of}
use Rattle.markup_rules.proofs.Lengths.{content_length, aside_length, tag_length}
use Rattle.markup_rules.proofs.SoundItems.{Read, of_aside, of_doctype, of_finish, of_start, of_empty, of_content, of_bad, item_read, begins_is_prefix}
use Rattle.markup_rules.proofs.CompleteTrees.{state}
use Rattle.markup_rules.proofs.SoundTrees.{step_takes, inside_takes}
use Rattle.basics.specs.Bytes.{is_blank, begins}

-- ---- blanks before what stands round the root

abbrev with_blanks : List ℕ → Outside → Outside
with_blanks blanks (white others) = white (blanks ++ others)
with_blanks blanks (and_aside others a o) = and_aside (blanks ++ others) a o

both_blank : (prefix back : List ℕ) → list_all is_blank prefix ≡ true → list_all is_blank back ≡ true → list_all is_blank (prefix ++ back) ≡ true
both_blank prefix back p q = list_all-append is_blank prefix back ∙ and_from (list_all is_blank prefix) (list_all is_blank back) p q

with_blanks_is : (blanks : List ℕ) (o : Outside) → list_all is_blank blanks ≡ true → IsOutside o → IsOutside (with_blanks blanks o)
with_blanks_is blanks (white others) blank is = both_blank blanks others blank is
with_blanks_is blanks (and_aside others a o) blank is = (both_blank blanks others blank is.0, is.1, is.2)

with_blanks_text : (blanks : List ℕ) (o : Outside) (rest : List ℕ) → outside_then (with_blanks blanks o) rest ≡ blanks ++ outside_then o rest
with_blanks_text blanks (white others) rest = append_assoc blanks others rest
with_blanks_text blanks (and_aside others a o) rest = append_assoc blanks others (aside_then a (outside_then o rest))

-- content outside of all elements is white space
white_text : (c : Content) (bytes rest : List ℕ) → bytes ≡ content_then c rest → bytes ≡ content_text c ++ rest
white_text c bytes rest spelled = spelled ∙ content_append c rest

-- ---- after the root

record FoundAfter (root : Tree) (bytes : List ℕ) (tree : Tree) : Type 0 where
  after : Outside
  is : IsOutside after
  spelled : bytes ≡ outside_then after []
  same : root ≡ tree

abbrev rooted : Tree → Bool → State
rooted root d = state [] (Some root) d

abbrev AfterTo : ℕ → Type 0
AfterTo n = (total : ℕ) (root : Tree) (d : Bool) (bytes : List ℕ) (tree : Tree) → length bytes ≤ n → rest_from total (rooted root d) bytes ≡ Ok tree → FoundAfter root bytes tree

never : {A : Type 0} (b : Bool) → b ≡ true → b ≡ false → A
never b p q = absurd cc

after_read : (n total : ℕ) (root : Tree) (d : Bool) (bytes left : List ℕ) (m : Markup) (tree : Tree) → AfterTo n → length left ≤ n
    → is_allowed_at (context_of (rooted root d)) m ≡ true → rest_from total (changed (total - length bytes) m (rooted root d)) left ≡ Ok tree → Read bytes left m → FoundAfter root bytes tree
after_read n total root d bytes left m tree rec few allowed here (of_aside a is same spelled) =
    let later = rec total root d left tree few (sym (ap (λ k. rest_from total (changed (total - length bytes) k (rooted root d)) left) same) ∙ here) in
    record { after = and_aside [] a later.after; is = (refl, is, later.is); spelled = spelled ∙ ap (aside_then a) later.spelled; same = later.same }
after_read n total root d bytes left m tree rec few allowed here (of_doctype text is same spelled) =
    absurd (cc (allowed, ap (is_allowed_at (context_of (rooted root d))) same))
after_read n total root d bytes left m tree rec few allowed here (of_finish name blanks is blank same spelled) =
    absurd (cc (allowed, ap (is_allowed_at (context_of (rooted root d))) same))
after_read n total root d bytes left m tree rec few allowed here (of_start t is same spelled) =
    absurd (cc (allowed, ap (is_allowed_at (context_of (rooted root d))) same))
after_read n total root d bytes left m tree rec few allowed here (of_empty t is same spelled) =
    absurd (cc (allowed, ap (is_allowed_at (context_of (rooted root d))) same))
after_read n total root d bytes left m tree rec few allowed here (of_content c is same spelled) =
    let blank : list_all is_blank (content_text c) ≡ true = sym (ap (is_allowed_at (context_of (rooted root d))) same) ∙ allowed in
    let later = rec total root d left tree few (sym (ap (λ k. rest_from total (changed (total - length bytes) k (rooted root d)) left) same) ∙ here) in
    record {
      after = with_blanks (content_text c) later.after;
      is = with_blanks_is (content_text c) later.after blank later.is;
      spelled = white_text c bytes left spelled ∙ (ap (λ bs. content_text c ++ bs) later.spelled ∙ sym (with_blanks_text (content_text c) later.after []));
      same = later.same;
    }
after_read n total root d bytes left m tree rec few allowed here (of_bad same) = absurd (cc (allowed, ap (is_allowed_at (context_of (rooted root d))) same))

same_ok : (a b : Tree) → (let r : Result Tree Spot = Ok a in r ≡ Ok b) → a ≡ b
same_ok a b e = cc

after_to : (n : ℕ) → AfterTo n
after_to n total root d [] tree few here = record { after = white []; is = refl; spelled = refl; same = same_ok root tree (sym (rest_done total (rooted root d) [] refl) ∙ here) }
after_to zero total root d (b ∷ bytes) tree few here = absurd (omega arith)
after_to (suc n) total root d (b ∷ bytes) tree few here =
    let taken = step_takes total (rooted root d) b bytes tree here in
    after_read n total root d (b ∷ bytes) (item_at (b ∷ bytes)).1 (markup_of (item_at (b ∷ bytes)).0) tree (after_to n) (omega (arith, item_length b bytes)) taken.allowed taken.later (item_read b bytes)

-- ---- before the root

abbrev has_doctype : Prolog → Bool
has_doctype (undeclared o) = false
has_doctype (declared before text o) = true

record FoundBefore (at : ℕ) (d : Bool) (bytes : List ℕ) (tree : Tree) : Type 0 where
  prefix : Prolog
  root : Root
  after : Outside
  prefix_is : IsProlog prefix
  root_is : IsRoot root
  after_is : IsOutside after
  once : d ≡ true → has_doctype prefix ≡ false
  spelled : bytes ≡ prolog_then prefix (root_then root (outside_then after []))
  means : root_tree (at + length (prolog_then prefix [])) root ≡ tree

abbrev unrooted : Bool → State
unrooted d = state [] None d

abbrev BeforeTo : ℕ → Type 0
BeforeTo n = (total at : ℕ) (d : Bool) (bytes : List ℕ) (tree : Tree) → length bytes ≤ n → at + length bytes ≡ total → rest_from total (unrooted d) bytes ≡ Ok tree → FoundBefore at d bytes tree

-- an aside, or white space, before a prolog
abbrev aside_before : written.Aside → Prolog → Prolog
aside_before a (undeclared o) = undeclared (and_aside [] a o)
aside_before a (declared before text o) = declared (and_aside [] a before) text o

abbrev blanks_before : List ℕ → Prolog → Prolog
blanks_before blanks (undeclared o) = undeclared (with_blanks blanks o)
blanks_before blanks (declared before text o) = declared (with_blanks blanks before) text o

aside_before_is : (a : written.Aside) (p : Prolog) → IsAside a → IsProlog p → IsProlog (aside_before a p)
aside_before_is a (undeclared o) is that = (refl, is, that)
aside_before_is a (declared before text o) is that = ((refl, is, that.0), that.1, that.2)

aside_before_text : (a : written.Aside) (p : Prolog) (rest : List ℕ) → prolog_then (aside_before a p) rest ≡ aside_then a (prolog_then p rest)
aside_before_text a (undeclared o) rest = refl
aside_before_text a (declared before text o) rest = refl

aside_before_once : (a : written.Aside) (p : Prolog) → has_doctype (aside_before a p) ≡ has_doctype p
aside_before_once a (undeclared o) = refl
aside_before_once a (declared before text o) = refl

blanks_before_is : (blanks : List ℕ) (p : Prolog) → list_all is_blank blanks ≡ true → IsProlog p → IsProlog (blanks_before blanks p)
blanks_before_is blanks (undeclared o) blank that = with_blanks_is blanks o blank that
blanks_before_is blanks (declared before text o) blank that = (with_blanks_is blanks before blank that.0, that.1, that.2)

blanks_before_text : (blanks : List ℕ) (p : Prolog) (rest : List ℕ) → prolog_then (blanks_before blanks p) rest ≡ blanks ++ prolog_then p rest
blanks_before_text blanks (undeclared o) rest = with_blanks_text blanks o rest
blanks_before_text blanks (declared before text o) rest = with_blanks_text blanks before (codes "<!DOCTYPE" ++ (text ++ (codes ">" ++ outside_then o rest)))

blanks_before_once : (blanks : List ℕ) (p : Prolog) → has_doctype (blanks_before blanks p) ≡ has_doctype p
blanks_before_once blanks (undeclared o) = refl
blanks_before_once blanks (declared before text o) = refl

at_aside : (at : ℕ) (d : Bool) (bytes left : List ℕ) (a : written.Aside) (tree : Tree) → IsAside a → bytes ≡ aside_then a left → FoundBefore (at + length (aside_then a [])) d left tree → FoundBefore at d bytes tree
at_aside at d bytes left a tree is spelled later = record {
  prefix = aside_before a later.prefix;
  root = later.root;
  after = later.after;
  prefix_is = aside_before_is a later.prefix is later.prefix_is;
  root_is = later.root_is;
  after_is = later.after_is;
  once = λ e. aside_before_once a later.prefix ∙ later.once e;
  spelled = spelled ∙ (ap (aside_then a) later.spelled ∙ sym (aside_before_text a later.prefix (root_then later.root (outside_then later.after []))));
  means =
      (let sum : at + length (prolog_then (aside_before a later.prefix) []) ≡ (at + length (aside_then a [])) + length (prolog_then later.prefix []) = omega (arith, ap length (aside_before_text a later.prefix []), aside_length a (prolog_then later.prefix [])) in
      ap (λ n. root_tree n later.root) sum ∙ later.means);
}

at_blanks : (at : ℕ) (d : Bool) (bytes left blanks : List ℕ) (tree : Tree) → list_all is_blank blanks ≡ true → bytes ≡ blanks ++ left → FoundBefore (at + length blanks) d left tree → FoundBefore at d bytes tree
at_blanks at d bytes left blanks tree blank spelled later = record {
  prefix = blanks_before blanks later.prefix;
  root = later.root;
  after = later.after;
  prefix_is = blanks_before_is blanks later.prefix blank later.prefix_is;
  root_is = later.root_is;
  after_is = later.after_is;
  once = λ e. blanks_before_once blanks later.prefix ∙ later.once e;
  spelled = spelled ∙ (ap (λ bs. blanks ++ bs) later.spelled ∙ sym (blanks_before_text blanks later.prefix (root_then later.root (outside_then later.after []))));
  means =
      (let sum : at + length (prolog_then (blanks_before blanks later.prefix) []) ≡ (at + length blanks) + length (prolog_then later.prefix []) = omega (arith, ap length (blanks_before_text blanks later.prefix []), length-append blanks (prolog_then later.prefix [])) in
      ap (λ n. root_tree n later.root) sum ∙ later.means);
}

-- the document type, after which there is no other
record IsUndeclared (p : Prolog) : Type 0 where
  outside : Outside
  same : p ≡ undeclared outside

undeclared_is : (p : Prolog) → has_doctype p ≡ false → IsUndeclared p
undeclared_is (undeclared o) e = record { outside = o; same = refl }
undeclared_is (declared before text o) e = absurd cc

doctype_length : (text rest : List ℕ) → length (codes "<!DOCTYPE" ++ (text ++ (codes ">" ++ rest))) ≡ length (codes "<!DOCTYPE" ++ (text ++ codes ">")) + length rest
doctype_length text rest = omega (arith, length-append text (codes ">" ++ rest), length-append text (codes ">"))

at_doctype : (at : ℕ) (bytes left text : List ℕ) (tree : Tree) → is_doctype text ≡ true → bytes ≡ codes "<!DOCTYPE" ++ (text ++ (codes ">" ++ left)) → FoundBefore (at + length (codes "<!DOCTYPE" ++ (text ++ codes ">"))) true left tree → FoundBefore at false bytes tree
at_doctype at bytes left text tree is spelled later =
    let literal = undeclared_is later.prefix (later.once refl) in
    record {
      prefix = declared (white []) text literal.outside;
      root = later.root;
      after = later.after;
      prefix_is = (refl, is, subst IsProlog literal.same later.prefix_is);
      root_is = later.root_is;
      after_is = later.after_is;
      once = λ e. absurd cc;
      spelled = spelled ∙ ap (λ bs. codes "<!DOCTYPE" ++ (text ++ (codes ">" ++ bs))) (later.spelled ∙ ap (λ p. prolog_then p (root_then later.root (outside_then later.after []))) literal.same);
      means =
          (let sum : at + length (prolog_then (declared (white []) text literal.outside) []) ≡ (at + length (codes "<!DOCTYPE" ++ (text ++ codes ">"))) + length (prolog_then later.prefix []) =
          omega (arith, doctype_length text (outside_then literal.outside []), ap (λ p. length (prolog_then p [])) literal.same) in
          ap (λ n. root_tree n later.root) sum ∙ later.means);
    }

-- the root, before which nothing is left
root_found : (at : ℕ) (d : Bool) (bytes left : List ℕ) (r : Root) (tree : Tree) → IsRoot r → bytes ≡ root_then r left → FoundAfter (root_tree (at + 0) r) left tree → FoundBefore at d bytes tree
root_found at d bytes left r tree is spelled later = record {
  prefix = undeclared (white []);
  root = r;
  after = later.after;
  prefix_is = refl;
  root_is = is;
  after_is = later.is;
  once = λ e. refl;
  spelled = spelled ∙ ap (root_then r) later.spelled;
  means = later.same;
}

before_read : (n total at : ℕ) (d : Bool) (bytes left : List ℕ) (m : Markup) (tree : Tree) → BeforeTo n → length left ≤ n → at + length bytes ≡ total
    → is_allowed_at (context_of (unrooted d)) m ≡ true → rest_from total (changed (total - length bytes) m (unrooted d)) left ≡ Ok tree → Read bytes left m → FoundBefore at d bytes tree
before_read n total at d bytes left m tree rec few e allowed here (of_aside a is same spelled) =
    let sum : (at + length (aside_then a [])) + length left ≡ total = omega (arith, e, ap length spelled, aside_length a left) in
    at_aside at d bytes left a tree is spelled (rec total (at + length (aside_then a [])) d left tree few sum (sym (ap (λ k. rest_from total (changed (total - length bytes) k (unrooted d)) left) same) ∙ here))
before_read n total at true bytes left m tree rec few e allowed here (of_doctype text is same spelled) =
    absurd (cc (allowed, ap (is_allowed_at (context_of (unrooted true))) same))
before_read n total at false bytes left m tree rec few e allowed here (of_doctype text is same spelled) =
    let sum : (at + length (codes "<!DOCTYPE" ++ (text ++ codes ">"))) + length left ≡ total = omega (arith, e, ap length spelled, doctype_length text left) in
    at_doctype at bytes left text tree is spelled (rec total (at + length (codes "<!DOCTYPE" ++ (text ++ codes ">"))) true left tree few sum (sym (ap (λ k. rest_from total (changed (total - length bytes) k (unrooted false)) left) same) ∙ here))
before_read n total at d bytes left m tree rec few e allowed here (of_finish name blanks is blank same spelled) =
    absurd (cc (allowed, ap (is_allowed_at (context_of (unrooted d))) same))
before_read n total at d bytes left m tree rec few e allowed here (of_start t is same spelled) =
    let found : total - length bytes ≡ at + 0 = omega arith in
    let next = sym (ap (λ k. rest_from total (changed (total - length bytes) k (unrooted d)) left) same ∙ ap (λ k. rest_from total (state (begun k (opening_of t) ∷ []) None d) left) found) ∙ here in
    let within : (at + 0) + length (tag_then t (codes ">")) + length left ≡ total = omega (arith, e, ap length spelled, tag_length t (codes ">" ++ left), tag_length t (codes ">")) in
    let inner = inside_takes total ((at + 0) + length (tag_then t (codes ">"))) (begun (at + 0) (opening_of t)) d left tree within next in
    let root = full_root t inner.inside inner.blanks in
    root_found at d bytes inner.rest root tree (is, inner.is, inner.blank) (spelled ∙ ap (λ bs. tag_then t (codes ">" ++ bs)) inner.spelled) (after_to (length inner.rest) total (root_tree (at + 0) root) d inner.rest tree (omega arith) inner.later)
before_read n total at d bytes left m tree rec few e allowed here (of_empty t is same spelled) =
    let found : total - length bytes ≡ at + 0 = omega arith in
    let next = sym (ap (λ k. rest_from total (changed (total - length bytes) k (unrooted d)) left) same ∙ ap (λ k. rest_from total (rooted (node t.name (tag_attributes t) (trees_of []) [] k) d) left) found) ∙ here in
    root_found at d bytes left (empty_root t) tree is spelled (after_to (length left) total (root_tree (at + 0) (empty_root t)) d left tree (omega arith) next)
before_read n total at d bytes left m tree rec few e allowed here (of_content c is same spelled) =
    let blank : list_all is_blank (content_text c) ≡ true = sym (ap (is_allowed_at (context_of (unrooted d))) same) ∙ allowed in
    let sum : (at + length (content_text c)) + length left ≡ total = omega (arith, e, ap length spelled, content_length c left) in
    at_blanks at d bytes left (content_text c) tree blank (white_text c bytes left spelled) (rec total (at + length (content_text c)) d left tree few sum (sym (ap (λ k. rest_from total (changed (total - length bytes) k (unrooted d)) left) same) ∙ here))
before_read n total at d bytes left m tree rec few e allowed here (of_bad same) = absurd (cc (allowed, ap (is_allowed_at (context_of (unrooted d))) same))

before_to : (n : ℕ) → BeforeTo n
before_to n total at d [] tree few e here = absurd (cc (rest_done total (unrooted d) [] refl, here))
before_to zero total at d (b ∷ bytes) tree few e here = absurd (omega arith)
before_to (suc n) total at d (b ∷ bytes) tree few e here =
    let taken = step_takes total (unrooted d) b bytes tree here in
    before_read n total at d (b ∷ bytes) (item_at (b ∷ bytes)).1 (markup_of (item_at (b ∷ bytes)).0) tree (before_to n) (omega (arith, item_length b bytes)) e taken.allowed taken.later (item_read b bytes)

-- ---- whole texts

tree_found : (text mark rest : List ℕ) (tree : Tree) → text ≡ mark ++ rest → (mark ≡ []) ⊎ (mark ≡ order_mark) → FoundBefore (length mark) false rest tree → IsTree text tree
tree_found text mark rest tree spelled marked found = record {
  mark = mark;
  prolog = found.prefix;
  root = found.root;
  after = found.after;
  marked = marked;
  proper_prolog = found.prefix_is;
  proper_root = found.root_is;
  proper_after = found.after_is;
  spelled = spelled ∙ ap (λ bs. mark ++ bs) found.spelled;
  means =
      (let sum : length (mark ++ prolog_then found.prefix []) ≡ length mark + length (prolog_then found.prefix []) = length-append mark (prolog_then found.prefix []) in
      sym (ap (λ n. root_tree n found.root) sum ∙ found.means));
}

mark_cases : (text : List ℕ) (tree : Tree) (is : Bool) → begins order_mark text ≡ is → rest_from (length text) initial (cond is (drop 3 text) text) ≡ Ok tree → IsTree text tree
mark_cases text tree true e here =
    let spelled = begins_is_prefix order_mark text e in
    let sum : 3 + length (drop 3 text) ≡ length text = omega (arith, ap length spelled) in
    tree_found text order_mark (drop 3 text) tree spelled (inr refl) (before_to (length (drop 3 text)) (length text) 3 false (drop 3 text) tree (omega arith) sum here)
mark_cases text tree false e here =
    let sum : 0 + length text ≡ length text = omega arith in
    tree_found text [] text tree refl (inl refl) (before_to (length text) (length text) 0 false text tree (omega arith) sum here)

pub tree_takes : (text : List ℕ) (tree : Tree) → outcome text ≡ Ok tree → IsTree text tree
tree_takes text tree e = mark_cases text tree (begins order_mark text) refl (rest_begins text ∙ e)
