-- What is read as axes: one to eight of them, no two with one tag or one name, with short names and labels.
use Rattle.std.proofs.Common.{◌≡◌, ℕ, ◌+◌, ◌≤◌, Bool, true, false, List, [], ◌∷◌, length, codes, Option, Some, None, Ok, Err, subst, arith, refl, sym, ◌∙◌}
use Rattle.std.specs.Prelude.{All, AllPairs, IfOk, Result, if◌then◌else◌, nat_lt, find, nat_le}
use Rattle.std.specs.List.{position_or_len}
use Rattle.std.proofs.lemmas.Bool.Decides.{nat_tests, not_from_Decides}
use Rattle.std.proofs.lemmas.Grind.{common_steps}
use Rattle.std.proofs.lemmas.List.Quantifiers.{all_pairs_push}
use Rattle.std.proofs.lemmas.List.Sums.{fails_before_first}
use Rattle.std.proofs.lemmas.Slice.Eq.{bytes_eq-Decides}
use Rattle.std.proofs.lemmas.List.{length_push}
use Rattle.std.proofs.lemmas.List.Elements.{All-nil, All-cons, All-append}
use Rattle.basics.specs.Reading.{Gives, in_turn}
use Rattle.basics.specs.declared.fault.Spot.{Spot}
use Rattle.basics.specs.declared.fault.Stop.{Stop}
use Rattle.markup_rules.specs.Tree.{Tree, children_of, text_of}
use Rattle.attributes.specs.Attributes.{needed}
use Rattle.attributes.proofs.Readings.{after_any, chosen, in_turn_ok, then_ok}
use Rattle.font_text.specs.Utf16.{utf16_length}
use Rattle.design_axes.specs.Axes.{AreApart, AreFew, IsShort, and_axis, axes_in, axis_of, counted, distinct, has_either, is_cross_map, none_or_cross_map, none_or_duplicate}
use Rattle.design_axes.specs.Elements.{named}
use Rattle.design_axes.specs.Names.{identity_of, is_label, label_by, label_of, name_in, short_name, tag_in}
use Rattle.design_axes.specs.Values.{mapping_of, user_limits}
use Rattle.design_axes.specs.declared.axis.Axis.{Axis}
use Rattle.design_axes.specs.declared.identity.Identity.{Identity}

-- ---- names and labels

abbrev IsBrief : List ℕ → Type 0
IsBrief text = utf16_length text ≤ 100

short_ok : (item : List ℕ) (tree : Tree) (text : List ℕ) → IfOk (short_name item tree text) IsBrief
unfolding short_name
short_ok item tree text = chosen IsBrief (nat_le (utf16_length text) 100) _ _ (λ h. grind (arith, nat_tests)) (λ _. tt)

name_ok : (tree : Tree) → IfOk (name_in tree) IsBrief
unfolding name_in
name_ok tree = after_any IsBrief (needed (codes "name") tree) _ (short_ok (codes "name") tree)

identity_ok : (axis : ℕ) (tree : Tree) → IfOk (identity_of axis tree) (λ (identity : Identity). IsBrief identity.name)
unfolding identity_of
identity_ok axis tree =
    let P : Identity → Type 0 = λ identity. IsBrief identity.name in
    after_any P _ _ (λ _. after_any P (tag_in tree) _ (λ tag. then_ok IsBrief P (name_in tree) _ (name_ok tree) (λ name brief. brief)))

label_by_ok : (name : List ℕ) (found : Option Tree) → IsBrief name → IfOk (label_by name found) IsBrief
label_by_ok name None brief = brief
label_by_ok name (Some tree) brief = short_ok (codes "labelname") tree (text_of tree)

label_ok : (name : List ℕ) (tree : Tree) → IsBrief name → IfOk (label_of name tree) IsBrief
unfolding label_of
label_ok name tree brief = label_by_ok name (find is_label (children_of tree)) brief

axis_ok : (earlier : List Axis) (tree : Tree) → IfOk (axis_of earlier tree) IsShort
unfolding axis_of
axis_ok earlier tree =
    then_ok (λ identity. IsBrief identity.name) IsShort (identity_of (length earlier) tree) _ (identity_ok (length earlier) tree)
    (λ identity brief. after_any IsShort (user_limits (length earlier) tree) _
    (λ user. after_any IsShort (distinct earlier identity) _
    (λ _. then_ok IsBrief IsShort (label_of identity.name tree) _ (label_ok identity.name tree brief)
    (λ label short. after_any IsShort (mapping_of (length earlier) user tree) _
    (λ mapping. record { name = brief; label = short })))))

and_axis_ok : (earlier : List Axis) (tree : Tree) → All IsShort earlier → IfOk (and_axis earlier tree) (All IsShort)
and_axis_ok earlier tree before =
    then_ok IsShort (All IsShort) (axis_of earlier tree) _ (axis_ok earlier tree)
    (λ axis short. All-append IsShort earlier (axis ∷ []) before (All-cons IsShort axis [] short (All-nil IsShort)))

-- ---- how many there are

-- one to eight of whatever they are
abbrev IsFew : {A : Type 0} → List A → Type 0
IsFew xs = (1 ≤ length xs) × (length xs ≤ 8)

counted_ok : (trees : List Tree) → IfOk (counted trees) (λ _. IsFew trees)
unfolding counted
counted_ok [] = tt
counted_ok (tree ∷ trees) =
    chosen (λ _. IsFew (tree ∷ trees)) (nat_le (length (tree ∷ trees)) 8) _ _ (λ h. (omega arith, grind (arith, nat_tests))) (λ _. tt)

weaker : {A F : Type 0} (P Q : A → Type 0) (r : Result A F) → IfOk r P → ((x : A) → P x → Q x) → IfOk r Q
weaker P Q (Ok x) p less = less x p
weaker P Q (Err e) p less = tt

one_more : (earlier : List Axis) (tree : Tree) → IfOk (and_axis earlier tree) (λ axes. length axes ≡ length earlier + 1)
one_more earlier tree =
    after_any (λ axes. length axes ≡ length earlier + 1) (axis_of earlier tree) _ (λ axis. length_push earlier axis)

grown : (earlier : List Axis) (trees : List Tree) → IfOk (in_turn and_axis earlier trees) (λ axes. length axes ≡ length earlier + length trees)
grown earlier [] = omega arith
grown earlier (tree ∷ trees) =
    then_ok (λ axes. length axes ≡ length earlier + 1) (λ axes. length axes ≡ length earlier + length (tree ∷ trees)) (and_axis earlier tree) _ (one_more earlier tree)
    (λ next one. weaker (λ axes. length axes ≡ length next + length trees) (λ axes. length axes ≡ length earlier + length (tree ∷ trees)) _ (grown next trees) (λ axes more. omega arith))

all_ok : {A F : Type 0} (P Q R S : A → Type 0) (r : Result A F) → IfOk r P → IfOk r Q → IfOk r R → ((x : A) → P x → Q x → R x → S x) → IfOk r S
all_ok P Q R S (Ok x) p q r all = all x p q r
all_ok P Q R S (Err e) p q r all = tt

-- ---- no two are alike

none_found : (n k : ℕ) (b : Bool) (P : Type 0) → (b ≡ false → P) → IfOk (none_or_duplicate n (if b then Some k else None)) (λ _. P)
none_found n k true P p = tt
none_found n k false P p = p refl

distinct_ok : (earlier : List Axis) (identity : Identity) → IfOk (distinct earlier identity) (λ _. All (λ axis. has_either identity axis ≡ false) earlier)
unfolding distinct
distinct_ok earlier identity =
    let first = position_or_len (has_either identity) earlier in
    none_found (length earlier) first (nat_lt first (length earlier)) (All (λ axis. has_either identity axis ≡ false) earlier)
    (λ none k d less. fails_before_first (has_either identity) earlier k d (grind (arith, nat_tests)))

apart_by : (identity : Identity) (axis other : Axis) → identity.tag ≡ axis.tag → identity.name ≡ axis.name → has_either identity other ≡ false → AreApart other axis
apart_by identity axis other tag name neither = record {
  tags = λ same. not_from_Decides _ (bytes_eq-Decides other.tag identity.tag) (grind (arith, common_steps)) (same ∙ sym tag);
  names = λ same. not_from_Decides _ (bytes_eq-Decides other.name identity.name) (grind (arith, common_steps)) (same ∙ sym name);
}

apart_ok : (earlier : List Axis) (tree : Tree) → IfOk (axis_of earlier tree) (λ axis. All (λ other. AreApart other axis) earlier)
unfolding axis_of
apart_ok earlier tree =
    let P : Axis → Type 0 = λ axis. All (λ other. AreApart other axis) earlier in
    after_any P (identity_of (length earlier) tree) _
    (λ identity. after_any P (user_limits (length earlier) tree) _
    (λ user. then_ok (λ _. All (λ axis. has_either identity axis ≡ false) earlier) P (distinct earlier identity) _ (distinct_ok earlier identity)
    (λ _ neither. after_any P (label_of identity.name tree) _
    (λ label. after_any P (mapping_of (length earlier) user tree) _
    (λ mapping k d less. apart_by identity _ _ refl refl (neither k d less))))))

and_axis_apart : (earlier : List Axis) (tree : Tree) → AllPairs AreApart earlier → IfOk (and_axis earlier tree) (AllPairs AreApart)
and_axis_apart earlier tree before =
    then_ok (λ axis. All (λ other. AreApart other axis) earlier) (AllPairs AreApart) (axis_of earlier tree) _ (apart_ok earlier tree)
    (λ axis apart. all_pairs_push AreApart earlier axis before apart)

-- ---- all of it

record AreRead (axes : List Axis) : Type 0 where
  count : AreFew axes
  apart : AllPairs AreApart axes
  brief : All IsShort axes

few_ok : (trees : List Tree) → IsFew trees → IfOk (in_turn and_axis [] trees) AreRead
few_ok trees few =
    let short = in_turn_ok (All IsShort) and_axis and_axis_ok [] trees (All-nil IsShort) in
    let apart = in_turn_ok (AllPairs AreApart) and_axis and_axis_apart [] trees (λ i j d less below. absurd (omega arith)) in
    all_ok (λ axes. length axes ≡ length {A = Axis} [] + length trees) (AllPairs AreApart) (All IsShort) AreRead _ (grown [] trees) apart short
    (λ axes count apart brief. record { count = record { some = omega (arith, count, few.0); few = omega (arith, count, few.1) }; apart = apart; brief = brief })

in_ok : (tree : Tree) → IfOk (axes_in tree) AreRead
unfolding axes_in
in_ok tree =
    then_ok (λ _. IsFew (named (codes "axis") tree)) AreRead (counted (named (codes "axis") tree)) _ (counted_ok (named (codes "axis") tree))
    (λ _ few. then_ok AreRead AreRead (in_turn and_axis [] (named (codes "axis") tree)) _ (few_ok (named (codes "axis") tree) few)
    (λ axes both. after_any AreRead (none_or_cross_map (find is_cross_map (children_of tree))) _ (λ _. both)))

-- what a call read that gives them
read_ok : (reading : Result (List Axis) Spot) (result : Result (List Axis) Stop) → Gives (λ axes. axes) result reading → IfOk reading AreRead → IfOk result AreRead
read_ok reading (Ok axes) gives read = let P : Result (List Axis) Spot → Type 0 = λ r. IfOk r AreRead in subst P gives read
read_ok reading (Err stop) gives read = tt

pub few_read : (designspace : Tree) (result : Result (List Axis) Stop) → Gives (λ axes. axes) result (axes_in designspace) → IfOk result AreFew
few_read tree result gives = weaker AreRead AreFew result (read_ok (axes_in tree) result gives (in_ok tree)) (λ axes read. read.count)

pub short_read : (designspace : Tree) (result : Result (List Axis) Stop) → Gives (λ axes. axes) result (axes_in designspace) → IfOk result (All IsShort)
short_read tree result gives = weaker AreRead (All IsShort) result (read_ok (axes_in tree) result gives (in_ok tree)) (λ axes read. read.brief)

pub apart_read : (designspace : Tree) (result : Result (List Axis) Stop) → Gives (λ axes. axes) result (axes_in designspace) → IfOk result (AllPairs AreApart)
apart_read tree result gives = weaker AreRead (AllPairs AreApart) result (read_ok (axes_in tree) result gives (in_ok tree)) (λ axes read. read.apart)
