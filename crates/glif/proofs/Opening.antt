-- The drawing of a tree by its tag and its elements.
use Rattle.std.proofs.Common.{◌≡◌, ℕ, Bool, true, false, List, Ok, Err, Option, Some, None, refl, ap, ◌∙◌}
use Rattle.std.specs.Prelude.{Result, codes, is_none}
use Rattle.std.specs.Str.{bytes_eq}
use Rattle.std.proofs.lemmas.Bool.{and_parts}
use Rattle.std.proofs.lemmas.Slice.Eq.{bytes_eq-Decides}
use Rattle.basics.specs.Reading.{◌>>=◌, in_turn}
use Rattle.basics.specs.declared.fault.Spot.{Spot}
use Rattle.markup_rules.specs.Tree.{Tree, children_of, is_named, name_of}
use Rattle.attributes.specs.Attributes.{needed}
use Rattle.glif.specs.declared.glyph.Seen.{Seen}
use Rattle.glif.specs.declared.shape.Drawing.{Drawing}
use Rattle.glif.specs.Glyphs.{child_of, drawing_of, drawn, format_of, nothing_seen, outline_of, outline_seen}
use Rattle.glif.specs.Opened.{is_first_outline, opened}
use Rattle.std.specs.Bool.{if◌then◌else◌}

after_tests : (format : Result (Unit {0}) Spot) (name : Result (List ℕ) Spot) (read : List ℕ → Result Drawing Spot) → (format >>= λ f. name >>= read) ≡ ((format >>= λ f. name) >>= read)
after_tests (Ok f) name read = refl
after_tests (Err e) name read = refl

chosen_by : (b : Bool) (spot : Spot) (tested : Result (List ℕ) Spot) (one : Result Drawing Spot) (read : List ℕ → Result Drawing Spot) → one ≡ (tested >>= read) → (if b then one else Err spot) ≡ ((if b then tested else Err spot) >>= read)
chosen_by true spot tested one read e = e
chosen_by false spot tested one read e = refl

pub drawing_by : (tree : Tree) → drawing_of tree ≡ (opened tree >>= λ name. in_turn child_of nothing_seen (children_of tree) >>= λ seen. Ok (drawn name seen))
unfolding drawing_of opened
drawing_by tree =
    chosen_by (is_named (codes "glyph") tree) _ _ _ (λ name. in_turn child_of nothing_seen (children_of tree) >>= λ seen. Ok (drawn name seen))
    (after_tests (format_of tree) (needed (codes "name") tree) (λ name. in_turn child_of nothing_seen (children_of tree) >>= λ seen. Ok (drawn name seen)))

-- ---- the first outline

pub none_is : {A : Type 0} (x : Option A) → is_none x ≡ true → x ≡ None
none_is None e = refl
none_is (Some y) e = cc

chosen_third : {R : Type 0} (a b c : Bool) (x y z w : R) → a ≡ false → b ≡ false → c ≡ true → (if a then x else (if b then y else (if c then z else w))) ≡ z
chosen_third a b c x y z w e f g = rw (e, f, g) refl

pub first_outline : (seen : Seen) (tree : Tree) → is_first_outline seen tree ≡ true → child_of seen tree ≡ (outline_of tree >>= λ shapes. Ok (record seen { shapes = Some shapes }))
unfolding child_of
first_outline seen tree first =
    let parts = and_parts (is_none seen.shapes) (is_named (codes "outline") tree) first in
    let name : name_of tree ≡ codes "outline" = (bytes_eq-Decides (name_of tree) (codes "outline")).0 parts.1 in
    chosen_third (is_named (codes "advance") tree) (is_named (codes "unicode") tree) (is_named (codes "outline") tree) _ _ _ _ (ap (λ n. bytes_eq n (codes "advance")) name) (ap (λ n. bytes_eq n (codes "unicode")) name) parts.1
    ∙ ap (outline_seen tree seen) (none_is seen.shapes parts.0)
