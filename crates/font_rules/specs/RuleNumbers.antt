-- The rules of a document as a font has them: by the numbers of its glyphs (Designspace, "sub").
use Rattle.std.specs.Prelude.{◌≡◌, ℕ, pos, List, [], ◌∷◌, map, Option, Some, None, Result, Ok, Err, if◌then◌else◌}
use Rattle.std.specs.Map.{lookup}
use Rattle.std.specs.Str.{bytes_eq}
use Rattle.basics.specs.Reading.{◌>>=◌, each_numbered, spot_of}
use Rattle.basics.specs.declared.kinds.Kind.TheVariants.{RuleGlyphUnknown, TooManyCells}
use Rattle.basics.specs.declared.fault.Fault.{Fault}
use Rattle.rule_boxes.specs.declared.condition.Condition.{Condition}
use Rattle.rule_boxes.specs.Grid.{grid_above}
use Rattle.designspace.specs.declared.rule.Rule.{Rule}

-- ---- the numbers

-- the number of the glyph of this name
abbrev pub number_of : List (List ℕ × ℕ) → List ℕ → Option ℕ
number_of names name = lookup (bytes_eq name) names

-- a substitution names a glyph that the font hasn't; path is that of the document
abbrev pub unknown_fault : List ℕ → ℕ → ℕ → List ℕ → Fault
unknown_fault path rule sub name =
    record { path = path; spot = record { kind = RuleGlyphUnknown; item = name; at = rule; also = sub; first = pos 0; second = pos 0 } }

abbrev pub number_or : List ℕ → ℕ → ℕ → List ℕ → Option ℕ → Result ℕ Fault
number_or path rule sub name (Some number) = Ok number
number_or path rule sub name None = Err (unknown_fault path rule sub name)

-- both glyphs of a substitution, the one that is replaced first
abbrev pub pair_of : List ℕ → List (List ℕ × ℕ) → ℕ → ℕ → List ℕ × List ℕ → Result (ℕ × ℕ) Fault
pair_of path names rule sub pair =
    number_or path rule sub pair.0 (number_of names pair.0) >>= λ glyph.
    number_or path rule sub pair.1 (number_of names pair.1) >>= λ substitute.
    Ok (glyph, substitute)

-- the pairs of a rule
unfoldable pub pairs_of : List ℕ → List (List ℕ × ℕ) → ℕ → Rule → Result (List (ℕ × ℕ)) Fault
pairs_of path names number rule = each_numbered (pair_of path names number) 0 rule.subs

-- the pairs of each rule, or the first glyph that isn't there, by rule and by substitution
abbrev pub all_pairs_of : List ℕ → List (List ℕ × ℕ) → List Rule → Result (List (List (ℕ × ℕ))) Fault
all_pairs_of path names rules = each_numbered (pairs_of path names) 0 rules

-- pairs of names by the numbers of their glyphs
abbrev pub AreNumbered : List (List ℕ × ℕ) → List (List ℕ × List ℕ) → List (ℕ × ℕ) → Type 0
AreNumbered names [] [] = Unit {0}
AreNumbered names (sub ∷ subs) (pair ∷ pairs) =
    (number_of names sub.0 ≡ Some pair.0) × (number_of names sub.1 ≡ Some pair.1) × AreNumbered names subs pairs
AreNumbered names _ _ = ⊥

-- the substitutions of each rule by the numbers of their glyphs
abbrev pub AreAllNumbered : List (List ℕ × ℕ) → List Rule → List (List (ℕ × ℕ)) → Type 0
AreAllNumbered names [] [] = Unit {0}
AreAllNumbered names (rule ∷ rules) (pairs ∷ subs) = AreNumbered names rule.subs pairs × AreAllNumbered names rules subs
AreAllNumbered names _ _ = ⊥

-- ---- the boxes

abbrev pub sets_of : List Rule → List (List (List Condition))
sets_of rules = map (λ rule. rule.sets) rules

-- the grid of the rules is too fine; the product is that of the intervals of its first axes
abbrev pub grid_fault : List ℕ → ℕ → Fault
grid_fault path product = record { path = path; spot = spot_of TooManyCells [] 0 (pos product) }

abbrev pub grid_or : List ℕ → Option ℕ → Result (Unit {0}) Fault
grid_or path None = Ok tt
grid_or path (Some product) = Err (grid_fault path product)

-- the pairs of each rule; path is that of the document
unfoldable pub substitutions_of : List ℕ → List (List ℕ × ℕ) → ℕ → List Rule → Result (List (List (ℕ × ℕ))) Fault
substitutions_of path names axes rules =
    all_pairs_of path names rules >>= λ subs.
    grid_or path (grid_above axes (sets_of rules)) >>= λ _.
    Ok subs
