-- The drawings that components name, by number, and the first component that names none.
use Rattle.std.specs.Prelude.{ℕ, ◌+◌, pos, List, [], ◌∷◌, map, Option, None, is_none}
use Rattle.std.specs.Option.{option_or, option_map}
use Rattle.std.specs.List.{position_from, filter_map}
use Rattle.std.specs.Str.{bytes_eq}
use Rattle.std.specs.HashMap.{HashMap, get_by}
use Rattle.std.specs.Borrow.{Bor}
use Rattle.basics.specs.declared.kinds.Kind.TheVariants.{DanglingComponent}
use Rattle.glif.specs.declared.shape.Component.{Component}
use Rattle.glif.specs.declared.shape.Drawing.{Drawing}
use Rattle.compat.specs.declared.refusal.Refusal.{Refusal}

-- the number of the first drawing of this name
abbrev pub number_of : List Drawing → List ℕ → Option ℕ
number_of drawings name = position_from (λ (drawing : Drawing). bytes_eq drawing.name name) 0 drawings

-- the number that a map by name gives a name
abbrev pub number_in : {S : Type 0} → HashMap (Bor (List ℕ)) ℕ S → List ℕ → Option ℕ
number_in numbers name = get_by (λ (key : Bor (List ℕ)). bytes_eq name key.now) numbers

-- the numbers of the bases of a drawing's components, as `number` gives them
abbrev pub base_numbers : (List ℕ → Option ℕ) → Drawing → List ℕ
base_numbers number drawing = filter_map (λ (component : Component). number component.base) drawing.components

-- for each drawing the numbers of the drawings that it has as components
abbrev pub references : List Drawing → List (List ℕ)
references drawings = map (base_numbers (number_of drawings)) drawings

-- the first component whose base has no number
abbrev pub dangling_in : (List ℕ → Option ℕ) → Drawing → Option ℕ
dangling_in number drawing = position_from (λ (component : Component). is_none (number component.base)) 0 drawing.components

abbrev pub dangling_refusal : ℕ → ℕ → Refusal
dangling_refusal number component = record { drawing = number; kind = DanglingComponent; at = component; first = pos 0 }

-- the first such component of drawings of which the first has this number
abbrev pub dangling_from : (List ℕ → Option ℕ) → ℕ → List Drawing → Option Refusal
dangling_from number count [] = None
dangling_from number count (drawing ∷ drawings) =
    option_or (option_map (dangling_refusal count) (dangling_in number drawing)) (dangling_from number (count + 1) drawings)

-- the first component whose base is no drawing, by drawing and component
abbrev pub first_dangling : List Drawing → Option Refusal
first_dangling drawings = dangling_from (number_of drawings) 0 drawings
