-- Which drawing each component names.
use Rattle.std.proofs.Common.{◌≡◌, ◌<◌, ℕ, ◌+◌, Bool, true, false, cond, List, [], ◌∷◌, ◌++◌, length, map, take, drop, get_or, Option, Some, None, refl, sym, ◌∙◌, ap, arith}
use Rattle.std.specs.Prelude.{is_none}
use Rattle.std.specs.List.{position_from, filter_map}
use Rattle.std.specs.Map.{update}
use Rattle.std.specs.Option.{option_map}
use Rattle.std.specs.Str.{bytes_eq}
use Rattle.std.proofs.lemmas.List.{at_drop_more, map_more}
use Rattle.std.proofs.lemmas.List.Elements.{filter_map-append}
use Rattle.std.proofs.lemmas.Grind.{common_steps}
use Rattle.glif.specs.declared.shape.Component.{Component}
use Rattle.glif.specs.declared.shape.Drawing.{Drawing}
use Rattle.compat.specs.declared.refusal.Refusal.{Refusal}
use Rattle.compat.specs.Names.{base_numbers, dangling_in, dangling_refusal, dangling_from}

take_more : {X : Type 0} (xs : List X) (i : ℕ) (d : X) → i < length xs → take (i + 1) xs ≡ take i xs ++ get_or xs i d ∷ []
take_more xs i d less = grind (arith, common_steps)

one : {X Y : Type 0} (h : X → Option Y) (x : X) (y : Y) → h x ≡ Some y → filter_map h (x ∷ []) ≡ y ∷ []
one h x y gives = rw gives refl

pub filter_map_more : {X Y : Type 0} (h : X → Option Y) (xs : List X) (i : ℕ) (x : X) (y : Y) → i < length xs → x ≡ get_or xs i x → h x ≡ Some y → filter_map h (take (i + 1) xs) ≡ filter_map h (take i xs) ++ y ∷ []
filter_map_more h xs i x y less is gives =
    ap (filter_map h) (take_more xs i x less ∙ ap (λ z. take i xs ++ z ∷ []) (sym is))
    ∙ filter_map-append h (take i xs) (x ∷ [])
    ∙ ap (λ o. filter_map h (take i xs) ++ o) (one h x y gives)

pub position_later : {X : Type 0} (p : X → Bool) (count : ℕ) (xs : List X) (i : ℕ) (x : X) → i < length xs → x ≡ get_or xs i x → p x ≡ false → position_from p count (drop i xs) ≡ position_from p (count + 1) (drop (i + 1) xs)
position_later p count xs i x less is fails =
    at_drop_more (position_from p count) xs i x less ∙ rw (← is, fails) refl

pub position_here : {X : Type 0} (p : X → Bool) (count : ℕ) (xs : List X) (i : ℕ) (x : X) → i < length xs → x ≡ get_or xs i x → p x ≡ true → position_from p count (drop i xs) ≡ Some count
position_here p count xs i x less is passes =
    at_drop_more (position_from p count) xs i x less ∙ rw (← is, passes) refl

pub base_missing : (number : List ℕ → Option ℕ) (drawing : Drawing) (items : List Component) (i : ℕ) (component : Component) → items ≡ drawing.components → i < length items → component ≡ get_or items i component
    → None ≡ number component.base → position_from (λ (component : Component). is_none (number component.base)) i (drop i drawing.components) ≡ dangling_in number drawing
    → dangling_in number drawing ≡ Some i
base_missing number drawing items i component same less is none before =
    sym before ∙ ap (λ items. position_from (λ (component : Component). is_none (number component.base)) i (drop i items)) (sym same)
    ∙ position_here (λ (component : Component). is_none (number component.base)) i items i component less is (rw (← none) refl)

pub base_found : (number : List ℕ → Option ℕ) (drawing : Drawing) (items : List Component) (i : ℕ) (component : Component) (n : ℕ) → items ≡ drawing.components → i < length items → component ≡ get_or items i component
    → Some n ≡ number component.base → position_from (λ (component : Component). is_none (number component.base)) i (drop i drawing.components) ≡ dangling_in number drawing
    → (bases new_bases : List ℕ) → bases ≡ filter_map (λ (component : Component). number component.base) (take i drawing.components) → new_bases ≡ bases ++ n ∷ []
    → (new_bases ≡ filter_map (λ (component : Component). number component.base) (take (i + 1) drawing.components))
    × (position_from (λ (component : Component). is_none (number component.base)) (i + 1) (drop (i + 1) drawing.components) ≡ dangling_in number drawing)
base_found number drawing items i component n same less is some before bases new_bases prefix longer = (
  longer ∙ ap (λ b. b ++ n ∷ []) (prefix ∙ ap (λ items. filter_map (λ (component : Component). number component.base) (take i items)) (sym same))
      ∙ sym (filter_map_more (λ (component : Component). number component.base) items i component n less is (sym some))
      ∙ ap (λ items. filter_map (λ (component : Component). number component.base) (take (i + 1) items)) same,
  ap (λ items. position_from (λ (component : Component). is_none (number component.base)) (i + 1) (drop (i + 1) items)) (sym same)
      ∙ sym (position_later (λ (component : Component). is_none (number component.base)) i items i component less is (rw (← some) refl))
      ∙ ap (λ items. position_from (λ (component : Component). is_none (number component.base)) i (drop i items)) same
      ∙ before,
)

pub named_more : (drawings : List Drawing) (i next : ℕ) (drawing : Drawing) (bytes : List ℕ) → i + 1 ≡ next → i < length drawings → bytes ≡ (get_or drawings i drawing).name
    → (old new : List ℕ → Option ℕ) (name : List ℕ) → new name ≡ update bytes_eq old bytes (Some i) name
    → old name ≡ position_from (λ (drawing : Drawing). bytes_eq drawing.name name) next (drop next drawings)
    → new name ≡ position_from (λ (drawing : Drawing). bytes_eq drawing.name name) i (drop i drawings)
named_more drawings i next drawing bytes follows less named old new name updated before =
    updated
    ∙ ap (λ o. cond (bytes_eq bytes name) (Some i) o) (before ∙ ap (λ n. position_from (λ (drawing : Drawing). bytes_eq drawing.name name) n (drop n drawings)) (sym follows))
    ∙ ap (λ b. cond (bytes_eq b name) (Some i) (position_from (λ (drawing : Drawing). bytes_eq drawing.name name) (i + 1) (drop (i + 1) drawings))) named
    ∙ sym (at_drop_more (position_from (λ (drawing : Drawing). bytes_eq drawing.name name) i) drawings i drawing less)

pub dangling_here : (number : List ℕ → Option ℕ) (drawings : List Drawing) (i index : ℕ) (drawing : Drawing) → i < length drawings → drawing ≡ get_or drawings i drawing → dangling_in number drawing ≡ Some index
    → dangling_from number i (drop i drawings) ≡ Some (dangling_refusal i index)
dangling_here number drawings i index drawing less is found =
    at_drop_more (dangling_from number i) drawings i drawing less ∙ rw (← is, found) refl

pub refused_here : (number : List ℕ → Option ℕ) (drawings : List Drawing) (i : ℕ) (drawing : Drawing) (refusal : Refusal) (found : Option ℕ) → i < length drawings → drawing ≡ get_or drawings i drawing → dangling_in number drawing ≡ found
    → option_map (dangling_refusal i) found ≡ Some refusal → dangling_from number i (drop i drawings) ≡ Some refusal
refused_here number drawings i drawing refusal None less is found none = cc
refused_here number drawings i drawing refusal (Some index) less is found some = dangling_here number drawings i index drawing less is found ∙ some

pub dangling_later : (number : List ℕ → Option ℕ) (drawings : List Drawing) (i : ℕ) (drawing : Drawing) → i < length drawings → drawing ≡ get_or drawings i drawing → dangling_in number drawing ≡ None
    → dangling_from number i (drop i drawings) ≡ dangling_from number (i + 1) (drop (i + 1) drawings)
dangling_later number drawings i drawing less is none =
    at_drop_more (dangling_from number i) drawings i drawing less ∙ rw (← is, none) refl

pub references_more : (number : List ℕ → Option ℕ) (drawings : List Drawing) (i : ℕ) (drawing : Drawing) → i < length drawings → drawing ≡ get_or drawings i drawing
    → map (base_numbers number) (take (i + 1) drawings) ≡ map (base_numbers number) (take i drawings) ++ base_numbers number drawing ∷ []
references_more number drawings i drawing less is =
    map_more (base_numbers number) drawings i drawing less ∙ ap (λ (d : Drawing). map (base_numbers number) (take i drawings) ++ base_numbers number d ∷ []) (sym is)

-- two ways to number that agree are one
pub same_numbers : (f g : List ℕ → Option ℕ) → ((name : List ℕ) → f name ≡ g name) → f ≡ g
same_numbers f g same = λ i name. same name i
