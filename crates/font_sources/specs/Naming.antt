-- Names that are found by a map.
use Rattle.std.specs.Prelude.{ℕ, List, Option}
use Rattle.std.specs.List.{position_from}
use Rattle.std.specs.Str.{bytes_eq}
use Rattle.std.specs.Borrow.{Bor}
use Rattle.std.specs.HashMap.{HashMap, get_by}

-- the position of the first name that is this one
abbrev pub position_of : List (List ℕ) → List ℕ → Option ℕ
position_of names name = position_from (λ other. bytes_eq other name) 0 names

-- the position that a map keeps at a name
abbrev pub position_in : {S : Type 0} → HashMap (Bor (List ℕ)) ℕ S → List ℕ → Option ℕ
position_in positions name = get_by (λ (key : Bor (List ℕ)). bytes_eq name key.now) positions
