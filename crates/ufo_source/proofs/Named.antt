-- Entries by their names: the step of a map that is made from the last entry on.
use Rattle.std.proofs.Common.{◌≡◌, ◌<◌, ℕ, ◌+◌, Bool, true, false, cond, List, length, drop, get_or, Option, Some, refl, sym, ◌∙◌, ap}
use Rattle.std.specs.Map.{update}
use Rattle.std.specs.Option.{option_map}
use Rattle.std.specs.Str.{bytes_eq}
use Rattle.std.specs.Borrow.{Bor}
use Rattle.std.proofs.lemmas.List.{at_drop_more}
use Rattle.ufo_source.specs.Naming.{entry_named}

map_cond : {X Y : Type 0} (f : X → Y) (b : Bool) (x : X) (other : Option X) → option_map f (cond b (Some x) other) ≡ cond b (Some (f x)) (option_map f other)
map_cond f true x other = refl
map_cond f false x other = refl

pub named_more : {X : Type 0} (entries : List (List ℕ × X)) (i next : ℕ) (entry : Bor (List ℕ × X)) (bytes : List ℕ) → i + 1 ≡ next → i < length entries → entry.now ≡ get_or entries i entry.now → bytes ≡ entry.now.0
    → (old new : List ℕ → Option (Bor (List ℕ × X))) (name : List ℕ) → new name ≡ update bytes_eq old bytes (Some entry) name
    → option_map (λ (entry : Bor (List ℕ × X)). entry.now) (old name) ≡ entry_named (drop next entries) name
    → option_map (λ (entry : Bor (List ℕ × X)). entry.now) (new name) ≡ entry_named (drop i entries) name
named_more {X} entries i next entry bytes follows less is named old new name updated before =
    ap (option_map (λ (entry : Bor (List ℕ × X)). entry.now)) updated
    ∙ map_cond (λ (entry : Bor (List ℕ × X)). entry.now) (bytes_eq bytes name) entry (old name)
    ∙ ap (cond (bytes_eq bytes name) (Some entry.now)) (before ∙ ap (λ n. entry_named (drop n entries) name) (sym follows))
    ∙ ap (λ b. cond (bytes_eq b name) (Some entry.now) (entry_named (drop (i + 1) entries) name)) named
    ∙ ap (λ (e : List ℕ × X). cond (bytes_eq e.0 name) (Some e) (entry_named (drop (i + 1) entries) name)) is
    ∙ sym (at_drop_more (λ rest. entry_named rest name) entries i entry.now less)
