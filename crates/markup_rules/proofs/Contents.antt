-- Content, piece by piece.
use Rattle.std.proofs.Common.{◌≡◌, ℕ, ◌<◌, false, List, [], ◌∷◌, ◌++◌, length, Option, Some, None, refl, sym, ap, ◌∙◌, append_assoc, append-nil, arith}
use Rattle.std.specs.Prelude.{IfSome, nat_eq}
use Rattle.std.specs.List.{concat}
use Rattle.std.proofs.lemmas.Option.{some_pair_parts}
use Rattle.markup_rules.specs.Reading.{with_first, many, is_nil, piece_at, content_of}
use Rattle.markup_rules.proofs.Fuel.{many_next}
use Rattle.markup_rules.proofs.Shorter.{piece_shortens}
use Rattle.basics.specs.Optional.{◌>>=◌}

-- what content means after something
abbrev pub content_after : List ℕ → List ℕ → Option (List ℕ)
content_after prefix bytes = content_of bytes >>= λ text. Some (prefix ++ text)

abbrev pieces : List ℕ → Option (List (List ℕ) × List ℕ)
pieces bytes = many is_nil piece_at bytes

abbrev joined : Option (List (List ℕ) × List ℕ) → Option (List ℕ)
joined found = found >>= λ p. Some (concat p.0)

pub content_end : content_of [] ≡ Some []
unfolding content_of
content_end = ap joined (many_next is_nil piece_at piece_shortens [])

first_joined : (piece : List ℕ) (later : Option (List (List ℕ) × List ℕ)) → joined (with_first piece later) ≡ (joined later >>= λ text. Some (piece ++ text))
first_joined piece (Some later) = refl
first_joined piece None = refl

-- one piece, and the content after it
abbrev pub content_by : Option (List ℕ × List ℕ) → Option (List ℕ)
content_by found = found >>= λ p. content_of p.1 >>= λ text. Some (p.0 ++ text)

piece_joined : (found : Option (List ℕ × List ℕ)) → joined (found >>= λ p. with_first p.0 (many is_nil piece_at p.1)) ≡ content_by found
unfolding content_of
piece_joined (Some p) = first_joined p.0 (many is_nil piece_at p.1)
piece_joined None = refl

pub content_next : (b : ℕ) (bytes : List ℕ) → content_of (b ∷ bytes) ≡ content_by (piece_at (b ∷ bytes))
unfolding content_of
content_next b bytes = ap joined (many_next is_nil piece_at piece_shortens (b ∷ bytes)) ∙ piece_joined (piece_at (b ∷ bytes))

regrouped : (prefix piece : List ℕ) (text : Option (List ℕ)) → (text >>= (λ t. Some (piece ++ t)) >>= (λ t. Some (prefix ++ t))) ≡ (text >>= λ t. Some ((prefix ++ piece) ++ t))
regrouped prefix piece (Some text) = ap (λ t. Some t) (sym (append_assoc prefix piece text))
regrouped prefix piece None = refl

-- ---- steps of a loop over pieces

piece_step : (prefix bytes piece rest : List ℕ) (b : ℕ) → piece_at (b ∷ bytes) ≡ Some (piece, rest) → content_after (prefix ++ piece) rest ≡ content_after prefix (b ∷ bytes)
piece_step prefix bytes piece rest b found =
    sym (ap (λ o. o >>= λ t. Some (prefix ++ t)) (content_next b bytes ∙ ap content_by found) ∙ regrouped prefix piece (content_of rest))

pub content_step : (prefix bytes piece rest : List ℕ) → is_nil bytes ≡ false → piece_at bytes ≡ Some (piece, rest) → content_after (prefix ++ piece) rest ≡ content_after prefix bytes
content_step prefix [] piece rest some found = absurd cc
content_step prefix (b ∷ bytes) piece rest some found = piece_step prefix bytes piece rest b found

pub content_none : (prefix bytes : List ℕ) → is_nil bytes ≡ false → piece_at bytes ≡ None → content_after prefix bytes ≡ None
content_none prefix [] some none = absurd cc
content_none prefix (b ∷ bytes) some none = ap (λ o. o >>= λ t. Some (prefix ++ t)) (content_next b bytes ∙ ap content_by none)

pub content_done : (prefix bytes : List ℕ) → length bytes ≡ 0 → content_after prefix bytes ≡ Some prefix
content_done prefix [] e = ap (λ o. o >>= λ t. Some (prefix ++ t)) content_end ∙ ap (λ t. Some t) (append-nil prefix)
content_done prefix (b ∷ bytes) e = absurd cc

shorter_found : (bytes : List ℕ) (found : Option (List ℕ × List ℕ)) (piece rest : List ℕ) → IfSome found (λ r. length r.1 < length bytes) → (let o : Option (List ℕ × List ℕ) = Some (piece, rest) in found ≡ o) → length rest < length bytes
shorter_found bytes (Some p) piece rest below e =
    let less : length p.1 < length bytes = below in
    let parts = some_pair_parts p.0 piece p.1 rest e in
    omega (arith, ap length parts.1)
shorter_found bytes None piece rest below e = absurd cc

pub content_shorter : (bytes piece rest : List ℕ) → piece_at bytes ≡ Some (piece, rest) → length rest < length bytes
content_shorter bytes piece rest found = shorter_found bytes (piece_at bytes) piece rest (piece_shortens bytes) found

pub some_left : (bytes : List ℕ) → nat_eq (length bytes) 0 ≡ false → is_nil bytes ≡ false
some_left [] e = absurd cc
some_left (b ∷ bytes) e = refl
