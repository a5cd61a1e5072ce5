-- Of codes that rise the first is the least, and the last the greatest.
use Rattle.std.proofs.Common.{◌≡◌, ℕ, zero, suc, ◌+◌, ◌-◌, ◌≤◌, ℤ, pos, false, List, [], ◌∷◌, length, get_or, fold, refl, ap, ◌∙◌, arith}
use Rattle.std.proofs.lemmas.Int.{clamps, ints}
use Rattle.std.specs.Prelude.{◌==◌}
use Rattle.std.specs.Int.{int_max, int_min}
use Rattle.glyf_loca.specs.Bounds.{greatest, least}
use Rattle.plain_tables.specs.Conditions.{CodesRise}
use Rattle.plain_tables.specs.StyleMetrics.{codes_of}

lesser : (a b : ℕ) → a ≤ b → int_min (pos a) (pos b) ≡ pos a
lesser a b le = omega (arith, ints, clamps)

greater : (a b : ℕ) → a ≤ b → int_max (pos a) (pos b) ≡ pos b
greater a b le = omega (arith, ints, clamps)

least_stays : (a from : ℕ) (codes : List (ℕ × ℕ)) → a ≤ from → CodesRise from codes → fold int_min (pos a) (codes_of codes) ≡ pos a
least_stays a from [] le rise = refl
least_stays a from (own ∷ codes) le rise =
    ap (λ (z : ℤ). fold int_min z (codes_of codes)) (lesser a own.0 (omega (arith, rise.0)))
    ∙ least_stays a (own.0 + 1) codes (omega (arith, rise.0)) rise.1

greatest_last : (own : ℕ × ℕ) (codes : List (ℕ × ℕ)) (d : ℕ × ℕ) → CodesRise (own.0 + 1) codes → fold int_max (pos own.0) (codes_of codes) ≡ pos (get_or (own ∷ codes) (length codes) d).0
greatest_last own [] d rise = refl
greatest_last own (next ∷ codes) d rise =
    ap (λ (z : ℤ). fold int_max z (codes_of codes)) (greater own.0 next.0 (omega (arith, rise.0)))
    ∙ greatest_last next codes d rise.1

pub least_code : (codes : List (ℕ × ℕ)) (d : ℕ × ℕ) → 1 ≤ length codes → CodesRise 0 codes → least (codes_of codes) ≡ pos (get_or codes 0 d).0
least_code [] d some rise = absurd (omega arith)
least_code (own ∷ codes) d some rise = least_stays own.0 (own.0 + 1) codes (omega arith) rise.1

pub greatest_code : (codes : List (ℕ × ℕ)) (d : ℕ × ℕ) → 1 ≤ length codes → CodesRise 0 codes → greatest (codes_of codes) ≡ pos (get_or codes (length codes - 1) d).0
greatest_code [] d some rise = absurd (omega arith)
greatest_code (own ∷ codes) d some rise =
    let before : length codes ≡ length (own ∷ codes) - 1 = omega arith in
    greatest_last own codes d rise.1 ∙ ap (λ (n : ℕ). pos (get_or (own ∷ codes) n d).0) before

-- a test that a list isn't empty
pub not_empty : (n : ℕ) → false ≡ (n == 0) → 1 ≤ n
not_empty zero test = absurd (cc)
not_empty (suc n) test = omega arith
