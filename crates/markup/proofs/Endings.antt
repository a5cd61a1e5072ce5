-- Attributes up to the end of their tag, one by one.
use Rattle.std.proofs.Common.{◌≡◌, ℕ, Bool, true, false, cond, List, [], ◌∷◌, ◌++◌, Option, Some, None, refl, sym, ap, ◌∙◌, append_assoc, append-nil}
use Rattle.std.specs.Prelude.{is_some}
use Rattle.std.specs.List.{list_any}
use Rattle.std.specs.Str.{bytes_eq}
use Rattle.std.proofs.lemmas.List.{map-append}
use Rattle.markup_rules.specs.Syntax.{firsts}
use Rattle.markup_rules.specs.Reading.{with_first, many, attribute_at}
use Rattle.markup_rules.proofs.Attributes.{names_of, with_attribute}
use Rattle.markup_rules.proofs.Fuel.{many_next, many_by}
use Rattle.markup_rules.proofs.Shorter.{attribute_shortens}
use Rattle.markup.specs.Openings.{end_at, has_end, attributes_to_end, Ending}
use Rattle.basics.specs.Optional.{◌>>=◌}

abbrev Named : Type 0
Named = List ℕ × List ℕ

abbrev Found : Type 0
Found = Option (List Named × List ℕ)

abbrev ended : List Named → Option (Bool × List ℕ) → Option Ending
ended kept end = end >>= λ e. Some ((kept, e.0), e.1)

-- those kept and those to come
abbrev beyond : List Named → Found → Option Ending
beyond kept found = found >>= λ f. ended (kept ++ firsts (names_of kept) f.0) (end_at f.1)

unfoldable pub ending_after : List Named → List ℕ → Option Ending
ending_after kept bytes = beyond kept (many has_end attribute_at bytes)

pub ending_begins : (bytes : List ℕ) → ending_after [] bytes ≡ attributes_to_end bytes
unfolding ending_after attributes_to_end
ending_begins bytes = refl

pub ending_done : (kept : List Named) (bytes : List ℕ) (slash : Bool) (rest : List ℕ) → end_at bytes ≡ Some (slash, rest) → ending_after kept bytes ≡ Some ((kept, slash), rest)
unfolding ending_after
ending_done kept bytes slash rest end =
    ap (beyond kept) (many_next has_end attribute_at attribute_shortens bytes ∙ ap (λ (o : Option (Bool × List ℕ)). many_by has_end attribute_at bytes (is_some o)) end) ∙
    (ap (ended (kept ++ [])) end ∙ ap (λ all. one all) (append-nil kept))
  where
    one : List Named → Option Ending
    one all = Some ((all, slash), rest)

seen_step : (kept : List Named) (a : Named) (later : List Named) (end : Option (Bool × List ℕ)) (seen : Bool)
    → ended (cond seen kept (kept ++ a ∷ []) ++ firsts (names_of (cond seen kept (kept ++ a ∷ []))) later) end
    ≡ ended (kept ++ cond seen (firsts (names_of kept) later) (a ∷ firsts (names_of kept ++ a.0 ∷ []) later)) end
seen_step kept a later end true = refl
seen_step kept a later end false =
    ap (λ all. ended all end)
    (ap (λ seen. (kept ++ a ∷ []) ++ firsts seen later) (map-append (λ (a : Named). a.0) kept (a ∷ [])) ∙ append_assoc kept (a ∷ []) (firsts (names_of kept ++ a.0 ∷ []) later))

one_more : (kept : List Named) (a : Named) (found : Found) → beyond (with_attribute a kept) found ≡ beyond kept (with_first a found)
one_more kept a (Some f) = seen_step kept a f.0 (end_at f.1) (list_any (bytes_eq a.0) (names_of kept))
one_more kept a None = refl

pub ending_step : (kept : List Named) (bytes : List ℕ) (a : Named) (rest : List ℕ) → end_at bytes ≡ None → attribute_at bytes ≡ Some (a, rest) → ending_after (with_attribute a kept) rest ≡ ending_after kept bytes
unfolding ending_after
ending_step kept bytes a rest more found =
    let whole = many_next has_end attribute_at attribute_shortens bytes ∙ (ap (λ (o : Option (Bool × List ℕ)). many_by has_end attribute_at bytes (is_some o)) more ∙ ap (λ o. o >>= λ x. with_first x.0 (many has_end attribute_at x.1)) found) in
    one_more kept a (many has_end attribute_at rest) ∙ sym (ap (beyond kept) whole)

pub ending_none : (kept : List Named) (bytes : List ℕ) → end_at bytes ≡ None → attribute_at bytes ≡ None → ending_after kept bytes ≡ None
unfolding ending_after
ending_none kept bytes more none =
    ap (beyond kept) (many_next has_end attribute_at attribute_shortens bytes ∙ (ap (λ (o : Option (Bool × List ℕ)). many_by has_end attribute_at bytes (is_some o)) more ∙ ap (λ o. o >>= λ x. with_first x.0 (many has_end attribute_at x.1)) none))
