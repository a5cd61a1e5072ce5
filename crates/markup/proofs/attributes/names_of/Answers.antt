use Rattle.std.proofs.Common.{◌≡◌, ◌∙◌, ◌+◌, ◌++◌, [], ◌∷◌, List, ℕ, map, take, sym, ap}
use Rattle.std.specs.List.{list_any}
use Rattle.std.specs.Str.{bytes_eq}
use Rattle.std.proofs.lemmas.List.{take_more}
use Rattle.std.proofs.lemmas.List.{map-append}
use Rattle.markup_rules.proofs.Attributes.{names_of}
use Rattle.markup.specs.declared.tag.Attribute.{Attribute}
use Rattle.markup.specs.Views.{attribute_view}
use Rattle.markup.proofs.NameSets.{added}
use Rattle.markup.proofs.attributes.names_of.Goals as goal

pub loop-attribute-preserved : goal.loop-attribute-preserved
loop-attribute-preserved c =
    let kept = c.args.kept.now in
    let i = c.loop-attribute.attribute-index in
    let item : Attribute = c.attribute-item.result in
    let more : take (i + 1) kept ≡ take i kept ++ item ∷ [] = take_more kept i item c.loop-attribute-test.true ∙ ap (λ (x : Attribute). take i kept ++ x ∷ []) (sym c.attribute-item.is) in
    let before = map attribute_view (take i kept) in
    let key = c.in_ok-from_str.field-0 in
    let same : key ≡ item.name.now = c.in_ok-from_str.ensures in
    let names : names_of before ++ key ∷ [] ≡ names_of (map attribute_view (take (i + 1) kept)) =
    (ap (λ name. names_of before ++ name ∷ []) same ∙
    sym (ap (λ (all : List Attribute). names_of (map attribute_view all)) more ∙ (ap names_of (map-append attribute_view (take i kept) (item ∷ [])) ∙ map-append (λ (a : List ℕ × List ℕ). a.0) before (attribute_view item ∷ [])))) in
    λ name. added c.loop-attribute.names c.insert.new.self (names_of before) key c.loop-attribute.invariant c.in_ok-insert.ensures.updates name ∙ ap (list_any (bytes_eq name)) names
