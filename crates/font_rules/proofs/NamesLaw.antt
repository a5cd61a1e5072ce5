-- Boxes and numbers make of a glyph what the rules make of its name.
use Rattle.std.proofs.Common.{◌∙◌, ap, sym, Some}
use Rattle.std.specs.Prelude.{nat_eq}
use Rattle.rule_boxes.proofs.BoxLaws.{substituted_is_ruled}
use Rattle.font_rules.specs.Laws.{SubstitutesByName}
use Rattle.font_rules.specs.RuleNumbers.{sets_of}
use Rattle.font_rules.proofs.Renaming.{one_each, ruled_has}

pub substitutes_by_name : SubstitutesByName
substitutes_by_name = λ names rules subs axes cells at name glyph differ are boxes place is.
    ruled_has names differ rules subs are at name glyph is
    ∙ ap Some (sym (substituted_is_ruled nat_eq (sets_of rules) subs cells at glyph (one_each names rules subs are) (boxes.lists at place)))
