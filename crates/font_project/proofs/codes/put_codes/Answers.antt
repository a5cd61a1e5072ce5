use Rattle.std.proofs.Common.{◌+◌, ℕ, List, drop, sym, ap, ◌∙◌}
use Rattle.std.proofs.lemmas.List.{at_drop_more}
use Rattle.font_project.specs.Codes.{with_codes}
use Rattle.font_project.proofs.codes.put_codes.Goals as goal

pub loop-code-preserved : goal.loop-code-preserved
loop-code-preserved c =
    ap (λ (entries : List (ℕ × ℕ)). with_codes entries c.args.glyph (drop (c.loop-code.code-index + 1) c.args.own.now)) c.in_ok-insert.ensures.entries
    ∙ (sym (at_drop_more (with_codes c.loop-code.map.entries c.args.glyph) c.args.own.now c.loop-code.code-index 0 c.loop-code-test.true) ∙ c.loop-code.invariant)
