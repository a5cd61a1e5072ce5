use Rattle.std.proofs.Common.{◌≡◌, ◌↔◌, IsTrue, FitsSigned, pos, sym, ◌∙◌, arith}
use Rattle.std.proofs.lemmas.Int.{ints}
use Rattle.std.specs.Int.{w64}
use Rattle.iup_optimal.proofs.SideLemmas.{tests_same}
use Rattle.iup_optimal.proofs.SightLemmas.{side_behind, side_ahead}
use Rattle.iup_optimal.proofs.side.Side.see.Goals as goal
use Rattle.iup_optimal.proofs.side.Side.see.Goals.{then-self, else-self}

pub returns-after-self-clause-allows : goal.returns-after-self-clause-allows
returns-after-self-clause-allows c end some =
    let step_fits : FitsSigned w64 c.args.point.step = omega (arith, ints) in
    let same = tests_same c.args.point.step (pos 0) step_fits (omega (arith, ints)) in
    let both : IsTrue c.if-self.level_behind ↔ (IsTrue c.args.self.now.level_behind × (c.args.point.step ≡ pos 0)) = elim c.if-self.branch [
      | then-self w ↦ (λ holds. (w.if-self.true, same.0 (sym w.level_behind-is ∙ holds)), λ parts. w.level_behind-is ∙ same.1 parts.1)
      | else-self w ↦ (λ holds. absurd cc, λ parts. let level : IsTrue c.args.self.now.level_behind = parts.0 in absurd cc)
    ] in
    side_behind c.args.self.now c.if-self.level_behind c.args.point end (omega (arith, ints)) some both

pub returns-else-point-le0-clause-allows : goal.returns-else-point-le0-clause-allows
returns-else-point-le0-clause-allows c end some =
    side_ahead c.args.self.now c.seeing-self.result c.seeing-self-else-point-le0.result c.args.point end (omega (arith, ints)) (c.seeing-self.ensures.allows end some) (c.seeing-self-else-point-le0.ensures.allows end)
