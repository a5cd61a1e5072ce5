use Rattle.std.proofs.Common.{FitsSigned, to_z-of_z, arith, rules}
use Rattle.std.proofs.lemmas.Int.{ints}
use Rattle.std.specs.Int.{w64}
use Rattle.iup_optimal.specs.Sides.{Collinear}
use Rattle.iup_optimal.proofs.SideLemmas.{nearer_on_line, nearer_off_line, farther_on_line, farther_off_line, beyond_off_line}
use Rattle.iup_optimal.proofs.side.Nearest.seeing.Goals as goal
use Rattle.iup_optimal.proofs.side.Nearest.seeing.Goals.{Else-is_on_line}

off_line : (c : Else-is_on_line) → Collinear c.args.point c.args.self.at → ⊥
off_line c line = let holds = c.is_on_line.ensures.1 line in cc

pub returns-then-point-self-clause-allows : goal.returns-then-point-self-clause-allows
returns-then-point-self-clause-allows c end some =
    let off_fits : FitsSigned w64 c.args.self.off = search rules in
    simp to_z-of_z (nearer_on_line c.args.self c.args.point end c.requires.nearest c.requires.ahead some (c.is_on_line.ensures.0 c.if-is_on_line.true) (omega (arith, ints)))

pub returns-else-point-self-clause-allows : goal.returns-else-point-self-clause-allows
returns-else-point-self-clause-allows c end some =
    farther_on_line c.args.self c.args.point end c.requires.nearest c.requires.ahead some (c.is_on_line.ensures.0 c.if-is_on_line.true) (omega (arith, ints))

pub returns-then-point-self-2-clause-allows : goal.returns-then-point-self-2-clause-allows
returns-then-point-self-2-clause-allows c end some =
    let way_fits : FitsSigned w64 c.args.self.at.way = search rules in
    simp to_z-of_z (nearer_off_line c.args.self c.args.point end c.requires.nearest c.requires.ahead some (off_line (goal.at.returns-then-point-self-2-clause-allows c).Else-is_on_line) (omega (arith, ints)))

pub returns-then-point-self-3-clause-allows : goal.returns-then-point-self-3-clause-allows
returns-then-point-self-3-clause-allows c end some =
    let way_fits : FitsSigned w64 c.args.point.way = search rules in
    simp to_z-of_z (farther_off_line c.args.self c.args.point end c.requires.nearest c.requires.ahead some (off_line (goal.at.returns-then-point-self-3-clause-allows c).Else-is_on_line) (omega (arith, ints)) (omega (arith, ints)))

pub returns-else-point-self-3-clause-allows : goal.returns-else-point-self-3-clause-allows
returns-else-point-self-3-clause-allows c end some =
    beyond_off_line c.args.self c.args.point end (omega (arith, ints)) (omega (arith, ints))
