use Rattle.vfb.proofs.ReadingLemmas.{HasRead}
use Rattle.vfb.proofs.drawings.read_drawings.Given as goal

abbrev pub invariant-loop-one : goal.invariant-loop-one
invariant-loop-one g l = HasRead (g.S.Sources.state l.fn.sources) l.located (g.S.Sources.state l.sources) l.one-index l.drawings
