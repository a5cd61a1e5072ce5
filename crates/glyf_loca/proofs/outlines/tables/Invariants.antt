use Rattle.std.proofs.Common.{take}
use Rattle.glyf_loca.proofs.WriterSteps.{Stand}
use Rattle.glyf_loca.proofs.outlines.tables.Given as goal

-- the glyphs so far are written
abbrev pub invariant-loop-outline : goal.invariant-loop-outline
invariant-loop-outline l = Stand (take l.outline-index l.outline-items) l.glyf.items l.offsets.items l.bounds
