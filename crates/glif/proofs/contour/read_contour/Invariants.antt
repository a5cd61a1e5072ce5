use Rattle.std.proofs.Common.{map, take}
use Rattle.markup.specs.Plain.{plain}
use Rattle.glif.specs.Gathered.{IsContour}
use Rattle.glif.proofs.contour.read_contour.Given as goal

abbrev pub invariant-loop-element : goal.invariant-loop-element
invariant-loop-element l = IsContour l.seen (map plain (take l.element-index l.element-items))
