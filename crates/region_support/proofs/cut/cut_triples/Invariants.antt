use Rattle.std.proofs.Common.{◌≡◌, ◌++◌, take, drop}
use Rattle.region_support.specs.Regions.{cut_triples}
use Rattle.region_support.proofs.cut.cut_triples.Given as goal

-- the axes so far are cut, and the rest is as it was
abbrev pub invariant-loop-axis : goal.invariant-loop-axis
invariant-loop-axis l = record {
  rest : drop l.axis l.region ≡ drop l.axis l.initial.region;
  whole : take l.axis l.region ++ cut_triples (l.greatest.part, l.greatest.whole) (drop l.axis l.region) (drop l.axis l.other) ≡ cut_triples (l.greatest.part, l.greatest.whole) l.initial.region l.other;
}
