use Rattle.std.proofs.Common.{◌≡◌, drop}
use Rattle.basics.specs.Reading.{all_pass}
use Rattle.font_project.specs.Units.{has_units, have_units}
use Rattle.font_project.proofs.units.have_units.Given as goal

abbrev pub invariant-loop-source : goal.invariant-loop-source
invariant-loop-source l = have_units l.units l.sources ≡ all_pass (λ _ source. has_units l.units source) l.source-index (drop l.source-index l.sources)
