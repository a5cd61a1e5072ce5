-- Whether every source has as many units of the em as the default source.
use Rattle.std.specs.Prelude.{ℤ, List, [], Result, Ok, Err, if◌then◌else◌}
use Rattle.std.specs.Ordering.{int_eq}
use Rattle.basics.specs.Reading.{all_pass}
use Rattle.basics.specs.declared.kinds.Kind.TheVariants.{UnitsDiffer}
use Rattle.basics.specs.declared.fault.Fault.{Fault}
use Rattle.font_sources.specs.declared.found.SourceGlyphs.{SourceGlyphs}

-- a source of other units than the default's
abbrev pub units_fault : ℤ → SourceGlyphs → Fault
units_fault units source = record {
  path = source.folder;
  spot = record { kind = UnitsDiffer; item = []; at = 0; also = 0; first = units; second = source.units };
}

unfoldable pub has_units : ℤ → SourceGlyphs → Result (Unit {0}) Fault
has_units units source = if int_eq source.units units then Ok tt else Err (units_fault units source)

-- all sources have these units, or the first that hasn't, in the document's order
abbrev pub have_units : ℤ → List SourceGlyphs → Result (Unit {0}) Fault
have_units units sources = all_pass (λ _ source. has_units units source) 0 sources
