-- What a span that code holds stands for.
use Rattle.norm_loc.specs.Normalising.{Limits}
use Rattle.norm_loc.specs.declared.span.Span.{Span}

abbrev pub limits : Span → Limits
limits s = record { min = s.min; default = s.default; max = s.max }
