-- What a text that is kept stands for.
use Rattle.std.specs.Prelude.{ℕ, List, string_bytes}
use Rattle.basics.specs.declared.kept.Kept.{Kept}
use Rattle.basics.specs.declared.kept.Kept.TheVariants.{Short, Long}

abbrev pub kept_bytes : Kept → List ℕ
kept_bytes (Short text) = text
kept_bytes (Long text) = string_bytes text.value
