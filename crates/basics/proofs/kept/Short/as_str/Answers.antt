use Rattle.std.proofs.Common.{ap, ◌∙◌, take}
use Rattle.std.specs.Str.{is_utf8}
use Rattle.std.proofs.lemmas.Str.{IsUtf8-from_is_utf8}
use Rattle.basics.proofs.kept.Short.as_str.Goals as goal

pub from_utf8_unchecked-requires : goal.from_utf8_unchecked-requires
from_utf8_unchecked-requires c =
    let bytes = c.self.inside.bytes in
    IsUtf8-from_is_utf8 (take c.from.result bytes) (ap (λ len. is_utf8 (take len bytes)) c.from.ensures ∙ c.self.invariant.1)
