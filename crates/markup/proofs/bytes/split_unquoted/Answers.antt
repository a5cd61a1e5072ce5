use Rattle.std.proofs.Common.{◌∙◌, ℕ, sym, ap, subst, take}
use Rattle.std.specs.Str.{IsUtf8}
use Rattle.markup.specs.Views.{is_unquoted}
use Rattle.markup.proofs.PlainValues.{unquoted_utf8}
use Rattle.markup.proofs.bytes.split_unquoted.Goals as goal
use Rattle.basics.proofs.Runs.{prefix_of_run}

pub from_utf8_unchecked-requires : goal.from_utf8_unchecked-requires
from_utf8_unchecked-requires c =
    let bytes = c.args.bytes.now in
    let prefix = c.split_at.ensures.front ∙ (ap (λ (n : ℕ). take n bytes) c.unquoted_length.ensures.count ∙ prefix_of_run is_unquoted bytes) in
    subst IsUtf8 (sym prefix) (unquoted_utf8 bytes)
