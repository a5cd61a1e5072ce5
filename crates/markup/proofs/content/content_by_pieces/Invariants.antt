use Rattle.std.proofs.Common.{◌≡◌, length}
use Rattle.markup_rules.specs.Reading.{content_of}
use Rattle.markup_rules.proofs.Contents.{content_after}
use Rattle.markup.specs.Views.{text_bytes}
use Rattle.markup.proofs.content.content_by_pieces.Given as goal

abbrev pub invariant-loop-rest : goal.invariant-loop-rest
invariant-loop-rest l = content_after (text_bytes l.text) l.rest ≡ content_of l.bytes

abbrev pub decreases-loop-rest : goal.decreases-loop-rest
decreases-loop-rest l = length l.rest
