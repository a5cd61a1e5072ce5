use Rattle.std.proofs.Common.{subst, sym}
use Rattle.std.specs.Map.{keys_of}
use Rattle.ufo_source.specs.Contents.{contents_path}
use Rattle.ufo_source.specs.Limits.{AreGlyphNames}
use Rattle.ufo_source.proofs.Ordered.{names_are}
use Rattle.ufo_source.proofs.contents.read_all_contents.Goals as goal

pub returns-clause-names : goal.returns-clause-names
returns-clause-names g c =
    subst (λ entries. AreGlyphNames (keys_of entries)) (sym c.in_ok-in_byte_order.ensures)
    (names_are c.in_ok-entries.entries c.as_slice.result.now c.as_slice-2.result.now (contents_path c.args.folder.now c.args.layer.now) c.args.folder.now c.as_slice.ensures c.as_slice-2.ensures c.in_ok-check_names.ensures.answers c.in_ok-check_few.ensures.answers)
