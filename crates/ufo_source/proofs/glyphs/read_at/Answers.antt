use Rattle.source_files.proofs.InFile.{kept_in_file}
use Rattle.ufo_source.specs.Limits.{IsDrawingWithin}
use Rattle.ufo_source.proofs.Drawings.{together}
use Rattle.ufo_source.proofs.glyphs.read_at.Goals as goal

pub returns-clause-within : goal.returns-clause-within
returns-clause-within g c =
    kept_in_file IsDrawingWithin c.args.path.now c.read_text.result c.in_file.result
    (together c.read_text.result c.read_text.ensures.limits c.read_text.ensures.offsets c.read_text.ensures.codes c.read_text.ensures.once) c.in_file.ensures
