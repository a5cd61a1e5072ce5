use Rattle.glif.proofs.PrintedDrawings.{printed_reads}
use Rattle.glif.proofs.plain.printing_law.Goals as goal

pub returns : goal.returns
returns c = printed_reads
