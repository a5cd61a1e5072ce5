-- The laws are the lemmas.
use Rattle.gvar_table.proofs.OneWriting.{one_writing}
use Rattle.gvar_table.proofs.TableLemmas.{one_table}
use Rattle.gvar_table.proofs.laws.spelling_law.Goals as goal

pub returns : goal.returns
returns c = record { glyph = one_writing; table = one_table }
