use Rattle.compat.proofs.Marking.{read_bases, known_bases}
use Rattle.compat.proofs.cycle.mark_bases.Goals as goal

pub mark_all-requires : goal.mark_all-requires
mark_all-requires c =
    known_bases c.args.graph.now c.args.marked.now.items c.as_slice.result.now c.args.number c.requires.closed c.requires.marks
    (read_bases c.args.graph.now c.args.number c.as_slice.result.now c.index-graph-number.result c.as_slice.ensures c.index-graph-number.is c.requires.known)
