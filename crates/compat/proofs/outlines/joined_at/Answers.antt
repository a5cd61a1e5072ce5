use Rattle.std.proofs.Common.{◌≡◌, subst}
use Rattle.compat.specs.Flats.{HasBases, IsJoined, joined_flat}
use Rattle.compat.proofs.Made.{movable_at, one_each_at, known_at, read_references, joined_is}
use Rattle.compat.proofs.Stopping.{if_ok_too}
use Rattle.compat.proofs.outlines.joined_at.Goals as goal

pub joined-requires-clause-known : goal.joined-requires-clause-known
joined-requires-clause-known c =
    known_at c.args.drawings.now c.args.flats.now c.args.number c.as_slice.result.now c.requires.sizes
    (read_references c.args.drawings.now c.args.graph.now c.args.number c.as_slice.result.now c.index-graph-number.result c.requires.references c.requires.known c.as_slice.ensures c.index-graph-number.is)

pub joined-requires-clause-one_each : goal.joined-requires-clause-one_each
joined-requires-clause-one_each c =
    one_each_at c.args.drawings.now c.args.number c.index-drawings-number.result c.as_slice.result.now c.requires.named c.requires.known c.index-drawings-number.is
    (read_references c.args.drawings.now c.args.graph.now c.args.number c.as_slice.result.now c.index-graph-number.result c.requires.references c.requires.known c.as_slice.ensures c.index-graph-number.is)

pub joined-requires-clause-movable : goal.joined-requires-clause-movable
joined-requires-clause-movable c =
    movable_at c.args.drawings.now c.args.flats.now c.args.number c.index-drawings-number.result c.as_slice.result.now c.requires.fit c.requires.named c.requires.known c.index-drawings-number.is
    (read_references c.args.drawings.now c.args.graph.now c.args.number c.as_slice.result.now c.index-graph-number.result c.requires.references c.requires.known c.as_slice.ensures c.index-graph-number.is)
    (subst (λ g. HasBases c.args.drawings.now g c.args.flats.now c.args.number) c.requires.references c.requires.bases)

pub returns : goal.returns
returns c =
    let bases = c.as_slice.result.now in
    if_ok_too (λ flat. flat ≡ joined_flat c.args.flats.now c.index-drawings-number.result bases) (IsJoined c.args.drawings.now c.args.graph.now c.args.flats.now c.args.number) c.joined.result
    (λ flat is. joined_is c.args.drawings.now c.args.graph.now c.args.flats.now c.args.number c.index-drawings-number.result bases flat c.requires.references c.index-drawings-number.is
    (read_references c.args.drawings.now c.args.graph.now c.args.number bases c.index-graph-number.result c.requires.references c.requires.known c.as_slice.ensures c.index-graph-number.is)
    is) c.joined.ensures
