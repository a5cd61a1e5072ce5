-- The slot at the index is the first with its path.
use Rattle.std.proofs.Common.{length}
use Rattle.outside.proofs.SlotLists.{first_at, Fits-first, Writes-added}
use Rattle.outside.proofs.slots.Slots.add.Goals as goal

pub returns-clause-fits : goal.returns-clause-fits
returns-clause-fits c =
    let slots = c.self.inside.items.items in
    let old = c.index_mut.result.now in
    rw (← c.self.view_is) (λ path e.
    rw (Fits-first slots c.args.index path (length c.args.piece.now) old (first_at slots c.args.index path old e c.index_mut.ensures.value))
    c.add.ensures.fits)

pub returns-clause-written : goal.returns-clause-written
returns-clause-written c =
    let slots = c.self.inside.items.items in
    let old = c.index_mut.result.now in
    rw (← c.self.view_is) (λ path e.
    Writes-added slots c.args.index path c.args.piece.now old c.add.new.self (first_at slots c.args.index path old e c.index_mut.ensures.value) c.add.ensures.added)
