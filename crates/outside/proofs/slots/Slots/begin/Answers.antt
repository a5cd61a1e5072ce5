-- The slot at the index that was found is the first with the path.
use Rattle.std.proofs.Common.{◌≡◌, [], Some, sym, ◌∙◌}
use Rattle.outside.specs.SlotState.{paths_of, index_of}
use Rattle.outside.proofs.SlotLists.{index_of-paths, first_at, Writes-held}
use Rattle.outside.proofs.slots.Slots.begin.Goals as goal

pub returns-clause-some : goal.returns-clause-some
returns-clause-some c =
    let slots = c.self.inside.items.items in
    let path = c.args.path.now in
    let i = c.in_ok-index.index in
    let old = c.index_mut.result.now in
    let found : index_of (paths_of c.args.self.now) path ≡ Some i = index_of-paths c.args.self.now path ∙ sym c.index_of.ensures ∙ c.in_ok-index.was in
    let first = first_at slots i path old (rw (← c.self.view_is) at found) c.index_mut.ensures.value in
    rw (← c.self.view_is) (Writes-held slots i path [] old c.begin.new.self first c.begin.ensures)

pub returns-clause-index : goal.returns-clause-index
returns-clause-index c = sym c.in_ok-index.was ∙ c.index_of.ensures ∙ sym (index_of-paths c.args.self.now c.args.path.now)

pub returns-in_err-index-clause-index : goal.returns-in_err-index-clause-index
returns-in_err-index-clause-index c =
    c.from_residual.ensures ∙ sym c.in_err-index.was ∙ c.index_of.ensures ∙ sym (index_of-paths c.args.self.now c.args.path.now)
