-- The index that was found is that of the first slot with the path.
use Rattle.std.proofs.Common.{◌∙◌, sym, ap, subst, Some}
use Rattle.outside.specs.SlotState.{paths_of, path_at, IsFirst}
use Rattle.outside.proofs.SlotLists.{room_in-None, room_in-Some, path_at-index_of, IsFirst-index_of}
use Rattle.outside.proofs.sure_outputs.SureOutputsOutputs.begin.Goals as goal

pub returns-in_default-clause-no_room : goal.returns-in_default-clause-no_room
returns-in_default-clause-no_room c = room_in-None c.args.self.now.slots c.args.path.now (sym c.in_default.ensures.index)

pub invariant_of-self-2 : goal.invariant_of-self-2
invariant_of-self-2 c =
    let paths = paths_of c.args.self.now.slots in
    let here = subst (IsFirst paths) (sym c.in-Some.ensures.index) (IsFirst-index_of paths c.args.path.now) in
    record { first = subst (λ p. IsFirst p (Some c.in-Some.index)) (sym c.in-Some.ensures.some.paths) here }

pub returns-clause-has_room : goal.returns-clause-has_room
returns-clause-has_room c = room_in-Some c.args.self.now.slots c.args.path.now c.in-Some.index (sym c.in-Some.ensures.index)

pub returns-clause-path : goal.returns-clause-path
returns-clause-path c =
    ap (λ paths. path_at paths (Some c.in-Some.index)) c.in-Some.ensures.some.paths
    ∙ path_at-index_of (paths_of c.args.self.now.slots) c.args.path.now c.in-Some.index (sym c.in-Some.ensures.index)
