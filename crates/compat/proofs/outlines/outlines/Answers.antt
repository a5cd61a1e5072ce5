use Rattle.std.proofs.Common.{◌≡◌, Some}
use Rattle.std.proofs.lemmas.Result.{err_from_is_err_and}
use Rattle.compat.specs.Names.{first_dangling}
use Rattle.compat.specs.Flattened.{IsFirstRefusal, dangling}
use Rattle.compat.proofs.Stopping.{stops_too}
use Rattle.compat.proofs.outlines.outlines.Goals as goal

pub returns-in_err-graph : goal.returns-in_err-graph
returns-in_err-graph c =
    let p = err_from_is_err_and c.from_residual.result c.from_residual.ensures.1 in
    rw (p.1, p.2) (stops_too (λ refusal. first_dangling c.args.drawings.now ≡ Some refusal) (IsFirstRefusal c.args.drawings.now) c.in_err-graph.field-0.0 (λ refusal found. dangling found) c.in_err-graph.ensures)
