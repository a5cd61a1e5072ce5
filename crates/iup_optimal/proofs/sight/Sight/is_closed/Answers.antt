use Rattle.std.proofs.Common.{IsTrue}
use Rattle.iup_optimal.proofs.SightLemmas.{sight_closed}
use Rattle.iup_optimal.proofs.sight.Sight.is_closed.Goals as goal

pub returns-then-is_closed : goal.returns-then-is_closed
returns-then-is_closed c closed end admitted =
    let sight = c.args.self.now in
    let level : IsTrue sight.level → ⊥ = λ holds. absurd cc in
    let still : IsTrue sight.still → ⊥ = λ holds. absurd cc in
    sight_closed sight level still (c.is_closed.ensures c.if-is_closed.true) (c.is_closed-then-is_closed.ensures closed) end admitted
