use Rattle.std.proofs.Common.{◌+◌, ◌-◌, ◌↔◌, IsTrue, ℕ, subst}
use Rattle.iup_optimal.specs.BitSets.{Has}
use Rattle.iup_optimal.proofs.TableLemmas.{entry_tells}
use Rattle.iup_optimal.proofs.table.Table.reaches.Goals as goal

pub returns : goal.returns
returns c =
    let table = c.args.self.now in
    let points = table.points.now in
    let deltas = table.deltas.now in
    let tells = entry_tells points deltas table.arcs.words.items c.args.from c.args.to table.contour.some table.contour.same table.tells c.requires.ahead c.requires.within in
    let has = subst (λ (row : ℕ). IsTrue c.contains.result ↔ Has table.arcs.words.items (row + (c.args.to - c.args.from - 1))) c.row.ensures.is c.contains.ensures in
    (λ holds. tells.0 (has.0 holds), λ reach. has.1 (tells.1 reach))
