use Rattle.std.proofs.Common.{◌≡◌, ◌+◌, ◌-◌, ◌<◌, ◌≤◌, ◌↔◌, length, ℕ, sym, subst, arith}
use Rattle.iup.specs.Bounds.{Reaches}
use Rattle.iup_optimal.specs.BitSets.{Has, IsLeastFrom}
use Rattle.iup_optimal.proofs.TableLemmas.{entry_tells}
use Rattle.iup_optimal.proofs.table.Table.next_end.Goals as goal
use Rattle.iup_optimal.proofs.table.Table.next_end.Goals.{After-next}

-- the entries of the steps from the place
entry : (c : After-next) → (z : ℕ) → c.args.from < z → z ≤ c.args.from + length c.args.self.now.points.now → Has c.args.self.now.arcs.words.items (c.row-row.result + (z - c.args.from - 1)) ↔ Reaches c.args.self.now.points.now c.args.self.now.deltas.now c.args.from z
entry c z ahead within =
    let table = c.args.self.now in
    subst (λ (row : ℕ). Has table.arcs.words.items (row + (z - c.args.from - 1)) ↔ Reaches table.points.now table.deltas.now c.args.from z) (sym c.row-row.ensures.is)
    (entry_tells table.points.now table.deltas.now table.arcs.words.items c.args.from z table.contour.some table.contour.same table.tells ahead within)

pub returns-in-Some : goal.returns-in-Some
returns-in-Some c =
    let points = c.args.self.now.points.now in
    let deltas = c.args.self.now.deltas.now in
    let from = c.args.from in
    let row = c.row-row.result in
    let next : ℕ = c.in-Some.next in
    let found : IsLeastFrom c.args.self.now.arcs.words.items (row + (c.args.low - from - 1)) (row + length points) next = c.in-Some.ensures in
    let room = c.row-row.ensures.room in
    let end : ℕ = from + (next - row) + 1 in
    let not_below = found.not_below in
    let below = found.below in
    let place : row + (end - from - 1) ≡ next = omega arith in
    let tells = entry (goal.at.returns-in-Some c).After-next in
    record {
      not_before = omega arith;
      reach = (tells end (omega arith) (omega arith)).0 (subst (λ m. Has c.args.self.now.arcs.words.items m) (sym place) found.has);
      nearest = λ z low before reach. found.none_before (row + (z - from - 1)) (omega arith) (omega arith) ((tells z (omega arith) (omega arith)).1 reach);
    }

pub returns-in-None : goal.returns-in-None
returns-in-None c z low reach =
    let row = c.row-row.result in
    let within = reach.within in
    let tells = entry (goal.at.returns-in-None c).After-next in
    c.in-None.ensures (row + (z - c.args.from - 1)) (omega arith) (omega arith) ((tells z (omega arith) (omega arith)).1 reach)
