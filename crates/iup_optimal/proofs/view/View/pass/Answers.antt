use Rattle.std.proofs.Common.{◌↔◌, IsTrue, subst, sym, ◌∙◌}
use Rattle.variation_rules.specs.declared.inferred.Reference.{Reference}
use Rattle.variation_rules.specs.FontUnits.{IsReference}
use Rattle.iup_optimal.specs.Sides.{Admits, BetweenThem, x_of, y_of}
use Rattle.iup_optimal.proofs.ViewLemmas.{seen_push, arc_is_admitted}
use Rattle.iup_optimal.proofs.view.View.pass.Goals as goal
use Rattle.iup_optimal.proofs.view.View.pass.Goals.{then-admits, else-admits}

pub returns-clause-sees : goal.returns-clause-sees
returns-clause-sees c from ahead seen =
    let points = c.args.points.now in
    let deltas = c.args.deltas.now in
    let across = c.args.self.now.across in
    let upward = c.args.self.now.upward in
    seen_push points deltas from c.args.to across upward c.see.new.self c.see-2.new.self ahead seen
    c.see.ensures.sight c.see-2.ensures.sight c.see.ensures.first c.see-2.ensures.first
    (λ end. subst (λ (r : Reference). Admits c.see.new.self end ↔ (Admits across end × BetweenThem across.first end r)) c.horizontal-x.ensures.value (c.see.ensures.admits end))
    (λ end. subst (λ (r : Reference). Admits c.see-2.new.self end ↔ (Admits upward end × BetweenThem upward.first end r)) c.vertical-y.ensures.value (c.see-2.ensures.admits end))

pub returns-clause-holds : goal.returns-clause-holds
returns-clause-holds c from ahead seen =
    let points = c.args.points.now in
    let deltas = c.args.deltas.now in
    let to = c.args.to in
    let across = c.args.self.now.across in
    let upward = c.args.self.now.upward in
    let x_is = c.horizontal-x.ensures.value in
    let y_is = c.vertical-y.ensures.value in
    let is_x : IsReference (x_of points deltas to) = subst IsReference x_is c.horizontal-x.ensures.within in
    let is_y : IsReference (y_of points deltas to) = subst IsReference y_is c.vertical-y.ensures.within in
    let in_x : IsTrue c.admits.result ↔ Admits across (x_of points deltas to) = subst (λ (r : Reference). IsTrue c.admits.result ↔ Admits across r) x_is c.admits.ensures in
    let both : IsTrue c.if-admits.holds ↔ (Admits across (x_of points deltas to) × Admits upward (y_of points deltas to)) = elim c.if-admits.branch [
      | then-admits w ↦
          let in_y : IsTrue w.admits-holds.result ↔ Admits upward (y_of points deltas to) = subst (λ (r : Reference). IsTrue w.admits-holds.result ↔ Admits upward r) y_is w.admits-holds.ensures in
          (λ holds. (in_x.0 w.if-admits.true, in_y.0 (sym w.holds-is ∙ holds)), λ parts. w.holds-is ∙ in_y.1 parts.1)
      | else-admits w ↦ (λ holds. absurd cc, λ parts. let admitted = in_x.1 parts.0 in absurd cc)
    ] in
    arc_is_admitted points deltas from to across upward c.if-admits.holds seen is_x is_y both
