use Rattle.std.proofs.Common.{◌≡◌, ℕ, Option, None, IfSome, arith}
use Rattle.std.proofs.lemmas.List.{length_push}
use Rattle.std.proofs.lemmas.List.Elements.{All-push}
use Rattle.fixpoint.specs.declared.plane.Pair.{Pair}
use Rattle.variation_rules.specs.DrawnOutline.{named_delta}
use Rattle.variation_rules.specs.FontUnits.{AreFWords}
use Rattle.variation_rules.proofs.FillingLemmas.{each_pushed, named_within}
use Rattle.variation_rules.proofs.filling.given_deltas.Goals as goal

pub loop-point-preserved : goal.loop-point-preserved
loop-point-preserved c =
    let given = c.loop-point.given.items in
    let point = c.loop-point.point in
    let points = c.args.tuple.now.points in
    let deltas = c.args.tuple.now.deltas in
    let is : c.named.result ≡ named_delta points deltas point = c.named.ensures in
    let inside : IfSome c.named.result AreFWords = rw is (named_within AreFWords points deltas point c.requires) in
    rw c.in_ok-push.ensures.items (record {
      count = omega (arith, length_push given c.named.result);
      each = each_pushed (λ (i : ℕ) (delta : Option Pair). delta ≡ named_delta points deltas i) given c.named.result None point c.loop-point.invariant.count c.loop-point.invariant.each is;
      within = All-push (λ (delta : Option Pair). IfSome delta AreFWords) given c.named.result c.loop-point.invariant.within inside;
    })
