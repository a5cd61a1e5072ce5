use Rattle.std.proofs.Common.{◌≡◌, ℕ, Bool, true, false, Ok, Err, OnOk, Some, None, refl, sym, ap, cond, ◌∙◌}
use Rattle.std.specs.Prelude.{Result}
use Rattle.std.specs.Bool.{then_some}
use Rattle.std.specs.Option.{option_or}
use Rattle.glif.specs.Contours.{ends_on, is_line}
use Rattle.glif.proofs.Gathering.{later_drawn, nil_test}
use Rattle.glif.proofs.contour.Drawn.push.Goals as goal

where_ok : {A E : Type 0} {P Q : Type 0} (r : Result A E) → OnOk r P → (P → Q) → OnOk r Q
where_ok (Ok x) p f = f p
where_ok (Err e) p f = tt

some_if : (b : Bool) (at : ℕ) → then_some b at ≡ cond b (Some at) None
some_if true at = refl
some_if false at = refl

pub returns : goal.returns
returns c = λ trees tree before kind at points.
    where_ok c.push-2.result c.push-2.ensures.ok (λ now. later_drawn trees tree c.args.self.now _ c.args.point_type c.args.at c.args.point before kind at points (sym (nil_test c.args.self.now.points) ∙ (sym c.is_empty.ensures ∙ c.if-is_empty.false)) now refl refl
    (c.later_line_with-self.ensures ∙ ap (λ found. cond (ends_on c.args.self.now.points) c.args.self.now.later_line (option_or c.args.self.now.later_line found)) (c.then_some-line.ensures ∙ (ap (λ b. then_some b c.args.at) c.is_line.ensures ∙ some_if (is_line c.args.point_type) c.args.at))))
