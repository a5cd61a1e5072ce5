use Rattle.std.proofs.Common.{◌≡◌, ◌∙◌, ◌-◌, List, ℕ, Ok, length, sym, ap, subst, true, false}
use Rattle.std.proofs.lemmas.List.{take_rest}
use Rattle.std.specs.Prelude.{◌&&◌, nat_le}
use Rattle.markup_rules.specs.Faults.{Context, is_allowed_at, lacks_end}
use Rattle.markup_rules.specs.Outcome.{changed, context_of}
use Rattle.markup_rules.specs.Reading.{Item, item_at, markup_of}
use Rattle.markup.specs.Openings.{IsNoOpening}
use Rattle.markup.specs.Views.{item_view, markup_view}
use Rattle.markup.proofs.Prefixes.{unopened}
use Rattle.markup.proofs.Taking.{no_opening_step, taken_is}
use Rattle.markup.proofs.reader.pass.Goals as goal

pub markup_of-requires : goal.markup_of-requires
markup_of-requires g c = subst IsNoOpening (ap (λ (cut : Item × List ℕ). cut.0) c.item_at.ensures) (unopened c.args.rest.now c.requires.opening)

pub returns : goal.returns
returns g c = λ s here.
    let rest = c.args.rest.now in
    let at = c.args.total - length rest in
    let item = item_view c.item_at.result.0 in
    let m = markup_view c.in_ok-markup.markup in
    let lacks : lacks_end (context_of s) (item_at rest).0 ≡ false = ap (λ (cut : Item × List ℕ). lacks_end (context_of s) cut.0) c.item_at.ensures ∙ (ap (λ (x : Context). lacks_end x item) here.0 ∙ (sym c.lacks_end.ensures ∙ c.if-lacks_end.false)) in
    let means : markup_of (item_at rest).0 ≡ m = ap (λ (cut : Item × List ℕ). markup_of cut.0) c.item_at.ensures ∙ sym c.in_ok-markup.ensures in
    let allowed : is_allowed_at (context_of s) m ≡ true = ap (λ (x : Context). is_allowed_at x m) here.0 ∙ (sym c.allows.ensures ∙ c.if-not-allows.false) in
    let follows : c.item_at.result.1.now ≡ (item_at rest).1 = sym (ap (λ (cut : Item × List ℕ). cut.1) c.item_at.ensures) in (
      changed at m s,
      (no_opening_step c.args.total s rest m c.requires.opening lacks means ∙ taken_is at m s allowed, follows),
      c.in_ok-take.ensures at s here,
    )
