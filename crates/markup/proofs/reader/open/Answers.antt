use Rattle.std.proofs.Common.{◌≡◌, ◌∙◌, ◌-◌, ◌<◌, ℕ, List, length, drop, map, Some, None, not, sym, ap, true, false, arith}
use Rattle.std.specs.Prelude.{Option}
use Rattle.std.proofs.lemmas.List.{take_rest}
use Rattle.markup_rules.specs.Faults.{Context, is_allowed_at, lacks_end}
use Rattle.markup_rules.specs.Outcome.{changed, context_of}
use Rattle.markup_rules.specs.Reading.{Item, Markup, Opening, item_at}
use Rattle.markup.specs.declared.tag.Attribute.{Attribute}
use Rattle.markup.specs.Openings.{opened_as, opening_at}
use Rattle.markup.specs.Views.{item_view, opening_view, attribute_view}
use Rattle.markup.proofs.Taking.{opened_step, bad_step, fails_with, few_frames, not_rooted, taken_is, refused_is}
use Rattle.markup.proofs.reader.open.Goals as goal

pub returns-in_default : goal.returns-in_default
returns-in_default g c = λ s here.
    let rest = c.args.rest.now in
    let item = item_view c.item_at.result.0 in
    let none : opening_at (drop 1 rest) ≡ None = ap opening_at (sym (take_rest rest 1)) ∙ (rw c.in_default.is at c.in_ok-opening.ensures) in
    let few : length s.frames < 64 = few_frames s _ c.depth.result here.0 c.depth.ensures (omega (arith, c.if-depth-ge-DEPTH.false)) in
    let ended : lacks_end (context_of s) (item_at rest).0 ≡ false = ap (λ (cut : Item × List ℕ). lacks_end (context_of s) cut.0) c.item_at.ensures ∙ (ap (λ (x : Context). lacks_end x item) here.0 ∙ (sym c.lacks_end.ensures ∙ c.if-lacks_end.false)) in
    fails_with c.stop-in_default.result _ _ c.stop-in_default.ensures (bad_step c.args.total s rest c.requires.opening few none ended)

pub returns-then-is_rooted : goal.returns-then-is_rooted
returns-then-is_rooted g c = λ s here.
    let rest = c.args.rest.now in
    let kept = c.opening_at.new.room.items in
    let opening : Opening = record { name = c.in-Some.opening.name.now; attributes = map attribute_view kept } in
    let m : Markup = opened_as opening c.in-Some.opening.has_slash in
    let found : opening_at (drop 1 rest) ≡ Some (m, c.in-Some.opening.rest.now) = ap opening_at (sym (take_rest rest 1)) ∙ (rw c.in-Some.is at c.in_ok-opening.ensures) in
    let few : length s.frames < 64 = few_frames s _ c.depth.result here.0 c.depth.ensures (omega (arith, c.if-depth-ge-DEPTH.false)) in
    let step = opened_step c.args.total s rest m c.in-Some.opening.rest.now c.requires.opening few found in
    let refused : is_allowed_at (context_of s) m ≡ false = not_rooted (context_of s) opening c.in-Some.opening.has_slash ∙ ap not (ap (λ (x : Context). x.rooted) here.0 ∙ (sym c.is_rooted.ensures ∙ c.if-is_rooted.true)) in
    fails_with c.stop-then-is_rooted.result _ _ c.stop-then-is_rooted.ensures (step.0 ∙ refused_is (c.args.total - length rest) m s refused)

pub returns : goal.returns
returns g c = λ s here.
    let rest = c.args.rest.now in
    let at = c.args.total - length rest in
    let kept = c.as_slice-attributes.result.now in
    let opening : Opening = record { name = c.in-Some.opening.name.now; attributes = map attribute_view kept } in
    let m : Markup = opened_as opening c.in-Some.opening.has_slash in
    let as_found : List Attribute → Option (Markup × List ℕ) = λ all. Some (opening_view all c.in-Some.opening) in
    let found : opening_at (drop 1 rest) ≡ Some (m, c.in-Some.opening.rest.now) =
    ap opening_at (sym (take_rest rest 1)) ∙ ((rw c.in-Some.is at c.in_ok-opening.ensures) ∙ ap as_found (sym c.as_slice-attributes.ensures.value)) in
    let few : length s.frames < 64 = few_frames s _ c.depth.result here.0 c.depth.ensures (omega (arith, c.if-depth-ge-DEPTH.false)) in
    let step = opened_step c.args.total s rest m c.in-Some.opening.rest.now c.requires.opening few found in
    let free : is_allowed_at (context_of s) m ≡ true = not_rooted (context_of s) opening c.in-Some.opening.has_slash ∙ ap not (ap (λ (x : Context). x.rooted) here.0 ∙ (sym c.is_rooted.ensures ∙ c.if-is_rooted.false)) in
    let allowed = ap (λ (x : Context). is_allowed_at x m) (sym here.0) ∙ free in (
      changed at m s,
      (step.0 ∙ taken_is at m s free, step.1),
      c.in_ok-take_tag.ensures s here allowed,
    )
