use Rattle.std.proofs.Common.{◌≡◌, ◌+◌, ◌≤◌, length, drop, sum_by, ap, ◌∙◌, arith}
use Rattle.std.proofs.lemmas.Bool.Decides.{nat_tests}
use Rattle.std.proofs.lemmas.Iterator.{YieldsList-from_chars}
use Rattle.std.proofs.lemmas.Iterator.Consumers.{YieldsList-turn, YieldsList-end}
use Rattle.std.proofs.lemmas.List.{at_drop_all, length_push}
use Rattle.std.specs.Str.{chars}
use Rattle.font_text.proofs.Units.{units_drop, units_within}
use Rattle.font_text.specs.Utf16.{unit_count, utf16_length}
use Rattle.font_text.proofs.utf16.utf16_length.Goals as goal

pub overflow_add-units : goal.overflow_add-units
overflow_add-units c =
    let turn = YieldsList-turn (YieldsList-from_chars c.args.text.now c.utf8.text cc) c.loop-character.yielded _ c.loop-character.yielded_by _ _ c.in-Some.character c.in-Some.is c.next.ensures.steps in
    let step = units_drop _ _ _ turn in
    let most = units_within c.args.text.now c.utf8.text in
    grind (arith, nat_tests)

pub loop-character-preserved : goal.loop-character-preserved
loop-character-preserved c =
    let turn = YieldsList-turn (YieldsList-from_chars c.args.text.now c.utf8.text cc) c.loop-character.yielded _ c.loop-character.yielded_by _ _ c.in-Some.character c.in-Some.is c.next.ensures.steps in
    let step = units_drop _ _ _ turn in
    let more = length_push c.loop-character.yielded c.in-Some.character in
    grind (arith, nat_tests)

pub returns-clause-value : goal.returns-clause-value
unfolding utf16_length
returns-clause-value c =
    let last = YieldsList-end (YieldsList-from_chars c.args.text.now c.utf8.text cc) c.loop-character.yielded _ c.loop-character.yielded_by _ _ c.in-None.is c.next.ensures.steps in
    let none = at_drop_all (sum_by unit_count) (chars c.args.text.now) (length c.loop-character.yielded) (omega (arith, last.1)) in
    omega arith

pub returns-clause-size : goal.returns-clause-size
returns-clause-size c =
    let most = units_within c.args.text.now c.utf8.text in
    omega arith
