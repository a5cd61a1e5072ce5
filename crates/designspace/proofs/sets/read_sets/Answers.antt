use Rattle.std.proofs.Common.{◌≡◌, Ok, rules}
use Rattle.markup.specs.Plain.{plain}
use Rattle.designspace.specs.Rules.{sets_of}
use Rattle.designspace.proofs.SetCounts.{sets_read}
use Rattle.designspace.proofs.sets.read_sets.Goals as goal

pub returns-clause-count : goal.returns-clause-count
unfolding sets_of
returns-clause-count c =
    let read : sets_of c.args.axes.now (plain c.args.rule.now) ≡ Ok c.in_ok-direct_first.field-0 = search rules in
    sets_read c.args.axes.now (plain c.args.rule.now) (Ok c.in_ok-direct_first.field-0) read
