use Rattle.std.proofs.Common.{List, Err, ap, map, ◌∙◌}
use Rattle.std.proofs.lemmas.Result.{err_from_is_err_and}
use Rattle.commands.specs.Words.{asked_build}
use Rattle.vfb.specs.Calls.{Image}
use Rattle.vfb.specs.Work.{font}
use Rattle.vfb.proofs.FontLemmas.{font_in_file}
use Rattle.vfb.proofs.StoppedLemmas.{ran_out}
use Rattle.vfb.proofs.font.make_font.Goals as goal

pub returns : goal.returns
returns g c =
    let reads = c.in_ok-project.ensures.exact in
    let command = asked_build c.args.command.now in
    record {
      told = reads.told;
      same = reads.same;
      gives = λ told.
          let made = reads.gives told in
          let makes = c.in_ok-font_of.ensures made.0 made.3 made.2 in
          (font made.0, made.1, makes, λ old. font_in_file made.0 command.out _ old makes);
      counted = reads.counted;
      named = tt;
      sure = reads.sure;
    }

pub returns-in_err-font_of : goal.returns-in_err-font_of
returns-in_err-font_of g c =
    let images : List Image = map (λ filter. (goal.GlyphFilter-dyn g (filter.vtable, filter.value)).image filter.value ((goal.GlyphFilter-dyn g (filter.vtable, filter.value)).setting filter.value)) c.args.filters.items in
    let stops = err_from_is_err_and c.from_residual-in_err-font_of.result c.from_residual-in_err-font_of.ensures.1 in
    ran_out images (asked_build c.args.command.now) c.in_ok-project.project c.from_residual-in_err-font_of.result (stops.1 ∙ ap Err stops.2) c.in_ok-project.ensures.exact
