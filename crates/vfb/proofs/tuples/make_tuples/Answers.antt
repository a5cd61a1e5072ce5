use Rattle.std.specs.Global.{Vec}
use Rattle.std.proofs.Common.{◌≡◌, ◌∙◌, ℕ, List, [], ◌∷◌, Ok, Err, map, ap, sym, subst, rules, string_bytes}
use Rattle.std.proofs.lemmas.Result.{err_from_is_err_and}
use Rattle.basics.specs.Reading.{◌>>=◌}
use Rattle.commands.specs.Command.{tuples}
use Rattle.commands.specs.Words.{asked_tuples}
use Rattle.vfb.specs.Calls.{unfiltered}
use Rattle.vfb.specs.Glyph.{IsDataOf}
use Rattle.vfb.specs.Making.{counts_of, shown_file}
use Rattle.vfb.specs.Product.{File}
use Rattle.vfb.specs.Work.{glyph}
use Rattle.vfb.proofs.GlyphLemmas.{drawn_in_file}
use Rattle.vfb.proofs.StoppedLemmas.{stopped_as, stopped_tuples}
use Rattle.vfb.proofs.tuples.make_tuples.Goals as goal

-- one file of these pieces
abbrev one_file : List ℕ → List (Vec ℕ) → List File
one_file path pieces = record { path = path; pieces = map (λ piece. piece.items) pieces } ∷ []

pub returns : goal.returns
returns g c =
    let reads = c.in_ok-data.ensures in
    let bytes = c.in_ok-data.data.bytes.items in
    let out = c.args.command.now.out.now in
    let one : map shown_file c.in_ok-files.files.items ≡ record { path = out; pieces = bytes ∷ [] } ∷ [] =
    ap (map shown_file) c.in_ok-files.ensures.items ∙ ap (one_file out) c.in_ok-pieces.ensures.items in
    let said : string_bytes c.in_ok-text.text ≡ counts_of c.in_ok-data.data = search rules in
    record {
      told = reads.told;
      same = reads.same;
      gives = λ told. let makes = reads.gives told in (
        glyph makes.0,
        ap (λ reading. reading >>= λ masters. Ok (glyph masters)) (sym makes.1),
        (bytes, one, subst (IsDataOf makes.0 bytes) (sym said) makes.2),
        λ old. drawn_in_file makes.0 out bytes _ old one makes.3,
      );
      counted = reads.counted;
      named = tt;
      sure = reads.sure;
    }

pub returns-in_err-data : goal.returns-in_err-data
returns-in_err-data g c =
    let stops = err_from_is_err_and c.from_residual.result c.from_residual.ensures.1 in
    stopped_as (unfiltered (tuples (asked_tuples c.args.command.now))) c.from_residual.result c.in_err-data.field-0.0 (stops.1 ∙ ap Err stops.2)
    (stopped_tuples (asked_tuples c.args.command.now) c.in_err-data.field-0.0 c.in_err-data.ensures)
