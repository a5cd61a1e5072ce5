use Rattle.std.specs.Global.{Vec}
use Rattle.std.proofs.Common.{◌≡◌, ◌∙◌, ℕ, List, [], ◌∷◌, map, ap}
use Rattle.vfb.specs.Making.{shown_file}
use Rattle.vfb.specs.Product.{File}
use Rattle.vfb.proofs.FontLemmas.{makes_font}
use Rattle.vfb.proofs.font.font_of.Goals as goal

-- one file of these pieces
abbrev one_file : List ℕ → List (Vec ℕ) → List File
one_file path pieces = record { path = path; pieces = map (λ piece. piece.items) pieces } ∷ []

pub returns : goal.returns
returns c font within is =
    let built = c.in_ok-built.built in
    let has = c.in_ok-built.ensures in
    let out = c.args.out.now in
    let pieces = map (λ piece. piece.items) built.pieces in
    let files : map shown_file c.in_ok-files.files.items ≡ record { path = out; pieces = pieces } ∷ [] =
    ap (map shown_file) c.in_ok-files.ensures.items ∙ ap (one_file out) c.into_vec.ensures in
    makes_font c.args.project.now font out _ pieces built c.requires files has.glyphs has.characters has.axes has.substitutions has.fields has.counts c.in_ok-text.ensures within is
