use Rattle.std.proofs.Common.{ℕ, List, Vec, Global, map}
use Rattle.std.specs.List.{concat}
use Rattle.font_build.proofs.DesignLemmas.{has_axes}
use Rattle.font_build.proofs.FieldLemmas.{has_characters, has_fields}
use Rattle.font_build.proofs.FileLemmas.{in_file}
use Rattle.font_build.proofs.GlyphLemmas.{has_glyphs}
use Rattle.font_build.proofs.SubstitutionLemmas.{has_substitutions_of}
use Rattle.font_build.proofs.building.build.Goals as goal

pub returns-clause-glyphs : goal.returns-clause-glyphs
returns-clause-glyphs c =
    let project = c.args.project.now in
    let tables = c.in_ok-tables.tables in
    let are = c.in_ok-tables.ensures in
    let file : List ℕ = concat (map (λ (piece : Vec ℕ Global). piece.items) c.in_ok-pieces.pieces) in
    let own = in_file tables file c.in_ok-pieces.ensures.holds are.fixed.plain in
    has_glyphs project tables file c.requires are own

pub returns-clause-characters : goal.returns-clause-characters
returns-clause-characters c =
    let project = c.args.project.now in
    let tables = c.in_ok-tables.tables in
    let are = c.in_ok-tables.ensures in
    let file : List ℕ = concat (map (λ (piece : Vec ℕ Global). piece.items) c.in_ok-pieces.pieces) in
    let own = in_file tables file c.in_ok-pieces.ensures.holds are.fixed.plain in
    has_characters project tables file are own

pub returns-clause-axes : goal.returns-clause-axes
returns-clause-axes c =
    let project = c.args.project.now in
    let tables = c.in_ok-tables.tables in
    let are = c.in_ok-tables.ensures in
    let file : List ℕ = concat (map (λ (piece : Vec ℕ Global). piece.items) c.in_ok-pieces.pieces) in
    let own = in_file tables file c.in_ok-pieces.ensures.holds are.fixed.plain in
    has_axes project tables file are.design own

pub returns-clause-substitutions : goal.returns-clause-substitutions
returns-clause-substitutions c =
    let project = c.args.project.now in
    let tables = c.in_ok-tables.tables in
    let are = c.in_ok-tables.ensures in
    let file : List ℕ = concat (map (λ (piece : Vec ℕ Global). piece.items) c.in_ok-pieces.pieces) in
    let own = in_file tables file c.in_ok-pieces.ensures.holds are.fixed.plain in
    has_substitutions_of project tables file c.requires are c.in_ok-pieces.ensures.holds.is_font own

pub returns-clause-fields : goal.returns-clause-fields
returns-clause-fields c =
    let project = c.args.project.now in
    let tables = c.in_ok-tables.tables in
    let are = c.in_ok-tables.ensures in
    let file : List ℕ = concat (map (λ (piece : Vec ℕ Global). piece.items) c.in_ok-pieces.pieces) in
    let own = in_file tables file c.in_ok-pieces.ensures.holds are.fixed.plain in
    has_fields project tables file are own c.in_ok-pieces.ensures.holds.is_font c.in_ok-pieces.ensures.tags
