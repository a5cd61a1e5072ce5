use Rattle.std.proofs.Common.{◌+◌, ◌++◌, map, take, drop, subst, sym, ap, ◌∙◌, arith}
use Rattle.std.specs.Prelude.{IsSome}
use Rattle.std.specs.List.{concat}
use Rattle.outside.specs.Files.{put}
use Rattle.vfb.proofs.FileLemmas.{add-held, joined_more, joined_all, cut_in_piece, full_in_piece, rises_after, writes_cut}
use Rattle.vfb.proofs.writing.write_pieces.Goals as goal

pub loop-piece-preserved : goal.loop-piece-preserved
loop-piece-preserved g c =
    let before = c.loop-piece.invariant in
    let append = c.in_ok-append.ensures in
    let pieces = c.args.pieces.now in
    let prefix = concat (map (λ piece. piece.items) (take c.loop-piece.piece-index pieces)) in
    record {
      told = λ told. append.told (before.told told);
      is_begun = subst IsSome (sym append.begun) before.is_begun;
      at = λ told. append.begun ∙ before.at told;
      held = λ told.
          append.ok (before.told told)
          ∙ (add-held _ _ _ c.args.path.now prefix _ (before.held told) (before.at told)
          ∙ ap (put _ c.args.path.now) (ap (λ bytes. prefix ++ bytes) c.as_slice.ensures.value
          ∙ joined_more (λ piece. piece.items) pieces c.loop-piece.piece-index c.piece-item.result c.loop-piece-test.true c.piece-item.is));
      counted = omega (arith, before.counted, append.counted);
      sure = λ sure. ((append.sure (before.sure sure).0).0, (append.sure (before.sure sure).0).1 ∙ (before.sure sure).1);
    }

-- a piece that fails cuts the file short, after the pieces before it
pub returns-in_err-append : goal.returns-in_err-append
returns-in_err-append g c =
    let before = c.loop-piece.invariant in
    let append = c.in_err-append.ensures in
    let pieces = c.args.pieces.now in
    let prefix = concat (map (λ piece. piece.items) (take c.loop-piece.piece-index pieces)) in
    let later = concat (map (λ piece. piece.items) (drop (c.loop-piece.piece-index + 1) pieces)) in
    let all = ap (λ bytes. (prefix ++ bytes) ++ later) c.as_slice.ensures.value
    ∙ joined_all (λ piece. piece.items) pieces c.loop-piece.piece-index c.piece-item.result c.loop-piece-test.true c.piece-item.is in
    writes_cut c.from_residual-in_err-append.result c.from_residual-in_err-append.ensures.0
    (λ told. append.told (before.told told))
    (λ told. cut_in_piece _ _ _ _ c.args.path.now prefix _ later _ (before.held told) (before.at told) all (append.err (before.told told)))
    (rises_after _ _ _ before.counted append.counted)
    (λ sure. ((append.sure (before.sure sure).0).0, (append.sure (before.sure sure).0).1 ∙ (before.sure sure).1))
    (λ sure told. full_in_piece _ _ _ _ c.args.path.now prefix _ later _ (before.sure sure).1 (before.held told) all
    (append.full (before.sure sure).0 (before.told told) c.args.path.now (before.at told)))
