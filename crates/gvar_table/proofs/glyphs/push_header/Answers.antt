-- The fields stand one after another.
use Rattle.std.proofs.Common.{◌+◌, ◌*◌, ap}
use Rattle.std.proofs.lemmas.Result.{on_ok_weaker}
use Rattle.gvar_table.proofs.TableLemmas.{header_spelled}
use Rattle.gvar_table.proofs.glyphs.push_header.Goals as goal

pub returns : goal.returns
returns c =
    on_ok_weaker c.put_u32-2.result
    (λ last. header_spelled c.args.axes c.args.glyphs _ _ _ _ _ _ _ _ _ _ (ap (λ n. 24 + 4 * n) c.from.ensures) c.in_ok-put_u16.ensures.ok c.in_ok-put_u16-2.ensures.ok c.in_ok-put_u16-3.ensures.ok c.in_ok-put_u16-4.ensures.ok c.in_ok-put_u32.ensures.ok c.in_ok-put_u16-5.ensures.ok c.in_ok-put_u16-6.ensures.ok last)
    c.put_u32-2.ensures.ok
