use Rattle.std.proofs.Common.{◌≡◌, ◌∙◌, List, ℕ, ap, take, length, ◌++◌, true}
use Rattle.std.specs.Str.{is_utf8, IsUtf8}
use Rattle.std.proofs.lemmas.Str.{is_utf8-from_IsUtf8}
use Rattle.std.proofs.Math.Seq.{take-append_seam}
use Rattle.basics.proofs.kept.Short.from_str.Goals as goal

-- a text that is copied to the start of other bytes stands there
utf8_prefix : (text copied rest : List ℕ) → copied ≡ text → IsUtf8 text → is_utf8 (take (length text) (copied ++ rest)) ≡ true
utf8_prefix text copied rest same utf8 =
    ap (λ bytes. is_utf8 (take (length text) (bytes ++ rest))) same ∙ (ap is_utf8 (take-append_seam text rest) ∙ is_utf8-from_IsUtf8 text utf8)

pub invariant_of-result : goal.invariant_of-result
invariant_of-result c =
    (c.requires, utf8_prefix c.args.text.now c.copy_from_slice.new.self _ (c.copy_from_slice.ensures.after ∙ c.as_bytes.ensures.value) c.utf8.text)
