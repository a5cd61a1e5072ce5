-- ASCII is UTF-8.
use Rattle.std.proofs.Common.{◌≡◌, ℕ, List, [], ◌∷◌, true, IsAscii}
use Rattle.std.specs.Char.{is_ascii}
use Rattle.std.specs.List.{list_all}
use Rattle.std.specs.Str.{IsUtf8}
use Rattle.std.proofs.lemmas.Bool.{and_parts, ltb-true}
use Rattle.std.proofs.lemmas.Str.{IsUtf8-from_ascii}
use Rattle.std.proofs.lemmas.Str.Ascii.{IsAscii-cons, IsAscii-nil}

ascii_from : (bytes : List ℕ) → list_all is_ascii bytes ≡ true → IsAscii bytes
ascii_from [] e = IsAscii-nil
ascii_from (b ∷ bytes) e =
    let parts = and_parts (is_ascii b) (list_all is_ascii bytes) e in
    IsAscii-cons b bytes (ltb-true b 128 parts.0) (ascii_from bytes parts.1)

pub ascii_utf8 : (bytes : List ℕ) → list_all is_ascii bytes ≡ true → IsUtf8 bytes
ascii_utf8 bytes e = IsUtf8-from_ascii bytes (ascii_from bytes e)
