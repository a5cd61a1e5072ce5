-- What several reads of a stream give together, and what several writes to one make of it, where its
-- bytes are known.
use Rattle.std.proofs.Common.{◌≡◌, ℕ, ◌+◌, ◌-◌, ◌≤◌, List, [], ◌++◌, take, drop, length, Option, ◌∙◌, ap, append_assoc, length-append, take-append-drop, arith}
use Rattle.std.proofs.lemmas.List.{take_rest, length-take}
use Rattle.std.specs.Io.KnownBytes.{Consumes, Appends}
use Rattle.std.proofs.KnownBytes.{Appends-trans, Consumes-trans}

-- ---- one read or write, after tries that kept the stream as it was

-- ---- counting

-- what was read so far, after the bytes that were counted before
pub record HasCounted (old new : Option (List ℕ)) (before total : ℕ) : Type 0 where
  pub read : List ℕ
  pub consumed : Consumes old new read
  pub counted : before + length read ≡ total

pub counted_more : (old mid new : Option (List ℕ)) (before total n : ℕ) (buf : List ℕ) → HasCounted old mid before total
    → n ≤ length buf → Consumes mid new (take n buf) → HasCounted old new before (total + n)
counted_more old mid new before total n buf so_far fits more = record {
  read = so_far.read ++ take n buf;
  consumed = Consumes-trans old mid new so_far.read (take n buf) so_far.consumed more;
  counted = omega (arith, so_far.counted, length-append so_far.read (take n buf), length-take n buf);
}

-- ---- writing

-- a prefix of the bytes is written, and these are left
pub record HasWritten (old new : Option (List ℕ)) (bytes rest : List ℕ) : Type 0 where
  pub prefix : List ℕ
  pub whole : prefix ++ rest ≡ bytes
  pub grown : Appends old new prefix

-- n more are written, and what a slice from there has is left
pub written_more : (old mid new : Option (List ℕ)) (bytes rest : List ℕ) (n : ℕ) → HasWritten old mid bytes rest
    → Appends mid new (take n rest) → HasWritten old new bytes (take (length rest - n) (drop n rest))
written_more old mid new bytes rest n so_far more = rw take_rest (record {
  prefix = so_far.prefix ++ take n rest;
  whole = append_assoc so_far.prefix (take n rest) (drop n rest)
      ∙ ap (λ l. so_far.prefix ++ l) (take-append-drop n rest) ∙ so_far.whole;
  grown = Appends-trans old mid new so_far.prefix (take n rest) so_far.grown more;
})
