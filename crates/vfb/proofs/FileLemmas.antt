-- What files hold after some are begun and written.
use Rattle.std.proofs.Common.{◌≡◌, ℕ, ◌+◌, ◌<◌, ◌≤◌, Bool, true, false, Option, Some, None, List, [], ◌∷◌, ◌++◌, length, map, take, drop, get_or, Result, Ok, Err, inr, refl, sym, ◌∙◌, ap, subst, arith, append_assoc, append-nil, length-append, bytes_eq, if◌then◌else◌}
use Rattle.std.proofs.lemmas.Slice.Eq.{bytes_eq-Decides}
use Rattle.std.specs.List.{concat}
use Rattle.std.proofs.lemmas.List.{take_more, map-append, take-append-drop}
use Rattle.std.proofs.lemmas.List.Folds.{concat-append}
use Rattle.outside.specs.Files.{Files, put, content, add, IsPrefix, HasRisen, Exceeds}
use Rattle.outside.specs.States.{OutputsState}
use Rattle.vfb.specs.Writing.{WritesFile}
use Rattle.std.specs.Prelude.{IsErr}
use Rattle.vfb.specs.Product.{IsCutShort}

pub bytes_eq-same : (path : List ℕ) → bytes_eq path path ≡ true
bytes_eq-same path = (bytes_eq-Decides path path).1 refl

-- a path holds what was put there
pub content-put : (files : Files) (path bytes : List ℕ) → content (put files path bytes) path ≡ bytes
content-put files path bytes = rw (bytes_eq-same path)

-- of two choices by one test the first counts
choose_again : {A : Type 0} (test : Bool) (x y z : A) → (if test then x else (if test then y else z)) ≡ (if test then x else z)
choose_again true x y z = refl
choose_again false x y z = refl

-- what is put last at a path counts
pub put-put : (files : Files) (path first last : List ℕ) → put (put files path first) path last ≡ put files path last
put-put files path first last = λ i q. choose_again (bytes_eq path q) (Some last) (Some first) (files q) i

-- adding to a path that is begun and holds bytes
pub add-held : (old now : Files) (begun : Option (List ℕ)) (path held bytes : List ℕ) → now ≡ put old path held → begun ≡ Some path → add now begun bytes ≡ put old path (held ++ bytes)
add-held old now begun path held bytes is at =
    ap (λ files. add files begun bytes) is ∙ (ap (λ begun. add (put old path held) begun bytes) at
    ∙ (ap (λ content. put (put old path held) path (content ++ bytes)) (content-put old path held) ∙ put-put old path held (held ++ bytes)))

-- ---- pieces

-- the join of some pieces and one more
pub joined_more : {P : Type 0} (bytes : P → List ℕ) (pieces : List P) (i : ℕ) (piece : P) → i < length pieces → piece ≡ get_or pieces i piece
    → concat (map bytes (take i pieces)) ++ bytes piece ≡ concat (map bytes (take (i + 1) pieces))
joined_more bytes pieces i piece below is =
    sym (ap (λ taken. concat (map bytes taken)) (take_more pieces i piece below)
    ∙ (ap concat (map-append bytes (take i pieces) (get_or pieces i piece ∷ []))
    ∙ (concat-append (map bytes (take i pieces)) (bytes (get_or pieces i piece) ∷ [])
    ∙ (ap (λ last. concat (map bytes (take i pieces)) ++ last) (append-nil (bytes (get_or pieces i piece)))
    ∙ ap (λ piece. concat (map bytes (take i pieces)) ++ bytes piece) (sym is)))))

-- all pieces are those, one more and the rest
pub joined_all : {P : Type 0} (bytes : P → List ℕ) (pieces : List P) (i : ℕ) (piece : P) → i < length pieces → piece ≡ get_or pieces i piece
    → (concat (map bytes (take i pieces)) ++ bytes piece) ++ concat (map bytes (drop (i + 1) pieces)) ≡ concat (map bytes pieces)
joined_all bytes pieces i piece below is =
    ap (λ prefix. prefix ++ concat (map bytes (drop (i + 1) pieces))) (joined_more bytes pieces i piece below is)
    ∙ (sym (concat-append (map bytes (take (i + 1) pieces)) (map bytes (drop (i + 1) pieces)))
    ∙ ap concat (sym (map-append bytes (take (i + 1) pieces) (drop (i + 1) pieces)) ∙ ap (map bytes) (take-append-drop (i + 1) pieces)))

-- the path held bytes and then a prefix of a piece: it holds a prefix of the whole
pub cut_in_piece : (old now new : Files) (begun : Option (List ℕ)) (path held piece later whole : List ℕ) → now ≡ put old path held → begun ≡ Some path → (held ++ piece) ++ later ≡ whole
    → ((prefix : List ℕ) × IsPrefix prefix piece × (new ≡ add now begun prefix)) → IsCutShort path whole old new
cut_in_piece old now new begun path held piece later whole is at all (prefix, (rest, joins), added) =
    let whole_is : (held ++ prefix) ++ (rest ++ later) ≡ whole =
    sym (append_assoc (held ++ prefix) rest later) ∙ (ap (λ all. all ++ later) (append_assoc held prefix rest ∙ ap (λ piece. held ++ piece) joins) ∙ all) in
    inr (held ++ prefix, (rest ++ later, whole_is), added ∙ add-held old now begun path held prefix is at)

-- a piece had no room after the bytes held: the whole has none
pub full_in_piece : (room_old room_now : List ℕ → Option ℕ) (old now : Files) (path held piece later whole : List ℕ) → room_now ≡ room_old → now ≡ put old path held → (held ++ piece) ++ later ≡ whole
    → Exceeds (room_now path) (length (content now path)) (length piece) → Exceeds (room_old path) 0 (length whole)
full_in_piece room_old room_now old now path held piece later whole same is all full =
    let here : Exceeds (room_old path) (length held) (length piece) =
    subst (λ room. Exceeds room (length held) (length piece)) (ap (λ room. room path) same)
    (subst (λ content. Exceeds (room_now path) (length content) (length piece)) (ap (λ files. content files path) is ∙ content-put old path held) full) in
    exceeds (room_old path) here
  where
    exceeds : (room : Option ℕ) → Exceeds room (length held) (length piece) → Exceeds room 0 (length whole)
    exceeds None full = tt
    exceeds (Some room) full = omega (arith, ap length all, length-append (held ++ piece) later, length-append held piece)

-- ---- a call that fails

-- whatever error it is, the file is cut short
pub writes_cut : {V E : Type 0} {old new : OutputsState} {path bytes : List ℕ} (result : Result V E) → IsErr result → (old.tells → new.tells) → (old.tells → IsCutShort path bytes old.files new.files)
    → HasRisen old.faults new.faults → (old.is_sure → new.is_sure × (new.room ≡ old.room)) → (old.is_sure → old.tells → Exceeds (old.room path) 0 (length bytes)) → WritesFile old new path bytes result
writes_cut (Ok value) is told cut risen sure full = absurd cc
writes_cut (Err error) is told cut risen sure full = record { told = told; whole = λ _. tt; cut = cut; counted = risen; sure = sure; full = full }

-- a count that rose after it grew has risen
pub rises_after : (before mid after : ℕ) → before ≤ mid → HasRisen mid after → HasRisen before after
rises_after before mid after grows rose = omega arith
