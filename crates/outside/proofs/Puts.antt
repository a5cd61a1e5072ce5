-- Laws of what files hold after writes, and of prefixes of texts.
use Rattle.std.proofs.Common.{◌≡◌, ◌≢◌, ℕ, ◌≤◌, Bool, true, false, cond, List, [], ◌++◌, take, drop, Some, refl, sym, ◌∙◌, ap, append_assoc}
use Rattle.std.proofs.lemmas.List.{take-append-drop}
use Rattle.std.proofs.lemmas.Bool.{false_from_ne_true}
use Rattle.std.proofs.lemmas.Slice.Eq.{bytes_eq-Decides}
use Rattle.std.specs.Str.{bytes_eq}
use Rattle.outside.specs.Files.{Files, put, content, add, IsPrefix}

-- two paths are one exactly where their test says so
pub bytes_eq-same : (path : List ℕ) → bytes_eq path path ≡ true
bytes_eq-same path = (bytes_eq-Decides path path).1 refl

pub bytes_eq-other : (path q : List ℕ) → path ≢ q → bytes_eq path q ≡ false
bytes_eq-other path q other = false_from_ne_true _ (λ e. other ((bytes_eq-Decides path q).0 e))

-- a path holds what was put there
pub put-here : (files : Files) (path bytes : List ℕ) → put files path bytes path ≡ Some bytes
put-here files path bytes = ap (λ b. cond b (Some bytes) (files path)) (bytes_eq-same path)

pub content-put : (files : Files) (path bytes : List ℕ) → content (put files path bytes) path ≡ bytes
content-put files path bytes = ap (λ held. content (λ _. held) path) (put-here files path bytes)

choose_again : {A : Type 0} (b : Bool) (x y z : A) → cond b y (cond b x z) ≡ cond b y z
choose_again true x y z = refl
choose_again false x y z = refl

-- of two writes to a path the last stays
pub put-put : (files : Files) (path first last : List ℕ) → put (put files path first) path last ≡ put files path last
put-put files path first last = λ i q. choose_again (bytes_eq path q) (Some first) (Some last) (files q) i

-- a piece that is added to what was put follows it
pub add-begun : (files : Files) (path held piece : List ℕ) → add (put files path held) (Some path) piece ≡ put files path (held ++ piece)
add-begun files path held piece =
    put-put files path held _ ∙ ap (λ bytes. put files path (bytes ++ piece)) (content-put files path held)

-- nothing is a prefix of everything
pub IsPrefix-empty : (whole : List ℕ) → IsPrefix [] whole
IsPrefix-empty whole = (whole, refl)

-- the first bytes of a list are a prefix of it
pub IsPrefix-take : (n : ℕ) (whole : List ℕ) → IsPrefix (take n whole) whole
IsPrefix-take n whole = (drop n whole, take-append-drop n whole)

-- a prefix of a prefix is a prefix
pub IsPrefix-trans : (a b c : List ℕ) → IsPrefix a b → IsPrefix b c → IsPrefix a c
IsPrefix-trans a b c (p, e) (q, d) = (p ++ q, sym (append_assoc a p q) ∙ ap (λ x. x ++ q) e ∙ d)
