-- Runs of bytes of one class.
use Rattle.std.proofs.Common.{◌≡◌, ℕ, Bool, true, false, cond, not, List, [], ◌∷◌, ◌++◌, length, take, drop, refl, ap, ◌∙◌}
use Rattle.std.specs.List.{list_all}
use Rattle.std.proofs.lemmas.Bool.{and_parts, and_from, cond-true}
use Rattle.basics.specs.Bytes.{run_at, after_run, stops}

-- ---- a text is cut after its run

prefix_step : (class : ℕ → Bool) (b : ℕ) (bytes : List ℕ) (is : Bool) → take (length (run_at class bytes)) bytes ≡ run_at class bytes → take (length (cond is (b ∷ run_at class bytes) [])) (b ∷ bytes) ≡ cond is (b ∷ run_at class bytes) []
prefix_step class b bytes true later = ap (λ bs. b ∷ bs) later
prefix_step class b bytes false later = refl

-- so many bytes of the text are the run
pub prefix_of_run : (class : ℕ → Bool) (bytes : List ℕ) → take (length (run_at class bytes)) bytes ≡ run_at class bytes
prefix_of_run class [] = refl
prefix_of_run class (b ∷ bytes) = prefix_step class b bytes (class b) (prefix_of_run class bytes)

rest_step : (class : ℕ → Bool) (b : ℕ) (bytes : List ℕ) (is : Bool) → drop (length (run_at class bytes)) bytes ≡ after_run class bytes → drop (length (cond is (b ∷ run_at class bytes) [])) (b ∷ bytes) ≡ cond is (after_run class bytes) (b ∷ bytes)
rest_step class b bytes true later = later
rest_step class b bytes false later = refl

-- and the others follow it
pub rest_of_run : (class : ℕ → Bool) (bytes : List ℕ) → drop (length (run_at class bytes)) bytes ≡ after_run class bytes
rest_of_run class [] = refl
rest_of_run class (b ∷ bytes) = rest_step class b bytes (class b) (rest_of_run class bytes)

run_cases : (class : ℕ → Bool) (b : ℕ) (bytes : List ℕ) (is : Bool) → bytes ≡ run_at class bytes ++ after_run class bytes → b ∷ bytes ≡ cond is (b ∷ run_at class bytes) [] ++ cond is (after_run class bytes) (b ∷ bytes)
run_cases class b bytes true later = ap (λ bs. b ∷ bs) later
run_cases class b bytes false later = refl

pub run_whole : (class : ℕ → Bool) (bytes : List ℕ) → bytes ≡ run_at class bytes ++ after_run class bytes
run_whole class [] = refl
run_whole class (b ∷ bytes) = run_cases class b bytes (class b) (run_whole class bytes)

run_all_cases : (class : ℕ → Bool) (b : ℕ) (bytes : List ℕ) (is : Bool) → class b ≡ is → list_all class (run_at class bytes) ≡ true → list_all class (cond is (b ∷ run_at class bytes) []) ≡ true
run_all_cases class b bytes true e later = rw (e, later) refl
run_all_cases class b bytes false e later = refl

-- all bytes of a run are of the class
pub run_all : (class : ℕ → Bool) (bytes : List ℕ) → list_all class (run_at class bytes) ≡ true
run_all class [] = refl
run_all class (b ∷ bytes) = run_all_cases class b bytes (class b) refl (run_all class bytes)

-- ---- what is written as a run is read as it

pub not_true : (b : Bool) → not b ≡ true → b ≡ false
not_true true e = absurd cc
not_true false e = refl

run_at_stop : (class : ℕ → Bool) (rest : List ℕ) → stops class rest ≡ true → run_at class rest ≡ []
run_at_stop class [] stop = refl
run_at_stop class (b ∷ rest) stop = rw (not_true (class b) stop) refl

after_run_stop : (class : ℕ → Bool) (rest : List ℕ) → stops class rest ≡ true → after_run class rest ≡ rest
after_run_stop class [] stop = refl
after_run_stop class (b ∷ rest) stop = rw (not_true (class b) stop) refl

pub run_at_again : (class : ℕ → Bool) (bytes rest : List ℕ) → list_all class bytes ≡ true → stops class rest ≡ true → run_at class (bytes ++ rest) ≡ bytes
run_at_again class [] rest all stop = run_at_stop class rest stop
run_at_again class (b ∷ bytes) rest all stop =
    let parts = and_parts (class b) (list_all class bytes) all in
    cond-true (class b) (b ∷ run_at class (bytes ++ rest)) [] parts.0 ∙ ap (λ bs. b ∷ bs) (run_at_again class bytes rest parts.1 stop)

pub after_run_again : (class : ℕ → Bool) (bytes rest : List ℕ) → list_all class bytes ≡ true → stops class rest ≡ true → after_run class (bytes ++ rest) ≡ rest
after_run_again class [] rest all stop = after_run_stop class rest stop
after_run_again class (b ∷ bytes) rest all stop =
    let parts = and_parts (class b) (list_all class bytes) all in
    cond-true (class b) (after_run class (bytes ++ rest)) (b ∷ (bytes ++ rest)) parts.0 ∙ after_run_again class bytes rest parts.1 stop

-- a class all of whose bytes are in another one
pub all_in : (class other : ℕ → Bool) → ((b : ℕ) → class b ≡ true → other b ≡ true) → (bytes : List ℕ) → list_all class bytes ≡ true → list_all other bytes ≡ true
all_in class other within [] all = refl
all_in class other within (b ∷ bytes) all =
    let parts = and_parts (class b) (list_all class bytes) all in
    and_from (other b) (list_all other bytes) (within b parts.0) (all_in class other within bytes parts.1)
