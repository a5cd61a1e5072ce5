-- What holds of all that a reading gives, step by step.
use Rattle.std.proofs.Common.{◌≡◌, Bool, true, false, List, [], ◌∷◌, Ok, Err, refl, if◌then◌else◌}
use Rattle.std.specs.Prelude.{All, IfOk, Result}
use Rattle.std.proofs.lemmas.List.Elements.{All-nil, All-cons}
use Rattle.basics.specs.Reading.{◌>>=◌, each, in_turn}

-- the second step gives what has a property, where the first one does
pub then_ok : {A B F : Type 0} (P : A → Type 0) (Q : B → Type 0) (r : Result A F) (f : A → Result B F) → IfOk r P → ((x : A) → P x → IfOk (f x) Q) → IfOk (r >>= f) Q
then_ok P Q (Ok x) f p next = next x p
then_ok P Q (Err e) f p next = tt

pub after_any : {A B F : Type 0} (Q : B → Type 0) (r : Result A F) (f : A → Result B F) → ((x : A) → IfOk (f x) Q) → IfOk (r >>= f) Q
after_any Q (Ok x) f next = next x
after_any Q (Err e) f next = tt

pub chosen : {A F : Type 0} (P : A → Type 0) (b : Bool) (r s : Result A F) → (b ≡ true → IfOk r P) → (b ≡ false → IfOk s P) → IfOk (if b then r else s) P
chosen P true r s first second = first refl
chosen P false r s first second = second refl

pub each_ok : {A B F : Type 0} (P : B → Type 0) (f : A → Result B F) → ((t : A) → IfOk (f t) P) → (ts : List A) → IfOk (each f ts) (All P)
each_ok P f one [] = All-nil P
each_ok P f one (t ∷ ts) =
    then_ok P (All P) (f t) _ (one t) (λ x p. then_ok (All P) (All P) (each f ts) _ (each_ok P f one ts) (λ xs ps. All-cons P x xs p ps))

pub in_turn_ok : {A S F : Type 0} (P : S → Type 0) (step : S → A → Result S F) → ((s : S) (t : A) → P s → IfOk (step s t) P) → (s : S) (ts : List A) → P s → IfOk (in_turn step s ts) P
in_turn_ok P step one s [] p = p
in_turn_ok P step one s (t ∷ ts) p = then_ok P P (step s t) _ (one s t p) (λ next q. in_turn_ok P step one next ts q)
