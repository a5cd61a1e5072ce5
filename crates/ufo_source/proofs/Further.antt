-- One more step of a reading that goes on.
use Rattle.std.proofs.Common.{◌≡◌, ℕ, ◌+◌, ◌<◌, List, [], ◌∷◌, ◌++◌, length, drop, get_or, Result, Ok, Err, refl, sym, ap, ◌∙◌, arith}
use Rattle.std.proofs.lemmas.List.{append_assoc, at_drop_more}
use Rattle.outside.specs.Files.{Files}
use Rattle.outside.specs.States.{SourcesState}
use Rattle.basics.specs.Reading.{◌>>=◌, each, in_turn, with_prefix}
use Rattle.source_files.specs.Stops.{GoesOn, Reads}

pub goes_further : {X : Type 0} (old now new : SourcesState) (IsNamed : List ℕ → Type 0) (Left Gives Later : Type 0) (value : X) → GoesOn old now IsNamed IsNamed Left → Reads {X = X} now new IsNamed Gives (Ok value)
    → (now.files ≡ old.files → Left → Gives → Later) → GoesOn old new IsNamed IsNamed Later
goes_further old now new IsNamed Left Gives Later value goes reads next =
    let before = goes.counted in
    let after = reads.counted in
    record {
      told = λ tells. reads.told (goes.told tells);
      same = reads.same ∙ goes.same;
      left = λ tells. next goes.same (goes.left tells) (reads.gives (goes.told tells));
      counted = omega arith;
      named = goes.named;
      sure = λ is_sure. (reads.sure (goes.sure is_sure)).0;
    }

-- of a state that each of a list changes
pub turn_more : {A S F : Type 0} (step : Files → S → A → Result S F) (old now : Files) (list : List A) (i : ℕ) (own : A) (state next : S) → i < length list → own ≡ get_or list i own → now ≡ old
    → step now state own ≡ Ok next → in_turn (step old) state (drop i list) ≡ in_turn (step old) next (drop (i + 1) list)
turn_more step old now list i own state next less is same gives =
    at_drop_more (in_turn (step old) state) list i own less
    ∙ ap (λ x. step old state x >>= λ after. in_turn (step old) after (drop (i + 1) list)) (sym is)
    ∙ ap (λ files. step files state own >>= λ after. in_turn (step old) after (drop (i + 1) list)) (sym same)
    ∙ ap (λ r. r >>= λ after. in_turn (step old) after (drop (i + 1) list)) gives

-- of what each of a list gives
prefix_more : {B F : Type 0} (done : List B) (own : B) (later : Result (List B) F) → with_prefix done (later >>= λ others. Ok (own ∷ others)) ≡ with_prefix (done ++ own ∷ []) later
prefix_more done own (Ok others) = ap Ok (sym (append_assoc done (own ∷ []) others))
prefix_more done own (Err fault) = refl

pub each_more : {A B F : Type 0} (reading : Files → A → Result B F) (old now : Files) (list : List A) (i : ℕ) (own : A) (done : List B) (value : B) → i < length list → own ≡ get_or list i own → now ≡ old
    → reading now own ≡ Ok value → with_prefix done (each (reading old) (drop i list)) ≡ with_prefix (done ++ value ∷ []) (each (reading old) (drop (i + 1) list))
each_more reading old now list i own done value less is same gives =
    ap (with_prefix done) (at_drop_more (each (reading old)) list i own less)
    ∙ ap (λ x. with_prefix done (reading old x >>= λ first. each (reading old) (drop (i + 1) list) >>= λ others. Ok (first ∷ others))) (sym is)
    ∙ ap (λ files. with_prefix done (reading files own >>= λ first. each (reading old) (drop (i + 1) list) >>= λ others. Ok (first ∷ others))) (sym same)
    ∙ ap (λ r. with_prefix done (r >>= λ first. each (reading old) (drop (i + 1) list) >>= λ others. Ok (first ∷ others))) gives
    ∙ prefix_more done value (each (reading old) (drop (i + 1) list))
