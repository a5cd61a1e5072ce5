-- Lists of runs, of deltas or of differences: a run before others, and that one list of values is cut into
-- maximal runs in one way. A run R has a class and values; `class_of` is the class of a value, and `longest` the
-- most values of a run.
use Rattle.std.proofs.Common.{◌≡◌, ℕ, ◌<◌, ◌≤◌, List, [], ◌∷◌, ◌++◌, length, All, refl, sym, ap, subst, ◌∙◌, arith, length-append}
use Rattle.std.specs.List.{flat_map}
use Rattle.std.proofs.lemmas.List.Elements.{All-head, All-tail, All-cons, All-nil}
use Rattle.packed.specs.FirstRun.{GoesOn}
use Rattle.packed.proofs.FirstRun.{AreOwn}

-- what holds of each value of two joined lists holds of each value of the one and of the other
pub all_of_both : {X : Type 0} (P : X → Type 0) (prefix back : List X) → All P (prefix ++ back) → All P prefix × All P back
all_of_both P [] back all = (All-nil P, all)
all_of_both P (value ∷ prefix) back all =
    let rest = all_of_both P prefix back (All-tail P value (prefix ++ back) all) in
    (All-cons P value prefix (All-head P value (prefix ++ back) all) rest.0, rest.1)

-- Of two ways to cut one list, they cut at one index, or the second cuts after the first, or before it.
by_cut : {P X : Type 0} (a b c d : List X) → a ++ b ≡ c ++ d → (a ≡ c → b ≡ d → P) → ((v : X) (w : List X) → c ≡ a ++ v ∷ w → b ≡ (v ∷ w) ++ d → P) → ((v : X) (w : List X) → a ≡ c ++ v ∷ w → d ≡ (v ∷ w) ++ b → P) → P
by_cut [] b [] d e same beyond before = same refl e
by_cut [] b (v ∷ w) d e same beyond before = beyond v w refl e
by_cut (v ∷ w) b [] d e same beyond before = before v w refl (sym e)
by_cut (x ∷ a) b (y ∷ c) d e same beyond before =
    let first : x ≡ y = cc in
    let rest : a ++ b ≡ c ++ d = cc in
    by_cut a b c d rest
    (λ p q. let whole : x ∷ a ≡ y ∷ c = cc in same whole q)
    (λ v w p q. let whole : y ∷ c ≡ x ∷ (a ++ v ∷ w) = cc in beyond v w whole q)
    (λ v w p q. let whole : x ∷ a ≡ y ∷ (c ++ v ∷ w) = cc in before v w whole q)

-- what a run in a list of maximal runs is: some values, at most `longest`, each of the run's class
pub record IsWholeRun {X C : Type 0} (class_of : X → C) (longest : ℕ) (class : C) (values : List X) : Type 0 where
  pub some : 0 < length values
  pub few : length values ≤ longest
  pub own : AreOwn class_of class values

module _ {X C R : Type 0} (class_of : X → C) (longest : ℕ) (class : R → C) (values : R → List X) where
  -- the values of runs
  abbrev pub values_of : List R → List X
  values_of runs = flat_map values runs

  -- each run is whole
  abbrev pub AreWhole : List R → Type 0
  AreWhole runs = All (λ run. IsWholeRun class_of longest (class run) (values run)) runs

  -- a run ends only where the next value is of another class, or where the run is full
  abbrev pub AreLong : List R → Type 0
  AreLong [] = Unit {0}
  AreLong (run ∷ []) = Unit {0}
  AreLong (run ∷ next ∷ runs) = (class run ≡ class next → length (values run) ≡ longest) × AreLong (next ∷ runs)

  -- values that begin with some of one class go on with that class
  goes_on : (one next : C) (prefix rest : List X) → 0 < length prefix → AreOwn class_of next prefix → one ≡ next → GoesOn class_of one (prefix ++ rest)
  goes_on one next [] rest some own same = absurd (omega arith)
  goes_on one next (value ∷ prefix) rest some own same = All-head (λ v. class_of v ≡ next) value prefix own ∙ sym same

  -- a run before others is followed by a value of its class only where it is full
  pub long_before : (run : R) (runs : List R) → (GoesOn class_of (class run) (values_of runs) → length (values run) ≡ longest) → AreWhole runs → AreLong runs → AreLong (run ∷ runs)
  long_before run [] full whole long = tt
  long_before run (next ∷ runs) full whole long =
      let first = All-head (λ r. IsWholeRun class_of longest (class r) (values r)) next runs whole in
      (λ same. full (goes_on (class run) (class next) (values next) (values_of runs) first.some first.own same), long)

  -- two runs that begin one list are of one class
  one_class : (k l : C) (a b c d : List X) → 0 < length a → 0 < length c → AreOwn class_of k a → AreOwn class_of l c → a ++ b ≡ c ++ d → k ≡ l
  one_class k l [] b c d some more own other e = absurd (omega arith)
  one_class k l (x ∷ a) b [] d some more own other e = absurd (omega arith)
  one_class k l (x ∷ a) b (y ∷ c) d some more own other e =
      let first : x ≡ y = cc in
      sym (All-head (λ v. class_of v ≡ k) x a own) ∙ ap class_of first ∙ All-head (λ v. class_of v ≡ l) y c other

  -- a run that is as long as it can be doesn't end before another run of the same list and class
  not_after : (one : C) (a b c d : List X) (v : X) (w : List X) → (GoesOn class_of one b → length a ≡ longest) → AreOwn class_of one c → length c ≤ longest → c ≡ a ++ v ∷ w → b ≡ (v ∷ w) ++ d → ⊥
  not_after one a b c d v w long own few cut rest =
      let more = (all_of_both (λ value. class_of value ≡ one) a (v ∷ w) (subst (AreOwn class_of one) cut own)).1 in
      let next : class_of v ≡ one = All-head (λ value. class_of value ≡ one) v w more in
      let full : length a ≡ longest = long (subst (GoesOn class_of one) (sym rest) next) in
      absurd (omega (arith, ap length cut, length-append a (v ∷ w)))

  -- two first runs of a list, each as long as it can be, are one
  one_first : (one : C) (a b c d : List X) → AreOwn class_of one a → AreOwn class_of one c → length a ≤ longest → length c ≤ longest → (GoesOn class_of one b → length a ≡ longest) → (GoesOn class_of one d → length c ≡ longest) → a ++ b ≡ c ++ d → (a ≡ c) × (b ≡ d)
  one_first one a b c d own other few many long longer e =
      by_cut a b c d e (λ p q. (p, q))
      (λ v w p q. absurd (not_after one a b c d v w long other many p q))
      (λ v w p q. absurd (not_after one c d a b v w longer own few p q))

  -- values of one class that go on with a class are of that class
  class_first : (one next : C) (prefix rest : List X) → 0 < length prefix → AreOwn class_of next prefix → GoesOn class_of one (prefix ++ rest) → one ≡ next
  class_first one next [] rest some own goes = absurd (omega arith)
  class_first one next (value ∷ prefix) rest some own goes = sym goes ∙ All-head (λ v. class_of v ≡ next) value prefix own

  -- a run before others is full where a value of its class follows
  long_first : (run : R) (runs : List R) → AreWhole runs → AreLong (run ∷ runs) → GoesOn class_of (class run) (values_of runs) → length (values run) ≡ longest
  long_first run [] whole long goes = absurd goes
  long_first run (next ∷ runs) whole long goes =
      let first = All-head (λ r. IsWholeRun class_of longest (class r) (values r)) next runs whole in
      long.0 (class_first (class run) (class next) (values next) (values_of runs) first.some first.own goes)

  -- the runs after the first one are as long as they can be, too
  long_rest : (run : R) (runs : List R) → AreLong (run ∷ runs) → AreLong runs
  long_rest run [] long = tt
  long_rest run (next ∷ runs) long = long.1

  -- maximal runs of the same values are spelled alike, whatever the bytes of a run
  pub same_bytes : (spelled : C → List X → List ℕ) (rs ss : List R) → AreWhole rs → AreWhole ss → AreLong rs → AreLong ss → values_of rs ≡ values_of ss → flat_map (λ run. spelled (class run) (values run)) rs ≡ flat_map (λ run. spelled (class run) (values run)) ss
  same_bytes spelled [] [] whole_r whole_s long_r long_s e = refl
  same_bytes spelled [] (s ∷ ss) whole_r whole_s long_r long_s e =
      absurd (omega (arith, (All-head (λ r. IsWholeRun class_of longest (class r) (values r)) s ss whole_s).some, ap length e, length-append (values s) (values_of ss)))
  same_bytes spelled (r ∷ rs) [] whole_r whole_s long_r long_s e =
      absurd (omega (arith, (All-head (λ r. IsWholeRun class_of longest (class r) (values r)) r rs whole_r).some, ap length e, length-append (values r) (values_of rs)))
  same_bytes spelled (r ∷ rs) (s ∷ ss) whole_r whole_s long_r long_s e =
      let run_r : IsWholeRun class_of longest (class r) (values r) = All-head (λ r. IsWholeRun class_of longest (class r) (values r)) r rs whole_r in
      let run_s : IsWholeRun class_of longest (class s) (values s) = All-head (λ r. IsWholeRun class_of longest (class r) (values r)) s ss whole_s in
      let more_r : AreWhole rs = All-tail (λ r. IsWholeRun class_of longest (class r) (values r)) r rs whole_r in
      let more_s : AreWhole ss = All-tail (λ r. IsWholeRun class_of longest (class r) (values r)) s ss whole_s in
      let one : class r ≡ class s = one_class (class r) (class s) (values r) (values_of rs) (values s) (values_of ss) run_r.some run_s.some run_r.own run_s.own e in
      let full_s : GoesOn class_of (class r) (values_of ss) → length (values s) ≡ longest = λ goes. long_first s ss more_s long_s (subst (λ (k : C). GoesOn class_of k (values_of ss)) one goes) in
      let same_s : AreOwn class_of (class r) (values s) = subst (λ (k : C). AreOwn class_of k (values s)) (sym one) run_s.own in
      let cut = one_first (class r) (values r) (values_of rs) (values s) (values_of ss) run_r.own same_s run_r.few run_s.few (long_first r rs more_r long_r) full_s e in
      let rest = same_bytes spelled rs ss more_r more_s (long_rest r rs long_r) (long_rest s ss long_s) cut.1 in
      ap (λ k. spelled k (values r) ++ flat_map (λ run. spelled (class run) (values run)) rs) one
      ∙ ap (λ vs. spelled (class s) vs ++ flat_map (λ run. spelled (class run) (values run)) rs) cut.0
      ∙ ap (λ bytes. spelled (class s) (values s) ++ bytes) rest
