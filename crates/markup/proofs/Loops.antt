-- One item of the loop over a text.
use Rattle.std.proofs.Common.{◌≡◌, ℕ, ◌<◌, Bool, true, false, List, length, Option, Some, None, Ok, Err, refl, sym, ap, subst, ◌∙◌, arith}
use Rattle.std.specs.Prelude.{Result, is_some}
use Rattle.basics.specs.declared.kinds.Kind.TheVariants.{Unfinished}
use Rattle.basics.specs.declared.fault.Spot.{Spot}
use Rattle.basics.specs.declared.fault.Stop.{Stop}
use Rattle.basics.specs.declared.fault.Stop.TheVariants.{At, NoMemory}
use Rattle.basics.specs.Reading.{Fails}
use Rattle.markup_rules.specs.Tree.{Tree}
use Rattle.markup_rules.specs.Reading.{item_at}
use Rattle.markup_rules.specs.Faults.{Context, spot}
use Rattle.markup_rules.specs.Outcome.{Frame, State, context_of, root_or_fault}
use Rattle.markup_rules.proofs.Steps.{rest_from, rest_step, rest_fault, rest_shorter}
use Rattle.markup.specs.Parts.{IsAt, IsClosed, rooted}
use Rattle.markup.specs.Steps.{step_at}

pub goes_on : (total : ℕ) (state next : State) (bytes after : List ℕ) (out : Result Tree Spot) → 0 < length bytes → (step_at total bytes state ≡ Ok next) × (after ≡ (item_at bytes).1)
    → rest_from total state bytes ≡ out → rest_from total next after ≡ out
goes_on total state next bytes after out some step before = ap (rest_from total next) step.1 ∙ (rest_step total state next bytes some step.0 ∙ before)

pub fails_so : (total : ℕ) (state : State) (bytes : List ℕ) (out : Result Tree Spot) (stop : Stop) → 0 < length bytes → Fails stop (step_at total bytes state) → rest_from total state bytes ≡ out → Fails stop out
fails_so total state bytes out NoMemory some step before = tt
fails_so total state bytes out (At fault) some step before = sym before ∙ rest_fault total state bytes fault some step

pub is_shorter : (bytes after : List ℕ) → 0 < length bytes → after ≡ (item_at bytes).1 → length after < length bytes
is_shorter bytes after some e = omega (arith, rest_shorter bytes some, ap length e)

-- ---- the end of the text

ended_by : {P : Type 0} (Keeps : P → State → Type 0) (part : P) (total : ℕ) (frames : List Frame) (root : Option Tree) (declared : Bool) (out : Result Tree Spot) → is_some root ≡ true
    → IsClosed (record { frames = frames; root = root; declared = declared }) → Keeps part (record { frames = frames; root = root; declared = false }) → root_or_fault total root ≡ out
    → (tree : Tree) × (out ≡ Ok tree) × Keeps part (rooted tree)
ended_by Keeps part total frames (Some tree) declared out some closed keeps is =
    (tree, sym is, subst (λ (fs : List Frame). Keeps part (record { frames = fs; root = Some tree; declared = false })) closed keeps)
ended_by Keeps part total frames None declared out some closed keeps is = absurd cc

pub ended_with : {P : Type 0} (Keeps : P → State → Type 0) (part : P) (total : ℕ) (s : State) (context : Context) (out : Result Tree Spot) → IsAt Keeps context part s → context.rooted ≡ true → root_or_fault total s.root ≡ out
    → (tree : Tree) × (out ≡ Ok tree) × Keeps part (rooted tree)
ended_with Keeps part total s context out here some is =
    ended_by Keeps part total s.frames s.root s.declared out (ap (λ (c : Context). c.rooted) here.0 ∙ some) here.1.0 here.1.1 is

no_root : (total : ℕ) (root : Option Tree) → is_some root ≡ false → root_or_fault total root ≡ Err (spot Unfinished total)
no_root total (Some tree) none = absurd cc
no_root total None none = refl

pub unended : (total : ℕ) (s : State) (context : Context) (out : Result Tree Spot) → context_of s ≡ context → context.rooted ≡ false → root_or_fault total s.root ≡ out → out ≡ Err (spot Unfinished total)
unended total s context out e none is = sym is ∙ no_root total s.root (ap (λ (c : Context). c.rooted) e ∙ none)
