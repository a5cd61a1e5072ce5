-- What is said in all: the text of a command itself, and then the line of how it ended.
use Rattle.std.proofs.Common.{◌≡◌, ℕ, ◌≤◌, List, [], ◌∷◌, ◌++◌, codes, Bor, Result, Ok, Err, OnOk, OnErr, refl, sym, ◌∙◌, ap, subst, inl, inr, arith, append_assoc, append-nil}
use Rattle.std.proofs.lemmas.List.{append_cancel_left}
use Rattle.outside.specs.Files.{Files, IsPrefix, HasRisen}
use Rattle.outside.specs.Said.{Says}
use Rattle.outside.specs.States.{SourcesState, OutputsState, SayState}
use Rattle.vfb.specs.Calls.{Call, Task}
use Rattle.vfb.specs.Ending.{status_of, ending_line}
use Rattle.vfb.specs.Product.{Product}
use Rattle.vfb.specs.Lines.{AddsLine, write_fault_line, read_fault_line, refused_line, usage_line}
use Rattle.vfb.specs.Outcome.{IsAnswer, IsAnswerTo, SaysOf, IsSaid, Fails, IsCut, BreaksOff, HasWork, EndsBy}
use Rattle.vfb.specs.Performing.{SaysPrefix, SaysItself, IsSaidItself, CutsText, IsCutItself, Performs}
use Rattle.vfb.specs.declared.status.Status.{Status}
use Rattle.vfb.specs.declared.status.Status.TheVariants as status
use Rattle.vfb.specs.declared.ending.Ending.{Ending}
use Rattle.vfb.specs.declared.ending.Ending.TheVariants.{Done, Refused, Usage, ReadFault, WriteFault, NoMemory}

-- ---- one line

-- a call that says a line adds it, or a prefix where the count of faults rose
pub AddsLine-from : {V E risen : Type 0} (result : Result V E) (line old new : List ℕ) → OnOk result (new ≡ old ++ line) → OnErr result (IsPrefix old new × IsPrefix new (old ++ line)) → OnErr result risen → AddsLine risen line old new
AddsLine-from (Ok _) line old new whole prefix risen = inl whole
AddsLine-from (Err _) line old new whole prefix risen = inr (risen, prefix.0, prefix.1)

-- the same of a text that was said before, and of a longer call
pub AddsLine-wider : {inner risen : Type 0} (line old mid new : List ℕ) → (inner → risen) → mid ≡ old → AddsLine inner line mid new → AddsLine risen line old new
AddsLine-wider {risen = risen} line old mid new wider same (inl whole) = inl (whole ∙ ap (λ said. said ++ line) same)
AddsLine-wider {risen = risen} line old mid new wider same (inr cut) =
    inr (wider cut.0, subst (λ said. IsPrefix said new) same cut.1, subst (λ said. IsPrefix new (said ++ line)) same cut.2)

-- what is nothing with more after it is nothing
nothing_before : (prefix rest : List ℕ) → prefix ++ rest ≡ [] → prefix ≡ []
nothing_before [] rest none = refl
nothing_before (b ∷ prefix) rest none = absurd cc

-- adding no line changes nothing
pub AddsLine-none : {risen : Type 0} (old new : List ℕ) → AddsLine risen [] old new → new ≡ old
AddsLine-none old new (inl whole) = whole ∙ append-nil old
AddsLine-none old new (inr cut) =
    let first = cut.1 in
    let second = cut.2 in
    let none : first.0 ++ second.0 ≡ [] =
    append_cancel_left old (first.0 ++ second.0) [] (sym (append_assoc old first.0 second.0) ∙ (ap (λ said. said ++ second.0) first.1 ∙ second.1)) in
    sym first.1 ∙ (ap (λ prefix. old ++ prefix) (nothing_before first.0 second.0 none) ∙ append-nil old)

-- a prefix of the summary, and then the line of a fault of saying
BreaksOff-from : {inner later risen : Type 0} (text old mid new : List ℕ) → (inner → risen) → (later → risen)
    → SaysPrefix inner text old mid → AddsLine later (write_fault_line (codes "-")) mid new → BreaksOff risen text old new
BreaksOff-from text old mid new first second says adds =
    (first says.0, (says.1.0, says.1.1, AddsLine-wider (write_fault_line (codes "-")) (old ++ says.1.0) mid new second says.1.2 adds))

-- ---- the whole

module _ {inner later risen : Type 0} (first : inner → risen) (second : later → risen) where
  SaysOf-from : (task : Task) (files : Files) (old mid new : List ℕ) (ending : Ending)
      → IsAnswerTo task files (status_of ending) → SaysItself task files inner old mid ending → AddsLine later (ending_line ending) mid new
      → SaysOf task files risen old new (status_of ending)
  SaysOf-from task files old mid new Done answer (product, is, says) adds = (product, is, AddsLine-none mid new adds ∙ says)
  SaysOf-from task files old mid new (Refused fault) answer says adds = AddsLine-wider (refused_line fault) old mid new second says adds
  SaysOf-from task files old mid new (Usage _) answer says adds = absurd answer
  SaysOf-from task files old mid new (ReadFault path) answer (at, same) adds = (path, at, AddsLine-wider (read_fault_line path) old mid new second same adds)
  SaysOf-from task files old mid new (WriteFault path) answer (product, is, inl (at, same)) adds =
      (product, is, inl (path.now, at, AddsLine-wider (write_fault_line path.now) old mid new second same adds))
  SaysOf-from task files old mid new (WriteFault path) answer (product, is, inr (at, says)) adds =
      (product, is, inr (BreaksOff-from product.text old mid new first second says (subst (λ path. AddsLine later (write_fault_line path) mid new) at adds)))
  SaysOf-from task files old mid new NoMemory answer says adds = AddsLine-wider _ old mid new second says adds

  pub IsSaid-from : (call : Call) (files : Files) (old mid new : List ℕ) (ending : Ending)
      → IsAnswer call files (status_of ending) → IsSaidItself call files inner old mid ending → AddsLine later (ending_line ending) mid new
      → IsSaid call files risen old new (status_of ending)
  IsSaid-from (Err misuse) files old mid new (Usage found) answer (same, says) adds =
      AddsLine-wider (usage_line misuse) old mid new second says (subst (λ misuse. AddsLine later (usage_line misuse) mid new) same adds)
  IsSaid-from (Err misuse) files old mid new NoMemory answer says adds = AddsLine-wider _ old mid new second says adds
  IsSaid-from (Err misuse) files old mid new Done answer says adds = absurd answer
  IsSaid-from (Err misuse) files old mid new (Refused _) answer says adds = absurd answer
  IsSaid-from (Err misuse) files old mid new (ReadFault _) answer says adds = absurd answer
  IsSaid-from (Err misuse) files old mid new (WriteFault _) answer says adds = absurd answer
  IsSaid-from (Ok task) files old mid new ending answer says adds = SaysOf-from task files old mid new ending answer says adds

  Fails-from : (product : Product) (old new : Files) (said_old said_mid said_new : List ℕ) (path : Bor (List ℕ))
      → CutsText product inner old new said_old said_mid (WriteFault path) → AddsLine later (write_fault_line path.now) said_mid said_new
      → Fails product risen old new said_old said_new
  Fails-from product old new said_old said_mid said_new path (inl (cut, same)) adds =
      inl (path.now, cut, AddsLine-wider (write_fault_line path.now) said_old said_mid said_new second same adds)
  Fails-from product old new said_old said_mid said_new path (inr (at, whole, says)) adds =
      inr (whole, BreaksOff-from product.text said_old said_mid said_new first second says (subst (λ path. AddsLine later (write_fault_line path) said_mid said_new) at adds))

  pub IsCut-from : (call : Call) (files : Files) (old new : Files) (said_old said_mid said_new : List ℕ) (ending : Ending)
      → status_of ending ≡ status.WriteFault → IsCutItself call files inner old new said_old said_mid ending → AddsLine later (ending_line ending) said_mid said_new
      → IsCut call files risen old new said_old said_new
  IsCut-from (Err misuse) files old new said_old said_mid said_new (WriteFault path) is cut adds = absurd cut
  IsCut-from (Ok task) files old new said_old said_mid said_new (WriteFault path) is (product, made, cut) adds =
      (product, made, Fails-from product old new said_old said_mid said_new path cut adds)
  IsCut-from call files old new said_old said_mid said_new Done is cut adds = absurd cc
  IsCut-from call files old new said_old said_mid said_new (Refused _) is cut adds = absurd cc
  IsCut-from call files old new said_old said_mid said_new (Usage _) is cut adds = absurd cc
  IsCut-from call files old new said_old said_mid said_new (ReadFault _) is cut adds = absurd cc
  IsCut-from call files old new said_old said_mid said_new NoMemory is cut adds = absurd cc

-- ---- counts of faults

-- a count that rose in a part rose in the whole
pub rises_early : (old mid new : ℕ) → mid ≤ new → HasRisen old mid → HasRisen old new
rises_early old mid new grows rose = omega arith

pub rises_late : (old mid new : ℕ) → old ≤ mid → HasRisen mid new → HasRisen old new
rises_late old mid new grows rose = omega arith

-- ---- a command and its line

module _ {V E : Type 0} {sources sources' : SourcesState} {outputs outputs' : OutputsState} {say mid last : SayState}
    {call : Call} {ending : Ending} {result : Result V E} {state : Status}
    (does : Performs sources sources' outputs outputs' say mid call ending)
    (says : Says mid last (ending_line ending) result) (is : state ≡ status_of ending) where
  adds : say.tells → AddsLine (HasRisen mid.faults last.faults) (ending_line ending) mid.said last.said
  adds told = AddsLine-from result (ending_line ending) mid.said last.said (says.whole (does.told told)) (says.prefix (does.told told)) says.risen

  pub IsSaid-with_line : sources.tells → say.tells → IsSaid call sources.files (HasRisen say.faults last.faults) say.said last.said state
  IsSaid-with_line told told_said =
      subst (IsSaid call sources.files (HasRisen say.faults last.faults) say.said last.said) (sym is)
      (IsSaid-from (rises_early say.faults mid.faults last.faults says.counted) (rises_late say.faults mid.faults last.faults does.counted)
      call sources.files say.said mid.said last.said ending (does.answer told) (does.said_itself told told_said) (adds told_said))

  pub IsCut-with_line : sources.tells → outputs.tells → say.tells → state ≡ status.WriteFault
      → IsCut call sources.files (HasRisen say.faults last.faults) outputs.files outputs'.files say.said last.said
  IsCut-with_line told told_outputs told_said fails =
      IsCut-from (rises_early say.faults mid.faults last.faults says.counted) (rises_late say.faults mid.faults last.faults does.counted)
      call sources.files outputs.files outputs'.files say.said mid.said last.said ending (sym is ∙ fails) (does.cut told told_outputs told_said) (adds told_said)

  pub complete-with_line : sources.tells → HasWork call sources.files → (HasRisen sources.faults sources'.faults → ⊥) → (HasRisen outputs.faults outputs'.faults → ⊥)
      → (HasRisen say.faults last.faults → ⊥) → EndsBy ⊥ state
  complete-with_line told has reads writes saying =
      subst (EndsBy ⊥) (sym is)
      (does.complete told has (λ e. reads (does.read e))
      (λ e. elim (does.write e) [ inl rose ↦ writes rose | inr rose ↦ saying (rises_early say.faults mid.faults last.faults says.counted rose) ]))
