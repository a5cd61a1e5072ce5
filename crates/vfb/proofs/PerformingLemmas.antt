-- What performing a command comes to: its product is made, and written; or making it stopped; or there is none.
use Rattle.std.proofs.Common.{◌≡◌, ℕ, arith, List, [], ◌∷◌, Ok, Err, refl, sym, ◌∙◌, subst, inl, inr, Some, Result, ap}
use Rattle.outside.specs.Files.{Files, HasRisen}
use Rattle.outside.specs.States.{SourcesState, OutputsState, SayState}
use Rattle.basics.specs.Reading.{◌>>=◌}
use Rattle.basics.specs.declared.fault.Fault.{Fault}
use Rattle.source_files.specs.Stops.{CountsStops, Names, NeverFails, Reads}
use Rattle.source_files.specs.declared.stop.ReadStop.{ReadStop}
use Rattle.source_files.specs.declared.stop.ReadStop.TheVariants as stop
use Rattle.commands.specs.Command.{Command, FilterWord, Located, tuples, build}
use Rattle.font_project.specs.Fonts.{OneAnswer}
use Rattle.vfb.specs.Calls.{Call, Handed, Image, Misuse, Task, call_by, filter_words, images_of}
use Rattle.vfb.specs.Choosing.{StopsBy}
use Rattle.vfb.specs.Stops.{StopsAt}
use Rattle.vfb.specs.Ending.{ending_of, shown_misuse, status_of}
use Rattle.vfb.specs.Making.{Makes, Stops, shown_product}
use Rattle.vfb.specs.Work.{Work, IsWork, IsWorkOf, IsReadBy, IsProductOf, IsLeft, font, glyph}
use Rattle.vfb.specs.Writing.{WritesProduct}
use Rattle.vfb.specs.Outcome.{IsAnswer, IsAnswerTo, IsUsage, Writes, IsWritten, HasWork, EndsBy}
use Rattle.vfb.specs.Performing.{SaysItself, IsSaidItself, IsCutItself, Performs}
use Rattle.vfb.specs.declared.misuse.Misuse as code
use Rattle.vfb.specs.declared.product.Product as made
use Rattle.vfb.specs.declared.status.Status.TheVariants as status
use Rattle.vfb.specs.declared.ending.Ending.{Ending}
use Rattle.vfb.specs.declared.ending.Ending.TheVariants.{Done, Refused, Usage, ReadFault, WriteFault, NoMemory}

-- ---- the work of a command

-- files that give work have no fault
never_of : OneAnswer → (files : Files) (images : List Image) (command : Command) (fault : Fault) (work : Work) → IsWorkOf files images command (Err fault) → IsWorkOf files images command (Ok work) → ⊥
never_of law files images (tuples command) fault work first second = absurd (let e : Err fault ≡ Ok work = first ∙ sym second in cc)
never_of law files images (build command) fault (font found) first second =
    absurd (let e = law files command.design images (Err fault) (Ok found) first second in cc)
never_of law files images (build command) fault (glyph masters) first second = second

never_both : OneAnswer → (files : Files) (task : Task) (fault : Fault) (work : Work) → IsWork files task (Err fault) → IsWork files task (Ok work) → ⊥
never_both law files task fault work first second = never_of law files task.images task.command fault work first second

-- where the sources tell their files, every file before the one at which reading stopped is known
told_stop : {told : Type 0} (files : Files) (drawings : List Located) (path : List ℕ) → told → StopsAt told files drawings path → StopsAt (Unit {0}) files drawings path
told_stop files [] path tells stops = stops
told_stop files (located ∷ later) path tells (inl at) = inl at
told_stop files (located ∷ later) path tells (inr (read, stops)) = inr (λ _. read tells, told_stop files later path tells stops)

told_read : {told : Type 0} (files : Files) (command : Command) (path : List ℕ) → told → IsReadBy told files command path → IsReadBy (Unit {0}) files command path
told_read files (tuples command) path tells stops = told_stop files command.drawings path tells stops
told_read files (build command) path tells stops = tt

-- ---- making the product stopped: nothing was written, and nothing said

stopped_answer : (files : Files) (task : Task) (stop : ReadStop) → Stops files task stop → IsAnswerTo task files (status_of (ending_of stop))
stopped_answer files task (stop.Refused fault) stops = stops
stopped_answer files task (stop.ReadFault path) stops = tt
stopped_answer files task stop.NoMemory stops = tt

stopped_writes : (files : Files) (task : Task) (old : Files) (stop : ReadStop) → Writes task files old old (status_of (ending_of stop))
stopped_writes files task old (stop.Refused fault) = refl
stopped_writes files task old (stop.ReadFault path) = refl
stopped_writes files task old stop.NoMemory = refl

stopped_says : {told : Type 0} (risen : Type 0) (task : Task) (files : Files) (old : List ℕ) (stop : ReadStop)
    → told → Names {X = made.Product} (IsReadBy told files task.command) (Err stop) → SaysItself task files risen old old (ending_of stop)
stopped_says risen task files old (stop.Refused fault) tells named = refl
stopped_says risen task files old (stop.ReadFault path) tells named = (told_read files task.command path tells named, refl)
stopped_says risen task files old stop.NoMemory tells named = refl

stopped_cut : (task : Task) (files : Files) (risen : Type 0) (old new : Files) (said_old said_new : List ℕ) (stop : ReadStop)
    → IsCutItself (Ok task) files risen old new said_old said_new (ending_of stop)
stopped_cut task files risen old new said_old said_new (stop.Refused fault) = tt
stopped_cut task files risen old new said_old said_new (stop.ReadFault path) = tt
stopped_cut task files risen old new said_old said_new stop.NoMemory = tt

stopped_ends : OneAnswer → (files : Files) (task : Task) (stop : ReadStop) → Stops files task stop → HasWork (Ok task) files
    → (status_of (ending_of stop) ≡ status.ReadFault → ⊥) → EndsBy ⊥ (status_of (ending_of stop))
stopped_ends law files task (stop.Refused fault) stops (work, has) reads = absurd (never_both law files task fault work stops has)
stopped_ends law files task (stop.ReadFault path) stops has reads = absurd (reads refl)
stopped_ends law files task stop.NoMemory stops has reads = tt

stopped_surely : OneAnswer → (files : Files) (task : Task) (cause : Type 0) (stop : ReadStop) → Stops files task stop
    → NeverFails {X = made.Product} (Err stop) → HasWork (Ok task) files → EndsBy cause (status_of (ending_of stop))
stopped_surely law files task cause (stop.Refused fault) stops never (work, has) = absurd (never_both law files task fault work stops has)
stopped_surely law files task cause (stop.ReadFault path) stops never has = absurd never
stopped_surely law files task cause stop.NoMemory stops never has = tt

stopped_usage : (task : Task) (stop : ReadStop) → IsUsage (Ok task) (status_of (ending_of stop))
stopped_usage task (stop.Refused fault) is = absurd cc
stopped_usage task (stop.ReadFault path) is = absurd cc
stopped_usage task stop.NoMemory is = absurd cc

stopped_reads : (before after : ℕ) (stop : ReadStop) → CountsStops {X = made.Product} before after (Err stop) → status_of (ending_of stop) ≡ status.ReadFault → HasRisen before after
stopped_reads before after (stop.Refused fault) counts is = absurd cc
stopped_reads before after (stop.ReadFault path) counts is = counts
stopped_reads before after stop.NoMemory counts is = absurd cc

never_writes : (stop : ReadStop) → status_of (ending_of stop) ≡ status.WriteFault → ⊥
never_writes (stop.Refused fault) is = absurd cc
never_writes (stop.ReadFault path) is = absurd cc
never_writes stop.NoMemory is = absurd cc

never_ok : (stop : ReadStop) → status_of (ending_of stop) ≡ status.Ok → ⊥
never_ok (stop.Refused fault) is = absurd cc
never_ok (stop.ReadFault path) is = absurd cc
never_ok stop.NoMemory is = absurd cc

-- what was made is a product of the task
made_of : (files : Files) (task : Task) (product : made.Product) → Makes files task (Ok product) → IsProductOf files task (shown_product product)
made_of files task product makes = (makes.0, makes.1, makes.2)

module _ {sources sources' : SourcesState} (task : Task) where
  pub performs_stopped : OneAnswer → (outputs : OutputsState) (say : SayState) (stop : ReadStop)
      → Reads {X = made.Product} sources sources' (IsReadBy sources.tells sources.files task.command) (Makes sources.files task (Err stop)) (Err stop)
      → Performs sources sources' outputs outputs say say (Ok task) (ending_of stop)
  performs_stopped law outputs say stop reads = record {
    usage = stopped_usage task stop;
    answer = λ told. stopped_answer sources.files task stop (reads.gives told);
    read = stopped_reads sources.faults sources'.faults stop reads.counted;
    write = λ is. absurd (never_writes stop is);
    same = reads.same;
    unwritten = λ _. refl;
    written = λ told _. stopped_writes sources.files task outputs.files stop;
    said_itself = λ told _. stopped_says _ task sources.files say.said stop told reads.named;
    cut = λ _ _ _. stopped_cut task sources.files _ outputs.files outputs.files say.said say.said stop;
    leaves = λ _ _ is. absurd (never_ok stop is);
    complete = λ told has reading _. stopped_ends law sources.files task stop (reads.gives told) has reading;
    complete_sure = λ told sure _ _ _ _ has. stopped_surely law sources.files task _ stop (reads.gives told) (reads.sure sure).1 has;
    told = λ told. told;
    counted = omega arith;
  }

  -- ---- the product was made, and written

  pub performs_written : {outputs outputs' : OutputsState} {say say' : SayState} (product : made.Product) (ending : Ending)
      → Reads {X = made.Product} sources sources' (IsReadBy sources.tells sources.files task.command) (Makes sources.files task (Ok product)) (Ok product)
      → WritesProduct outputs outputs' say say' (shown_product product) ending
      → Performs sources sources' outputs outputs' say say' (Ok task) ending
  performs_written {outputs} product Done reads writes = record {
    usage = λ is. absurd cc;
    answer = λ told. let makes = reads.gives told in (makes.0, makes.1);
    read = λ is. absurd cc;
    write = λ is. absurd cc;
    same = reads.same;
    unwritten = λ none. absurd none;
    written = λ told tells. (shown_product product, made_of sources.files task product (reads.gives told), writes.written tells);
    said_itself = λ told tells. (shown_product product, made_of sources.files task product (reads.gives told), writes.said tells);
    cut = λ _ _ _. tt;
    leaves = λ told tells _. let makes = reads.gives told in
        (makes.0, makes.1, subst (IsLeft task.command makes.0) (sym (writes.written tells)) (makes.3 outputs.files));
    complete = λ _ _ _ _. tt;
    complete_sure = λ _ _ _ _ _ _ _. tt;
    told = writes.told;
    counted = writes.counted;
  }
  performs_written product (WriteFault path) reads writes = record {
    usage = λ is. absurd cc;
    answer = λ told. let makes = reads.gives told in (makes.0, makes.1);
    read = λ is. absurd cc;
    write = λ is. writes.delivers;
    same = reads.same;
    unwritten = λ none. absurd none;
    written = λ told tells. (shown_product product, made_of sources.files task product (reads.gives told), writes.written tells);
    said_itself = λ told tells. (shown_product product, made_of sources.files task product (reads.gives told), writes.said tells);
    cut = λ told tells tells_said. (shown_product product, made_of sources.files task product (reads.gives told), writes.cut tells tells_said);
    leaves = λ _ _ is. absurd cc;
    complete = λ _ _ _ writing. absurd (writing refl);
    complete_sure = λ told _ tells sure tells_said sure_said _.
        (shown_product product, made_of sources.files task product (reads.gives told), writes.full tells sure tells_said sure_said);
    told = writes.told;
    counted = writes.counted;
  }
  performs_written product (Refused fault) reads writes = absurd writes.delivers
  performs_written product (Usage misuse) reads writes = absurd writes.delivers
  performs_written product (ReadFault path) reads writes = absurd writes.delivers
  performs_written product NoMemory reads writes = absurd writes.delivers

-- ---- the words are none of a task, or memory ran out over them

module _ (sources : SourcesState) (outputs : OutputsState) (say : SayState) where
  memory_usage : (call : Call) → IsUsage call status.NoMemory
  memory_usage (Err misuse) = inr refl
  memory_usage (Ok task) = λ is. absurd cc

  memory_answer : (call : Call) → IsAnswer call sources.files status.NoMemory
  memory_answer (Err misuse) = tt
  memory_answer (Ok task) = tt

  memory_written : (call : Call) → IsWritten call sources.files outputs.files outputs.files status.NoMemory
  memory_written (Err misuse) = refl
  memory_written (Ok task) = refl

  memory_said : (risen : Type 0) (call : Call) → IsSaidItself call sources.files risen say.said say.said NoMemory
  memory_said risen (Err misuse) = refl
  memory_said risen (Ok task) = refl

  memory_cut : (risen : Type 0) (call : Call) → IsCutItself call sources.files risen outputs.files outputs.files say.said say.said NoMemory
  memory_cut risen (Err misuse) = tt
  memory_cut risen (Ok task) = tt

  pub performs_no_memory : (call : Call) → Performs sources sources outputs outputs say say call NoMemory
  performs_no_memory call = record {
    usage = memory_usage call;
    answer = λ _. memory_answer call;
    read = λ is. absurd cc;
    write = λ is. absurd cc;
    same = refl;
    unwritten = λ _. refl;
    written = λ _ _. memory_written call;
    said_itself = λ _ _. memory_said _ call;
    cut = λ _ _ _. memory_cut _ call;
    leaves = λ _ _ is. absurd cc;
    complete = λ _ _ _ _. tt;
    complete_sure = λ _ _ _ _ _ _ _. tt;
    told = λ told. told;
    counted = omega arith;
  }

  pub performs_usage : (misuse : Misuse) (found : code.Misuse) → shown_misuse found ≡ misuse → Performs sources sources outputs outputs say say (Err misuse) (Usage found)
  performs_usage misuse found same = record {
    usage = inl refl;
    answer = λ _. tt;
    read = λ is. absurd cc;
    write = λ is. absurd cc;
    same = refl;
    unwritten = λ _. refl;
    written = λ _ _. refl;
    said_itself = λ _ _. (same, refl);
    cut = λ _ _ _. tt;
    leaves = λ _ _ is. absurd cc;
    complete = λ _ has _ _. absurd has;
    complete_sure = λ _ _ _ _ _ _ has. absurd has;
    told = λ told. told;
    counted = omega arith;
  }

-- ---- the filters of a command

-- they are had, and with their images it was performed
pub performs_with : {sources sources' : SourcesState} {outputs outputs' : OutputsState} {say say' : SayState} (handed : List Handed) (command : Command) (words : List FilterWord) (images : List Image) (ending : Ending)
    → words ≡ filter_words command → images_of handed words ≡ Ok images → Performs sources sources' outputs outputs' say say' (Ok (record { command = command; images = images })) ending
    → Performs sources sources' outputs outputs' say say' (call_by handed (Some command)) ending
performs_with {sources} {sources'} {outputs} {outputs'} {say} {say'} handed command words images ending are had performs =
    subst (λ (call : Call). Performs sources sources' outputs outputs' say say' call ending)
    (sym (ap (λ (read : Result (List Image) Misuse). read >>= λ images. Ok (record { command = command; images = images })) (ap (images_of handed) (sym are) ∙ had))) performs

-- or one can't be had, or memory ran out over them
pub performs_without : (sources : SourcesState) (outputs : OutputsState) (say : SayState) (handed : List Handed) (command : Command) (words : List FilterWord) (ending : Ending)
    → words ≡ filter_words command → StopsBy (images_of handed words) ending → Performs sources sources outputs outputs say say (call_by handed (Some command)) ending
performs_without sources outputs say handed command words (Usage misuse) are chooses =
    subst (λ (call : Call). Performs sources sources outputs outputs say say call (Usage misuse))
    (sym (ap (λ (read : Result (List Image) Misuse). read >>= λ images. Ok (record { command = command; images = images })) (ap (images_of handed) (sym are) ∙ chooses)))
    (performs_usage sources outputs say (shown_misuse misuse) misuse refl)
performs_without sources outputs say handed command words NoMemory are chooses = performs_no_memory sources outputs say (call_by handed (Some command))
performs_without sources outputs say handed command words Done are chooses = absurd chooses
performs_without sources outputs say handed command words (Refused fault) are chooses = absurd chooses
performs_without sources outputs say handed command words (ReadFault path) are chooses = absurd chooses
performs_without sources outputs say handed command words (WriteFault path) are chooses = absurd chooses
