-- Making the product of a command stopped.
use Rattle.std.proofs.Common.{◌≡◌, List, Result, Ok, Err, ap, sym, subst}
use Rattle.outside.specs.Files.{Files}
use Rattle.outside.specs.States.{SourcesState}
use Rattle.source_files.specs.Stops.{Anywhere, Reads}
use Rattle.source_files.specs.declared.stop.ReadStop.{ReadStop}
use Rattle.source_files.specs.declared.stop.ReadStop.TheVariants as stop
use Rattle.basics.specs.Reading.{◌>>=◌}
use Rattle.commands.specs.Command.{Build, Tuples, build, tuples}
use Rattle.font_model.specs.declared.parts.Project.{Project}
use Rattle.font_project.specs.Fonts.{IsFontAt}
use Rattle.font_project.specs.Making.{MakesProject}
use Rattle.vfb.specs.Calls.{Image, Task, unfiltered}
use Rattle.vfb.specs.Making.{Makes, MakesData}
use Rattle.vfb.specs.Masters.{masters_of}
use Rattle.vfb.specs.Stops.{StopsAt}
use Rattle.vfb.specs.Work.{IsReadBy, glyph}
use Rattle.vfb.specs.declared.glyph.GlyphData.{GlyphData}
use Rattle.vfb.specs.declared.product.Product as made

pub stopped_font : {old new : SourcesState} (images : List Image) (command : Build) (stop : ReadStop)
    → Reads {X = Project} old new Anywhere (MakesProject (IsFontAt old.files command.design images) (Err stop)) (Err stop)
    → Reads {X = made.Product} old new (IsReadBy old.tells old.files (build command)) (Makes old.files (record { command = build command; images = images }) (Err stop)) (Err stop)
stopped_font images command (stop.Refused fault) reads = record { told = reads.told; same = reads.same; gives = reads.gives; counted = reads.counted; named = tt; sure = reads.sure }
stopped_font images command (stop.ReadFault path) reads = record { told = reads.told; same = reads.same; gives = reads.gives; counted = reads.counted; named = tt; sure = reads.sure }
stopped_font images command stop.NoMemory reads = record { told = reads.told; same = reads.same; gives = reads.gives; counted = reads.counted; named = tt; sure = reads.sure }

pub stopped_tuples : {old new : SourcesState} (command : Tuples) (stop : ReadStop)
    → Reads {X = GlyphData} old new (StopsAt old.tells old.files command.drawings) (MakesData (masters_of old.files command) (Err stop)) (Err stop)
    → Reads {X = made.Product} old new (IsReadBy old.tells old.files (tuples command)) (Makes old.files (unfiltered (tuples command)) (Err stop)) (Err stop)
stopped_tuples command (stop.Refused fault) reads = record {
  told = reads.told;
  same = reads.same;
  gives = λ told. ap (λ reading. reading >>= λ masters. Ok (glyph masters)) (sym (reads.gives told));
  counted = reads.counted;
  named = tt;
  sure = reads.sure;
}
stopped_tuples command (stop.ReadFault path) reads = record { told = reads.told; same = reads.same; gives = λ _. tt; counted = reads.counted; named = reads.named; sure = reads.sure }
stopped_tuples command stop.NoMemory reads = record { told = reads.told; same = reads.same; gives = λ _. tt; counted = reads.counted; named = tt; sure = reads.sure }

-- a call that answers so
pub stopped_as : {old new : SourcesState} (task : Task) (result : Result made.Product ReadStop) (stop : ReadStop) → result ≡ Err stop
    → Reads {X = made.Product} old new (IsReadBy old.tells old.files task.command) (Makes old.files task (Err stop)) (Err stop)
    → Reads {X = made.Product} old new (IsReadBy old.tells old.files task.command) (Makes old.files task result) result
stopped_as {old} {new} task result stop is reads =
    subst (λ (result : Result made.Product ReadStop). Reads {X = made.Product} old new (IsReadBy old.tells old.files task.command) (Makes old.files task result) result) (sym is) reads

-- or memory ran out over it
pub ran_out : {old new : SourcesState} (images : List Image) (command : Build) (project : Project) (result : Result made.Product ReadStop) → result ≡ Err stop.NoMemory
    → Reads {X = Project} old new Anywhere (MakesProject (IsFontAt old.files command.design images) (Ok project)) (Ok project)
    → Reads {X = made.Product} old new (IsReadBy old.tells old.files (build command)) (Makes old.files (record { command = build command; images = images }) result) result
ran_out {old} {new} images command project result is reads =
    subst (λ (result : Result made.Product ReadStop). Reads {X = made.Product} old new (IsReadBy old.tells old.files (build command)) (Makes old.files (record { command = build command; images = images }) result) result) (sym is)
    (record { told = reads.told; same = reads.same; gives = λ _. tt; counted = reads.counted; named = tt; sure = reads.sure })

-- ---- the outlines of drawings stay as they are, whatever the filters

any_images : (files : Files) (images : List Image) (command : Tuples) (result : Result made.Product ReadStop) → Makes files (unfiltered (tuples command)) result
    → Makes files (record { command = tuples command; images = images }) result
any_images files images command (Ok product) makes = makes
any_images files images command (Err (stop.Refused fault)) makes = makes
any_images files images command (Err (stop.ReadFault path)) makes = makes
any_images files images command (Err stop.NoMemory) makes = makes

pub tuples_made : {old new : SourcesState} (images : List Image) (command : Tuples) (result : Result made.Product ReadStop)
    → Reads {X = made.Product} old new (IsReadBy old.tells old.files (tuples command)) (Makes old.files (unfiltered (tuples command)) result) result
    → Reads {X = made.Product} old new (IsReadBy old.tells old.files (tuples command)) (Makes old.files (record { command = tuples command; images = images }) result) result
tuples_made {old} images command result reads = record {
  told = reads.told;
  same = reads.same;
  gives = λ told. any_images old.files images command result (reads.gives told);
  counted = reads.counted;
  named = reads.named;
  sure = reads.sure;
}
