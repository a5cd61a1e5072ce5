-- What a call answers that makes a project.
use Rattle.std.specs.Prelude.{◌≡◌, ℕ, List, All, Result, Ok, Err}
use Rattle.basics.specs.declared.fault.Fault.{Fault}
use Rattle.source_files.specs.declared.stop.ReadStop.{ReadStop}
use Rattle.source_files.specs.declared.stop.ReadStop.TheVariants.{Refused, ReadFault, NoMemory}
use Rattle.glif.specs.Limits.{IsWithinLimits}
use Rattle.delta_solve.specs.declared.model.GlyphModel.{GlyphModel}
use Rattle.font_sources.specs.declared.found.FontSources.{FontSources}
use Rattle.font_project.specs.declared.masters.Masters.{Masters}
use Rattle.font_project.specs.declared.ruled.Ruled.{Ruled}
use Rattle.font_model.specs.Fonts.{Font, IsProjectOf}
use Rattle.font_model.specs.declared.parts.Project.{Project}

-- a fault is a right answer; a device that fails and want of memory may come before any
abbrev pub StopsWith : {V : Type 0} → (Result V Fault → Type 0) → ReadStop → Type 0
StopsWith IsRight (Refused fault) = IsRight (Err fault)
StopsWith IsRight (ReadFault _) = Unit {0}
StopsWith IsRight NoMemory = Unit {0}

-- the value is a right answer, or the call stopped so
abbrev pub AnswersRightly : {V : Type 0} → (Result V Fault → Type 0) → Result V ReadStop → Type 0
AnswersRightly IsRight (Ok value) = IsRight (Ok value)
AnswersRightly IsRight (Err stop) = StopsWith IsRight stop

-- the project is that of a font that is a right answer, with outlines within limits, or the call stopped so
abbrev pub MakesProject : (Result Font Fault → Type 0) → Result Project ReadStop → Type 0
MakesProject IsRight (Ok project) =
    (font : Font) × IsRight (Ok font) × IsProjectOf font project × All (All IsWithinLimits) font.glyphs
MakesProject IsRight (Err stop) = StopsWith IsRight stop

-- the project has these parts
pub record IsJoinedOf (found : FontSources) (ruled : Ruled) (codes : List (ℕ × ℕ)) (masters : Masters) (models : List GlyphModel) (project : Project) : Type 0 where
  pub design : project.design ≡ found.design
  pub info : project.info ≡ found.info
  pub names : project.names ≡ ruled.names
  pub codes_are : project.codes ≡ codes
  pub supports : project.supports ≡ masters.supports
  pub sorted : project.sorted ≡ masters.sorted
  pub models_are : project.models ≡ models
  pub subs : project.subs ≡ ruled.substitutions.subs
  pub cells : project.cells ≡ ruled.substitutions.cells
