-- What a command leaves, part by part.
use Rattle.std.proofs.Common.{◌≡◌, ℕ, List, Ok, Err, sym, ◌∙◌}
use Rattle.outside.specs.Files.{Files}
use Rattle.outside.specs.States.{SourcesState, OutputsState, SayState}
use Rattle.commands.specs.Command.{Command, tuples, build}
use Rattle.font_model.specs.Fonts.{Font}
use Rattle.vfb.specs.Calls.{Call, Image}
use Rattle.vfb.specs.BuiltFont.{IsFontFileOf}
use Rattle.vfb.specs.Ending.{status_of}
use Rattle.vfb.specs.Outcome.{Draws, HasOfFont, HasOfFontBy, Leaves}
use Rattle.vfb.specs.Performing.{Performs}
use Rattle.vfb.specs.Work.{font, glyph}
use Rattle.vfb.specs.declared.ending.Ending.{Ending}
use Rattle.vfb.specs.declared.status.Status.{Status}
use Rattle.vfb.specs.declared.status.Status.TheVariants as status

draws_by : (images : List Image) (command : Command) (files new : Files) → Leaves (Ok (record { command = command; images = images })) files new
    → Draws (Ok (record { command = command; images = images })) files new
draws_by images (tuples command) files new (glyph masters, is, left) = (glyph masters, is, left)
draws_by images (tuples command) files new (font found, is, left) = absurd left
draws_by images (build command) files new (glyph masters, is, left) = absurd left
draws_by images (build command) files new (font found, is, left) = (font found, is, left.draws)

draws_of : (call : Call) (files new : Files) → Leaves call files new → Draws call files new
draws_of (Err misuse) files new left = left
draws_of (Ok task) files new left = draws_by task.images task.command files new left

module _ (Has : Font → List ℕ → Type 0) (part : (found : Font) (file : List ℕ) → IsFontFileOf found file → Has found file) where
  has_by : (images : List Image) (command : Command) (files new : Files) → Leaves (Ok (record { command = command; images = images })) files new → HasOfFontBy Has files new images command
  has_by images (tuples command) files new left = tt
  has_by images (build command) files new (glyph masters, is, left) = absurd left
  has_by images (build command) files new (font found, is, left) = (found, is, part found _ left)

  has_of_font : (call : Call) (files new : Files) → Leaves call files new → HasOfFont Has call files new
  has_of_font (Err misuse) files new left = tt
  has_of_font (Ok task) files new left = has_by task.images task.command files new left

module _ {sources sources' : SourcesState} {outputs outputs' : OutputsState} {say say' : SayState} {call : Call} {ending : Ending} {state : Status}
    (does : Performs sources sources' outputs outputs' say say' call ending) (is : state ≡ status_of ending) where
  pub draws-at_ok : sources.tells → outputs.tells → state ≡ status.Ok → Draws call sources.files outputs'.files
  draws-at_ok told tells ok = draws_of call sources.files outputs'.files (does.leaves told tells (sym is ∙ ok))

  pub has-at_ok : (Has : Font → List ℕ → Type 0) → ((found : Font) (file : List ℕ) → IsFontFileOf found file → Has found file)
      → sources.tells → outputs.tells → state ≡ status.Ok → HasOfFont Has call sources.files outputs'.files
  has-at_ok Has part told tells ok = has_of_font Has part call sources.files outputs'.files (does.leaves told tells (sym is ∙ ok))
