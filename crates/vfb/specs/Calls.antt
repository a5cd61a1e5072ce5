-- What the words of a call ask for, with the filters that were handed in: a task, or the one thing that is wrong with them.
use Rattle.std.specs.Prelude.{ℕ, ℤ, Bool, List, [], ◌∷◌, filter, Option, Some, None, Result, Ok, Err}
use Rattle.std.specs.Str.{bytes_eq}
use Rattle.basics.specs.Reading.{◌>>=◌}
use Rattle.vfb.specs.Named.{without}
use Rattle.glif.specs.declared.shape.Outline.{Outline}
use Rattle.commands.specs.Command.{Command, FilterWord, tuples, build}

-- a filter that was handed in: its name, the setting that each text asks for, and the image of each outline under a setting
pub record Handed : Type 0 where
  pub called : List ℕ
  pub setting_of : List ℕ → Option (List ℤ)
  pub image : List ℤ → Outline → Outline

-- a value that has these, as one
abbrev pub seen : {A : Type 0} → (A → List ℕ) → (A → List ℕ → Option (List ℤ)) → (A → List ℤ → Outline → Outline) → A → Handed
seen called setting_of image filter = record { called = called filter; setting_of = setting_of filter; image = image filter }

-- what each outline becomes
abbrev pub Image : Type 0
Image = Outline → Outline

-- what is wrong with words: they are those of no command, or a filter of this name can't be had
pub data Misuse : Type 0 where
  words : Misuse
  called_filter : (name : List ℕ) → Misuse

-- ---- the filters that are asked for

abbrev pub is_called : List ℕ → Handed → Bool
is_called name handed = bytes_eq handed.called name

-- the one filter of a list
abbrev pub only : List Handed → Option Handed
only (handed ∷ []) = Some handed
only _ = None

-- the image under the setting that the text asks for
abbrev pub image_by : Handed → Option (List ℤ) → List ℕ → Result Image Misuse
image_by handed (Some setting) name = Ok (handed.image setting)
image_by handed None name = Err (called_filter name)

abbrev pub image_of : FilterWord → Option Handed → Result Image Misuse
image_of word (Some handed) = image_by handed (handed.setting_of word.text) word.name
image_of word None = Err (called_filter word.name)

-- Each word asks for the one filter of its name, which no later word can ask for again. A word can't have its filter where
-- none of its name was handed in, or two were, where an earlier word named it, and where it refuses the word's text; the
-- first such word counts.
abbrev pub images_of : List Handed → List FilterWord → Result (List Image) Misuse
images_of handed [] = Ok []
images_of handed (word ∷ more) =
    image_of word (only (filter (is_called word.name) handed)) >>= λ image.
    images_of (without (is_called word.name) handed) more >>= λ images.
    Ok (image ∷ images)

-- ---- the task

-- a command, with what becomes of each outline that is read, one image after another
pub record Task : Type 0 where
  pub command : Command
  pub images : List Image

-- a command whose outlines stay as they are
abbrev pub unfiltered : Command → Task
unfiltered command = record { command = command; images = [] }

-- the filters that a command asks for
abbrev pub filter_words : Command → List FilterWord
filter_words (tuples command) = []
filter_words (build command) = command.filters

-- a call is that of a task, or of none
abbrev pub Call : Type 0
Call = Result Task Misuse

abbrev pub call_by : List Handed → Option Command → Call
call_by handed None = Err words
call_by handed (Some command) = images_of handed (filter_words command) >>= λ images. Ok (record { command = command; images = images })
