-- How a run ends: its status, what the files hold afterwards, and what was said.
use Rattle.std.specs.Prelude.{◌≡◌, ℕ, ◌+◌, ◌<◌, ◌⊎◌, List, ◌++◌, length, codes, Option, Ok, Err}
use Rattle.outside.specs.Files.{Files, IsPrefix, content}
use Rattle.commands.specs.Command.{Command, tuples, build}
use Rattle.font_model.specs.Fonts.{Font}
use Rattle.font_project.specs.Fonts.{IsFontAt}
use Rattle.vfb.specs.Calls.{Call, Image, Misuse, Task}
use Rattle.vfb.specs.Lines.{AddsLine, refused_line, usage_line, read_fault_line, write_fault_line, no_memory_line}
use Rattle.vfb.specs.Product.{Product, written, IsCutAt, IsCutIn, IsPathIn, Overfills}
use Rattle.vfb.specs.Work.{Work, IsWork, IsReadBy, IsProductOf, IsDrawn, IsLeft}
use Rattle.vfb.specs.declared.status.Status.{Status}
use Rattle.vfb.specs.declared.status.Status.TheVariants as status

-- the number that the process ends with
abbrev pub status_number : Status → ℕ
status_number status.Ok = 0
status_number (status.Refused _) = 1
status_number status.Usage = 2
status_number status.ReadFault = 3
status_number status.WriteFault = 4
status_number status.NoMemory = 5
status_number (status.Rejected _) = 6

-- a task whose files have no fault
abbrev pub HasWork : Call → Files → Type 0
HasWork (Err misuse) files = ⊥
HasWork (Ok task) files = (work : Work) × IsWork files task (Ok work)

-- Where the files have no fault, the run isn't refused; where they have one, exactly that is answered. A device
-- that fails and want of memory may come before either.
abbrev pub IsAnswerTo : Task → Files → Status → Type 0
IsAnswerTo task files status.Ok = HasWork (Ok task) files
IsAnswerTo task files (status.Refused fault) = IsWork files task (Err fault)
IsAnswerTo task files status.Usage = ⊥
IsAnswerTo task files status.ReadFault = Unit {0}
IsAnswerTo task files status.WriteFault = HasWork (Ok task) files
IsAnswerTo task files status.NoMemory = Unit {0}
IsAnswerTo task files (status.Rejected line) = ⊥

-- Words of a task are never answered by their usage, and words of none are, or for want of memory otherwise.
abbrev pub IsUsage : Call → Status → Type 0
IsUsage (Ok task) state = state ≡ status.Usage → ⊥
IsUsage (Err misuse) state = (state ≡ status.Usage) ⊎ (state ≡ status.NoMemory)

-- The status that words and files lead to. Reading the words takes memory.
abbrev pub IsAnswer : Call → Files → Status → Type 0
IsAnswer (Err misuse) files status.Usage = Unit {0}
IsAnswer (Err misuse) files status.NoMemory = Unit {0}
IsAnswer (Err misuse) files _ = ⊥
IsAnswer (Ok task) files state = IsAnswerTo task files state

-- no file is begun
abbrev pub WritesNothing : Status → Type 0
WritesNothing status.Ok = ⊥
WritesNothing status.WriteFault = ⊥
WritesNothing _ = Unit {0}

-- at Ok the files of the product are written, and every other path holds what it held; at a write fault they are cut
abbrev pub Writes : Task → Files → Files → Files → Status → Type 0
Writes task files old new status.Ok = (product : Product) × IsProductOf files task product × (new ≡ written product.files old)
Writes task files old new status.WriteFault = (product : Product) × IsProductOf files task product × IsCutIn product.files old new
Writes task files old new _ = new ≡ old

-- what the files hold: old as the run began, new as it ends
abbrev pub IsWritten : Call → Files → Files → Files → Status → Type 0
IsWritten (Err misuse) files old new state = new ≡ old
IsWritten (Ok task) files old new state = Writes task files old new state

-- a prefix of the text and then the line of a fault of saying itself
abbrev pub BreaksOff : Type 0 → List ℕ → List ℕ → List ℕ → Type 0
BreaksOff risen text old new =
    risen × ((prefix : List ℕ) × IsPrefix prefix text × AddsLine risen (write_fault_line (codes "-")) (old ++ prefix) new)

-- The text said for a task, where risen says that the count of faults of saying rose.
abbrev pub SaysOf : Task → Files → Type 0 → List ℕ → List ℕ → Status → Type 0
SaysOf task files risen old new status.Ok = (product : Product) × IsProductOf files task product × (new ≡ old ++ product.text)
SaysOf task files risen old new (status.Refused fault) = AddsLine risen (refused_line fault) old new
SaysOf task files risen old new status.Usage = ⊥
SaysOf task files risen old new status.ReadFault =
    (path : List ℕ) × IsReadBy (Unit {0}) files task.command path × AddsLine risen (read_fault_line path) old new
SaysOf task files risen old new status.WriteFault = (product : Product) × IsProductOf files task product
    × (((path : List ℕ) × IsPathIn product.files path × AddsLine risen (write_fault_line path) old new) ⊎ BreaksOff risen product.text old new)
SaysOf task files risen old new status.NoMemory = AddsLine risen no_memory_line old new
SaysOf task files risen old new (status.Rejected line) = ⊥

-- the text said where the words are those of no task
abbrev pub SaysUsage : Misuse → Type 0 → List ℕ → List ℕ → Status → Type 0
SaysUsage misuse risen old new status.Usage = AddsLine risen (usage_line misuse) old new
SaysUsage misuse risen old new status.NoMemory = AddsLine risen no_memory_line old new
SaysUsage misuse risen old new _ = ⊥

abbrev pub IsSaid : Call → Files → Type 0 → List ℕ → List ℕ → Status → Type 0
IsSaid (Err misuse) files risen old new state = SaysUsage misuse risen old new state
IsSaid (Ok task) files risen old new state = SaysOf task files risen old new state

-- After a write fault: the path said is that of the file which is cut short, those before it being whole, or a dash
-- where all files are whole and saying failed.
abbrev pub Fails : Product → Type 0 → Files → Files → List ℕ → List ℕ → Type 0
Fails product risen old new said_old said_new =
    ((path : List ℕ) × IsCutAt path product.files old new × AddsLine risen (write_fault_line path) said_old said_new)
    ⊎ ((new ≡ written product.files old) × BreaksOff risen product.text said_old said_new)

abbrev pub IsCut : Call → Files → Type 0 → Files → Files → List ℕ → List ℕ → Type 0
IsCut (Err misuse) files risen old new said_old said_new = ⊥
IsCut (Ok task) files risen old new said_old said_new =
    (product : Product) × IsProductOf files task product × Fails product risen old new said_old said_new

-- what the files draw that a command leaves
abbrev pub Draws : Call → Files → Files → Type 0
Draws (Err misuse) files new = ⊥
Draws (Ok task) files new = (work : Work) × IsWork files task (Ok work) × IsDrawn task.command work new

-- what the files have that a command leaves
abbrev pub Leaves : Call → Files → Files → Type 0
Leaves (Err misuse) files new = ⊥
Leaves (Ok task) files new = (work : Work) × IsWork files task (Ok work) × IsLeft task.command work new

-- what the file of a font that is built has of the font (and nothing of other commands)
abbrev pub HasOfFontBy : (Font → List ℕ → Type 0) → Files → Files → List Image → Command → Type 0
HasOfFontBy Has files new images (tuples command) = Unit {0}
HasOfFontBy Has files new images (build command) = (found : Font) × IsFontAt files command.design images (Ok found) × Has found (content new command.out)

abbrev pub HasOfFont : (Font → List ℕ → Type 0) → Call → Files → Files → Type 0
HasOfFont Has (Err misuse) files new = Unit {0}
HasOfFont Has (Ok task) files new = HasOfFontBy Has files new task.images task.command

-- what a file holds exceeds the room of its path, or what was said with the text exceeds the room of saying
abbrev pub Overflows : Product → (List ℕ → Option ℕ) → ℕ → List ℕ → Type 0
Overflows product room say_room said = Overfills room product.files ⊎ (say_room < length said + length product.text)

abbrev pub LacksRoom : Call → Files → (List ℕ → Option ℕ) → ℕ → List ℕ → Type 0
LacksRoom (Err misuse) files room say_room said = ⊥
LacksRoom (Ok task) files room say_room said = (product : Product) × IsProductOf files task product × Overflows product room say_room said

-- Ok, want of memory, or a write fault with this cause
abbrev pub EndsBy : Type 0 → Status → Type 0
EndsBy cause status.Ok = Unit {0}
EndsBy cause status.NoMemory = Unit {0}
EndsBy cause status.WriteFault = cause
EndsBy cause _ = ⊥
