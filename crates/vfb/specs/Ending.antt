-- The status and the line of each way in which a command ends.
use Rattle.std.specs.Prelude.{ℕ, List, []}
use Rattle.vfb.specs.Calls as call
use Rattle.vfb.specs.Lines.{refused_line, usage_line, read_fault_line, write_fault_line, no_memory_line}
use Rattle.source_files.specs.declared.stop.ReadStop.{ReadStop}
use Rattle.source_files.specs.declared.stop.ReadStop.TheVariants as stop
use Rattle.vfb.specs.declared.status.Status.{Status}
use Rattle.vfb.specs.declared.status.Status.TheVariants as status
use Rattle.vfb.specs.declared.misuse.Misuse.{Misuse}
use Rattle.vfb.specs.declared.misuse.Misuse.TheVariants.{Words, Filter}
use Rattle.vfb.specs.declared.ending.Ending.{Ending}
use Rattle.vfb.specs.declared.ending.Ending.TheVariants.{Done, Refused, Usage, ReadFault, WriteFault, NoMemory}

-- what is wrong with words, as contracts see it
abbrev pub shown_misuse : Misuse → call.Misuse
shown_misuse Words = call.words
shown_misuse (Filter name) = call.called_filter name.now

-- how a command ends whose drawings could not be had
abbrev pub ending_of : ReadStop → Ending
ending_of (stop.Refused fault) = Refused fault
ending_of (stop.ReadFault path) = ReadFault path
ending_of stop.NoMemory = NoMemory

abbrev pub status_of : Ending → Status
status_of Done = status.Ok
status_of (Refused fault) = status.Refused fault
status_of (Usage _) = status.Usage
status_of (ReadFault _) = status.ReadFault
status_of (WriteFault _) = status.WriteFault
status_of NoMemory = status.NoMemory

-- the line that is said of it
abbrev pub ending_line : Ending → List ℕ
ending_line Done = []
ending_line (Refused fault) = refused_line fault
ending_line (Usage misuse) = usage_line (shown_misuse misuse)
ending_line (ReadFault path) = read_fault_line path
ending_line (WriteFault path) = write_fault_line path.now
ending_line NoMemory = no_memory_line
