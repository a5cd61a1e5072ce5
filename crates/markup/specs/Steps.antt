-- What one item makes of a reader that is under way.
use Rattle.std.specs.Prelude.{◌≡◌, ℕ, List, length, Result, Ok, Err, if◌then◌else◌}
use Rattle.std.specs.Borrow.{Bor}
use Rattle.basics.specs.declared.fault.Stop.{Stop}
use Rattle.basics.specs.declared.kinds.Kind.TheVariants.{BadText}
use Rattle.basics.specs.declared.fault.Spot.{Spot}
use Rattle.basics.specs.Reading.{Fails}
use Rattle.markup_rules.specs.Faults.{is_allowed_at, spot}
use Rattle.markup_rules.specs.Reading.{Markup, item_at, opens}
use Rattle.markup_rules.specs.Outcome.{State, changed, context_of, step}

-- markup at an offset, if it may stand there
abbrev pub taken : ℕ → Markup → State → Result State Spot
taken at m s = if is_allowed_at (context_of s) m then Ok (changed at m s) else Err (spot BadText at)

-- the item at the start is taken, or stops the reader
abbrev pub step_at : ℕ → List ℕ → State → Result State Spot
step_at total bytes s = step total (record { left = length bytes; opening = opens bytes; item = (item_at bytes).0 }) s
