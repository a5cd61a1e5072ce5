-- What the devices are like from the outside: each trait has one such state, before a call and after it.
use Rattle.std.specs.Prelude.{ℕ, List, Option}
use Rattle.outside.specs.Files.{Files}

-- Files to read from. Where `tells` holds, `files` is what each path has. `faults` counts the reads that failed. One
-- that `is_sure` never fails.
pub record SourcesState : Type 1 where
  pub tells : Type 0
  pub files : Files
  pub faults : ℕ
  pub is_sure : Type 0

-- Files to write to. Where `tells` holds, `files` is what each path has and `begun` the path begun last. `faults`
-- counts the calls that failed. One that `is_sure` fails only for want of `room`, the most bytes that each path may
-- hold, None where it may not be begun.
pub record OutputsState : Type 1 where
  pub tells : Type 0
  pub files : Files
  pub begun : Option (List ℕ)
  pub faults : ℕ
  pub is_sure : Type 0
  pub room : List ℕ → Option ℕ

-- Where text is said. Where `tells` holds, `said` is all that was said. `faults` counts the calls that failed. One
-- that `is_sure` fails only where the text said would exceed its `room`.
pub record SayState : Type 1 where
  pub tells : Type 0
  pub said : List ℕ
  pub faults : ℕ
  pub is_sure : Type 0
  pub room : ℕ
