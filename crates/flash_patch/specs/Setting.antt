-- Why a software breakpoint is not set.
use Rattle.std.specs.Prelude.{ℕ, ◌||◌, nat_lt, if◌then◌else◌, length, Option, None, Some}
use Rattle.part_spec.specs.Chip.{chip_of, words_of}
use Rattle.debug_spec.specs.Patch.{has, plantable}
use Rattle.debug_spec.specs.Breakpoints.{soft_limit}
use Rattle.flash_patch.specs.declared.plan.Refused.{Refused}
use Rattle.flash_patch.specs.declared.plan.Refused.TheVariants.{Range, AfterSkip, Full}
use Rattle.flash_patch.specs.State.{PlanState}

-- the address is not in the flash; or a BREAK there would be skipped as one word of two; or it is a new one, and there are as many as
-- there may be
abbrev pub refusal : PlanState → ℕ → Option Refused
refusal plan address = if nat_lt address (words_of (chip_of plan.part))
    then (if plantable (chip_of plan.part) plan.prog address
    then (if has plan.soft address || nat_lt (length plan.soft) soft_limit then None else Some Full)
    else Some AfterSkip)
    else Some Range
