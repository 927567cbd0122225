-- What a status says of what was done: Base Specification, "Status Field", and docs/STANDARD.md, "What a status says".
use Rattle.std.specs.Prelude.{ℕ, Bool, true, false, nat_eq, ◌&&◌, ◌||◌, if◌then◌else◌, Option, Some, None}
use Rattle.nvm_record.specs.declared.status.Status.{Status}
use Rattle.nvm_record.specs.declared.status.Statuses.{Statuses}
use Rattle.nvm_record.specs.declared.status.Statuses.TheVariants.{One, Two}
use Rattle.nvm_standard.specs.declared.told.Told.{Told}
use Rattle.nvm_standard.specs.declared.told.Told.TheVariants.{Done, ByHost, Before, Error}
use Rattle.nvm_trace.specs.declared.traced_job.Ending.{Ending}

abbrev pub is_code : Status → ℕ → ℕ → Bool
is_code s sct sc = nat_eq s.sct sct && nat_eq s.sc sc

-- the host's own software makes these, on a reset or an abort
abbrev pub is_by_host : Status → Bool
is_by_host s = nat_eq s.sct 3 || is_code s 0 0x07 || is_code s 0 0x08

-- the controller found these before it wrote anything
abbrev pub is_before : Status → Bool
is_before s =
    is_code s 0 0x01 || is_code s 0 0x02 || is_code s 0 0x09 || is_code s 0 0x0a || is_code s 0 0x0b || is_code s 0 0x14
    || is_code s 0 0x80

abbrev pub told_by : Status → Told
told_by s = if is_code s 0 0 then Done else if is_by_host s then ByHost else if is_before s then Before else Error

-- Where no end was seen, that says what a status of the host's does.
unfoldable pub told_of : Option Status → Told
told_of None = ByHost
told_of (Some s) = told_by s

-- the command ended with this status
unfoldable pub ended_as : Option Status → ℕ → ℕ → Bool
ended_as None sct sc = false
ended_as (Some s) sct sc = is_code s sct sc

-- the status of a command by itself, or of a pair's first
abbrev pub first_of : Statuses → Status
first_of (One s) = s
first_of (Two s t) = s

-- that of a pair's second
abbrev pub second_of : Statuses → Status
second_of (One s) = s
second_of (Two s t) = t

unfoldable pub first_status : Option Ending → Option Status
first_status None = None
first_status (Some e) = Some (first_of e.statuses)

unfoldable pub second_status : Option Ending → Option Status
second_status None = None
second_status (Some e) = Some (second_of e.statuses)

abbrev pub is_done : Told → Bool
is_done Done = true
is_done ByHost = false
is_done Before = false
is_done Error = false

abbrev pub is_host : Told → Bool
is_host Done = false
is_host ByHost = true
is_host Before = false
is_host Error = false

abbrev pub is_early : Told → Bool
is_early Done = false
is_early ByHost = false
is_early Before = true
is_early Error = false
