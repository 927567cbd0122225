-- The table of docs/STANDARD.md, "What a command does": the points of each command and of each fused pair.
use Rattle.std.specs.Prelude.{ℕ, ◌+◌, ◌==◌, Bool, true, false, not, ◌&&◌, ◌||◌, List, [], if◌then◌else◌, Option, Some, None}
use Rattle.std.specs.List.{flat_map}
use Rattle.nvm_record.specs.declared.command.Command.{Command}
use Rattle.nvm_record.specs.declared.lba_range.LbaRange.{LbaRange}
use Rattle.nvm_record.specs.declared.op.Op.{Op}
use Rattle.nvm_record.specs.declared.op.Op.TheVariants.{Write, Read, WriteUncorrectable, Compare, WriteZeroes, Dataset, Other}
use Rattle.nvm_record.specs.declared.status.Status.{Status}
use Rattle.nvm_record.specs.Ranges.{ranges_of}
use Rattle.nvm_geometry.specs.Namespace.{Namespace}
use Rattle.nvm_plan.specs.Checks.{are_compare_and_write}
use Rattle.nvm_standard.specs.PointView.{PointView, FoundView, bytes, any_bytes, puts, zeroes, mark}
use Rattle.nvm_standard.specs.Rows.{write_row, find_row, differ_row, deallocate_row, unknown_row, pair_row, held_row, open_row}
use Rattle.nvm_standard.specs.Runs.{run, run_in, is_inside, is_within, front}
use Rattle.nvm_standard.specs.Statuses.{told_of, ended_as, is_done, is_host, is_early}
use Rattle.nvm_standard.specs.declared.doer.Doer.{Doer}
use Rattle.nvm_standard.specs.declared.profile.Held.{Held}
use Rattle.nvm_standard.specs.declared.profile.Held.TheVariants.{Atomic, AtomicAll, Whole, ByBlocks}
use Rattle.nvm_standard.specs.declared.run.Run.{Run}
use Rattle.nvm_standard.specs.declared.told.Told.{Told}
use Rattle.nvm_standard.specs.declared.told.Told.TheVariants.{Done}

-- those of the command's blocks that exist
abbrev pub run_of : Namespace → Command → Run
run_of ns c = run_in ns c.slba (c.nlb + 1)

-- the data of those of its blocks that exist
abbrev pub data_of : Namespace → Command → List ℕ
data_of ns c = front ns.block_size (run_of ns c).blocks c.payload

-- Write Zeroes and Write Uncorrectable are entries, and Compares are held as Reads are.
abbrev pub takes_all : Held → Bool
takes_all Atomic = false
takes_all AtomicAll = true
takes_all Whole = true
takes_all ByBlocks = false

abbrev pub ties_reads : Held → Bool
ties_reads Atomic = true
ties_reads AtomicAll = true
ties_reads Whole = false
ties_reads ByBlocks = false

abbrev pub ties_compares : Held → Bool
ties_compares Atomic = false
ties_compares AtomicAll = true
ties_compares Whole = false
ties_compares ByBlocks = false

-- the data that came back, or any where the trace has none
abbrev pub found_of_read : Namespace → Run → Option (List ℕ) → FoundView
found_of_read ns r None = any_bytes
found_of_read ns r (Some payload) = bytes (front ns.block_size r.blocks payload)

unfoldable pub read_points : Namespace → Held → Doer → Command → Option Status → Option (List ℕ) → List PointView
read_points ns held d c s payload =
    if is_done (told_of s) then find_row ns held (ties_reads held) d (run_of ns c) (found_of_read ns (run_of ns c) payload) else []

-- Where its range goes past the end, a Compare that ended 2/85 may have none.
unfoldable pub differ_points : Namespace → Doer → Command → List PointView
differ_points ns d c = if is_inside ns c.slba (c.nlb + 1) then differ_row d (run_of ns c) (data_of ns c) else []

unfoldable pub compare_points : Namespace → Held → Doer → Command → Option Status → List PointView
compare_points ns held d c s =
    if is_done (told_of s) then find_row ns held (ties_compares held) d (run_of ns c) (bytes (data_of ns c)) else
    if ended_as s 2 0x85 then differ_points ns d c else []

-- the command was never begun
abbrev pub was_refused : Option Status → Bool
was_refused s = ended_as s 0 0x01 || ended_as s 0 0x0b

-- One that the host ended isn't over.
abbrev pub over_of : Doer → Told → Option ℕ
over_of d told = if is_host told then None else d.ended

unfoldable pub deallocate_points : Namespace → Doer → Command → Option Status → List PointView
deallocate_points ns d c s =
    if was_refused s then [] else
    flat_map (λ (r : LbaRange). deallocate_row d (over_of d (told_of s)) (run_in ns r.first r.blocks)) (ranges_of c.payload)

-- Flush, Verify and the reservations
abbrev pub is_silent : ℕ → Bool
is_silent opcode =
    opcode == 0x00 || opcode == 0x0c || opcode == 0x0d || opcode == 0x0e || opcode == 0x11 || opcode == 0x15

-- It may do anything at any time, but a Copy not after its end.
unfoldable pub unknown_points : Namespace → Doer → ℕ → Option Status → List PointView
unknown_points ns d opcode s =
    if is_silent opcode || was_refused s then [] else
    unknown_row d (run 0 ns.nsze) (if opcode == 0x19 then over_of d (told_of s) else None)

-- a command of this namespace
unfoldable pub op_points : Namespace → Held → Doer → Op → Command → Option Status → Option (List ℕ) → List PointView
op_points ns held d Write c s payload =
    write_row d (run_of ns c) (puts (data_of ns c)) (is_within ns ns.nawun c.slba (c.nlb + 1)) (told_of s)
op_points ns held d WriteZeroes c s payload =
    write_row d (run_of ns c) zeroes (takes_all held && is_within ns ns.nawun c.slba (c.nlb + 1)) (told_of s)
op_points ns held d WriteUncorrectable c s payload =
    write_row d (run_of ns c) mark (takes_all held && is_within ns ns.nawun c.slba (c.nlb + 1)) (told_of s)
op_points ns held d Read c s payload = read_points ns held d c s payload
op_points ns held d Compare c s payload = compare_points ns held d c s
op_points ns held d (Dataset deallocate) c s payload = if deallocate then deallocate_points ns d c s else []
op_points ns held d (Other opcode) c s payload = unknown_points ns d opcode s

-- the command is of this namespace
abbrev pub is_here : Command → Bool
is_here c = c.nsid == 1

-- a command, or one of two that are no pair
unfoldable pub single_points : Namespace → Held → Doer → Command → Option Status → Option (List ℕ) → List PointView
single_points ns held d c s payload = if is_here c then op_points ns held d c.op c s payload else []

-- The two are a Compare and a Write of the same blocks of this namespace.
unfoldable pub is_pair : Command → Command → Bool
is_pair c e = are_compare_and_write c.op e.op && is_here c && is_here e && c.slba == e.slba && c.nlb == e.nlb

-- Nothing was written, or nothing is known but that.
abbrev pub says_nothing : Option Status → Option Status → Bool
says_nothing s t =
    ended_as s 2 0x81 || is_early (told_of t) || is_early (told_of s) && not (ended_as s 0 0x09)

-- a pair of which it isn't known whether its comparison held; `host`: nor that it is over
unfoldable pub unsure_points : Namespace → Doer → Command → Command → Bool → List PointView
unsure_points ns d c e host = open_row d (run_of ns c) (data_of ns c) (data_of ns e) (if host then None else d.ended)

-- a pair, by the statuses of its Compare and its Write
unfoldable pub pair_points : Namespace → Doer → Command → Command → Option Status → Option Status → List PointView
pair_points ns d c e s t =
    if is_done (told_of s) && is_done (told_of t) then
    pair_row d (run_of ns c) (is_within ns ns.nacwu c.slba (c.nlb + 1)) (data_of ns c) (data_of ns e) else
    if ended_as s 2 0x85 then differ_points ns d c else
    if is_done (told_of s) then held_row d (run_of ns c) (data_of ns c) (data_of ns e) (told_of t) else
    if is_done (told_of t) then held_row d (run_of ns c) (data_of ns c) (data_of ns e) Done else
    if says_nothing s t then [] else
    unsure_points ns d c e (is_host (told_of s) || is_host (told_of t))
