use Rattle.std.proofs.Common.{◌≡◌, ◌++◌, ℕ, List}
use Rattle.std.specs.Fmt.{HasWritten, IsPlainFormatter}
use Rattle.nvm_record.specs.Ranges.{ranges_of}
use Rattle.nvm_list.specs.Listing.{ranges_text}
use Rattle.nvm_list.proofs.RangePieces.{text_from}
use Rattle.nvm_list.proofs.line_pieces.RangesTextDisplay.fmt.Given as goal

-- what was written and the ranges that are left are the whole text
abbrev pub invariant-loop-place : goal.invariant-loop-place
invariant-loop-place g l =
    IsPlainFormatter l.fn.f → (done : List ℕ) × HasWritten g.W.Write.write_str_gives l.fn.f done l.f
    × (done ++ text_from l.payload l.place ≡ ranges_text (ranges_of l.payload))
