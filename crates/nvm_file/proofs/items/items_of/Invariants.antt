use Rattle.std.proofs.Common.{◌≡◌, length}
use Rattle.nvm_file.specs.Inside.Items.{Reads}
use Rattle.nvm_file.proofs.items.items_of.Given as goal

abbrev pub invariant-loop-place : goal.invariant-loop-place
invariant-loop-place g l = Reads (goal.F-post g l.fn.read) 0 l.fn.from l.items.items l.rest × (length l.items.items ≡ l.place)
