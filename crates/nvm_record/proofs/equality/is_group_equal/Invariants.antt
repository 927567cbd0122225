use Rattle.std.proofs.Common.{◌≡◌, take, bytes_eq}
use Rattle.nvm_record.proofs.equality.is_group_equal.Given as goal

abbrev pub invariant-loop-place : goal.invariant-loop-place
invariant-loop-place l = l.same ≡ bytes_eq (take l.place l.one) (take l.place l.other)
