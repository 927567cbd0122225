use Rattle.std.proofs.Common.{◌≡◌, ◌+◌, ◌==◌, drop, find, map}
use Rattle.std.specs.Option.{option_or}
use Rattle.nvm_explain.specs.Doing.{first_done}
use Rattle.nvm_explain.proofs.doing.done_of.Given as goal

-- what is first of what is left of this worker and of those after it is first of all
abbrev pub invariant-loop-done : goal.invariant-loop-done
invariant-loop-done l =
    option_or (find (λ done. done.job == l.number) (drop l.done-index l.done-items))
    (first_done l.number (map (λ work. work.items) (drop (l.work-index + 1) l.all)))
    ≡ first_done l.number (map (λ work. work.items) l.all)

-- what is first of the workers that are left is first of all
abbrev pub invariant-loop-work : goal.invariant-loop-work
invariant-loop-work l =
    first_done l.number (map (λ work. work.items) (drop l.work-index l.all)) ≡ first_done l.number (map (λ work. work.items) l.all)
