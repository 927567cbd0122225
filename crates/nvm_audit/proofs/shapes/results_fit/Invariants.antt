use Rattle.std.proofs.Common.{◌≡◌, IsTrue}
use Rattle.nvm_record.specs.Step.{Deed}
use Rattle.nvm_plan.specs.Reply.{can_have}
use Rattle.nvm_plan.specs.Kinds.{kind_of}
use Rattle.nvm_audit.proofs.Fronts.{KeepsAll}
use Rattle.nvm_audit.proofs.shapes.results_fit.Given as goal

abbrev pub invariant-loop-part : goal.invariant-loop-part
invariant-loop-part l =
    (deed : Deed) → kind_of deed ≡ l.kind → KeepsAll (λ part. IsTrue (can_have deed part.result)) l.parts l.part-index
