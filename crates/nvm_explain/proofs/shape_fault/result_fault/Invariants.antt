use Rattle.std.proofs.Common.{◌≡◌, drop}
use Rattle.nvm_record.specs.Step.{Deed}
use Rattle.nvm_plan.specs.Kinds.{kind_of}
use Rattle.nvm_explain.specs.ShapeFault.{result_fault}
use Rattle.nvm_explain.proofs.shape_fault.result_fault.Given as goal

-- what is first wrong with the parts that are left is what is first wrong with all
abbrev pub invariant-loop-part : goal.invariant-loop-part
invariant-loop-part l = (deed : Deed) → kind_of deed ≡ l.kind → result_fault deed (drop l.part-index l.parts) ≡ result_fault deed l.parts
