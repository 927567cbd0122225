-- What the parts of a deed do.
use Rattle.nvm_record.specs.Step.{Deed, reads, compares, pairs}
use Rattle.nvm_plan.specs.declared.kind.Kind.{Kind}
use Rattle.nvm_plan.specs.declared.kind.Kind.TheVariants.{Act, Pair, Look}

abbrev pub kind_of : Deed → Kind
kind_of reads = Look
kind_of (compares payload) = Look
kind_of (pairs payload new) = Pair
kind_of _ = Act
