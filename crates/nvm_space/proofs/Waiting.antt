-- A pass that waited before its step is one that made its step.
use Rattle.std.proofs.Common.{◌≡◌, ℕ, List, Result, set, sym, ap, ◌∙◌, subst, inl, inr}
use Rattle.std.proofs.lemmas.List.{set-set}
use Rattle.nvm_record.specs.Lists.{IsAt}
use Rattle.nvm_record.specs.Step.{Operation}
use Rattle.nvm_unit.specs.Replies.{Makes, Observes, Waits}
use Rattle.nvm_unit.specs.declared.replies.Changed.{Changed}
use Rattle.nvm_unit.specs.declared.replies.ObserveFault.{ObserveFault}
use Rattle.nvm_unit.specs.declared.replies.Observed.{Observed}
use Rattle.nvm_unit.specs.declared.views.PassView.{PassView}
use Rattle.nvm_space.specs.Trace.{PartDone, DoesPart}
use Rattle.nvm_space.specs.UnderWay.{MayHaveWaited}
use Rattle.nvm_space.specs.Visits.{BecomesAt}
use Rattle.nvm_space.proofs.Lists.{at_below, at_one, set_here}

pub after_waiting : (unit : ℕ) (So : PassView → PassView → Type 0) (reached now new : List PassView)
    → ((p q r : PassView) → Waits p q → So q r → So p r)
    → MayHaveWaited unit reached now → BecomesAt unit So now new → BecomesAt unit So reached new
after_waiting unit So reached now new goes (inl same) becomes =
    subst (λ (vs : List PassView). BecomesAt unit So vs new) same becomes
after_waiting unit So reached now new goes (inr waited) becomes =
    let there : IsAt now unit waited.after =
    subst (λ (vs : List PassView). IsAt vs unit waited.after) (sym waited.others)
    (set_here reached unit waited.after (at_below reached unit waited.before waited.was)) in
    let same : becomes.before ≡ waited.after = at_one now unit becomes.before waited.after becomes.was there in
    record {
      before = waited.before;
      after = becomes.after;
      was = waited.was;
      so = goes waited.before waited.after becomes.after waited.so
          (subst (λ (p : PassView). So p becomes.after) same becomes.so);
      proper = becomes.proper;
      others = becomes.others ∙ (ap (λ (vs : List PassView). set vs unit becomes.after) waited.others
          ∙ set-set reached unit waited.after becomes.after);
    }

-- So it is of a part of a job.
pub part_after_waiting : (unit : ℕ) (did : PartDone) (reached now new : List PassView)
    → ((changed : Changed) (p q r : PassView) (job : ℕ) (op : Operation) → Waits p q → Makes changed q job op r → Makes changed p job op r)
    → ((answer : Result Observed ObserveFault) (p q r : PassView) (op : Operation) → Waits p q → Observes answer q op r → Observes answer p op r)
    → MayHaveWaited unit reached now → BecomesAt unit (DoesPart did) now new → BecomesAt unit (DoesPart did) reached new
part_after_waiting unit did reached now new makes observes waited becomes =
    after_waiting unit (DoesPart did) reached now new goes waited becomes
  where
    goes : (p q r : PassView) → Waits p q → DoesPart did q r → DoesPart did p r
    goes p q r waits (inl change) = inl (change.0, change.1, makes change.1 p q r did.job did.operation waits change.2, change.3)
    goes p q r waits (inr look) = inr (look.0, look.1, observes look.1 p q r did.operation waits look.2, look.3)

-- A pass that waits again has waited.
pub waited_again : (unit : ℕ) (start now new : List PassView) → ((p q r : PassView) → Waits p q → Waits q r → Waits p r)
    → MayHaveWaited unit start now → BecomesAt unit Waits now new → MayHaveWaited unit start new
waited_again unit start now new again waited becomes = inr (after_waiting unit Waits start now new again waited becomes)
