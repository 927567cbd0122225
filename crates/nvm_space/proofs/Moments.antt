-- What a pass was answered rests on a point of the history that its unit has at any later moment.
use Rattle.std.proofs.Common.{◌≡◌, ℕ, ◌≤◌, List, Ok, Err, Result, length, sym, subst}
use Rattle.nvm_record.specs.Medium.{Medium}
use Rattle.nvm_record.specs.Step.{Operation}
use Rattle.nvm_store.specs.HistoryEntry.{HistoryEntry}
use Rattle.nvm_store.specs.Point.{point}
use Rattle.nvm_unit.specs.Marks.{HasMarked, point_of_look}
use Rattle.nvm_unit.specs.Replies.{AnswersChange, AnswersLook, point_of}
use Rattle.nvm_unit.specs.Views.{Begins}
use Rattle.nvm_unit.specs.declared.replies.Changed.{Changed}
use Rattle.nvm_unit.specs.declared.replies.Changed.TheVariants.{Done, Failed, NoMemory, Full}
use Rattle.nvm_unit.specs.declared.replies.Observed.{Observed}
use Rattle.nvm_unit.specs.declared.replies.ObserveFault.{ObserveFault}
use Rattle.nvm_unit.specs.declared.replies.ObserveFault.TheVariants as observe_fault
use Rattle.nvm_unit.specs.declared.views.PassView.{PassView}
use Rattle.nvm_space.specs.Moment.{ChangeRests, LookRests}

change_point : (changed : Changed) (n limit : ℕ) (op : Operation) (m : Medium) → AnswersChange changed n limit op m → point_of changed ≡ n
change_point (Done point) n limit op m answer = answer.0
change_point (Failed point statuses) n limit op m answer = answer.0
change_point (NoMemory point) n limit op m answer = answer.0
change_point (Full point) n limit op m answer = answer.0

look_point : (answer : Result Observed ObserveFault) (n : ℕ) (op : Operation) (m : Medium) → AnswersLook answer n op m → point_of_look answer ≡ n
look_point (Ok observed) n op m rests = rests.0
look_point (Err (observe_fault.NoMemory point)) n op m rests = rests.0

pub change_rests : (changed : Changed) (p q : PassView) (op : Operation) (history : List HistoryEntry) (n : ℕ) → n ≤ length history
    → AnswersChange changed n p.bounds.limit op (point p.bounds.place.size history n) → HasMarked (point_of changed) p q → Begins p.seen history
    → ChangeRests changed p op history
change_rests changed p q op history n within answers marked begins =
    let same = change_point changed n _ _ _ answers in
    record {
      at = record { begins = begins; since = marked.within; within = subst (λ (k : ℕ). k ≤ length history) (sym same) within };
      answers = subst (λ (k : ℕ). AnswersChange changed k p.bounds.limit op (point p.bounds.place.size history k)) (sym same) answers;
    }

pub look_rests : (answer : Result Observed ObserveFault) (p q : PassView) (op : Operation) (history : List HistoryEntry) (n : ℕ) → n ≤ length history
    → AnswersLook answer n op (point p.bounds.place.size history n) → HasMarked (point_of_look answer) p q → Begins p.seen history
    → LookRests answer p op history
look_rests answer p q op history n within answers marked begins =
    let same = look_point answer n _ _ answers in
    record {
      at = record { begins = begins; since = marked.within; within = subst (λ (k : ℕ). k ≤ length history) (sym same) within };
      answers = subst (λ (k : ℕ). AnswersLook answer k op (point p.bounds.place.size history k)) (sym same) answers;
    }
