-- One part that a record shows, and the one step of a pass that did it.
use Rattle.std.proofs.Common.{◌≡◌, ◌⊎◌, ℕ, List, [], ◌∷◌, length, subst, refl, sym, ap, ◌∙◌, inl, inr, Some, Result, Ok, Err}
use Rattle.nvm_record.specs.Lists.{IsAt}
use Rattle.nvm_record.specs.Step.{Deed, Operation}
use Rattle.nvm_geometry.specs.Namespace.{Namespace}
use Rattle.nvm_plan.specs.declared.job.Job.{Job}
use Rattle.nvm_plan.specs.declared.part.Part.{Part}
use Rattle.nvm_plan.specs.declared.part.PartResult.TheVariants as result
use Rattle.nvm_plan.specs.JobPart.{job_part_in}
use Rattle.nvm_plan.specs.Reply.{Reply}
use Rattle.nvm_store.specs.HistoryEntry.{HistoryEntry}
use Rattle.nvm_unit.specs.declared.replies.Changed.{Changed}
use Rattle.nvm_unit.specs.declared.replies.Changed.TheVariants.{Done, Failed, NoMemory, Full}
use Rattle.nvm_unit.specs.declared.replies.Observed.{Observed}
use Rattle.nvm_unit.specs.declared.replies.ObserveFault.{ObserveFault}
use Rattle.nvm_unit.specs.declared.replies.ObserveFault.TheVariants as observe_fault
use Rattle.nvm_unit.specs.declared.views.PassView.{PassView}
use Rattle.nvm_unit.specs.Marks.{HasMarked, entries_after, mine_after, point_of_look}
use Rattle.nvm_unit.specs.Replies.{entry_of_job, pass_after, point_of}
use Rattle.nvm_space.specs.Trace.{PartDone, DoesPart, reply_of_change, reply_of_look}
use Rattle.nvm_audit.specs.PointOrder.{least_after}
use Rattle.nvm_audit.specs.RecordedPart.{RecordedPart}
use Rattle.nvm_engine.specs.Inside.Shows.{Shows}
use Rattle.nvm_engine.proofs.InLists.{Stands, in_either, alone_there}
use Rattle.nvm_engine.proofs.KnownLaws.{MarkLaws}
use Rattle.nvm_engine.proofs.PassPlaces.{bounds_kept}

-- The pass did the part in this one step.
pub record IsTaken (ns : Namespace) (jobs : List Job) (x : RecordedPart) (p q : PassView) : Type 0 where
  pub did : PartDone
  pub shows : Shows ns jobs x did
  pub does : DoesPart did p q

-- The part is the one that made the entry, at place n, by a pass of this number.
pub record MadeIt (ns : Namespace) (jobs : List Job) (number n : ℕ) (entry : HistoryEntry) (x : RecordedPart) : Type 0 where
  pub job : Job
  pub its : IsAt jobs entry.job job
  pub in_unit : job_part_in ns job x.part.unit ≡ Some entry.operation
  pub pass : entry.pass ≡ number
  pub of_job : entry.job ≡ x.done.job
  pub result : x.part.result ≡ result.Done
  pub point : x.part.point ≡ n

-- What the step left in the pass.
pub record IsLeft (ns : Namespace) (jobs : List Job) (x : RecordedPart) (p q : PassView) : Type 0 where
  pub marked : HasMarked x.part.point p q
  pub least : least_after x.part x.part.result ≡ length q.seen
  pub number : q.number ≡ p.number
  pub bounds : q.bounds ≡ p.bounds
  pub mine : (i n : ℕ) (entry : HistoryEntry) → IsAt q.mine i (n, entry)
      → Stands p.mine (n, entry) ⊎ MadeIt ns jobs p.number n entry x

-- What is answered for a change and for a look has their point, and the entries that there are after them.
change_point : (unit : ℕ) (deed : Deed) (changed : Changed) → (reply_of_change unit deed changed).part.point ≡ point_of changed
change_point unit deed (Done n) = refl
change_point unit deed (Failed n statuses) = refl
change_point unit deed (NoMemory n) = refl
change_point unit deed (Full n) = refl

change_least : (unit : ℕ) (deed : Deed) (changed : Changed)
    → least_after (reply_of_change unit deed changed).part (reply_of_change unit deed changed).part.result
    ≡ entries_after changed
change_least unit deed (Done n) = refl
change_least unit deed (Failed n statuses) = refl
change_least unit deed (NoMemory n) = refl
change_least unit deed (Full n) = refl

look_point : (unit : ℕ) (deed : Deed) (answer : Result Observed ObserveFault)
    → (reply_of_look unit deed answer).part.point ≡ point_of_look answer
look_point unit deed (Ok observed) = refl
look_point unit deed (Err (observe_fault.NoMemory n)) = refl

look_least : (unit : ℕ) (deed : Deed) (answer : Result Observed ObserveFault)
    → least_after (reply_of_look unit deed answer).part (reply_of_look unit deed answer).part.result ≡ point_of_look answer
look_least unit deed (Ok observed) = refl
look_least unit deed (Err (observe_fault.NoMemory n)) = refl

-- A change and a look keep their pass's number.
change_number : (changed : Changed) (found : List HistoryEntry) (entry : HistoryEntry) (p : PassView)
    → (pass_after changed found entry p).number ≡ p.number
change_number (Done n) found entry p = refl
change_number (Failed n statuses) found entry p = refl
change_number (NoMemory n) found entry p = refl
change_number (Full n) found entry p = refl

number_kept : (did : PartDone) (p q : PassView) → DoesPart did p q → q.number ≡ p.number
number_kept did p q (inl changes) =
    let makes = changes.2 in
    ap (λ (v : PassView). v.number) makes.3 ∙ change_number changes.1 makes.0 (entry_of_job p did.job did.operation) p
number_kept did p q (inr looks) =
    let observes = looks.2 in
    ap (λ (v : PassView). v.number) observes.3

-- A pass's own entries after a change: those that it had, and where it was done the new one.
change_mine_of : (changed : Changed) (p : PassView) (job : ℕ) (op : Operation) (unit : ℕ) (deed : Deed) (i n : ℕ)
    (entry : HistoryEntry) → IsAt (mine_after changed p job op) i (n, entry)
    → Stands p.mine (n, entry)
    ⊎ (((reply_of_change unit deed changed).part.result ≡ result.Done) × (point_of changed ≡ n)
    × (entry_of_job p job op ≡ entry))
change_mine_of (Done m) p job op unit deed i n entry at =
    elim (in_either p.mine ((m, entry_of_job p job op) ∷ []) i (n, entry) at) [
      | inl here ↦ inl (i, here.1)
      | inr after ↦
          let is = alone_there (m, entry_of_job p job op) after.0 (n, entry) after.2 in
          inr (refl, ap (λ (e : ℕ × HistoryEntry). e.0) is, ap (λ (e : ℕ × HistoryEntry). e.1) is)
    ]
change_mine_of (Failed m statuses) p job op unit deed i n entry at = inl (i, at)
change_mine_of (NoMemory m) p job op unit deed i n entry at = inl (i, at)
change_mine_of (Full m) p job op unit deed i n entry at = inl (i, at)

module _ (ns : Namespace) (jobs : List Job) (laws : MarkLaws) (x : RecordedPart) (p q : PassView) where
  pub left_so : IsTaken ns jobs x p q → IsLeft ns jobs x p q
  left_so taken = by taken.does
    where
      by : DoesPart taken.did p q → IsLeft ns jobs x p q
      by (inl changes) =
          let did = taken.did in
          let shows = taken.shows in
          let unit = did.reply.part.unit in
          let deed = did.operation.deed in
          let changed = changes.1 in
          let makes = changes.2 in
          let part : x.part ≡ (reply_of_change unit deed changed).part =
          sym shows.part ∙ ap (λ (r : Reply). r.part) changes.3 in
          let point_is : x.part.point ≡ point_of changed = ap (λ (y : Part). y.point) part ∙ change_point unit deed changed in
          record {
            marked = subst (λ (n : ℕ). HasMarked n p q) (sym point_is)
                (laws.change_marks changed p q did.job did.operation makes);
            least = ap (λ (y : Part). least_after y y.result) part ∙ change_least unit deed changed
                ∙ sym (laws.change_entries changed p q did.job did.operation makes);
            number = number_kept did p q taken.does;
            bounds = bounds_kept did p q taken.does;
            mine = λ i n entry at.
                elim (change_mine_of changed p did.job did.operation unit deed i n entry
                (subst (λ (es : List (ℕ × HistoryEntry)). IsAt es i (n, entry))
                (laws.change_mine changed p q did.job did.operation makes) at)) [
                  | inl before ↦ inl before
                  | inr new ↦
                      let same = new.2 in
                      let job_is : did.job ≡ entry.job = ap (λ (e : HistoryEntry). e.job) same in
                      let operation_is : did.operation ≡ entry.operation = ap (λ (e : HistoryEntry). e.operation) same in
                      let number_is : entry.job ≡ x.done.job = sym job_is ∙ shows.number in
                      inr (record {
                        job = shows.job;
                        its = subst (λ (k : ℕ). IsAt jobs k shows.job) (sym number_is) shows.its;
                        in_unit = shows.in_unit ∙ ap (λ (o : Operation). Some o) operation_is;
                        pass = ap (λ (e : HistoryEntry). e.pass) (sym same);
                        of_job = number_is;
                        result = ap (λ (y : Part). y.result) part ∙ new.0;
                        point = point_is ∙ new.1;
                      })
                ];
          }
      by (inr looks) =
          let did = taken.did in
          let shows = taken.shows in
          let unit = did.reply.part.unit in
          let deed = did.operation.deed in
          let answer = looks.1 in
          let observes = looks.2 in
          let part : x.part ≡ (reply_of_look unit deed answer).part = sym shows.part ∙ ap (λ (r : Reply). r.part) looks.3 in
          let point_is : x.part.point ≡ point_of_look answer = ap (λ (y : Part). y.point) part ∙ look_point unit deed answer in
          record {
            marked = subst (λ (n : ℕ). HasMarked n p q) (sym point_is) (laws.look_marks answer p q did.operation observes);
            least = ap (λ (y : Part). least_after y y.result) part ∙ look_least unit deed answer
                ∙ sym (laws.look_entries answer p q did.operation observes);
            number = number_kept did p q taken.does;
            bounds = bounds_kept did p q taken.does;
            mine = λ i n entry at.
                inl (
                  i,
                  subst (λ (es : List (ℕ × HistoryEntry)). IsAt es i (n, entry))
                      (laws.look_mine answer p q did.operation observes) at,
                );
          }
