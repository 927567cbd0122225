-- What a gathered record shows of one unit is lawful.
use Rattle.std.proofs.Common.{◌≡◌, ℕ, ◌<◌, ◌≤◌, List, length, subst, refl, sym, ap, ◌∙◌, arith, inl, inr, Some}
use Rattle.nvm_record.specs.Lists.{IsAt}
use Rattle.nvm_geometry.specs.Large.{regions_of}
use Rattle.nvm_geometry.specs.Namespace.{Namespace}
use Rattle.nvm_plan.specs.declared.job.Job.{Job}
use Rattle.nvm_plan.specs.declared.part.PartResult.TheVariants.{Done}
use Rattle.nvm_plan.specs.JobPart.{job_part_in}
use Rattle.nvm_plan.specs.UnitPlace.{IsUnitPlace}
use Rattle.nvm_store.specs.HistoryEntry.{HistoryEntry}
use Rattle.nvm_unit.specs.declared.bounds.Bounds.{Bounds}
use Rattle.nvm_unit.specs.declared.views.PassView.{PassView}
use Rattle.nvm_unit.specs.Ends.{views_of}
use Rattle.nvm_unit.specs.Passes.{UnitName, PassState, Finds}
use Rattle.nvm_unit.specs.Views.{Begins, entries_by, newcomer}
use Rattle.nvm_space.specs.Ports.{PortState, new_port, new_pass}
use Rattle.nvm_space.specs.Spaces.{SpaceName}
use Rattle.nvm_audit.specs.LawfulUnit.{IsLawfulUnit, IsPartOfItsJob, MadeEntry}
use Rattle.nvm_audit.specs.PointOrder.{least_after}
use Rattle.nvm_audit.specs.RecordedJob.{RecordedJob}
use Rattle.nvm_audit.specs.RecordedPart.{RecordedPart, parts_of_work, parts_in_unit}
use Rattle.nvm_audit.specs.RecordView.{RecordView}
use Rattle.nvm_audit.specs.Resting.{IsRightAtItsPoint}
use Rattle.nvm_engine.specs.Gathered.{IsGathered}
use Rattle.nvm_engine.proofs.InLists.{none_there, some_there, mapped_at}
use Rattle.nvm_engine.proofs.KnownLaws.{AnswerLaws, MarkLaws, HistoryLaws}
use Rattle.nvm_engine.proofs.OnePass.{TakesAll, IsTakenBetween, IsMadeAmong, all_kept, taken_at, never_back, made_among}
use Rattle.nvm_engine.proofs.PartRests.{rests_so, made_so}
use Rattle.nvm_engine.proofs.Places.{at_below}
use Rattle.nvm_engine.proofs.PassPlaces.{new_port_lies}
use Rattle.nvm_engine.proofs.PortParts.{JobsAreShown, work_shown, takes_all}
use Rattle.nvm_engine.proofs.WorkersParts.{work_by, of_unit, unit_in_order, in_unit_of}

-- What a worker's pass of the unit did: all the worker's parts in the unit, from when the pass was new; and what it had seen
-- begins the unit's history.
record IsPassOfWork (s : SpaceName) (jobs : List Job) (k : ℕ) (unit : UnitName) (history : List HistoryEntry) (worker : ℕ)
    (work : List RecordedJob) : Type 0 where
  pub last : PassView
  pub takes : TakesAll s.namespace jobs k (parts_of_work worker work) (newcomer unit.bounds worker) last
  pub finds : Finds (length history) last history

-- A part of the worker whose number the entry bears made it.
record IsMade (s : SpaceName) (r : RecordView) (k i : ℕ) (entry : HistoryEntry) : Type 0 where
  pub work : List RecordedJob
  pub there : IsAt r.done entry.pass work
  pub made : IsMadeAmong s.namespace r.jobs k entry.pass i entry (parts_of_work entry.pass work)

-- The part was done in one step of its worker's pass, and what the pass had seen then begins the unit's history.
record IsTakenIn (s : SpaceName) (jobs : List Job) (unit : UnitName) (history : List HistoryEntry)
    (x : RecordedPart) : Type 0 where
  pub last : PassView
  pub step : IsTakenBetween s.namespace jobs x (newcomer unit.bounds x.worker) last
  pub begins : Begins step.after.seen history

-- Each worker has a port.
pub port_of : (s : SpaceName) (ports : List PortState) (r : RecordView) → IsGathered s ports r
    → (worker : ℕ) (work : List RecordedJob)
    → IsAt r.done worker work → (port : PortState) × IsAt ports worker port
port_of s ports r gathered worker work at =
    let below : worker < length r.done = at_below r.done worker work at in
    let workers : length r.done ≡ s.ports = gathered.workers in
    let count : length ports ≡ s.ports = gathered.all.count in
    some_there ports worker (omega arith)

module _ (answers : AnswerLaws) (marks : MarkLaws) (histories : HistoryLaws) (s : SpaceName) (ports : List PortState)
    (r : RecordView) (shown : JobsAreShown s.namespace r.jobs) (gathered : IsGathered s ports r)
    (alike : regions_of s.namespace ≡ s.namespace) (k : ℕ) (unit : UnitName)
    (history : List HistoryEntry) (in_space : IsAt s.units k unit) (in_record : IsAt r.units k history) where
  -- It lies at the place of the unit of its number, which is a region.
  place_so : IsUnitPlace s.namespace k unit.bounds.place
  place_so = subst (λ (ns : Namespace). IsUnitPlace ns k unit.bounds.place) alike (gathered.laid.each k unit in_space).place

  pass_of_work : (worker : ℕ) (work : List RecordedJob) → IsAt r.done worker work
      → IsPassOfWork s r.jobs k unit history worker work
  pass_of_work worker work at =
      let ends = gathered.ends k unit history in_space in_record in
      let port = port_of s ports r gathered worker work at in
      let below : worker < length ports = at_below ports worker port.0 port.1 in
      let count : length ends.passes ≡ length ports = ends.theirs.count in
      let pass = some_there ends.passes worker (omega arith) in
      let its : IsAt port.0.passes k pass.0 = ends.theirs.each worker port.0 pass.0 port.1 pass.1 in
      let old = views_of (new_port s.units worker).passes in
      let new = views_of port.0.passes in
      let first : IsAt old k (newcomer unit.bounds worker) =
      mapped_at (λ (p : PassState). p.view) (new_port s.units worker).passes k (new_pass worker unit)
      (mapped_at (new_pass worker) s.units k unit in_space) in
      let last : IsAt new k pass.0.view = mapped_at (λ (p : PassState). p.view) port.0.passes k pass.0 its in
      let done = work_shown s.namespace r.jobs shown worker work old new (gathered.done worker work port.0 at port.1)
      (new_port_lies s worker alike gathered.laid) in
      record {
        last = pass.0.view;
        takes = takes_all s.namespace r.jobs k (parts_of_work worker work) done.acts old new (newcomer unit.bounds worker)
            pass.0.view done.shows done.does first last;
        finds = ends.whole.each worker pass.0.view (mapped_at (λ (p : PassState). p.view) ends.passes worker pass.0 pass.1);
      }

  -- Each entry was made by a part of the worker whose number it bears.
  entry_made : (i : ℕ) (entry : HistoryEntry) → IsAt history i entry → IsMade s r k i entry
  entry_made i entry at =
      let ends = gathered.ends k unit history in_space in_record in
      let bears : entry.pass < unit.bounds.passes = ends.whole.lawful.bears i entry at in
      let passes : unit.bounds.passes ≡ s.ports = (gathered.laid.each k unit in_space).passes in
      let workers : length r.done ≡ s.ports = gathered.workers in
      let work = some_there r.done entry.pass (omega arith) in
      let pass = pass_of_work entry.pass work.0 work.1 in
      let parts = parts_of_work entry.pass work.0 in
      let first = newcomer unit.bounds entry.pass in
      let kept = all_kept marks histories s.namespace r.jobs k parts first pass.last pass.takes in
      let number : pass.last.number ≡ entry.pass = kept.number in
      let own = histories.among history i entry at in
      let mine : IsAt pass.last.mine own.0 (i, entry) =
      subst (λ (es : List (ℕ × HistoryEntry)). IsAt es own.0 (i, entry)) pass.finds.mine
      (subst (λ (n : ℕ). IsAt (entries_by n history) own.0 (i, entry)) (sym number) own.1) in
      elim (made_among marks histories s.namespace r.jobs k parts first pass.last pass.takes own.0 i entry mine) [
        | inl before ↦ absurd (none_there before.0 (i, entry) before.1)
        | inr made ↦ record { work = work.0; there = work.1; made = made }
      ]

  entry_is_part : (i : ℕ) (entry : HistoryEntry) → IsAt history i entry → IsPartOfItsJob s.namespace r.jobs k entry
  entry_is_part i entry at =
      let among = (entry_made i entry at).made in
      record {
        job = among.made.job;
        its = among.made.its;
        part = subst (λ (n : ℕ). job_part_in s.namespace among.made.job n ≡ Some entry.operation) among.in_unit
            among.made.in_unit;
      }

  entry_claimed : (i : ℕ) (entry : HistoryEntry) → IsAt history i entry
      → (j : ℕ) × (p : RecordedPart) × IsAt (parts_in_unit k r.done) j p × MadeEntry i entry p
  entry_claimed i entry at =
      let its = entry_made i entry at in
      let among = its.made in
      let stands = in_unit_of k entry.pass r.done its.work among.place among.part its.there among.at among.in_unit in (
        stands.0,
        among.part,
        stands.1,
        record {
          worker = sym (work_by entry.pass its.work among.place among.part among.at);
          job = among.made.of_job;
          result = among.made.result;
          point = among.made.point;
        },
      )

  part_taken : (j : ℕ) (x : RecordedPart) → IsAt (parts_in_unit k r.done) j x → IsTakenIn s r.jobs unit history x
  part_taken j x at =
      let found = of_unit k r.done j x at in
      let of = found.1 in
      let pass = pass_of_work x.worker of.work of.there in
      let step = taken_at marks histories s.namespace r.jobs k (parts_of_work x.worker of.work) (newcomer unit.bounds x.worker)
      pass.last pass.takes of.place x of.at found.0 in
      record {
        last = pass.last;
        step = step;
        begins = histories.further step.after.seen pass.last.seen history step.rest pass.finds.seen;
      }

  part_made : (j : ℕ) (x : RecordedPart) → IsAt (parts_in_unit k r.done) j x → x.part.result ≡ Done
      → (entry : HistoryEntry) × IsAt history x.part.point entry × MadeEntry x.part.point entry x
  part_made j x at done =
      let its = part_taken j x at in
      let made = made_so answers s.namespace r.jobs x its.step.before its.step.after history its.step.taken its.begins done in (
        made.entry,
        made.at,
        record { worker = made.pass ∙ its.step.number; job = made.job; result = done; point = refl },
      )

  part_rests : (j : ℕ) (x : RecordedPart) → IsAt (parts_in_unit k r.done) j x
      → IsRightAtItsPoint s.namespace s.limit r.jobs history x
  part_rests j x at =
      let its = part_taken j x at in
      let laid = gathered.laid.each k unit in_space in
      rests_so answers s.namespace s.limit r.jobs x its.step.before its.step.after history its.step.taken its.begins
      (ap (λ (b : Bounds). b.place.size) its.step.bounds ∙ place_so.size)
      (ap (λ (b : Bounds). b.limit) its.step.bounds ∙ laid.limit)

  parts_in_order : (i j : ℕ) (x y : RecordedPart) → IsAt (parts_in_unit k r.done) i x → IsAt (parts_in_unit k r.done) j y
      → i < j
      → y.worker ≡ x.worker → least_after x.part x.part.result ≤ y.part.point
  parts_in_order i j x y at also lt same =
      let both = unit_in_order k r.done i j x y at also lt same in
      let pass = pass_of_work x.worker both.work both.there in
      never_back marks histories s.namespace r.jobs k (parts_of_work x.worker both.work) (newcomer unit.bounds x.worker)
      pass.last pass.takes both.order.first both.order.second x y both.order.first_at both.order.second_at both.order.before
      (of_unit k r.done i x at).0 (of_unit k r.done j y also).0

  pub unit_lawful : IsLawfulUnit s.namespace s.limit r.jobs k history (parts_in_unit k r.done)
  unit_lawful = record {
    place = unit.bounds.place;
    lies = place_so;
    lawful = (gathered.ends k unit history in_space in_record).whole.lawful.lawful;
    entries = entry_is_part;
    claimed = entry_claimed;
    made = part_made;
    rests = part_rests;
    order = parts_in_order;
  }
