-- What a record shows of a part is right at its point, in each history that begins with what the part's pass had seen.
use Rattle.std.proofs.Common.{◌≡◌, ℕ, ◌<◌, ◌≤◌, List, length, subst, refl, sym, ap, ◌∙◌, arith, inl, inr, Bool, true, false, not, IsTrue, Option, Some, None, Result, Ok, Err}
use Rattle.nvm_record.specs.Deeds.{IsAct, IsLook, IsFailedPair, is_look}
use Rattle.nvm_record.specs.Lists.{IsAt}
use Rattle.nvm_record.specs.Medium.{Medium}
use Rattle.nvm_record.specs.Status.{IsSuccess}
use Rattle.nvm_record.specs.Step.{Operation, statuses_of, data_of}
use Rattle.nvm_geometry.specs.Namespace.{Namespace}
use Rattle.nvm_geometry.specs.Parts.{part_in}
use Rattle.nvm_plan.specs.declared.job.Job.{Job}
use Rattle.nvm_plan.specs.declared.part.Part.{Part}
use Rattle.nvm_plan.specs.declared.part.PartResult.{PartResult}
use Rattle.nvm_plan.specs.declared.part.PartResult.TheVariants as result
use Rattle.nvm_plan.specs.Reply.{Reply}
use Rattle.nvm_store.specs.Answer.{told_by, read_by}
use Rattle.nvm_store.specs.HistoryEntry.{HistoryEntry}
use Rattle.nvm_store.specs.Point.{point, RestsOn}
use Rattle.nvm_unit.specs.declared.replies.Changed.{Changed}
use Rattle.nvm_unit.specs.declared.replies.Changed.TheVariants.{Done, Failed, NoMemory, Full}
use Rattle.nvm_unit.specs.declared.replies.Observed.{Observed}
use Rattle.nvm_unit.specs.declared.replies.ObserveFault.{ObserveFault}
use Rattle.nvm_unit.specs.declared.replies.ObserveFault.TheVariants as observe_fault
use Rattle.nvm_unit.specs.declared.views.PassView.{PassView}
use Rattle.nvm_unit.specs.Replies.{Makes, Observes, entry_of_job}
use Rattle.nvm_unit.specs.Views.{Begins}
use Rattle.nvm_space.specs.Trace.{PartDone, DoesPart, reply_of_change, reply_of_look}
use Rattle.nvm_audit.specs.RecordedPart.{RecordedPart, told_of}
use Rattle.nvm_audit.specs.Resting.{HasRightStatus, IsRightAtItsPoint}
use Rattle.nvm_engine.proofs.KnownLaws.{AnswerLaws}
use Rattle.nvm_engine.proofs.PartTaken.{IsTaken}

-- The part, which did this operation and read this, is right at its point.
record IsRight (size limit : ℕ) (history : List HistoryEntry) (op : Operation) (x : RecordedPart)
    (read : Option (List ℕ)) : Type 0 where
  pub within : x.part.point ≤ length history
  pub status : HasRightStatus size limit history op x x.part.result
  pub payload : (bytes : List ℕ) → read ≡ Some bytes → data_of op (point size history x.part.point) ≡ Some bytes

-- No look is an act.
look_or_act : (look : Bool) → IsTrue look → IsTrue (not look) → ⊥
look_or_act true looks acts = cc acts
look_or_act false looks acts = cc looks

module _ (laws : AnswerLaws) (x : RecordedPart) (number unit : ℕ) (op : Operation) (p q : PassView)
    (history : List HistoryEntry) (begins : Begins q.seen history) where
  -- the medium at the point of n entries
  abbrev medium : ℕ → Medium
  medium n = point p.bounds.place.size history n

  abbrev EndsRight : PartResult → Type 0
  EndsRight ended = HasRightStatus p.bounds.place.size p.bounds.limit history op x ended

  abbrev Right : Option (List ℕ) → Type 0
  Right read = IsRight p.bounds.place.size p.bounds.limit history op x read

  -- A part that read nothing is right where its status is.
  unread : (ended : PartResult) (n : ℕ) → ended ≡ x.part.result → n ≡ x.part.point → n ≤ length history → EndsRight ended
      → Right None
  unread ended n is here within right = record {
    within = omega arith;
    status = subst (λ (e : PartResult). EndsRight e) is right;
    payload = λ bytes some. absurd (let both : None ≡ Some bytes = some in cc);
  }

  change_right : (changed : Changed) → IsAct op.deed → Makes changed p number op q
      → (reply_of_change unit op.deed changed).part ≡ x.part
      → (reply_of_change unit op.deed changed).statuses ≡ told_of x → Right (reply_of_change unit op.deed changed).payload
  change_right (Done n) acts makes part told =
      let rests = laws.change_at (Done n) p q number op history makes begins in
      let here : rests.0 ≡ x.part.point = sym rests.2.0 ∙ ap (λ (y : Part). y.point) part in
      let within : rests.0 ≤ length history = rests.1 in
      let success = subst (λ (k : ℕ). IsSuccess (statuses_of op (medium k))) here rests.2.2 in
      unread result.Done rests.0 (ap (λ (y : Part). y.result) part) here within
      (sym (laws.told_alike op (medium x.part.point) success))
  change_right (Failed n statuses) acts makes part told =
      let rests = laws.change_at (Failed n statuses) p q number op history makes begins in
      let at : n ≡ x.part.point = ap (λ (y : Part). y.point) part in
      let here : rests.0 ≡ x.part.point = sym rests.2.0 ∙ at in
      let fails = subst (λ (k : ℕ). IsFailedPair op (medium k)) here rests.2.1 in
      let failed : RestsOn p.bounds.place.size history x.part.point op statuses None =
      subst (λ (k : ℕ). RestsOn p.bounds.place.size history k op statuses None) at
      (laws.failed_at n statuses p q number op history makes begins) in
      unread result.Failed rests.0 (ap (λ (y : Part). y.result) part) here rests.1
      (fails, sym told ∙ failed.statuses)
  change_right (NoMemory n) acts makes part told =
      let rests = laws.change_at (NoMemory n) p q number op history makes begins in
      let here : rests.0 ≡ x.part.point = sym rests.2.0 ∙ ap (λ (y : Part). y.point) part in
      let below : rests.0 < p.bounds.limit = rests.2.1 in
      let success = (laws.succeeds op (medium rests.0) acts).1 rests.2.2 in
      unread result.NoMemory rests.0 (ap (λ (y : Part). y.result) part) here rests.1
      (λ act. (subst (λ (k : ℕ). IsSuccess (statuses_of op (medium k))) here success, omega arith))
  change_right (Full n) acts makes part told =
      let rests = laws.change_at (Full n) p q number op history makes begins in
      let here : rests.0 ≡ x.part.point = sym rests.2.0 ∙ ap (λ (y : Part). y.point) part in
      let success = (laws.succeeds op (medium rests.0) acts).1 rests.2.2 in
      unread result.Full rests.0 (ap (λ (y : Part). y.result) part) here rests.1
      (subst (λ (k : ℕ). IsSuccess (statuses_of op (medium k))) here success, sym here ∙ rests.2.1)

  look_right : (answer : Result Observed ObserveFault) → IsLook op.deed → Observes answer p op q
      → (reply_of_look unit op.deed answer).part ≡ x.part → (reply_of_look unit op.deed answer).statuses ≡ told_of x
      → Right (reply_of_look unit op.deed answer).payload
  look_right (Ok observed) looks observes part told =
      let rests : RestsOn p.bounds.place.size history x.part.point op (told_by observed.answer) (read_by observed.answer) =
      subst (λ (k : ℕ). RestsOn p.bounds.place.size history k op (told_by observed.answer) (read_by observed.answer))
      (ap (λ (y : Part). y.point) part) (laws.observed_at observed p q op history observes begins) in
      let right : EndsRight result.Looked = sym told ∙ rests.statuses in
      record {
        within = rests.within;
        status = subst (λ (e : PartResult). EndsRight e) (ap (λ (y : Part). y.result) part) right;
        payload = λ bytes some. sym rests.payload ∙ some;
      }
  look_right (Err (observe_fault.NoMemory n)) looks observes part told =
      let rests = laws.look_at (Err (observe_fault.NoMemory n)) p q op history observes begins in
      let here : rests.0 ≡ x.part.point = sym rests.2.0 ∙ ap (λ (y : Part). y.point) part in
      unread result.NoMemory rests.0 (ap (λ (y : Part). y.result) part) here rests.1
      (λ act. absurd (look_or_act (is_look op.deed) looks act))

-- What a step of a pass did is right, as it was answered.
did_right : (laws : AnswerLaws) (x : RecordedPart) (did : PartDone) (p q : PassView) (history : List HistoryEntry)
    → Begins q.seen history
    → did.reply.part ≡ x.part → did.reply.statuses ≡ told_of x → DoesPart did p q
    → IsRight p.bounds.place.size p.bounds.limit history did.operation x did.reply.payload
did_right laws x did p q history begins part told (inl changes) =
    let is = changes.3 in
    subst (λ (read : Option (List ℕ)). IsRight p.bounds.place.size p.bounds.limit history did.operation x read)
    (sym (ap (λ (r : Reply). r.payload) is))
    (change_right laws x did.job did.reply.part.unit did.operation p q history begins changes.1 changes.0 changes.2
    (sym (ap (λ (r : Reply). r.part) is) ∙ part) (sym (ap (λ (r : Reply). r.statuses) is) ∙ told))
did_right laws x did p q history begins part told (inr looks) =
    let is = looks.3 in
    subst (λ (read : Option (List ℕ)). IsRight p.bounds.place.size p.bounds.limit history did.operation x read)
    (sym (ap (λ (r : Reply). r.payload) is))
    (look_right laws x did.job did.reply.part.unit did.operation p q history begins looks.1 looks.0 looks.2
    (sym (ap (λ (r : Reply). r.part) is) ∙ part) (sym (ap (λ (r : Reply). r.statuses) is) ∙ told))

-- What a pass took is right in each history that begins with what the pass had seen then.
pub rests_so : (laws : AnswerLaws) (ns : Namespace) (limit : ℕ) (jobs : List Job) (x : RecordedPart) (p q : PassView)
    (history : List HistoryEntry) → IsTaken ns jobs x p q → Begins q.seen history → p.bounds.place.size ≡ ns.block_size
    → p.bounds.limit ≡ limit → IsRightAtItsPoint ns limit jobs history x
rests_so laws ns limit jobs x p q history taken begins size_is limit_is =
    let did = taken.did in
    let shows = taken.shows in
    let right = did_right laws x did p q history begins shows.part shows.told taken.does in
    let limited : IsRight p.bounds.place.size limit history did.operation x did.reply.payload =
    subst (λ (n : ℕ). IsRight p.bounds.place.size n history did.operation x did.reply.payload) limit_is right in
    let sized : IsRight ns.block_size limit history did.operation x did.reply.payload =
    subst (λ (n : ℕ). IsRight n limit history did.operation x did.reply.payload) size_is limited in
    let its : IsRight ns.block_size limit history (part_in ns shows.whole x.part.unit) x did.reply.payload =
    subst (λ (o : Operation). IsRight ns.block_size limit history o x did.reply.payload) shows.operation sized in
    record {
      whole = shows.whole;
      does = shows.does;
      within = its.within;
      status = its.status;
      payload = λ bytes known. its.payload _ (shows.read bytes known);
    }

-- A pass that did a part made an entry, which is at the part's point.
pub record HasMade (history : List HistoryEntry) (x : RecordedPart) (p : PassView) : Type 0 where
  pub entry : HistoryEntry
  pub at : IsAt history x.part.point entry
  pub pass : entry.pass ≡ p.number
  pub job : entry.job ≡ x.done.job

-- Only a change that was done is answered so.
change_made : (laws : AnswerLaws) (number unit : ℕ) (op : Operation) (x : RecordedPart) (p q : PassView)
    (history : List HistoryEntry) → Begins q.seen history → x.part.result ≡ result.Done → number ≡ x.done.job
    → (changed : Changed)
    → Makes changed p number op q
    → (reply_of_change unit op.deed changed).part ≡ x.part → HasMade history x p
change_made laws number unit op x p q history begins done job_is (Done n) makes part =
    let entry = entry_of_job p number op in
    record {
      entry = entry;
      at = subst (λ (k : ℕ). IsAt history k entry) (ap (λ (y : Part). y.point) part)
          (laws.done_at n p q number op history makes begins);
      pass = refl;
      job = job_is;
    }
change_made laws number unit op x p q history begins done job_is (Failed n statuses) makes part =
    absurd (let no : result.Failed ≡ result.Done = ap (λ (y : Part). y.result) part ∙ done in cc)
change_made laws number unit op x p q history begins done job_is (NoMemory n) makes part =
    absurd (let no : result.NoMemory ≡ result.Done = ap (λ (y : Part). y.result) part ∙ done in cc)
change_made laws number unit op x p q history begins done job_is (Full n) makes part =
    absurd (let no : result.Full ≡ result.Done = ap (λ (y : Part). y.result) part ∙ done in cc)

look_made_none : (unit : ℕ) (op : Operation) (x : RecordedPart) → x.part.result ≡ result.Done
    → (answer : Result Observed ObserveFault)
    → (reply_of_look unit op.deed answer).part ≡ x.part → ⊥
look_made_none unit op x done (Ok observed) part =
    let no : result.Looked ≡ result.Done = ap (λ (y : Part). y.result) part ∙ done in cc
look_made_none unit op x done (Err (observe_fault.NoMemory n)) part =
    let no : result.NoMemory ≡ result.Done = ap (λ (y : Part). y.result) part ∙ done in cc

pub made_so : (laws : AnswerLaws) (ns : Namespace) (jobs : List Job) (x : RecordedPart) (p q : PassView)
    (history : List HistoryEntry) → IsTaken ns jobs x p q → Begins q.seen history → x.part.result ≡ result.Done
    → HasMade history x p
made_so laws ns jobs x p q history taken begins done = by taken.does
  where
    by : DoesPart taken.did p q → HasMade history x p
    by (inl changes) =
        let did = taken.did in
        change_made laws did.job did.reply.part.unit did.operation x p q history begins done taken.shows.number
        changes.1 changes.2 (sym (ap (λ (r : Reply). r.part) changes.3) ∙ taken.shows.part)
    by (inr looks) =
        let did = taken.did in
        absurd (look_made_none did.reply.part.unit did.operation x done looks.1
        (sym (ap (λ (r : Reply). r.part) looks.3) ∙ taken.shows.part))
