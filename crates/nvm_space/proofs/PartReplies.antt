-- What a unit reports about a part is a reply to the job's part there.
use Rattle.std.proofs.Common.{◌≡◌, inl, inr, ℕ, List, [], ◌++◌, Bool, true, false, not, IsTrue, Option, Some, None, IsSome, Ok, Err, Result, unwrap_or, if◌then◌else◌, length, ◌≤◌, arith, refl, sym, ap, ◌∙◌, subst, append-nil}
use Rattle.nvm_record.specs.declared.status.Statuses.{Statuses}
use Rattle.nvm_record.specs.declared.status.Statuses.TheVariants.{One, Two}
use Rattle.nvm_record.specs.Deeds.{is_look, is_pair, IsAct, IsLook, IsFailedPair}
use Rattle.nvm_record.specs.declared.block.Block.{Block}
use Rattle.nvm_record.specs.declared.status.Status.{Status}
use Rattle.nvm_record.specs.Medium.{Medium, has_mark, joined}
use Rattle.nvm_record.specs.Status.{successful_completion, internal_error, unrecovered_read_error}
use Rattle.nvm_record.specs.Step.{Deed, Operation, writes, zeroes, uncorrectable, reads, compares, pairs, deallocates, range_of, statuses_on, statuses_of, data_on, data_of}
use Rattle.nvm_store.specs.Answer.{IsAnswer, read_by, told_by}
use Rattle.nvm_store.specs.declared.look.answer.Answer.{Answer}
use Rattle.nvm_store.specs.declared.look.answer.Answer.TheVariants as answer
use Rattle.nvm_store.specs.declared.look.answer.Answer.TheVariants.{Payload}
use Rattle.nvm_geometry.specs.Namespace.{Namespace}
use Rattle.nvm_geometry.specs.Parts.{part_in}
use Rattle.nvm_plan.specs.declared.part.Part.{Part}
use Rattle.nvm_plan.specs.declared.part.PartResult.TheVariants as result
use Rattle.nvm_plan.specs.Completions.{body_completions, data_in}
use Rattle.nvm_plan.specs.Shape.{IsForEach, IsTwoStatuses}
use Rattle.nvm_plan.specs.declared.job.Body.{Body}
use Rattle.nvm_plan.specs.declared.job.Body.TheVariants.{Pair, Single}
use Rattle.nvm_plan.specs.Reply.{Reply, reply_on, reply_of_stop, stop_of, IsReplyTo}
use Rattle.nvm_store.specs.HistoryEntry.{HistoryEntry}
use Rattle.nvm_unit.specs.Passes.{Finds}
use Rattle.nvm_unit.specs.declared.bounds.Bounds.{Bounds}
use Rattle.nvm_unit.specs.declared.replies.Changed.{Changed}
use Rattle.nvm_unit.specs.declared.replies.Changed.TheVariants.{Done, Failed, NoMemory, Full}
use Rattle.nvm_unit.specs.declared.replies.Observed.{Observed}
use Rattle.nvm_unit.specs.declared.replies.ObservedStatus.{ObservedStatus}
use Rattle.nvm_unit.specs.declared.replies.ObserveFault.{ObserveFault}
use Rattle.nvm_unit.specs.declared.replies.ObserveFault.TheVariants as observe_fault
use Rattle.nvm_unit.specs.declared.views.PassView.{PassView}
use Rattle.nvm_unit.specs.Replies.{AnswersChange, AnswersLook, Makes, Observes, ObservesInto, medium_at}
use Rattle.nvm_space.specs.Inside.Parts.{DoesPartInto}
use Rattle.nvm_space.specs.Trace.{PartDone, DoesPart, part_ended, reply_of_change, reply_of_look}
use Rattle.nvm_space.proofs.DeedLemmas.{act_reads_none, look_is_no_pair, none_there}

-- a reply with the same statuses and the same data
same_reply : (deed : Deed) (part : Part) (told other : Statuses) (read also : Option (List ℕ)) → told ≡ other → read ≡ also
    → IsReplyTo deed (let r : Reply = record { part = part; statuses = other; payload = also } in r)
    → IsReplyTo deed (let r : Reply = record { part = part; statuses = told; payload = read } in r)
same_reply deed part told other read also e f h = rw (e, f) h

-- Of the operation, its part in the unit is this, and these are replies to it.
module _ (ns : Namespace) (op part : Operation) (unit : ℕ) (is : part ≡ part_in ns op unit)
    (look_kept : is_look (part_in ns op unit).deed ≡ is_look op.deed)
    (pair_kept : is_pair (part_in ns op unit).deed ≡ is_pair op.deed)
    (looked_replies : (m : Medium) (p : Part) → IsLook op.deed → p.result ≡ result.Looked → IsReplyTo op.deed (reply_on ns op m p))
    (failed_replies : (m : Medium) (p : Part) → p.result ≡ result.Failed → IsFailedPair (part_in ns op p.unit) m → IsReplyTo op.deed (reply_on ns op m p))
    (no_memory_replies : (p : Part) → p.result ≡ result.NoMemory → IsReplyTo op.deed (reply_of_stop op.deed p))
    (full_replies : (p : Part) → IsAct op.deed → p.result ≡ result.Full → IsReplyTo op.deed (reply_of_stop op.deed p)) where
  same_look : is_look part.deed ≡ is_look op.deed
  same_look = ap (λ (o : Operation). is_look o.deed) is ∙ look_kept

  same_pair : is_pair part.deed ≡ is_pair op.deed
  same_pair = ap (λ (o : Operation). is_pair o.deed) is ∙ pair_kept

  same_stop : stop_of part.deed ≡ stop_of op.deed
  same_stop = ap (λ (b : Bool). if b then Two successful_completion internal_error else One internal_error) same_pair

  change_replies : (changed : Changed) (entries limit : ℕ) (m : Medium) → IsAct part.deed → AnswersChange changed entries limit part m
      → IsReplyTo op.deed (reply_of_change unit part.deed changed)
  change_replies (Done point) entries limit m acts answer =
      let whole : IsAct op.deed = subst (λ (b : Bool). IsTrue (not b)) same_look acts in
      record {
        result = whole;
        told = ap (λ (b : Bool). if b then Two successful_completion successful_completion else One successful_completion) same_pair;
        payload = ((λ some. absurd (cc some)), (λ gives. absurd (act_reads_none op.deed whole gives.0)));
      }
  change_replies (Failed point statuses) entries limit m acts answer =
      let whole : IsAct op.deed = subst (λ (b : Bool). IsTrue (not b)) same_look acts in
      let failed : IsFailedPair (part_in ns op unit) m = subst (λ (o : Operation). IsFailedPair o m) is answer.1 in
      let reply = failed_replies m (part_ended unit point result.Failed) refl failed in
      let none : data_of (part_in ns op unit) m ≡ None = none_there (data_of (part_in ns op unit) m) (λ some. act_reads_none op.deed whole (reply.payload.0 some).0) in
      same_reply op.deed (part_ended unit point result.Failed) _ _ _ _ (answer.2 ∙ ap (λ (o : Operation). statuses_of o m) is) (sym none) reply
  change_replies (NoMemory point) entries limit m acts answer =
      same_reply op.deed (part_ended unit point result.NoMemory) _ _ _ _ same_stop refl (no_memory_replies (part_ended unit point result.NoMemory) refl)
  change_replies (Full point) entries limit m acts answer =
      same_reply op.deed (part_ended unit point result.Full) _ _ _ _ same_stop refl
      (full_replies (part_ended unit point result.Full) (subst (λ (b : Bool). IsTrue (not b)) same_look acts) refl)

  look_replies : (answer : Result Observed ObserveFault) (entries : ℕ) (m : Medium) → IsLook part.deed → AnswersLook answer entries part m
      → IsReplyTo op.deed (reply_of_look unit part.deed answer)
  look_replies (Ok observed) entries m looks answer =
      let reply = looked_replies m (part_ended unit observed.point result.Looked) (subst (λ (b : Bool). IsTrue b) same_look looks) refl in
      same_reply op.deed (part_ended unit observed.point result.Looked) _ _ _ _ (answer.1.0 ∙ ap (λ (o : Operation). statuses_of o m) is) (answer.1.1 ∙ ap (λ (o : Operation). data_of o m) is) reply
  look_replies (Err (observe_fault.NoMemory point)) entries m looks answer =
      same_reply op.deed (part_ended unit point result.NoMemory) _ _ _ _ same_stop refl (no_memory_replies (part_ended unit point result.NoMemory) refl)

  -- What was reported about the part is a reply to it.
  pub part_replies : (job : ℕ) (reply : Reply) (p q : PassView) → reply.part.unit ≡ unit → DoesPart (let did : PartDone = record { job = job; operation = part; reply = reply } in did) p q
      → IsReplyTo op.deed reply
  part_replies job reply p q at (inl changes) =
      let changed = changes.1 in
      let made = changes.2 in
      subst (λ (r : Reply). IsReplyTo op.deed r) (sym (changes.3 ∙ ap (λ (u : ℕ). reply_of_change u part.deed changed) at))
      (change_replies changed (length made.0) p.bounds.limit _ changes.0 made.2)
  part_replies job reply p q at (inr looks) =
      let answer = looks.1 in
      let seen = looks.2 in
      subst (λ (r : Reply). IsReplyTo op.deed r) (sym (looks.3 ∙ ap (λ (u : ℕ). reply_of_look u part.deed answer) at))
      (look_replies answer (length seen.0) _ looks.0 seen.2)

  pub stop_replies : (point : ℕ) → IsReplyTo op.deed (reply_of_stop part.deed (part_ended unit point result.NoMemory))
  stop_replies point =
      same_reply op.deed (part_ended unit point result.NoMemory) _ _ _ _ same_stop refl (no_memory_replies (part_ended unit point result.NoMemory) refl)

-- a change reports no data
change_tells_none : (unit : ℕ) (deed : Deed) (changed : Changed) → IsSome (reply_of_change unit deed changed).payload → ⊥
change_tells_none unit deed (Done point) some = cc some
change_tells_none unit deed (Failed point statuses) some = cc some
change_tells_none unit deed (NoMemory point) some = cc some
change_tells_none unit deed (Full point) some = cc some

look_found_none : (answer : Result Observed ObserveFault) (reply : Reply) (part : Operation) (p q : PassView) → IsSome reply.payload → reply ≡ reply_of_look reply.part.unit part.deed answer
    → Observes answer p part q → Observes (Err (observe_fault.NoMemory reply.part.point)) p part q
look_found_none (Ok observed) reply part p q some is seen =
    let read : reply.payload ≡ data_of part _ = ap (λ (r : Reply). r.payload) is ∙ seen.2.1.1 in
    (seen.0, seen.1, (ap (λ (r : Reply). r.part.point) is ∙ seen.2.0, subst IsSome read some), seen.3)
look_found_none (Err (observe_fault.NoMemory point)) reply part p q some is seen =
    absurd (let none : IsSome {T = List ℕ} None = subst IsSome (ap (λ (r : Reply). r.payload) is) some in cc none)

-- A part whose data found no memory is a look that found none.
pub found_no_memory : (job : ℕ) (part : Operation) (reply : Reply) (p q : PassView) → IsSome reply.payload → DoesPart (let did : PartDone = record { job = job; operation = part; reply = reply } in did) p q
    → DoesPart (let did : PartDone = record { job = job; operation = part; reply = reply_of_stop part.deed (part_ended reply.part.unit reply.part.point result.NoMemory) } in did) p q
found_no_memory job part reply p q some (inl changes) =
    absurd (change_tells_none reply.part.unit part.deed changes.1 (subst IsSome (ap (λ (r : Reply). r.payload) changes.3) some))
found_no_memory job part reply p q some (inr looks) =
    inr (looks.0, Err (observe_fault.NoMemory reply.part.point), look_found_none looks.1 reply part p q some looks.3 looks.2, refl)

-- and that is reported by one status
pub told_one : (job : ℕ) (part : Operation) (reply : Reply) (p q : PassView) → IsSome reply.payload → DoesPart (let did : PartDone = record { job = job; operation = part; reply = reply } in did) p q
    → stop_of part.deed ≡ One internal_error
told_one job part reply p q some (inl changes) =
    absurd (change_tells_none reply.part.unit part.deed changes.1 (subst IsSome (ap (λ (r : Reply). r.payload) changes.3) some))
told_one job part reply p q some (inr looks) =
    ap (λ (b : Bool). if b then Two successful_completion internal_error else One internal_error) (look_is_no_pair part.deed looks.0)

-- where nothing was read, nothing is added
pub none_added : (old : List ℕ) (read : Option (List ℕ)) → read ≡ None → old ≡ old ++ unwrap_or read []
none_added old read none = sym (ap (λ (r : Option (List ℕ)). old ++ unwrap_or r []) none ∙ append-nil old)

pub some_added : (old new payload : List ℕ) (read : Option (List ℕ)) → read ≡ Some payload → new ≡ old ++ payload → new ≡ old ++ unwrap_or read []
some_added old new payload read some is = is ∙ sym (ap (λ (r : Option (List ℕ)). old ++ unwrap_or r []) some)

change_unit : (unit : ℕ) (deed : Deed) (changed : Changed) → (reply_of_change unit deed changed).part.unit ≡ unit
change_unit unit deed (Done point) = refl
change_unit unit deed (Failed point statuses) = refl
change_unit unit deed (NoMemory point) = refl
change_unit unit deed (Full point) = refl

look_unit : (unit : ℕ) (deed : Deed) (answer : Result Observed ObserveFault) → (reply_of_look unit deed answer).part.unit ≡ unit
look_unit unit deed (Ok observed) = refl
look_unit unit deed (Err (observe_fault.NoMemory point)) = refl

-- a change of the pass is a part that was done
pub changes_part : (number unit : ℕ) (part act : Operation) (changed : Changed) (reply : Reply) (p q : PassView) → part ≡ act → IsAct act.deed → Makes changed p number act q
    → reply ≡ reply_of_change unit act.deed changed → DoesPart (let did : PartDone = record { job = number; operation = part; reply = reply } in did) p q
changes_part number unit part act changed reply p q is acts makes told =
    let here : unit ≡ reply.part.unit = sym (ap (λ (r : Reply). r.part.unit) told ∙ change_unit unit act.deed changed) in
    subst (λ (o : Operation). DoesPart (let did : PartDone = record { job = number; operation = o; reply = reply } in did) p q) (sym is)
    (inl (acts, changed, makes, told ∙ ap (λ (u : ℕ). reply_of_change u act.deed changed) here))

-- so is a look
pub looks_at_part : (number unit : ℕ) (part look : Operation) (answer : Result Observed ObserveFault) (reply : Reply) (p q : PassView) → part ≡ look → IsLook look.deed → Observes answer p look q
    → reply ≡ reply_of_look unit look.deed answer → DoesPart (let did : PartDone = record { job = number; operation = part; reply = reply } in did) p q
looks_at_part number unit part look answer reply p q is looks seen told =
    let here : unit ≡ reply.part.unit = sym (ap (λ (r : Reply). r.part.unit) told ∙ look_unit unit look.deed answer) in
    subst (λ (o : Operation). DoesPart (let did : PartDone = record { job = number; operation = o; reply = reply } in did) p q) (sym is)
    (inr (looks, answer, seen, told ∙ ap (λ (u : ℕ). reply_of_look u look.deed answer) here))

change_read : (unit : ℕ) (deed : Deed) (changed : Changed) → (reply_of_change unit deed changed).payload ≡ None
change_read unit deed (Done point) = refl
change_read unit deed (Failed point statuses) = refl
change_read unit deed (NoMemory point) = refl
change_read unit deed (Full point) = refl

-- A change reads nothing into a buffer.
pub changes_into : (number unit : ℕ) (part act : Operation) (changed : Changed) (reply : Reply) (buffer : List ℕ) (p q : PassView) → part ≡ act → IsAct act.deed
    → Makes changed p number act q → reply ≡ reply_of_change unit act.deed changed → DoesPartInto number unit part reply.statuses buffer buffer p q
changes_into number unit part act changed reply buffer p q is acts makes told = record {
  reply = reply;
  here = ap (λ (r : Reply). r.part.unit) told ∙ change_unit unit act.deed changed;
  told = refl;
  read = sym (ap (λ (r : Reply). unwrap_or r.payload buffer) told ∙ ap (λ (r : Option (List ℕ)). unwrap_or r buffer) (change_read unit act.deed changed));
  does = changes_part number unit part act changed reply p q is acts makes told;
}

read_success : (marked : Bool) (all bytes : List ℕ) → (if marked then None else Some all) ≡ Some bytes
    → One (if marked then unrecovered_read_error else successful_completion) ≡ One successful_completion
read_success true all bytes some = absurd (cc some)
read_success false all bytes some = refl

-- data comes with success
on_success : (blocks : List Block) (deed : Deed) (bytes : List ℕ) → data_on blocks deed ≡ Some bytes → statuses_on blocks deed ≡ One successful_completion
on_success blocks (writes payload) bytes some = absurd (cc some)
on_success blocks zeroes bytes some = absurd (cc some)
on_success blocks uncorrectable bytes some = absurd (cc some)
on_success blocks reads bytes some = read_success (has_mark blocks) (joined blocks) bytes some
on_success blocks (compares payload) bytes some = absurd (cc some)
on_success blocks (pairs payload new) bytes some = absurd (cc some)
on_success blocks (deallocates ranges) bytes some = absurd (cc some)

-- what an answer into a buffer is as one that holds its data
abbrev answer_with : Option (List ℕ) → Status → Answer
answer_with (Some bytes) status = Payload bytes
answer_with None status = answer.Status status

is_answer : (op : Operation) (m : Medium) (status : Status) (read : Option (List ℕ)) → data_of op m ≡ read → One status ≡ statuses_of op m → IsAnswer op m (answer_with read status)
is_answer op m status (Some bytes) is told = (sym (on_success (range_of op m) op.deed bytes is), sym is)
is_answer op m status None is told = (told, sym is)

told_with : (read : Option (List ℕ)) (op : Operation) (m : Medium) (status : Status) → data_of op m ≡ read → One status ≡ statuses_of op m → One status ≡ told_by (answer_with read status)
told_with (Some bytes) op m status is told = told ∙ on_success (range_of op m) op.deed bytes is
told_with None op m status is told = refl

read_with : (read : Option (List ℕ)) (status : Status) → read ≡ read_by (answer_with read status)
read_with (Some bytes) status = refl
read_with None status = refl

-- What a look reads takes the buffer's place.
pub looks_into : (number unit : ℕ) (part look : Operation) (observed : ObservedStatus) (old new : List ℕ) (p q : PassView) → part ≡ look → IsLook look.deed
    → ObservesInto observed old new p look q → DoesPartInto number unit part (One observed.status) old new p q
looks_into number unit part look observed old new p q is looks seen =
    let m = medium_at p.bounds seen.0 in
    let into = seen.3 in
    let read = data_of look m in
    let answer : Observed = record { point = observed.point; answer = answer_with read observed.status } in
    let told : Reply = record { part = part_ended unit observed.point result.Looked; statuses = One observed.status; payload = read } in
    record {
      reply = told;
      here = refl;
      told = refl;
      read = into.read;
      does = looks_at_part number unit part look (Ok answer) told p q is looks (seen.0, seen.1, (seen.2, is_answer look m observed.status read refl into.told), seen.4)
          (ap (λ (s : Statuses). (let r : Reply = record { part = part_ended unit observed.point result.Looked; statuses = s; payload = read } in r)) (told_with read look m observed.status refl into.told)
          ∙ ap (λ (d : Option (List ℕ)). (let r : Reply = record { part = part_ended unit observed.point result.Looked; statuses = told_by answer.answer; payload = d } in r)) (read_with read observed.status));
    }

one_told : (answer : Answer) → IsTwoStatuses (told_by answer) → ⊥
one_told (Payload bytes) two = two
one_told (answer.Status status) two = two

look_tells_one : (unit : ℕ) (deed : Deed) (answer : Result Observed ObserveFault) → IsLook deed → IsTwoStatuses (reply_of_look unit deed answer).statuses → ⊥
look_tells_one unit deed (Ok observed) looks two = one_told observed.answer two
look_tells_one unit deed (Err (observe_fault.NoMemory point)) looks two =
    subst (λ (b : Bool). IsTwoStatuses (if b then Two successful_completion internal_error else One internal_error)) (look_is_no_pair deed looks) two

-- What is reported by two statuses read nothing.
pub two_read_none : (job : ℕ) (part : Operation) (reply : Reply) (p q : PassView) → IsTwoStatuses reply.statuses
    → DoesPart (let did : PartDone = record { job = job; operation = part; reply = reply } in did) p q → reply.payload ≡ None
two_read_none job part reply p q two (inl changes) =
    ap (λ (r : Reply). r.payload) changes.3 ∙ change_read reply.part.unit part.deed changes.1
two_read_none job part reply p q two (inr looks) =
    absurd (look_tells_one reply.part.unit part.deed looks.1 looks.0 (subst (λ (r : Reply). IsTwoStatuses r.statuses) looks.3 two))

-- So what a part read is what its job's completions have of data.
pub data_alike : (host : ℕ) (body : Body) (statuses : Statuses) (read : Option (List ℕ)) (old : List ℕ) → IsForEach body statuses → (IsTwoStatuses statuses → read ≡ None)
    → unwrap_or read old ≡ unwrap_or (data_in (body_completions host body statuses read)) old
data_alike host (Single c) statuses read old each none = refl
data_alike host (Pair c d) statuses read old each none = ap (λ (r : Option (List ℕ)). unwrap_or r old) (none each)

-- the point on which a change was reported
change_rests : (unit : ℕ) (deed : Deed) (changed : Changed) (entries limit : ℕ) (op : Operation) (m : Medium) → AnswersChange changed entries limit op m
    → (reply_of_change unit deed changed).part.point ≡ entries
change_rests unit deed (Done point) entries limit op m answer = answer.0
change_rests unit deed (Failed point statuses) entries limit op m answer = answer.0
change_rests unit deed (NoMemory point) entries limit op m answer = answer.0
change_rests unit deed (Full point) entries limit op m answer = answer.0

look_rests : (unit : ℕ) (deed : Deed) (answer : Result Observed ObserveFault) (entries : ℕ) (op : Operation) (m : Medium) → AnswersLook answer entries op m
    → (reply_of_look unit deed answer).part.point ≡ entries
look_rests unit deed (Ok observed) entries op m answers = answers.0
look_rests unit deed (Err (observe_fault.NoMemory point)) entries op m answers = answers.0

found_within : (p : PassView) (bounds : Bounds) (history : List HistoryEntry) (point : ℕ) → p.bounds ≡ bounds → Finds (length history) p history
    → point ≡ length history → point ≤ bounds.limit
found_within p bounds history point of finds rests =
    subst (λ (b : Bounds). point ≤ b.limit) of (let within = finds.lawful.within in omega (arith, within, rests))

-- It isn't above the unit's limit.
pub change_within : (unit job : ℕ) (deed : Deed) (op : Operation) (changed : Changed) (reply : Reply) (bounds : Bounds) (p q : PassView)
    → reply ≡ reply_of_change unit deed changed → p.bounds ≡ bounds → Makes changed p job op q → reply.part.point ≤ bounds.limit
change_within unit job deed op changed reply bounds p q told of made =
    found_within p bounds made.0 reply.part.point of made.1
    (ap (λ (r : Reply). r.part.point) told ∙ change_rests unit deed changed (length made.0) p.bounds.limit op (medium_at p.bounds made.0) made.2)

pub look_within : (unit : ℕ) (deed : Deed) (op : Operation) (answer : Result Observed ObserveFault) (reply : Reply) (bounds : Bounds) (p q : PassView)
    → reply ≡ reply_of_look unit deed answer → p.bounds ≡ bounds → Observes answer p op q → reply.part.point ≤ bounds.limit
look_within unit deed op answer reply bounds p q told of seen =
    found_within p bounds seen.0 reply.part.point of seen.1
    (ap (λ (r : Reply). r.part.point) told ∙ look_rests unit deed answer (length seen.0) op (medium_at p.bounds seen.0) seen.2)
