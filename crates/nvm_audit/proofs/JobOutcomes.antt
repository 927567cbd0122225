-- What a lawful record has of a done job is the outcome of the replies to its parts.
use Rattle.std.proofs.Common.{◌≡◌, ◌≢◌, ◌↔◌, ℕ, ◌+◌, ◌<◌, ◌≤◌, List, [], ◌∷◌, ◌++◌, length, map, Option, Some, None, Bool, true, false, cond, IsSome, IsTrue, MatchOption, get_or, refl, sym, ap, subst, ◌∙◌, inl, inr, ◌*◌, true≢false, append-nil}
use Rattle.std.specs.List.{AllByRecursion}
use Rattle.std.specs.Option.{IsSomeAnd}
use Rattle.nvm_record.specs.declared.status.Statuses.{Statuses}
use Rattle.nvm_record.specs.declared.status.Statuses.TheVariants.{One, Two}
use Rattle.nvm_record.specs.Deeds.{is_read, is_pair, IsOnRange, success_of, is_look}
use Rattle.nvm_record.specs.Lists.{IsAt}
use Rattle.nvm_record.specs.Status.{IsSuccess, successful_completion}
use Rattle.nvm_record.specs.Step.{Deed, Operation, writes, zeroes, uncorrectable, reads, compares, pairs, deallocates}
use Rattle.nvm_geometry.specs.Boundaries.{units_of}
use Rattle.nvm_geometry.specs.Namespace.{Namespace}
use Rattle.nvm_geometry.specs.Parts.{units_met, units_of_range}
use Rattle.nvm_plan.specs.declared.job.Job.{Job}
use Rattle.nvm_plan.specs.declared.part.Part.{Part}
use Rattle.nvm_plan.specs.Checks.{refusal_of}
use Rattle.nvm_plan.specs.JobPart.{ready_operation, unless_refused}
use Rattle.nvm_plan.specs.Operation.{job_operation_of}
use Rattle.nvm_plan.specs.Outcome.{units_told, data_told, answered, IsOutcomeOf, IsRefused, IsOutcome}
use Rattle.nvm_plan.specs.Reply.{Reply, IsReplyTo, IsSuccessfulReply, can_have}
use Rattle.nvm_plan.specs.Shape.{EndsAtLast, HasShapeOf, HasShapeOfRefusal, goes_on, MayShow, HasEnding}
use Rattle.nvm_plan.specs.declared.part.PartResult.{PartResult}
use Rattle.nvm_plan.specs.declared.part.PartResult.TheVariants.{Done, Failed, Looked, NoMemory, Full}
use Rattle.nvm_store.specs.HistoryEntry.{HistoryEntry}
use Rattle.nvm_store.specs.Point.{point}
use Rattle.nvm_audit.specs.LawfulRecord.{IsLawfulRecord}
use Rattle.nvm_audit.specs.Recordable.{IsRecordableDone}
use Rattle.nvm_audit.specs.RecordedJob.{RecordedJob}
use Rattle.nvm_audit.specs.RecordedPart.{RecordedPart, recorded_part, parts_left}
use Rattle.nvm_audit.specs.RecordView.{RecordView}
use Rattle.nvm_audit.specs.ReplyAtPoint.{reply_at, IsReplyAtPoint, AreRepliesOf}
use Rattle.nvm_audit.specs.Resting.{DoesOperation, HasRightData}
use Rattle.nvm_audit.proofs.Decided.{IsDecided, is_true}
use Rattle.nvm_audit.proofs.EachPasses as each
use Rattle.nvm_audit.proofs.Held as held
use Rattle.nvm_audit.proofs.Held.{KnowsUnits, FewUnits, HasStatuses}
use Rattle.nvm_audit.proofs.OneActs.{KeepsPairs}
use Rattle.nvm_audit.proofs.PartsShown.{before_last, at_last, shown, in_front, behind}
use Rattle.nvm_audit.proofs.PointReplies as replies
use Rattle.nvm_audit.proofs.PointReplies.{StepsAreReplies, IsRight}
use Rattle.nvm_audit.proofs.ReadJoined.{StandInLine, read_joined, bytes_in}
use Rattle.nvm_audit.proofs.SameData.{success}
use Rattle.nvm_audit.proofs.Standing.{Stands, none_stands, read_there, all_at}
use Rattle.nvm_audit.proofs.UnitChecksPass.{one_operation}

-- What the laws below say that are used here.
pub record KnowsOutcomes : Type 0 where
  pub ready : (ns : Namespace) (job : Job) (op : Operation) (replies : List Reply) (told : Statuses) (read : Option (List ℕ))
      → refusal_of ns job ≡ None → job_operation_of ns job ≡ Some op
      → IsOutcome ns job replies told read ↔ IsOutcomeOf ns op replies told read
  pub refused : (ns : Namespace) (job : Job) (refusal : Statuses) (replies : List Reply) (told : Statuses) (read : Option (List ℕ))
      → refusal_of ns job ≡ Some refusal → IsOutcome ns job replies told read ↔ IsRefused refusal replies told read

pub record KnowsReady : Type 0 where
  pub range : (ns : Namespace) (job : Job) (op : Operation) → refusal_of ns job ≡ None → job_operation_of ns job ≡ Some op
      → op.first + op.blocks ≤ ns.nsze
  pub units : (ns : Namespace) (job : Job) (op : Operation) → refusal_of ns job ≡ None → job_operation_of ns job ≡ Some op
      → IsOnRange op.deed → units_met ns op ≢ []

abbrev pub MeetsItsRange : Type 0
MeetsItsRange = (ns : Namespace) (op : Operation) → IsOnRange op.deed → units_met ns op ≡ units_of_range ns op.first op.blocks

some_is : (read : Option (List ℕ)) → IsSome read → (bytes : List ℕ) × (read ≡ Some bytes)
some_is None h = absurd (cc h)
some_is (Some bytes) h = (bytes, refl)

none_is : (read : Option (List ℕ)) → (IsSome read → ⊥) → read ≡ None
none_is None none = refl
none_is (Some bytes) none = absurd (none refl)

answered_is : (deed : Deed) (bytes : List ℕ) (read : Option (List ℕ)) (b : Bool) → is_read deed ≡ b
    → read ≡ cond b (Some bytes) None → read ≡ answered deed bytes
answered_is deed bytes read b e h = subst (λ (x : Bool). read ≡ cond x (Some bytes) None) (sym e) h

not_read : (b : Bool) → (b ≡ true → ⊥) → b ≡ false
not_read true n = absurd (n refl)
not_read false n = refl

reads_its_range : (deed : Deed) → IsTrue (is_read deed) → IsOnRange deed
reads_its_range (writes payload) h = refl
reads_its_range zeroes h = refl
reads_its_range uncorrectable h = refl
reads_its_range reads h = refl
reads_its_range (compares payload) h = refl
reads_its_range (pairs payload new) h = refl
reads_its_range (deallocates ranges) h = absurd (cc h)

look_succeeds : (deed : Deed) → IsTrue (is_look deed) → One successful_completion ≡ success_of deed
look_succeeds (writes payload) h = absurd (cc h)
look_succeeds zeroes h = absurd (cc h)
look_succeeds uncorrectable h = absurd (cc h)
look_succeeds reads h = refl
look_succeeds (compares payload) h = refl
look_succeeds (pairs payload new) h = absurd (cc h)
look_succeeds (deallocates ranges) h = absurd (cc h)

pair_succeeds : (deed : Deed) → IsTrue (is_pair deed) → Two successful_completion successful_completion ≡ success_of deed
pair_succeeds (writes payload) h = absurd (cc h)
pair_succeeds zeroes h = absurd (cc h)
pair_succeeds uncorrectable h = absurd (cc h)
pair_succeeds reads h = absurd (cc h)
pair_succeeds (compares payload) h = absurd (cc h)
pair_succeeds (pairs payload new) h = refl
pair_succeeds (deallocates ranges) h = absurd (cc h)

-- success is answered in one way
success_told : (deed : Deed) (result : PartResult) (told : Statuses) → IsTrue (can_have deed result) → MayShow deed result told
    → IsSuccess told → told ≡ success_of deed
success_told deed Done told can may s = may
success_told deed Failed (One a) can may s = absurd may
success_told deed Failed (Two a b) can may s = (λ i. Two (s.0 i) (s.1 i)) ∙ pair_succeeds deed can
success_told deed Looked (One a) can may s = ap One s ∙ look_succeeds deed can
success_told deed Looked (Two a b) can may s = absurd may
success_told deed NoMemory told can may s = absurd (replies.stop_fails deed (subst IsSuccess may s))
success_told deed Full told can may s = absurd (replies.stop_fails deed (subst IsSuccess may s))

-- the units of some parts and of those after them
units_split : (before : List Part) (last : Part) (left : List ℕ)
    → map (λ (p : Part). p.unit) (before ++ last ∷ []) ++ left ≡ map (λ (p : Part). p.unit) before ++ (last.unit ∷ left)
units_split [] last left = refl
units_split (p ∷ ps) last left = ap (λ (l : List ℕ). p.unit ∷ l) (units_split ps last left)

module _ (steps : StepsAreReplies) (outcomes : KnowsOutcomes) (knows : KnowsReady) (keeps : KeepsPairs) (in_line : StandInLine)
    (its_range : MeetsItsRange) (known : KnowsUnits) (few : FewUnits) (statuses : HasStatuses) (r : RecordView) (lawful : IsLawfulRecord r) (worker : ℕ)
    (work : List RecordedJob)
    (k : ℕ) (d : RecordedJob) (there : IsAt r.done worker work) (at : IsAt work k d) where
  kept : IsRecordableDone r d
  kept =
      let its = lawful.shapes worker work k d there at in
      held.done known few statuses r its.job d its.its its.shape
      (λ op bytes ready e. lawful.complete.reads worker work k d its.job op bytes there at its.its ready e)

  abbrev history_of : Part → List HistoryEntry
  history_of part = get_or r.units part.unit []

  module _ (job : Job) (op : Operation) (its : IsAt r.jobs d.job job) (refusal : refusal_of r.namespace job ≡ None)
      (stands : job_operation_of r.namespace job ≡ Some op) where
    ready : ready_operation r.namespace job ≡ Some op
    ready = ap (λ (x : Option Statuses). unless_refused x (job_operation_of r.namespace job)) refusal ∙ stands

    does : DoesOperation r.namespace r.jobs d.job op
    does = record { job = job; its = its; ready = ready }

    abbrev reply_of : Part → Reply
    reply_of part = reply_at r.namespace op (history_of part) part part.result

    -- What is recorded of a part is right at its point, in the history of its unit.
    record RightAt (p : RecordedPart) : Type 0 where
      unit : IsAt r.units p.part.unit (history_of p.part)
      status : IsRight r.namespace r.limit op (history_of p.part) p p.part.result
      payload : HasRightData r.namespace op (point r.namespace.block_size (history_of p.part) p.part.point) p

    right_at : (part : Part) (is_last : Bool) → Stands d.parts part
        → Stands (parts_left worker d d.parts) (recorded_part worker d part is_last) → RightAt (recorded_part worker d part is_last)
    right_at part is_last among left =
        let p = recorded_part worker d part is_last in
        let in_namespace : part.unit < units_of r.namespace =
        all_at (λ (q : Part). q.unit < units_of r.namespace) d.parts kept.units among.0 part among.1 in
        let lt : part.unit < length r.units = subst (λ (n : ℕ). part.unit < n) (sym lawful.complete.all_units) in_namespace in
        let history = history_of part in
        let unit : IsAt r.units part.unit history = read_there r.units part.unit [] lt in
        let among_units = shown r.done worker work k d left.0 p there at left.1 in
        let rests = (lawful.units part.unit history unit).rests among_units.0 p among_units.1 in
        let same : rests.whole ≡ op = one_operation r.namespace r.jobs d.job rests.whole op rests.does does in
        record {
          unit = unit;
          status = subst (λ (whole : Operation). IsRight r.namespace r.limit whole history p part.result) same rests.status;
          payload =
              subst (λ (whole : Operation). HasRightData r.namespace whole (point r.namespace.block_size history part.point) p) same rests.payload;
        }

    told_units : (ps : List Part) (last : Reply) (left : List ℕ)
        → units_told (map reply_of ps ++ last ∷ []) ++ left ≡ map (λ (p : Part). p.unit) ps ++ (last.part.unit ∷ left)
    told_units [] last left = refl
    told_units (p ∷ ps) last left =
        ap (λ (q : Part). q.unit ∷ (units_told (map reply_of ps ++ last ∷ []) ++ left))
        (replies.part_of_reply r.namespace op (history_of p) p p.result)
        ∙ ap (λ (l : List ℕ). p.unit ∷ l) (told_units ps last left)

    front_units : (ps : List Part) (left : List ℕ) → units_told (map reply_of ps) ++ left ≡ map (λ (p : Part). p.unit) ps ++ left
    front_units [] left = refl
    front_units (p ∷ ps) left =
        ap (λ (q : Part). q.unit ∷ (units_told (map reply_of ps) ++ left))
        (replies.part_of_reply r.namespace op (history_of p) p p.result)
        ∙ ap (λ (l : List ℕ). p.unit ∷ l) (front_units ps left)

    told_parts : (ps : List Part) (last : Part)
        → map (λ (reply : Reply). reply.part) (map reply_of ps ++ reply_of last ∷ []) ≡ ps ++ last ∷ []
    told_parts [] last =
        ap (λ (q : Part). q ∷ []) (replies.part_of_reply r.namespace op (history_of last) last last.result)
    told_parts (p ∷ ps) last =
        ap (λ (q : Part). q ∷ map (λ (reply : Reply). reply.part) (map reply_of ps ++ reply_of last ∷ []))
        (replies.part_of_reply r.namespace op (history_of p) p p.result)
        ∙ ap (λ (l : List Part). p ∷ l) (told_parts ps last)

    module _ (shape : HasShapeOf r.namespace op d.parts d.statuses d.payload) where
      no_payload : (IsSuccess d.statuses → ⊥) → d.payload ≡ None
      no_payload fails = none_is d.payload (λ some. fails (shape.payload.0 some).1)

      unread : is_read op.deed ≡ false → (bytes : List ℕ) → d.payload ≡ answered op.deed bytes
      unread e bytes =
          answered_is op.deed bytes d.payload false e
          (none_is d.payload (λ some. true≢false (sym (shape.payload.0 some).0 ∙ e)))

      module _ (ends : EndsAtLast r.namespace op d.parts d.statuses) where
        -- a part, as the record shows it, is right at its point
        among_before : (i : ℕ) (part : Part) → IsAt ends.before i part → Stands d.parts part
        among_before i part here =
            subst (λ (l : List Part). Stands l part) (sym ends.are) (in_front ends.before (ends.last ∷ []) i part here)

        abbrev shown_last : RecordedPart
        shown_last = recorded_part worker d ends.last true

        among_last : Stands d.parts ends.last
        among_last = subst (λ (l : List Part). Stands l ends.last) (sym ends.are) (behind ends.before (ends.last ∷ []) 0 ends.last refl)

        right_before : (i : ℕ) (part : Part) → IsAt ends.before i part → RightAt (recorded_part worker d part false)
        right_before i part here =
            right_at part false (among_before i part here) (
              i,
              subst (λ (l : List Part). IsAt (parts_left worker d l) i (recorded_part worker d part false)) (sym ends.are)
                  (before_last worker d ends.before ends.last i part here),
            )

        right_last : RightAt shown_last
        right_last =
            right_at ends.last true among_last (
              length ends.before,
              subst (λ (l : List Part). IsAt (parts_left worker d l) (length ends.before) shown_last) (sym ends.are)
                  (at_last worker d ends.before ends.last),
            )

        can : (part : Part) → Stands d.parts part → IsTrue (can_have op.deed part.result)
        can part among = each.all_here (λ (p : Part). IsTrue (can_have op.deed p.result)) d.parts ends.results among.0 part among.1

        succeeds : (i : ℕ) (part : Part) → IsAt ends.before i part → IsSuccessfulReply op.deed (reply_of part)
        succeeds i part here =
            let p = recorded_part worker d part false in
            let history = history_of part in
            let right = right_before i part here in
            record {
              reply =
                  replies.is_reply r.namespace r.limit op history p steps part.result refl
                  (can part (among_before i part here)) right.status;
              success =
                  replies.goes_on_succeeds r.namespace r.limit op history p part.result
                  (each.all_here (λ (q : Part). IsTrue (goes_on q.result)) ends.before ends.going_on i part here) refl right.status;
            }

        last_is_reply : IsReplyTo op.deed (reply_of ends.last)
        last_is_reply =
            replies.is_reply r.namespace r.limit op (history_of ends.last) shown_last steps ends.last.result refl
            (can ends.last among_last) right_last.status

        last_told : d.statuses ≡ (reply_of ends.last).statuses
        last_told =
            replies.last_decides r.namespace r.limit op (history_of ends.last) shown_last keeps ends.last.result
            ends.statuses right_last.status

        abbrev all_replies : List Reply
        all_replies = map reply_of ends.before ++ reply_of ends.last ∷ []

        last_part : (reply_of ends.last).part ≡ ends.last
        last_part = replies.part_of_reply r.namespace op (history_of ends.last) ends.last ends.last.result

        -- the units of the parts that are there and of those that aren't
        all_units : map (λ (p : Part). p.unit) ends.before ++ ((reply_of ends.last).part.unit ∷ ends.left) ≡ units_met r.namespace op
        all_units =
            ap (λ (q : Part). map (λ (p : Part). p.unit) ends.before ++ (q.unit ∷ ends.left)) last_part
            ∙ sym (units_split ends.before ends.last ends.left)
            ∙ ap (λ (l : List Part). map (λ (p : Part). p.unit) l ++ ends.left) (sym ends.are)
            ∙ ends.units

        front : AllByRecursion (IsSuccessfulReply op.deed) (map reply_of ends.before)
        front =
            each.mapped (IsSuccessfulReply op.deed) reply_of ends.before
            (each.of_each (λ (p : Part). IsSuccessfulReply op.deed (reply_of p)) ends.before succeeds)

        all_at_points : AllByRecursion (IsReplyAtPoint r job) all_replies
        all_at_points =
            each.joined (IsReplyAtPoint r job) (map reply_of ends.before) (reply_of ends.last ∷ [])
            (each.mapped (IsReplyAtPoint r job) reply_of ends.before
            (each.of_each (λ (p : Part). IsReplyAtPoint r job (reply_of p)) ends.before
            (λ i part here.
            replies.is_at_point r job op (history_of part) part part.result ready (right_before i part here).unit refl)))
            (replies.is_at_point r job op (history_of ends.last) ends.last ends.last.result ready right_last.unit refl, tt)

        module _ (s : IsSuccess d.statuses) where
          last_succeeds : IsSuccess (reply_of ends.last).statuses
          last_succeeds = subst IsSuccess last_told s

          all_met : units_told all_replies ++ [] ≡ units_met r.namespace op
          all_met =
              told_units ends.before (reply_of ends.last) []
              ∙ ap (λ (l : List ℕ). map (λ (p : Part). p.unit) ends.before ++ ((reply_of ends.last).part.unit ∷ l)) (sym (ends.whole s))
              ∙ all_units

          reads_right : (part : Part) (is_last : Bool) → RightAt (recorded_part worker d part is_last) → IsSuccess (reply_of part).statuses
              → (bytes : List ℕ) → d.payload ≡ Some bytes
              → (reply_of part).payload ≡ Some (bytes_in r.namespace op.first op.blocks bytes (reply_of part).part.unit)
          reads_right part is_last right success bytes e =
              replies.reads_its_data r.namespace r.limit op (history_of part) (recorded_part worker d part is_last) part.result
              success right.payload bytes e
              ∙ ap (λ (q : Part). Some (bytes_in r.namespace op.first op.blocks bytes q.unit))
              (sym (replies.part_of_reply r.namespace op (history_of part) part part.result))

          -- the part read what these bytes have of its blocks
          abbrev ReadsOf : List ℕ → Reply → Type 0
          ReadsOf bytes reply = reply.payload ≡ Some (bytes_in r.namespace op.first op.blocks bytes reply.part.unit)

          read : is_read op.deed ≡ true → d.payload ≡ answered op.deed (data_told all_replies)
          read e =
              let some = some_is d.payload (shape.payload.1 (e, s)) in
              let bytes = some.0 in
              let long = kept.payload bytes some.1 in
              let same : long.op ≡ op =
              one_operation r.namespace r.jobs d.job long.op op (record { job = kept.job; its = kept.its; ready = long.ready }) does in
              let length_is : length bytes ≡ op.blocks * r.namespace.block_size =
              subst (λ (x : Operation). length bytes ≡ x.blocks * r.namespace.block_size) same long.whole in
              let each_reads = each.joined (ReadsOf bytes) (map reply_of ends.before) (reply_of ends.last ∷ [])
              (each.mapped (ReadsOf bytes) reply_of ends.before
              (each.of_each (λ (p : Part). ReadsOf bytes (reply_of p)) ends.before
              (λ i part here. reads_right part false (right_before i part here) (succeeds i part here).success bytes some.1)))
              (reads_right ends.last true right_last last_succeeds bytes some.1, tt) in
              let inside = knows.range r.namespace job op refusal stands in
              let joined = read_joined r.namespace op.first op.blocks bytes in_line inside length_is all_replies
              (sym (append-nil (units_told all_replies)) ∙ all_met ∙ its_range r.namespace op (reads_its_range op.deed e)) each_reads in
              answered_is op.deed (data_told all_replies) d.payload true e (some.1 ∙ ap (λ (l : List ℕ). Some l) (sym joined))

          by_kind : IsDecided (is_read op.deed ≡ true) → d.payload ≡ answered op.deed (data_told all_replies)
          by_kind (inl e) = read e
          by_kind (inr n) = unread (not_read (is_read op.deed) n) (data_told all_replies)

          succeeded : IsOutcomeOf r.namespace op all_replies d.statuses d.payload
          succeeded =
              inl
              (record {
                done =
                    record {
                      units = all_met;
                      each =
                          each.joined (IsSuccessfulReply op.deed) (map reply_of ends.before) (reply_of ends.last ∷ []) front
                          (record { reply = last_is_reply; success = last_succeeds }, tt);
                    };
                statuses = success_told op.deed ends.last.result d.statuses (can ends.last among_last) ends.statuses s;
                payload = by_kind (is_true (is_read op.deed));
              })

        stopped : (IsSuccess d.statuses → ⊥) → IsOutcomeOf r.namespace op all_replies d.statuses d.payload
        stopped fails =
            inr
            (inl
            (record {
              before = map reply_of ends.before;
              last = reply_of ends.last;
              left = ends.left;
              are = refl;
              done =
                  record { units = front_units ends.before ((reply_of ends.last).part.unit ∷ ends.left) ∙ all_units; each = front };
              reply = last_is_reply;
              failure = λ s. fails (subst IsSuccess (sym last_told) s);
              statuses = last_told;
              payload = no_payload fails;
            }))

        by_success : IsDecided (IsSuccess d.statuses) → IsOutcomeOf r.namespace op all_replies d.statuses d.payload
        by_success (inl s) = succeeded s
        by_success (inr fails) = stopped fails

        ended : AreRepliesOf r d all_replies
        ended =
            record {
              job = job;
              its = its;
              parts = told_parts ends.before ends.last ∙ sym ends.are;
              each = each.all_here (IsReplyAtPoint r job) all_replies all_at_points;
              outcome = (outcomes.ready r.namespace job op all_replies d.statuses d.payload refusal stands).1 (by_success (success d.statuses));
            }

      none_told : IsOutcomeOf r.namespace op [] d.statuses d.payload → d.parts ≡ [] → AreRepliesOf r d []
      none_told outcome none =
          record {
            job = job;
            its = its;
            parts = sym none;
            each = λ i reply here. absurd (none_stands i reply here);
            outcome = (outcomes.ready r.namespace job op [] d.statuses d.payload refusal stands).1 outcome;
          }

      unmet_payload : units_met r.namespace op ≡ [] → IsDecided (is_read op.deed ≡ true) → d.payload ≡ answered op.deed []
      unmet_payload none (inl e) = absurd (knows.units r.namespace job op refusal stands (reads_its_range op.deed e) none)
      unmet_payload none (inr n) = unread (not_read (is_read op.deed) n) []

      by_ending : HasEnding r.namespace op d.parts d.statuses → (told : List Reply) × AreRepliesOf r d told
      by_ending (inl unmet) = (
        [],
        none_told
            (inl
            (record {
              done = record { units = sym unmet.none_met; each = tt };
              statuses = unmet.statuses;
              payload = unmet_payload unmet.none_met (is_true (is_read op.deed));
            })) unmet.none_done,
      )
      by_ending (inr (inl unstarted)) = (
        [],
        none_told
            (inr
            (inr
            (record {
              some = unstarted.some;
              none_done = refl;
              statuses = unstarted.statuses;
              payload = no_payload (λ s. replies.unstarted_fails op.deed (subst IsSuccess unstarted.statuses s));
            }))) unstarted.none_done,
      )
      by_ending (inr (inr ends)) = (all_replies ends, ended ends)

  by_plan : (job : Job) → IsAt r.jobs d.job job → (refused : Option Statuses) (stands : Option Operation)
      → refusal_of r.namespace job ≡ refused → job_operation_of r.namespace job ≡ stands
      → MatchOption refused (IsSomeAnd stands (λ op. HasShapeOf r.namespace op d.parts d.statuses d.payload))
      (λ refusal. HasShapeOfRefusal refusal d.parts d.statuses d.payload)
      → (told : List Reply) × AreRepliesOf r d told
  by_plan job its (Some refusal) stands e also shape = (
    [],
    record {
      job = job;
      its = its;
      parts = sym shape.none_done;
      each = λ i reply here. absurd (none_stands i reply here);
      outcome =
          (outcomes.refused r.namespace job refusal [] d.statuses d.payload e).1
          (record { none_done = refl; statuses = shape.statuses; payload = shape.payload });
    },
  )
  by_plan job its None (Some op) e also shape = by_ending job op its e also shape shape.ending
  by_plan job its None None e also shape = absurd shape

  pub outcome_of_done : (told : List Reply) × AreRepliesOf r d told
  outcome_of_done =
      let has = lawful.shapes worker work k d there at in
      by_plan has.job has.its (refusal_of r.namespace has.job) (job_operation_of r.namespace has.job) refl refl has.shape
