-- A part that was done rests on its point.
use Rattle.std.proofs.Common.{◌≡◌, ℕ, List, not, Some, None, IsTrue, refl, sym, subst, arith}
use Rattle.nvm_record.specs.declared.block.Block.{Block}
use Rattle.nvm_record.specs.declared.status.Statuses.TheVariants.{Two}
use Rattle.nvm_record.specs.Deeds.{is_look, success_of}
use Rattle.nvm_record.specs.Lists.{IsAt}
use Rattle.nvm_record.specs.Status.{IsSuccess}
use Rattle.nvm_record.specs.Step.{Deed, Operation, writes, zeroes, uncorrectable, reads, compares, pairs, deallocates, statuses_on, data_on, range_of}
use Rattle.nvm_plan.specs.declared.job.Job.{Job}
use Rattle.nvm_plan.specs.declared.part.PartResult.TheVariants.{Done}
use Rattle.nvm_plan.specs.JobPart.{job_part_in}
use Rattle.nvm_store.specs.HistoryEntry.{HistoryEntry}
use Rattle.nvm_store.specs.Point.{point, RestsOn}
use Rattle.nvm_audit.specs.LawfulRecord.{IsLawfulRecord}
use Rattle.nvm_audit.specs.RecordedPart.{RecordedPart, parts_in_unit}
use Rattle.nvm_audit.specs.RecordView.{RecordView}
use Rattle.nvm_audit.proofs.Standing.{below}

success_told : (blocks : List Block) (deed : Deed) → IsTrue (not (is_look deed)) → IsSuccess (statuses_on blocks deed)
    → success_of deed ≡ statuses_on blocks deed
success_told blocks (writes payload) act h = refl
success_told blocks zeroes act h = refl
success_told blocks uncorrectable act h = refl
success_told blocks reads act h = absurd (cc act)
success_told blocks (compares payload) act h = absurd (cc act)
success_told blocks (pairs payload new) act h = λ i. Two (sym h.0 i) (sym h.1 i)
success_told blocks (deallocates ranges) act h = refl

no_data : (blocks : List Block) (deed : Deed) → IsTrue (not (is_look deed)) → None ≡ data_on blocks deed
no_data blocks (writes payload) act = refl
no_data blocks zeroes act = refl
no_data blocks uncorrectable act = refl
no_data blocks reads act = absurd (cc act)
no_data blocks (compares payload) act = absurd (cc act)
no_data blocks (pairs payload new) act = refl
no_data blocks (deallocates ranges) act = refl

pub done_parts_rest : (r : RecordView) (unit k : ℕ) (history : List HistoryEntry) (p : RecordedPart) → IsLawfulRecord r
    → IsAt r.units unit history → IsAt (parts_in_unit unit r.done) k p → p.part.result ≡ Done
    → (job : Job) × (op : Operation) × IsAt r.jobs p.done.job job × (job_part_in r.namespace job unit ≡ Some op)
    × RestsOn r.namespace.block_size history p.part.point op (success_of op.deed) None
done_parts_rest r unit k history p lawful there at done =
    let its = lawful.units unit history there in
    let made = its.made k p at done in
    let entry = made.0 in
    let of = its.entries p.part.point entry made.1 in
    let follows = its.lawful p.part.point entry made.1 in
    let lt = below history p.part.point entry made.1 in
    let m = point its.place.size history p.part.point in
    let blocks = range_of entry.operation m in (
      of.job,
      entry.operation,
      subst (λ (n : ℕ). IsAt r.jobs n of.job) made.2.job of.its,
      of.part,
      subst (λ (s : ℕ). RestsOn s history p.part.point entry.operation (success_of entry.operation.deed) None) its.lies.size
          (record {
            within = omega (arith, lt);
            statuses = success_told blocks entry.operation.deed follows.act follows.succeeds;
            payload = no_data blocks entry.operation.deed follows.act;
          }),
    )
