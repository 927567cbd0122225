-- A record that can be held is complete.
use Rattle.std.proofs.Common.{◌≡◌, ◌∙◌, ℕ, ◌*◌, ap, arith}
use Rattle.nvm_record.specs.Step.{Operation}
use Rattle.nvm_store.specs.Limit.{IsLimit}
use Rattle.nvm_audit.specs.declared.version.Version.{Version}
use Rattle.nvm_audit.specs.declared.version.Version.TheVariants.{One, Two}
use Rattle.nvm_audit.specs.LawfulRecord.{IsComplete}
use Rattle.nvm_audit.specs.Recordable.{HoldsLimit, HoldsWholeReads, IsRecordable, IsRecordableDone, IsRecordableWork}
use Rattle.nvm_audit.specs.RecordView.{RecordView}
use Rattle.nvm_audit.proofs.Standing.{all_at}
use Rattle.nvm_audit.proofs.UnitChecksPass.{one_operation}

limit_of : (version : Version) (limit : ℕ) → HoldsLimit version limit → IsLimit limit
limit_of One limit h = (h.0, omega (arith, h.1))
limit_of Two limit h = h

module _ (r : RecordView) (held : IsRecordable r) where
  reads_held : HoldsWholeReads r
  reads_held worker work k done job op bytes there at its ready e =
      let does = all_at (IsRecordableWork r) r.done held.done worker work there in
      let kept = all_at (IsRecordableDone r) work does.each k done at in
      let long = kept.payload bytes e in
      let same : long.op ≡ op =
      one_operation r.namespace r.jobs done.job long.op op (record { job = kept.job; its = kept.its; ready = long.ready })
      (record { job = job; its = its; ready = ready }) in
      long.whole ∙ ap (λ (x : Operation). x.blocks * r.namespace.block_size) same

  pub complete_where_held : IsComplete r
  complete_where_held =
      record {
        namespace = held.namespace;
        limit = limit_of r.version r.limit held.limit;
        some_worker = held.some_worker;
        few_workers = held.few_workers;
        jobs = λ k d below. (held.jobs k d below).fits;
        all_units = held.all_units;
        within = λ unit history there. (held.units unit history there).few;
        all_workers = held.all_workers;
        reads = reads_held;
      }
