use Rattle.std.proofs.Common.{◌≡◌, length, ap, subst, arith, rules}
use Rattle.std.proofs.lemmas.List.{length-map}
use Rattle.nvm_audit.specs.RecordView.{RecordView}
use Rattle.nvm_audit.specs.Shown.{shown_by as record_by}
use Rattle.nvm_trace.specs.FirstFault.{HasJobsOf}
use Rattle.nvm_trace.specs.Pieces.{piece}
use Rattle.nvm_trace.specs.Shown.{shown_by}
use Rattle.nvm_trace.specs.TraceView.{TraceView}
use Rattle.nvm_trace.proofs.witnessing.matched.Goals as goal

pub returns-clause-jobs : goal.returns-clause-jobs
returns-clause-jobs c =
    let t : TraceView = shown_by c.trace.inside in
    let r : RecordView = record_by c.record.inside in
    let owners = c.in_ok-owners.owners.items in
    let matched = c.in_ok-owners.ensures.matched in
    let same : r.namespace ≡ t.namespace = search rules in
    let found : HasJobsOf c.args.judging t r =
    record {
      namespace = same;
      jobs = matched.each;
      prepared = λ number job high at.
          let long = length-map owners (λ o. piece o.whole.now o.cut) in
          let all = ap length matched.owners_are in
          c.in-None.ensures number job (omega (arith, high, long, all, c.len.ensures)) at;
    } in
    subst (λ (v : RecordView). HasJobsOf c.args.judging c.args.trace.now v) c.record.view_is
    (subst (λ (v : TraceView). HasJobsOf c.args.judging v r) c.trace.view_is found)
