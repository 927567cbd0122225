use Rattle.std.proofs.Common.{◌≡◌, List, All, length, map, sym, ap, subst, ◌∙◌, inl, arith}
use Rattle.std.proofs.lemmas.List.{length-map}
use Rattle.std.specs.Prelude.{not, count_by}
use Rattle.nvm_audit.specs.LawfulRecord.{IsLawfulRecord}
use Rattle.nvm_audit.specs.RecordView.{RecordView}
use Rattle.nvm_audit.specs.Shown.{shown_by as record_by}
use Rattle.nvm_trace.specs.declared.step.Step.{Step}
use Rattle.nvm_trace.specs.declared.traced_job.TracedJob.{TracedJob}
use Rattle.nvm_trace.specs.Inside.Table.{HasPlace}
use Rattle.nvm_trace.specs.Pieces.{piece, wholes}
use Rattle.nvm_trace.specs.Saying.{says_what_was_done}
use Rattle.nvm_trace.specs.Steps.{steps_of}
use Rattle.nvm_trace.specs.Timely.{IsTimely, IsFirstLate}
use Rattle.nvm_trace.specs.TraceView.{TraceView}
use Rattle.nvm_trace.proofs.NoFault.{first_back}
use Rattle.nvm_trace.proofs.Places.{below, one_there, stands_read, map_of_map}
use Rattle.nvm_trace.proofs.ShownSteps.{steps_have_places}
use Rattle.nvm_trace.proofs.witnessing.time_fault.Goals as goal

-- the steps by what was read of the record
steps_shown : (steps : List Step) (owners traced : List TracedJob) (inside r : RecordView) → steps ≡ steps_of owners inside.done → owners ≡ traced
    → inside ≡ r → steps ≡ steps_of traced r.done
steps_shown steps owners traced inside r are same view =
    are ∙ ap (λ js. steps_of js inside.done) same ∙ ap (λ (v : RecordView). steps_of traced v.done) view

pub late_step-requires : goal.late_step-requires
late_step-requires c =
    let shown = record_by c.record.inside in
    subst (λ (r : RecordView). All (HasPlace r.units) c.in_ok-steps.steps.items) c.record.view_is
    (steps_have_places shown c.record.invariant (subst (λ (r : RecordView). IsLawfulRecord r) (sym c.record.view_is) c.requires.lawful)
    (map (λ o. o.whole.now) c.args.owners.now.items) c.in_ok-steps.steps.items c.in_ok-steps.ensures)

pub index-late-requires : goal.index-late-requires
index-late-requires c =
    let steps = c.in_ok-steps.steps.items in
    let first : IsFirstLate steps c.in-Some.place = rw c.in-Some.is at c.in_ok-place.ensures in
    let low = below steps c.in-Some.place first.late first.there in
    omega (arith, low)

pub returns-in-Some : goal.returns-in-Some
returns-in-Some c = λ judging same jobs replies.
    let steps = c.in_ok-steps.steps.items in
    let place = c.in-Some.place in
    let late = c.index-late.result.now in
    let first : IsFirstLate steps place = rw c.in-Some.is at c.in_ok-place.ensures in
    let low = below steps place first.late first.there in
    let is : first.late ≡ late = one_there steps place first.late late first.there (stands_read steps place late low c.index-late.ensures) in
    let owners = c.args.owners.now.items in
    let its : map (λ o. o.whole.now) owners ≡ wholes judging c.args.trace.now =
    sym (map_of_map (λ o. piece o.whole.now o.cut) (λ p. p.whole) owners) ∙ ap (λ ps. map (λ p. p.whole) ps) same in
    let are =
    steps_shown steps (map (λ o. o.whole.now) owners) (wholes judging c.args.trace.now) (record_by c.record.inside) c.args.record.now
    c.in_ok-steps.ensures its c.record.view_is in
    inl (jobs, c.requires.lawful, replies, first_back judging c.args.trace.now c.args.record.now steps place late are first is)

pub overflow_sub-result : goal.overflow_sub-result
overflow_sub-result c =
    let few = c.requires.few in
    let jobs = ap (λ (r : RecordView). length r.jobs) c.record.view_is in
    omega (arith, few, jobs, c.len-in-None-3.ensures, c.len-in-None-4.ensures)

pub returns : goal.returns
returns c = λ judging same jobs replies.
    let steps = c.in_ok-steps.steps.items in
    let owners = c.args.owners.now.items in
    let its : map (λ o. o.whole.now) owners ≡ wholes judging c.args.trace.now =
    sym (map_of_map (λ o. piece o.whole.now o.cut) (λ p. p.whole) owners) ∙ ap (λ ps. map (λ p. p.whole) ps) same in
    let are =
    steps_shown steps (map (λ o. o.whole.now) owners) (wholes judging c.args.trace.now) (record_by c.record.inside) c.args.record.now
    c.in_ok-steps.ensures its c.record.view_is in
    let timely : IsTimely steps = rw c.in-None.is at c.in_ok-place.ensures in
    let few = c.requires.few in
    let traced = ap (λ (t : TraceView). length t.jobs) c.trace.view_is in
    let recorded = ap (λ (r : RecordView). length r.jobs) c.record.view_is in
    let units = ap (λ (r : RecordView). length r.units) c.record.view_is in
    let histories = length-map c.record.inside.units.items (λ history. history.items) in
    let shown = ap length are in
    let long = length-map c.args.owners.now.items (λ o. piece o.whole.now o.cut) in
    let all = ap length same in (
      record {
        namespace = jobs.namespace;
        jobs = jobs.jobs;
        prepared = jobs.prepared;
        lawful = c.requires.lawful;
        replies = replies;
        timely = subst (λ (ss : List Step). IsTimely ss) are timely;
      },
      record {
        jobs = omega (arith, traced, c.len.ensures);
        units = omega (arith, units, histories, c.len-in-None.ensures);
        steps = omega (arith, shown, c.len-in-None-2.ensures);
        excused =
            c.excused.ensures ∙ ap (λ (t : TraceView). count_by (λ j. not (says_what_was_done t.namespace j)) t.jobs) c.trace.view_is;
        preparations = omega (arith, few, recorded, long, all, c.len-in-None-3.ensures, c.len-in-None-4.ensures);
      },
    )
