use Rattle.std.proofs.Common.{◌≡◌, ℕ, ◌+◌, List, [], ◌∷◌, length, Option, None, is_some, inl, refl, sym, ap, ◌∙◌, subst, arith}
use Rattle.nvm_geometry.specs.Boundaries.{unit_number}
use Rattle.nvm_geometry.specs.Namespace.{Namespace}
use Rattle.nvm_geometry.specs.Parts.{units_met}
use Rattle.nvm_plan.specs.JobPart.{job_units, job_units_from}
use Rattle.nvm_plan.specs.Operation.{job_operation_of}
use Rattle.nvm_plan.specs.Outcome.{unstarted_of, AreDone}
use Rattle.nvm_space.specs.Inside.Recorded.{AreRecordedOf}
use Rattle.nvm_space.specs.declared.space.Recorded.{Recorded}
use Rattle.nvm_space.proofs.NextParts.{if_none, none_so}
use Rattle.nvm_space.proofs.PartByPart.{not_begun, all_done, nothing_done, the_operation, units_from_all}
use Rattle.nvm_space.proofs.under_way.begin.Goals as goal
use Rattle.nvm_space.proofs.under_way.begin.Goals.{in-None, in-Some-recorded}

pub of-requires : goal.of-requires
of-requires c =
    let ns = c.args.geometry.now in
    let job = c.args.job.now in
    let statuses = c.in-Some.statuses in
    c.each_command_has_a_status.ensures.outcome ns job [] statuses None
    ((c.outcomes_by_plan.ensures.refused ns job statuses [] statuses None (sym c.refusal.ensures ∙ c.in-Some.is)).1
    (record { none_done = refl; statuses = refl; payload = refl }))

pub returns-in-Some : goal.returns-in-Some
returns-in-Some c = λ views.
    let ns = c.args.geometry.now in
    let job = c.args.job.now in
    let statuses = c.in-Some.statuses in
    nothing_done ns (is_some c.args.recorded) c.args.number job views statuses None c.new.result.items c.of.result
    ((c.outcomes_by_plan.ensures.refused ns job statuses [] statuses None (sym c.refusal.ensures ∙ c.in-Some.is)).1
    (record { none_done = refl; statuses = refl; payload = refl })) c.new.ensures.items c.of.ensures

pub returns-in_default-first_reached : goal.returns-in_default-first_reached
returns-in_default-first_reached c = λ views.
    let ns = c.args.geometry.now in
    let job = c.args.job.now in
    let free = sym c.refusal.ensures ∙ none_so c.refusal.result c.in_default.not-Some in
    let op = the_operation (job_operation_of ns job) (c.ready_jobs.ensures.operation ns job free) in
    let all = units_from_all ns job op.0 (c.parts_of_jobs.ensures.units ns job op.0 free op.1) (c.ranges_meet_their_units.ensures.all ns op.0) in
    let none = if_none (job_units_from ns job 0 ≡ []) c.first_reached.result c.in_default-first_reached.not-Some c.first_reached.ensures.none in
    let begun = subst (λ (us : List ℕ). AreDone ns op.0 [] us) (sym all ∙ none) (c.outcomes_are_made_part_by_part.ensures.begun ns op.0) in
    let bytes = c.new-in_default-first_reached in
    let parts = c.new-in_default-first_reached-2 in
    all_done ns (is_some c.args.recorded) c.args.number job op.0 (c.outcomes_are_made_part_by_part.ensures.whole ns op.0)
    (λ replies told read so. (c.outcomes_by_plan.ensures.ready ns job op.0 replies told read free op.1).1 so)
    views views [] parts.result.items bytes.result.items c.of_success.result
    (not_begun ns (is_some c.args.recorded) c.args.number job op.0 views [] parts.result.items bytes.result.items begun parts.ensures.items bytes.ensures.items)
    refl (c.of_success.ensures ns op.0 op.1)

pub returns-in_default-with_capacity : goal.returns-in_default-with_capacity
returns-in_default-with_capacity c = λ views.
    let ns = c.args.geometry.now in
    let job = c.args.job.now in
    let free = sym c.refusal.ensures ∙ none_so c.refusal.result c.in_default.not-Some in
    let op = the_operation (job_operation_of ns job) (c.ready_jobs.ensures.operation ns job free) in
    let all = units_from_all ns job op.0 (c.parts_of_jobs.ensures.units ns job op.0 free op.1) (c.ranges_meet_their_units.ensures.all ns op.0) in
    let some : units_met ns op.0 ≡ [] → ⊥ = λ none. let bad = sym (all ∙ none) ∙ c.in-Some-first_reached.ensures.first in cc bad in
    nothing_done ns (is_some c.args.recorded) c.args.number job views (unstarted_of op.0.deed) None [] c.of_no_part.result
    ((c.outcomes_by_plan.ensures.ready ns job op.0 [] (unstarted_of op.0.deed) None free op.1).1
    (c.outcomes_are_made_part_by_part.ensures.unstarted ns op.0 some)) refl (c.of_no_part.ensures ns op.0 op.1)

pub returns-in_default-room : goal.returns-in_default-room
returns-in_default-room c = λ views.
    let ns = c.args.geometry.now in
    let job = c.args.job.now in
    let free = sym c.refusal.ensures ∙ none_so c.refusal.result c.in_default.not-Some in
    let op = the_operation (job_operation_of ns job) (c.ready_jobs.ensures.operation ns job free) in
    let all = units_from_all ns job op.0 (c.parts_of_jobs.ensures.units ns job op.0 free op.1) (c.ranges_meet_their_units.ensures.all ns op.0) in
    let some : units_met ns op.0 ≡ [] → ⊥ = λ none. let bad = sym (all ∙ none) ∙ c.in-Some-first_reached.ensures.first in cc bad in
    nothing_done ns (is_some c.args.recorded) c.args.number job views (unstarted_of op.0.deed) None [] c.of_no_part-in_default-room.result
    ((c.outcomes_by_plan.ensures.ready ns job op.0 [] (unstarted_of op.0.deed) None free op.1).1
    (c.outcomes_are_made_part_by_part.ensures.unstarted ns op.0 some)) refl (c.of_no_part-in_default-room.ensures ns op.0 op.1)

pub returns : goal.returns
returns c = λ views.
    let ns = c.args.geometry.now in
    let job = c.args.job.now in
    let free = sym c.refusal.ensures ∙ none_so c.refusal.result c.in_default.not-Some in
    let op = the_operation (job_operation_of ns job) (c.ready_jobs.ensures.operation ns job free) in
    let unit = unit_number ns c.in-Some-first_reached.lba in
    let units = c.parts_of_jobs.ensures.units ns job op.0 free op.1 in
    let all = units_from_all ns job op.0 units (c.ranges_meet_their_units.ensures.all ns op.0) in
    let left : units_met ns op.0 ≡ unit ∷ job_units_from ns job (unit + 1) = sym all ∙ c.in-Some-first_reached.ensures.first in
    let begun = subst (λ (us : List ℕ). AreDone ns op.0 [] us) left (c.outcomes_are_made_part_by_part.ensures.begun ns op.0) in
    let counted : length (job_units ns job) ≡ length (unit ∷ job_units_from ns job (unit + 1)) = ap length (units ∙ left) in
    let empty : length c.in-Ok.parts.items ≡ 0 = ap length c.in-Ok.ensures.items in (
      refl,
      record {
        free = free;
        known = c.in-Some-first_reached.ensures.known;
        op = op.0;
        is_op = op.1;
        reached = views;
        have = not_begun ns (is_some c.args.recorded) c.args.number job op.0 views (unit ∷ job_units_from ns job (unit + 1)) c.in-Ok.parts.items c.in-Ok-room.bytes.items begun c.in-Ok.ensures.items c.in-Ok-room.ensures;
        waited = inl refl;
        room = λ on. elim c.match-recorded.branch [
          | in-Some-recorded w ↦
              let same : w.in-Some-recorded.recorded.geometry ≡ ns = (subst (λ (r : Option Recorded). AreRecordedOf ns r) w.in-Some-recorded.is c.requires).0 in
              let value = subst (λ (n : Namespace). w.ready_part_count-count.result ≡ length (job_units n job)) same w.ready_part_count-count.ensures.value in
              omega (arith, empty, counted, c.in-Ok.ensures.capacity, c.from.ensures, w.count-is, value)
          | in-None w ↦ absurd (let bad = sym (ap is_some w.in-None.is) ∙ on in cc bad)
        ];
      },
    )
