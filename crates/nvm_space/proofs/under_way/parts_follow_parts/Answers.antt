use Rattle.std.proofs.Common.{◌≡◌, ℕ, ◌+◌, List, ◌∷◌, length, None, inl, refl, sym, ap, ◌∙◌, subst, arith}
use Rattle.std.proofs.lemmas.Option.{same_Some}
use Rattle.nvm_record.specs.Step.{Operation}
use Rattle.nvm_geometry.specs.Boundaries.{unit_number}
use Rattle.nvm_geometry.specs.Large.{region_of}
use Rattle.nvm_geometry.specs.Parts.{part_in}
use Rattle.nvm_plan.specs.JobPart.{job_units_from}
use Rattle.nvm_space.specs.Inside.Parts.{part_done, reply_told}
use Rattle.nvm_space.specs.UnderWay.{HaveDone, next_unit}
use Rattle.nvm_space.specs.Inside.Replying.{with_part}
use Rattle.nvm_space.proofs.PartByPart.{one_longer, one_more, stops, stops_so, all_done, step_so, IsStep}
use Rattle.nvm_space.proofs.Waiting.{part_after_waiting}
use Rattle.nvm_space.proofs.under_way.parts_follow_parts.Goals as goal

pub returns : goal.returns
returns c = λ ns lists job w r start now new bytes part statuses replied.
    let under = replied.0.under_way in
    let op = under.op in
    let unit = next_unit ns w in
    let after = job_units_from ns job (unit + 1) in
    let known = c.parts_of_jobs.ensures.known ns job unit replied.0.part replied.0.in_unit in
    let same : known.1 ≡ op = same_Some known.1 op (sym known.2 ∙ under.is_op) in
    let step : IsStep ns w.number job op unit under.reached new w.bytes bytes part statuses =
    step_so ns w.number job op replied.0.part unit under.reached new w.bytes bytes r part statuses
    (c.parts_keep_their_kind.ensures.look ns op unit) (c.parts_keep_their_kind.ensures.pair ns op unit)
    (c.answers_of_the_step_are_replies.ensures.looked ns op) (c.answers_of_the_step_are_replies.ensures.failed ns op)
    (c.answers_of_the_step_are_replies.ensures.no_memory op.deed) (c.answers_of_the_step_are_replies.ensures.full op.deed)
    (known.4 ∙ ap (λ (o : Operation). part_in ns o unit) same) replied.0.in_unit
    (part_after_waiting (region_of ns unit) (part_done w.number replied.0.part (reply_told unit r)) under.reached now new
    c.waiting_is_no_step.ensures.changed c.waiting_is_no_step.ensures.looked under.waited replied.0.step) replied.1 in
    record {
      more = λ next success inside units. record {
        free = under.free;
        known = inside;
        op = op;
        is_op = under.is_op;
        reached = new;
        have = subst (λ (us : List ℕ). HaveDone ns lists w.number job op start new us (with_part lists w.parts part) bytes) units
            (one_more ns lists w.number job op (c.outcomes_are_made_part_by_part.ensures.more ns op) c.outcomes_are_made_part_by_part.ensures.payload
            start under.reached new unit after w.parts (with_part lists w.parts part) w.bytes bytes part statuses under.have step success refl);
        waited = inl refl;
        room = λ on. let left : length after ≡ length (unit_number ns next ∷ job_units_from ns job (unit_number ns next + 1)) = ap length units in
            let room = under.room on in omega (arith, room, left, one_longer lists w.parts part on);
      };
      last = λ done success none ended.
          all_done ns lists w.number job op (c.outcomes_are_made_part_by_part.ensures.whole ns op) (λ replies told read so. (c.outcomes_by_plan.ensures.ready ns job op replies told read under.free under.is_op).1 so) start new after (with_part lists w.parts part) bytes done
          (one_more ns lists w.number job op (c.outcomes_are_made_part_by_part.ensures.more ns op) c.outcomes_are_made_part_by_part.ensures.payload
          start under.reached new unit after w.parts (with_part lists w.parts part) w.bytes bytes part statuses under.have step success refl) none (ended op under.is_op);
      told = λ failure.
          let so = stops_so ns lists w.number job op (c.outcomes_are_made_part_by_part.ensures.stopped ns op) (λ replies told read so. (c.outcomes_by_plan.ensures.ready ns job op replies told read under.free under.is_op).1 so) start under.reached new unit after w.parts w.bytes bytes part statuses under.have step failure in
          c.each_command_has_a_status.ensures.outcome ns job so.0 statuses None so.1;
      stopped = λ done failure ended.
          stops ns lists w.number job op (c.outcomes_are_made_part_by_part.ensures.stopped ns op) (λ replies told read so. (c.outcomes_by_plan.ensures.ready ns job op replies told read under.free under.is_op).1 so) start under.reached new unit after w.parts (with_part lists w.parts part) w.bytes bytes part statuses done
          under.have step failure refl ended;
    }
