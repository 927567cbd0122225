use Rattle.std.proofs.Common.{ℕ, List, [], ◌∷◌, refl, sym, ap, ◌∙◌, subst}
use Rattle.nvm_geometry.specs.Large.{region_of}
use Rattle.nvm_plan.specs.JobPart.{job_part_in}
use Rattle.nvm_plan.specs.Outcome.{AreDone, IsOutcome}
use Rattle.nvm_plan.specs.Reply.{IsReplyTo}
use Rattle.nvm_space.specs.Inside.Parts.{part_done}
use Rattle.nvm_space.specs.Trace.{DoesPart}
use Rattle.nvm_space.specs.Visits.{BecomesAt}
use Rattle.nvm_space.proofs.OnlyParts.{outcome_of_one, success_or_not}
use Rattle.nvm_space.proofs.PartReplies.{data_alike, part_replies, two_read_none}
use Rattle.nvm_space.proofs.lent.an_only_part_is_the_outcome.Goals as goal

pub returns : goal.returns
returns c = λ ns number job unit part r ok start now old only at becomes is_ok.
    let known = c.parts_of_jobs.ensures.known ns job unit part only.in_unit in
    let op = known.1 in
    let reply : IsReplyTo op.deed r =
    part_replies ns op part unit known.4 (c.parts_keep_their_kind.ensures.look ns op unit) (c.parts_keep_their_kind.ensures.pair ns op unit)
    (c.answers_of_the_step_are_replies.ensures.looked ns op) (c.answers_of_the_step_are_replies.ensures.failed ns op)
    (c.answers_of_the_step_are_replies.ensures.no_memory op.deed) (c.answers_of_the_step_are_replies.ensures.full op.deed)
    number r becomes.before becomes.after at becomes.so in
    let units = sym (c.parts_of_jobs.ensures.units ns job op known.0 known.2) ∙ only.units in
    let begun : AreDone ns op [] (r.part.unit ∷ []) =
    subst (λ (u : ℕ). AreDone ns op [] (u ∷ [])) (sym at) (subst (λ (us : List ℕ). AreDone ns op [] us) units (c.outcomes_are_made_part_by_part.ensures.begun ns op)) in
    let outcome : IsOutcome ns job (r ∷ []) r.statuses r.payload =
    (c.outcomes_by_plan.ensures.ready ns job op (r ∷ []) r.statuses r.payload known.0 known.2).1
    (outcome_of_one ns op r (c.outcomes_are_made_part_by_part.ensures.more ns op [] r []) (c.outcomes_are_made_part_by_part.ensures.whole ns op)
    (c.outcomes_are_made_part_by_part.ensures.stopped ns op [] r []) (c.outcomes_are_made_part_by_part.ensures.payload [] r) begun reply (success_or_not ok r.statuses is_ok)) in
    let each = c.each_command_has_a_status.ensures.outcome ns job (r ∷ []) r.statuses r.payload outcome in
    record {
      each = each;
      read = r.payload;
      buffer = data_alike job.host job.body r.statuses r.payload old each (λ two. two_read_none number part r becomes.before becomes.after two becomes.so);
      does = λ done completions none. record {
        parts = part_done number part r ∷ [];
        does = (now, subst (λ (u : ℕ). BecomesAt (region_of ns u) (DoesPart (part_done number part r)) start now) (sym at) becomes, refl);
        each = ((refl, ap (λ (u : ℕ). job_part_in ns job u) at ∙ only.in_unit), tt);
        told = r.statuses;
        read = r.payload;
        outcome = outcome;
        completions = completions;
        listed = none;
      };
    }
