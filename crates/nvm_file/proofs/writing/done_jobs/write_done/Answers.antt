use Rattle.std.proofs.Common.{◌≡◌, List, [], ◌∷◌, ◌++◌, length, get_or, ◌∙◌, refl, ap, sym, subst, arith}
use Rattle.std.specs.Io.KnownBytes.{Appends}
use Rattle.std.specs.List.{flat_map}
use Rattle.nvm_record.specs.declared.status.Statuses.{Statuses}
use Rattle.nvm_record.specs.declared.status.Statuses.TheVariants.{One}
use Rattle.nvm_plan.specs.declared.part.Part.{Part}
use Rattle.nvm_plan.specs.declared.part.PartResult.TheVariants.{Done}
use Rattle.nvm_audit.specs.RecordedJob.{RecordedJob}
use Rattle.nvm_text.specs.Handed.{TakesFront}
use Rattle.nvm_text.proofs.Taking.{within, behind, first_of, on_err, on_err_then, on_ok_then}
use Rattle.nvm_file.specs.WorkSpelling.{done_bytes, done_front, part_bytes, payload_bytes, statuses_bytes}
use Rattle.nvm_file.proofs.writing.done_jobs.write_done.Goals as goal

abbrev none : Part
none = record { unit = 0; point = 0; result = Done }

sole : (parts : List Part) (part : Part) → length parts ≡ 1 → get_or parts 0 part ∷ [] ≡ parts
sole [] part e = absurd (omega (arith, e))
sole (p ∷ []) part e = refl
sole (p ∷ q ∷ parts) part e = absurd (omega (arith, e))

with_parts : RecordedJob → Statuses → List Part → RecordedJob
with_parts done statuses parts = record { job = done.job; parts = parts; statuses = statuses; payload = done.payload }

pub returns-then-parts-eq1-clause-whole : goal.returns-then-parts-eq1-clause-whole
unfolding with_parts
returns-then-parts-eq1-clause-whole g c =
    let parts = c.as_slice-parts.result.now in
    let job : RecordedJob = record { job = c.done.inside.job; parts = c.done.inside.parts.items; statuses = c.done.inside.statuses; payload = c.done.inside.payload } in
    let few : length parts ≡ 1 = omega arith in
    let one : get_or parts 0 none ∷ [] ≡ c.done.inside.parts.items = sole parts none few ∙ c.as_slice-parts.ensures in
    let same = ap (with_parts job (One c.in-One.status)) one ∙ ap (λ statuses. with_parts job statuses c.done.inside.parts.items) (sym c.in-One.is) ∙ c.done.view_is in
    on_ok_then c.write_one_part.result (λ taken. subst (Appends _ _) (ap done_bytes same) taken) c.write_one_part.ensures.whole

pub returns-in_err-hand_noting-clause-front : goal.returns-in_err-hand_noting-clause-front
returns-in_err-hand_noting-clause-front g c =
    let done = c.args.done.now in
    within c.from_residual.result _ _ _ (done_front done)
    (flat_map part_bytes done.parts ++ (statuses_bytes done.statuses ++ payload_bytes done.payload))
    c.done_front.ensures c.in_err-hand_noting.ensures.front

pub returns-in_err-write_parts-clause-front : goal.returns-in_err-write_parts-clause-front
returns-in_err-write_parts-clause-front g c =
    let done = c.args.done.now in
    let ended = statuses_bytes done.statuses ++ payload_bytes done.payload in
    let parts = flat_map part_bytes done.parts in
    on_err c.from_residual-in_err-write_parts.result (behind _ _ _ _ (done_front done) (parts ++ ended) c.done_front.ensures c.in_ok-hand_noting.ensures.whole
    (first_of _ _ _ parts ended (ap (flat_map part_bytes) c.as_slice-parts.ensures ∙ ap (λ d. flat_map part_bytes d.parts) c.done.view_is) c.in_err-write_parts.ensures.front))

pub returns-in_err-write_statuses-clause-front : goal.returns-in_err-write_statuses-clause-front
returns-in_err-write_statuses-clause-front g c =
    let done = c.args.done.now in
    let parts = flat_map part_bytes done.parts in
    let statuses = statuses_bytes done.statuses in
    let payload = payload_bytes done.payload in
    on_err c.from_residual-in_err-write_statuses.result (behind _ _ _ _ (done_front done) (parts ++ (statuses ++ payload)) c.done_front.ensures c.in_ok-hand_noting.ensures.whole
    (behind _ _ _ _ parts (statuses ++ payload) (ap (flat_map part_bytes) c.as_slice-parts.ensures ∙ ap (λ d. flat_map part_bytes d.parts) c.done.view_is) c.in_ok-write_parts.ensures.whole
    (first_of _ _ _ statuses payload (ap (λ d. statuses_bytes d.statuses) c.done.view_is) c.in_err-write_statuses.ensures.front)))

pub returns-clause-front : goal.returns-clause-front
returns-clause-front g c =
    let done = c.args.done.now in
    let parts = flat_map part_bytes done.parts in
    let statuses = statuses_bytes done.statuses in
    let payload = payload_bytes done.payload in
    on_err_then c.write_payload.result (λ failed.
    behind _ _ _ _ (done_front done) (parts ++ (statuses ++ payload)) c.done_front.ensures c.in_ok-hand_noting.ensures.whole
    (behind _ _ _ _ parts (statuses ++ payload) (ap (flat_map part_bytes) c.as_slice-parts.ensures ∙ ap (λ d. flat_map part_bytes d.parts) c.done.view_is) c.in_ok-write_parts.ensures.whole
    (behind _ _ _ _ statuses payload (ap (λ d. statuses_bytes d.statuses) c.done.view_is) c.in_ok-write_statuses.ensures.whole
    (subst (TakesFront _ _) (ap (λ d. payload_bytes d.payload) c.done.view_is) failed)))) c.write_payload.ensures.front
