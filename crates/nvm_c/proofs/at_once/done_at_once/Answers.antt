use Rattle.std.proofs.Common.{◌∙◌, List, [], ℕ, Bool, inl, refl, sym, ap, subst}
use Rattle.nvm_plan.specs.Completions.{body_completions}
use Rattle.nvm_plan.specs.OnlyPart.{body_lent}
use Rattle.nvm_plan.specs.declared.job.Job.{Job}
use Rattle.nvm_space.specs.Trace.{DoesJob}
use Rattle.nvm_space.specs.declared.job_done.JobDone.{JobDone}
use Rattle.nvm_unit.specs.Ends.{views_of}
use Rattle.nvm_c.specs.Submitted.{Buffers}
use Rattle.nvm_c.specs.Told.{FitEntries, all_posted}
use Rattle.nvm_c.proofs.AtOnce.{fit_alike, posted_alike}
use Rattle.nvm_c.proofs.at_once.done_at_once.Goals as goal

pub completions_for-completions-requires : goal.completions_for-completions-requires
completions_for-completions-requires c =
    let payload = c.requires.only.0 in
    let compared = c.requires.only.1 in
    let job : Job = record { host = c.args.host; body = body_lent c.args.fields payload compared } in
    (payload, compared, (c.in-Some.ensures.goes job (views_of c.args.port.now.passes) c.requires.only.2 (inl refl)).each)

pub tell-requires-clause-fit : goal.tell-requires-clause-fit
tell-requires-clause-fit c =
    let payload = c.requires.only.0 in
    let compared = c.requires.only.1 in
    let job : Job = record { host = c.args.host; body = body_lent c.args.fields payload compared } in
    let did = c.in-Some.ensures.goes job (views_of c.args.port.now.passes) c.requires.only.2 (inl refl) in
    let told : JobDone = record { completions = body_completions c.args.host job.body c.in-Some.statuses did.read; parts = record { items = []; capacity = 1 } } in
    let does = did.does told refl refl in
    subst FitEntries (sym (c.completions_for-completions.ensures payload compared))
    (fit_alike c.args.host job.body c.in-Some.statuses did.read (c.told_statuses_fit_their_entries.ensures.fit _ _ _ _ _ _ _ does))

pub returns-in-Some-clause-goes : goal.returns-in-Some-clause-goes
returns-in-Some-clause-goes c = λ payload compared start only waited.
    let job : Job = record { host = c.args.host; body = body_lent c.args.fields payload compared } in
    let did = c.in-Some.ensures.goes job start only waited in
    let told : JobDone = record { completions = body_completions c.args.host job.body c.in-Some.statuses did.read; parts = record { items = []; capacity = 1 } } in
    let does = did.does told refl refl in (
      told,
      subst (λ (lists : Bool). DoesJob c.args.space.now.namespace lists c.args.number job start (views_of c.poll_only_part.new.port.passes) told) (sym c.requires.unlisted) does,
      c.tell.ensures.entries ∙ ap all_posted (c.completions_for-completions.ensures payload compared) ∙ posted_alike c.args.host job.body c.in-Some.statuses did.read,
      did.buffer,
    )

pub returns-in-None-clause-goes : goal.returns-in-None-clause-goes
returns-in-None-clause-goes c = λ payload compared start only waited.
    let job : Job = record { host = c.args.host; body = body_lent c.args.fields payload compared } in
    let goes = c.in-None.ensures.goes job start only waited in
    (goes.1, ap (λ (l : List ℕ). (let b : Buffers = record { bytes = l; posted = c.args.posted.now } in b)) goes.0)
