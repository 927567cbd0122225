use Rattle.std.proofs.Common.{◌≡◌, ◌+◌, [], ◌∷◌, ◌++◌, All, subst, ap, sym, ◌∙◌, arith, map}
use Rattle.std.proofs.lemmas.List.Elements.{All-nil, All-cons, All-append}
use Rattle.std.specs.List.{flat_map, range_with_len}
use Rattle.nvm_plan.specs.Jobs.{commands_of}
use Rattle.nvm_generate.specs.Load.{IsJobOfLoad}
use Rattle.nvm_generate.proofs.Jobs.{cids_more, paired}
use Rattle.nvm_generate.proofs.loads.jobs_of_load.Goals as goal

pub loop-before-preserved : goal.loop-before-preserved
loop-before-preserved c =
    let IsOne = IsJobOfLoad c.args.load.now c.args.host in
    let jobs = c.loop-before.jobs.items in
    let job = c.in_ok-job.job in
    let pushed : c.push.new.self.items ≡ jobs ++ job ∷ [] = c.in_ok-push.ensures.items in
    let one : All IsOne (job ∷ []) = All-cons IsOne job [] c.in_ok-job.ensures.job (All-nil IsOne) in
    record {
      jobs = subst (All IsOne) (sym pushed) (All-append IsOne jobs (job ∷ []) c.loop-before.invariant.jobs one);
      cids =
          ap (λ l. map (λ c. c.cid) (flat_map commands_of l)) pushed
          ∙ cids_more jobs job c.loop-before.before c.loop-before.invariant.cids c.in_ok-job.ensures.cids
          ∙ ap (λ n. range_with_len 1 (c.loop-before.before + n)) (sym c.count_of-before.ensures);
      few = omega (arith, c.in_ok-job.ensures.few, c.count_of-before.ensures);
      sound = c.in_ok-job.ensures.sound;
    }

pub returns : goal.returns
returns c =
    let all : c.loop-before.before ≡ c.args.load.now.commands = omega (arith, c.loop-before.invariant.few, c.loop-before-test.false) in
    record {
      jobs = c.loop-before.invariant.jobs;
      cids = c.loop-before.invariant.cids ∙ ap (range_with_len 1) all;
      paired = paired c.ready_jobs.ensures.ready c.args.load.now c.args.host c.loop-before.jobs.items c.loop-before.invariant.jobs;
    }
