use Rattle.std.proofs.Common.{◌≡◌, length, sym, subst, arith, rules}
use Rattle.nvm_record.specs.Lists.{IsAt}
use Rattle.nvm_file.specs.Upgrade.{HasUnknown}
use Rattle.nvm_file.proofs.Places.{at_place}
use Rattle.nvm_file.proofs.Unknowns.{known_on, all_known}
use Rattle.nvm_file.proofs.upgrading.first_unknown.Goals as goal

pub returns-then-has_unknown-clause-found : goal.returns-then-has_unknown-clause-found
returns-then-has_unknown-clause-found c =
    let jobs = c.args.jobs.now in
    let number = c.loop-number.number in
    let job = c.index-jobs-number in
    record {
      job = job.result;
      there = subst (λ j. IsAt jobs number j) (sym job.is) (at_place jobs number _ c.loop-number-test.true);
      unknown = subst (λ j. HasUnknown j.body) (sym job.is) (c.has_unknown.ensures.0 c.if-has_unknown.true);
      first = c.loop-number.invariant;
    }

pub loop-number-preserved : goal.loop-number-preserved
loop-number-preserved c =
    let job = c.index-jobs-number in
    let none : ¬ (HasUnknown job.result.body) = search rules in
    known_on c.args.jobs.now c.loop-number.number _ c.loop-number.invariant (subst (λ j. ¬ (HasUnknown j.body)) job.is none)

pub returns-clause-none : goal.returns-clause-none
returns-clause-none c =
    let jobs = c.args.jobs.now in
    let end : length jobs ≡ c.loop-number.number = omega (arith, c.loop-number.auto.number-end, c.loop-number-test.false) in
    all_known jobs c.loop-number.number end c.loop-number.invariant
