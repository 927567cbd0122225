use Rattle.std.proofs.Common.{◌≡◌, ◌<◌, length, sym, subst, ◌∙◌, arith, below_more}
use Rattle.std.proofs.lemmas.Bool.{false≢true}
use Rattle.nvm_plan.specs.declared.job.Job.{Job}
use Rattle.nvm_trace.specs.declared.start.Start.TheVariants.{Unknown}
use Rattle.nvm_trace.specs.ExplainedBy.{IsOneBlockWrite}
use Rattle.nvm_trace.specs.Inside.Matching.{IsPreparedAt}
use Rattle.nvm_trace.proofs.Places.{below, one_there, stands_read}
use Rattle.nvm_trace.proofs.matching.first_unprepared.Goals as goal

pub loop-number-init : goal.loop-number-init
loop-number-init c = λ k low job high at. absurd (omega (arith, low, high))

pub returns-then-not-is_preparation : goal.returns-then-not-is_preparation
returns-then-not-is_preparation c = record {
  before = c.loop-number.invariant;
  fails = λ prepared.
      let jobs = c.args.jobs.now.items in
      let number = c.loop-number.number in
      let low : number < length jobs = omega (arith, c.loop-number-test.true, c.len-number-end.ensures) in
      let there = stands_read jobs number c.index.result.now low c.index.ensures in
      false≢true (sym c.if-not-is_preparation.true ∙ c.is_preparation.ensures.1 (prepared c.index.result.now c.loop-number.auto.number there));
}

pub loop-number-preserved : goal.loop-number-preserved
loop-number-preserved c =
    let jobs = c.args.jobs.now.items in
    let number = c.loop-number.number in
    let low : number < length jobs = omega (arith, c.loop-number-test.true, c.len-number-end.ensures) in
    let there = stands_read jobs number c.index.result.now low c.index.ensures in
    below_more (IsPreparedAt c.args.start c.args.first jobs) number c.loop-number.invariant
    (λ job high at. subst (λ (j : Job). (c.args.start ≡ Unknown) × IsOneBlockWrite j.body) (one_there jobs number c.index.result.now job there at)
    (c.is_preparation.ensures.0 c.if-not-is_preparation.false))

pub returns : goal.returns
returns c = λ number job high at.
    let low = below c.args.jobs.now.items number job at in
    c.loop-number.invariant number (omega (arith, low, c.loop-number-test.false, c.len-number-end.ensures)) job high at
