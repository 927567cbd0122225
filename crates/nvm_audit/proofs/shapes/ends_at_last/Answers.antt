use Rattle.std.proofs.Common.{◌-◌, length, not, sym, ap, ◌∙◌, arith}
use mathlib.Core.Bool.{true≢false}
use Rattle.nvm_audit.proofs.Endings.{ends, front_goes_on, last_shows, none_yielded}
use Rattle.nvm_audit.proofs.shapes.ends_at_last.Goals as goal

pub returns-then-not-are_first : goal.returns-then-not-are_first
returns-then-not-are_first c = λ op is.
    let units = c.parts_of_jobs.ensures.units c.args.geometry.now c.args.job.now op c.requires.ready is in (
      λ e. absurd (true≢false (sym e)),
      λ e.
          let yes = (c.are_first.ensures.left e.left (e.units ∙ sym (c.ready_job_units-units.ensures ∙ units))).0 in
          absurd (true≢false (sym yes ∙ c.if-not-are_first.true)),
    )

pub returns-then-not-results_fit : goal.returns-then-not-results_fit
returns-then-not-results_fit c = λ op is. (
  λ e. absurd (true≢false (sym e)),
  λ e.
      let yes = (c.results_fit.ensures op.deed (c.of-kind.ensures c.args.geometry.now op is)).1 e.results in
      absurd (true≢false (sym yes ∙ c.if-not-results_fit.true)),
)

pub returns-then-not-all_go_on : goal.returns-then-not-all_go_on
returns-then-not-all_go_on c = λ op is. (
  λ e. absurd (true≢false (sym e)),
  λ e.
      let long = c.requires.some in
      let yes = c.all_go_on.ensures.1 (front_goes_on c.args.geometry.now op c.args.parts.now c.args.told (length c.args.parts.now - 1) e.last (omega (arith, long)) e) in
      absurd (true≢false (sym yes ∙ c.if-not-all_go_on.true)),
)

pub returns-then-not-may_show : goal.returns-then-not-may_show
returns-then-not-may_show c = λ op is. (
  λ e. absurd (true≢false (sym e)),
  λ e.
      let long = c.requires.some in
      let yes = (c.may_show.ensures op.deed (c.of-kind.ensures c.args.geometry.now op is)).1
      (last_shows c.args.geometry.now op c.args.parts.now c.args.told (length c.args.parts.now - 1) _ (omega (arith, long)) e) in
      absurd (true≢false (sym yes ∙ c.if-not-may_show.true)),
)

pub returns-then-not-is_success : goal.returns-then-not-is_success
returns-then-not-is_success c = λ op is.
    let long = c.requires.some in
    let kind = c.of-kind.ensures c.args.geometry.now op is in
    let units = c.parts_of_jobs.ensures.units c.args.geometry.now c.args.job.now op c.requires.ready is in (
      λ e.
          ends c.args.geometry.now op c.args.parts.now c.args.told (length c.args.parts.now - 1) _ (omega (arith, long))
          c.are_first.new.units (c.are_first.ensures.first c.if-not-are_first.false ∙ c.ready_job_units-units.ensures ∙ units)
          ((c.results_fit.ensures op.deed kind).0 c.if-not-results_fit.false)
          (c.all_go_on.ensures.0 c.if-not-all_go_on.false)
          ((c.may_show.ensures op.deed kind).0 c.if-not-may_show.false)
          (λ success. absurd (true≢false (sym (c.is_success.ensures.1 success) ∙ c.if-not-is_success.true))),
      λ e. ap not c.if-not-is_success.true,
    )

pub returns-else-not-is_success : goal.returns-else-not-is_success
returns-else-not-is_success c = λ op is.
    let long = c.requires.some in
    let kind = c.of-kind.ensures c.args.geometry.now op is in
    let units = c.parts_of_jobs.ensures.units c.args.geometry.now c.args.job.now op c.requires.ready is in (
      λ e.
          ends c.args.geometry.now op c.args.parts.now c.args.told (length c.args.parts.now - 1) _ (omega (arith, long))
          c.are_first.new.units (c.are_first.ensures.first c.if-not-are_first.false ∙ c.ready_job_units-units.ensures ∙ units)
          ((c.results_fit.ensures op.deed kind).0 c.if-not-results_fit.false)
          (c.all_go_on.ensures.0 c.if-not-all_go_on.false)
          ((c.may_show.ensures op.deed kind).0 c.if-not-may_show.false)
          (λ success. (none_yielded _ _ _ c.next.ensures.steps c.is_none.result c.is_none.ensures).0 e),
      λ e.
          let left = (c.are_first.ensures.left e.left (e.units ∙ sym (c.ready_job_units-units.ensures ∙ units))).1 in
          let whole = e.whole (c.is_success.ensures.0 c.if-not-is_success.false) in
          (none_yielded _ _ _ c.next.ensures.steps c.is_none.result c.is_none.ensures).1 (sym left ∙ whole),
    )
