use Rattle.std.proofs.Common.{◌++◌, ◌∷◌, [], ℕ, List, map, subst, arith}
use Rattle.std.proofs.lemmas.Result.{err_from_is_err_and}
use Rattle.nvm_plan.specs.JobPart.{job_units}
use Rattle.nvm_trace.specs.Inside.Matching.{AreMatched}
use Rattle.nvm_trace.specs.Pieces.{Piece, piece}
use Rattle.nvm_trace.proofs.UnitPieces.{in_units, split_more, unit_there, pieces_more, unit_fault, part_there}
use Rattle.nvm_trace.proofs.matching.match_units.Goals as goal

pub put_owner-requires-clause-part : goal.put_owner-requires-clause-part
put_owner-requires-clause-part c =
    let ns = c.args.geometry.now in
    let job = c.args.traced.now.job in
    let all : List ℕ = job_units ns job in
    let before = c.loop-unit.invariant.before in
    part_there ns job
    (record {
      ready = c.ready_jobs.ensures.ready ns job c.requires.ready;
      inside = λ unit has. c.parts_of_jobs.ensures.inside ns job unit has;
      units = λ op is. c.parts_of_jobs.ensures.units ns job op c.requires.ready is;
      met = λ op unit kind lies has. (c.whole_ranges_are_reached.ensures.met ns op unit kind lies).0 has;
      place = λ unit known. c.each_unit_has_one_place.ensures.place ns unit c.nsze-blocks.ensures.valid.some known;
    }) c.in-Some.unit
    (unit_there before.0 c.in-Some.unit c.next.new.self c.loop-unit.unit-iterator all c.in-Some.ensures.steps before.1)

pub loop-unit-preserved : goal.loop-unit-preserved
loop-unit-preserved c =
    let ns = c.args.geometry.now in
    let jobs = c.args.jobs.now.items in
    let traced = c.args.traced.now in
    let all : List ℕ = job_units ns traced.job in
    let before = c.loop-unit.invariant.before in
    let done : List ℕ = before.0 in
    let unit : ℕ = c.in-Some.unit in
    let after : List ℕ = c.next.new.self in
    let rest : List ℕ = c.loop-unit.unit-iterator in
    record {
      within =
          let low = c.in_ok-put_owner.ensures.next.0 in
          let long = c.in_ok-put_owner.ensures.next.1 in
          omega (arith, low, long);
      before = (
        done ++ unit ∷ [],
        split_more done unit after rest all c.in-Some.ensures.steps before.1,
        (λ ps matched.
            subst (λ (qs : List Piece). AreMatched ns qs jobs (map (λ o. piece o.whole.now o.cut) c.put_owner.new.owners.items))
            (pieces_more done unit after rest all c.in-Some.ensures.steps before.1 ps traced)
            (c.in_ok-put_owner.ensures.matched (ps ++ in_units traced done) (before.2 ps matched))),
      );
    }

pub returns-in_err-put_owner-clause-matched : goal.returns-in_err-put_owner-clause-matched
returns-in_err-put_owner-clause-matched c = λ ps matched.
    let ns = c.args.geometry.now in
    let jobs = c.args.jobs.now.items in
    let traced = c.args.traced.now in
    let all : List ℕ = job_units ns traced.job in
    let before = c.loop-unit.invariant.before in
    let done : List ℕ = before.0 in
    let p = err_from_is_err_and c.from_residual.result c.from_residual.ensures.1 in
    rw (p.1, p.2)
    (unit_fault done c.in-Some.unit c.next.new.self c.loop-unit.unit-iterator all c.in-Some.ensures.steps before.1 ns ps traced jobs
    c.in_err-put_owner.field-0.0 (c.in_err-put_owner.ensures.matched (ps ++ in_units traced done) (before.2 ps matched)))
