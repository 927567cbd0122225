use Rattle.std.proofs.Common.{length, refl, sym, ap, ◌∙◌, below_more, arith}
use mathlib.Core.Bool.{true≢false}
use Rattle.nvm_audit.specs.RecordChecks.{shape_right, HaveShapesOf, Passes}
use Rattle.nvm_audit.specs.RecordView.{RecordView}
use Rattle.nvm_audit.proofs.OneDone.{shape_read}
use Rattle.nvm_audit.proofs.Searching.{all_numbers, first_number}
use Rattle.nvm_audit.proofs.shapes.shape_fault.Goals as goal

pub loop-number-preserved : goal.loop-number-preserved
loop-number-preserved c =
    let tells = shape_read c.args.r.now _ c.r.view_is c.args.found.now.items c.loop-number.number c.index.result.now c.index.result.now
    c.index-in-loop-number.result.now c.index-in-loop-number.result.now c.has_shape_once.result c.requires.counted c.requires.once
    (omega (arith, c.loop-number-test.true, c.len-number-end.ensures)) c.index.ensures c.index-in-loop-number.ensures c.has_shape_once.ensures in
    below_more (HaveShapesOf c.args.r.now) c.loop-number.number c.loop-number.invariant (tells.0 c.if-not-has_shape_once.false)

pub returns-then-not-has_shape_once : goal.returns-then-not-has_shape_once
returns-then-not-has_shape_once c =
    let tells = shape_read c.args.r.now _ c.r.view_is c.args.found.now.items c.loop-number.number c.index.result.now c.index.result.now
    c.index-in-loop-number.result.now c.index-in-loop-number.result.now c.has_shape_once.result c.requires.counted c.requires.once
    (omega (arith, c.loop-number-test.true, c.len-number-end.ensures)) c.index.ensures c.index-in-loop-number.ensures c.has_shape_once.ensures in
    let jobs = ap (λ (x : RecordView). length x.jobs) c.r.view_is in
    record {
      check = shape_right c.loop-number.number;
      first =
          first_number (Passes c.args.r.now) shape_right 0 (length c.args.r.now.jobs) c.loop-number.number (omega arith)
          (omega (arith, c.loop-number-test.true, c.len-number-end.ensures, jobs)) c.loop-number.invariant
          (λ all. true≢false (sym (tells.1 all) ∙ c.if-not-has_shape_once.true));
      is = refl;
    }

pub returns : goal.returns
returns c =
    let jobs = ap (λ (x : RecordView). length x.jobs) c.r.view_is in
    all_numbers (Passes c.args.r.now) shape_right 0 (length c.args.r.now.jobs)
    (λ k lt. c.loop-number.invariant k (omega (arith, lt, c.loop-number-test.false, c.len-number-end.ensures, jobs)))
