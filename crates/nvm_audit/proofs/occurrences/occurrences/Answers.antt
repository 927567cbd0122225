use Rattle.std.proofs.Common.{ℕ, List, length, map, take, subst, refl, ◌∙◌, ap, arith}
use Rattle.std.proofs.lemmas.List.{length-map, take_all}
use Rattle.nvm_audit.specs.declared.occurrences.Occurrence.TheVariants.{Never}
use Rattle.nvm_audit.specs.Inside.Occurrences.{IsCounted}
use Rattle.nvm_audit.specs.LawfulRecord.{times_done}
use Rattle.nvm_audit.specs.RecordedJob.{RecordedJob}
use Rattle.nvm_audit.proofs.Counting.{item_in_map, one_more_worker, resized}
use Rattle.nvm_audit.proofs.occurrences.occurrences.Goals as goal

pub loop-work-init : goal.loop-work-init
loop-work-init c =
    let fresh = resized c.args.jobs c.resize.new.self.items c.in_ok-found.found.items Never _ c.in_ok-resize.ensures.items c.in_ok-found.ensures.items
    c.in_ok-found.ensures.len in
    record {
      long = fresh.0;
      each = λ number lt. record { occurrence = Never; its = fresh.1 number lt; is = refl };
    }

pub count_work-requires : goal.count_work-requires
count_work-requires c = λ place d there.
    let by = item_in_map (λ work. work.items) c.deref-work-items.result.now c.args.done.now.items c.loop-work.work-index c.work-item.result
    c.deref-work-items.ensures.value c.loop-work-test.true c.work-item.is in
    let low = c.requires.numbers c.loop-work.work-index c.work-item.result.items place d by there in
    omega (arith, low, c.loop-work.invariant.long)

pub loop-work-preserved : goal.loop-work-preserved
loop-work-preserved c =
    let all : List (List RecordedJob) = map (λ work. work.items) c.args.done.now.items in
    let i = c.loop-work.work-index in
    let by = item_in_map (λ work. work.items) c.deref-work-items.result.now c.args.done.now.items i c.work-item.result
    c.deref-work-items.ensures.value c.loop-work-test.true c.work-item.is in
    record {
      long = c.count_work.ensures.long ∙ c.loop-work.invariant.long;
      each =
          λ number lt.
          subst (λ (n : ℕ). IsCounted all c.count_work.new.found.items number n) (one_more_worker all i c.work-item.result.items number by)
          (c.count_work.ensures.counted all i number (times_done number (take i all)) by (c.loop-work.invariant.each number lt));
    }

pub returns : goal.returns
returns c =
    let all : List (List RecordedJob) = map (λ work. work.items) c.args.done.now.items in
    let i = c.loop-work.work-index in
    let same = length-map c.args.done.now.items (λ work. work.items) in
    let lent = ap length c.deref-work-items.ensures.value in
    let le = c.loop-work-test.false in
    record {
      long = c.loop-work.invariant.long;
      each =
          λ number lt.
          subst (λ (xs : List (List RecordedJob)). IsCounted all c.loop-work.found.items number (times_done number xs))
          (take_all i all (omega (arith, same, lent, le))) (c.loop-work.invariant.each number lt);
    }
