use Rattle.std.proofs.Common.{◌≡◌, ℕ, ◌+◌, ◌≤◌, List, length, take, get_or, refl, sym, ap, subst, ◌∙◌, arith}
use Rattle.std.proofs.Math.ListN.{set}
use Rattle.std.proofs.lemmas.List.{length-set, take_all}
use Rattle.std.specs.List.{count_by}
use Rattle.nvm_audit.specs.Inside.Occurrences.{IsCounted}
use Rattle.nvm_audit.specs.RecordedJob.{RecordedJob}
use Rattle.nvm_audit.proofs.Counting.{is_job, item_at, one_more_counted}
use Rattle.nvm_audit.proofs.occurrences.count_work.Goals as goal

pub index-requires : goal.index-requires
index-requires c =
    let at = item_at c.deref-done-items.result.now c.args.work.now.items c.loop-done.done-index c.done-item.result c.deref-done-items.ensures.value
    c.loop-done-test.true c.done-item.is in
    let low = c.requires c.loop-done.done-index c.done-item.result at in
    let number : c.done-item.result.job ≡ c.done.inside.job = sym (ap (λ (e : RecordedJob). e.job) c.done.view_is) in
    omega (arith, low, number, c.loop-done.invariant.long)

pub index_mut-requires : goal.index_mut-requires
index_mut-requires c =
    let at = item_at c.deref-done-items.result.now c.args.work.now.items c.loop-done.done-index c.done-item.result c.deref-done-items.ensures.value
    c.loop-done-test.true c.done-item.is in
    let low = c.requires c.loop-done.done-index c.done-item.result at in
    let number : c.done-item.result.job ≡ c.done.inside.job = sym (ap (λ (e : RecordedJob). e.job) c.done.view_is) in
    omega (arith, low, number, c.loop-done.invariant.long)

pub loop-done-init : goal.loop-done-init
loop-done-init c = record {
  long = refl;
  counted = λ all worker number times by counted. subst (λ (n : ℕ). IsCounted all c.args.found.now.items number n) (omega arith) counted;
}

pub loop-done-preserved : goal.loop-done-preserved
loop-done-preserved c =
    let d = c.done-item.result in
    let i = c.loop-done.done-index in
    let found = c.loop-done.found.items in
    let at = item_at c.deref-done-items.result.now c.args.work.now.items i d c.deref-done-items.ensures.value c.loop-done-test.true c.done-item.is in
    let low = c.requires i d at in
    let number_is : d.job ≡ c.done.inside.job = sym (ap (λ (e : RecordedJob). e.job) c.done.view_is) in
    let read : c.index.result.now ≡ get_or found d.job c.index.result.now =
    subst (λ (n : ℕ). c.index.result.now ≡ get_or found n c.index.result.now) (sym number_is) c.index.ensures in
    record {
      long = length-set found c.done.inside.job c.once_more.result ∙ c.loop-done.invariant.long;
      counted =
          λ all worker number times by counted.
          subst (λ (n : ℕ). IsCounted all (set found n c.once_more.result) number (times + count_by (is_job number) (take (i + 1) c.args.work.now.items))) number_is
          (one_more_counted all found c.args.work.now.items i d at (omega (arith, low, c.loop-done.invariant.long)) c.index.result.now c.once_more.result
          (λ so_far. c.once_more.ensures all d.job so_far
          (record { is = refl; worker = worker; work = c.args.work.now.items; place = i; by = by; there = at }))
          c.index.result.now read number times (c.loop-done.invariant.counted all worker number times by counted));
    }

pub returns : goal.returns
returns c =
    let all_of_it : take c.loop-done.done-index c.args.work.now.items ≡ c.args.work.now.items =
    take_all c.loop-done.done-index c.args.work.now.items (subst (λ (xs : List RecordedJob). length xs ≤ c.loop-done.done-index) c.deref-done-items.ensures.value c.loop-done-test.false) in
    record {
      long = c.loop-done.invariant.long;
      counted =
          λ all worker number times by counted.
          subst (λ (xs : List RecordedJob). IsCounted all c.loop-done.found.items number (times + count_by (is_job number) xs)) all_of_it
          (c.loop-done.invariant.counted all worker number times by counted);
    }
