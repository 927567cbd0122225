use Rattle.std.proofs.Common.{ℕ, [], ◌∷◌, length, refl, subst, inl, inr, below_more, arith}
use Rattle.std.specs.List.{AllByRecursion}
use Rattle.nvm_audit.specs.declared.occurrences.Occurrence.{Occurrence}
use Rattle.nvm_audit.specs.Inside.Occurrences.{IsOccurrence}
use Rattle.nvm_audit.specs.LawfulRecord.{times_done}
use Rattle.nvm_audit.specs.RecordChecks.{job_done, job_once, Passes}
use Rattle.nvm_audit.proofs.Counting.{read_occurrence}
use Rattle.nvm_audit.proofs.Searching.{all_lists, first_list}
use Rattle.nvm_audit.proofs.occurrences.count_fault.Goals as goal

pub loop-number-preserved : goal.loop-number-preserved
loop-number-preserved c = λ r counted.
    let number = c.loop-number.number in
    let lt = c.loop-number-test.true in
    let here = read_occurrence (length r.jobs) r.done c.args.found.now.items number c.index.result.now c.index.result.now counted
    (omega (arith, lt, c.len-number-end.ensures)) c.index.ensures in
    let once = subst (λ (o : Occurrence). IsOccurrence r.done number (times_done number r.done) o) c.in-Once.is here in
    let one = once.0 in
    below_more (λ (k : ℕ). AllByRecursion (Passes r) (job_done k ∷ job_once k ∷ [])) number (c.loop-number.invariant r counted)
    (omega (arith, one), (omega (arith, one), tt))

pub returns-in-Never : goal.returns-in-Never
returns-in-Never c = λ r counted.
    let number = c.loop-number.number in
    let lt = c.loop-number-test.true in
    let here = read_occurrence (length r.jobs) r.done c.args.found.now.items number c.index.result.now c.index.result.now counted
    (omega (arith, lt, c.len-number-end.ensures)) c.index.ensures in
    let none = subst (λ (o : Occurrence). IsOccurrence r.done number (times_done number r.done) o) c.in-Never.is here in
    record {
      check = job_done number;
      first =
          first_list (Passes r) (λ k. job_done k ∷ job_once k ∷ []) 0 (length r.jobs) number (job_done number) (omega arith)
          (omega (arith, lt, c.len-number-end.ensures, counted.long)) (c.loop-number.invariant r counted)
          (inl (refl, λ some. omega (arith, some, none)));
      is = refl;
    }

pub returns-in-Often : goal.returns-in-Often
returns-in-Often c = λ r counted.
    let number = c.loop-number.number in
    let lt = c.loop-number-test.true in
    let here = read_occurrence (length r.jobs) r.done c.args.found.now.items number c.index.result.now c.index.result.now counted
    (omega (arith, lt, c.len-number-end.ensures)) c.index.ensures in
    let more = subst (λ (o : Occurrence). IsOccurrence r.done number (times_done number r.done) o) c.in-Often.is here in
    record {
      check = job_once number;
      first =
          first_list (Passes r) (λ k. job_done k ∷ job_once k ∷ []) 0 (length r.jobs) number (job_once number) (omega arith)
          (omega (arith, lt, c.len-number-end.ensures, counted.long)) (c.loop-number.invariant r counted)
          (inr (omega (arith, more), inl (refl, λ most. omega (arith, most, more))));
      is = refl;
    }

pub returns : goal.returns
returns c = λ r counted.
    let le = c.loop-number-test.false in
    all_lists (Passes r) (λ k. job_done k ∷ job_once k ∷ []) 0 (length r.jobs)
    (λ k lt. c.loop-number.invariant r counted k (omega (arith, lt, le, c.len-number-end.ensures, counted.long)))
