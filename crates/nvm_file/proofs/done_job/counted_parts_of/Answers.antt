use Rattle.std.proofs.Common.{◌≡◌, ◌⊎◌, inl, inr, ℕ, List, [], ◌∷◌, Result, Ok, Err, refl, sym, ap, subst, ◌∙◌, arith}
use Rattle.nvm_plan.specs.declared.part.Part.{Part}
use Rattle.nvm_file.specs.declared.record_fault.RecordFault.{RecordFault}
use Rattle.nvm_file.specs.declared.record_fault.RecordFault.TheVariants.{NoMemory}
use Rattle.nvm_file.specs.DoneReading.{part_at}
use Rattle.nvm_file.specs.Fields.{items_at}
use Rattle.nvm_file.specs.Inside.Rest.{left_of}
use Rattle.nvm_file.proofs.done_job.counted_parts_of.Goals as goal

one_fault : (read : ℕ → List ℕ → Result (Part × List ℕ) RecordFault) (bytes : List ℕ) (e : RecordFault)
    → (read 0 bytes ≡ Err e) ⊎ (e ≡ NoMemory) → (items_at read 0 1 bytes ≡ Err e) ⊎ (e ≡ NoMemory)
unfolding items_at
one_fault read bytes e (inl is) = inl (rw is refl)
one_fault read bytes e (inr none) = inr none

one_found : (read : ℕ → List ℕ → Result (Part × List ℕ) RecordFault) (bytes rest : List ℕ) (part : Part)
    → read 0 bytes ≡ Ok (part, rest) → items_at read 0 1 bytes ≡ Ok (part ∷ [], rest)
unfolding items_at
one_found read bytes rest part is = rw is refl

pub returns-in-Err : goal.returns-in-Err
returns-in-Err c =
    let one : c.args.count ≡ 1 = omega arith in
    subst (λ (n : ℕ). (items_at (λ _. part_at c.args.frame.now) 0 n (left_of c.args.from) ≡ Err c.in-Err.fault) ⊎ (c.in-Err.fault ≡ NoMemory)) (sym one)
    (one_fault (λ _. part_at c.args.frame.now) (left_of c.args.from) c.in-Err.fault c.in-Err.ensures)

pub returns-in-Ok : goal.returns-in-Ok
returns-in-Ok c =
    let one : c.args.count ≡ 1 = omega arith in
    subst (λ (n : ℕ). items_at (λ _. part_at c.args.frame.now) 0 n (left_of c.args.from) ≡ Ok (c.from_buf.result.items, left_of c.in-Ok.rest)) (sym one)
    (one_found (λ _. part_at c.args.frame.now) (left_of c.args.from) (left_of c.in-Ok.rest) c.in-Ok.part c.in-Ok.ensures
    ∙ ap (λ (parts : List Part). Ok (parts, left_of c.in-Ok.rest))
    (sym c.from_buf.ensures.items))
