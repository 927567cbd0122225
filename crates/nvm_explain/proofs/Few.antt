-- What a record's bounds say of what its workers did and of its entries.
use Rattle.std.proofs.Common.{◌<◌, ◌≤◌, List, arith, get_or, length, map, subst, sym}
use Rattle.std.proofs.lemmas.List.{get_or-map, get_or_default, length-map}
use Rattle.std.specs.List.{All}
use Rattle.nvm_audit.specs.declared.record.Record.TheInside.{Inside}
use Rattle.nvm_audit.specs.Recordable.{IsRecordableWork, most_jobs, most_workers}
use Rattle.nvm_audit.specs.Shown.{IsRecordableAs, shown_by}
use Rattle.nvm_explain.proofs.Covering.{stands_shown}

-- what holds of each that is shown
all_shown : {A B : Type 0} (f : A → B) (P : B → Type 0) (xs : List A) → All P (map f xs) → All (λ x. P (f x)) xs
all_shown f P xs all = λ k d low.
    subst P (get_or-map f xs k d (f d) low) (all k (f d) (subst (λ n. k < n) (sym (length-map xs f)) low))

-- There are few workers.
pub few_workers : (r : Inside) → IsRecordableAs r → length r.done.items ≤ most_workers
few_workers r held = omega (arith, held.all_workers, held.few_workers, length-map r.done.items (λ work. work.items))

-- Each did few jobs.
pub few_jobs : (r : Inside) → IsRecordableAs r → All (λ work. length work.items ≤ most_jobs) r.done.items
few_jobs r held = λ k d low. (all_shown (λ work. work.items) (IsRecordableWork (shown_by r)) r.done.items held.done k d low).few

-- The worker of each entry is one of a few.
pub known_workers : (r : Inside) → IsRecordableAs r
    → All (λ history. All (λ entry. entry.pass < most_workers) history.items) r.units.items
known_workers r held = λ k d low.
    let history = get_or r.units.items k d in
    let at = stands_shown (λ h. h.items) r.units.items k history low (get_or_default r.units.items k d history low) in
    let recorded = held.units k history.items at in
    λ j e under. omega (arith, (recorded.each j e under).pass, held.few_workers)
