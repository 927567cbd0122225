-- The parts that name a unit, worker by worker.
use Rattle.std.proofs.Common.{◌≡◌, ℕ, ◌+◌, ◌<◌, List, ◌∷◌, ◌++◌, length, drop, map, get_or, nat_eq, sym, ap, subst, ◌∙◌, append_assoc}
use Rattle.std.proofs.lemmas.List.{drop_more, get_or-map, length-map}
use Rattle.std.proofs.lemmas.List.Elements.{filter-append}
use Rattle.nvm_audit.specs.Inside.Gathered.{naming}
use Rattle.nvm_audit.specs.RecordedJob.{RecordedJob}
use Rattle.nvm_audit.specs.RecordedPart.{RecordedPart, parts_of_work, parts_of_workers}

pub drop_map : {X Y : Type 0} (f : X → Y) (xs : List X) (i : ℕ) (x : X) → i < length xs → x ≡ get_or xs i x
    → drop i (map f xs) ≡ f x ∷ drop (i + 1) (map f xs)
drop_map f xs i x low read =
    drop_more (map f xs) i (f x) (subst (λ (n : ℕ). i < n) (sym (length-map xs f)) low)
    ∙ ap (λ (y : _). y ∷ drop (i + 1) (map f xs)) (get_or-map f xs i x (f x) low ∙ ap f (sym read))

-- The parts of one worker more are there.
pub one_worker_more : (unit worker : ℕ) (work : List RecordedJob) (left rest : List (List RecordedJob)) (old new all : List RecordedPart)
    → left ≡ work ∷ rest → old ++ naming unit (parts_of_workers worker left) ≡ all → new ≡ old ++ naming unit (parts_of_work worker work)
    → new ++ naming unit (parts_of_workers (worker + 1) rest) ≡ all
one_worker_more unit worker work left rest old new all first before more =
    let test = λ (p : RecordedPart). nat_eq p.part.unit unit in
    let split = filter-append test (parts_of_work worker work) (parts_of_workers (worker + 1) rest) in
    ap (λ (ps : List RecordedPart). ps ++ naming unit (parts_of_workers (worker + 1) rest)) more
    ∙ append_assoc old (naming unit (parts_of_work worker work)) (naming unit (parts_of_workers (worker + 1) rest))
    ∙ ap (λ (ps : List RecordedPart). old ++ ps) (sym split)
    ∙ ap (λ (l : List (List RecordedJob)). old ++ naming unit (parts_of_workers worker l)) (sym first)
    ∙ before
