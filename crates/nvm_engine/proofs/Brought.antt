-- What workers bring back, each kind in a list of its own.
use Rattle.std.proofs.Common.{◌≡◌, List, [], ◌∷◌, ◌++◌, map, Result, Ok, refl, sym, ap, ◌∙◌, append_assoc}
use Rattle.nvm_space.specs.Ports.{PortState}
use Rattle.nvm_audit.specs.RecordedJob.{RecordedJob}
use Rattle.nvm_engine.specs.Counters.{ClaimView}
use Rattle.nvm_engine.specs.declared.worker.Worker.{Worker}
use Rattle.nvm_engine.specs.Inside.Working.{AreTheirs}

pub map_more : {A B : Type 0} (f : A → B) (xs : List A) (x : A) → map f (xs ++ x ∷ []) ≡ map f xs ++ f x ∷ []
map_more f [] x = refl
map_more {B = B} f (y ∷ ys) x = ap (λ (zs : List B). f y ∷ zs) (map_more f ys x)

pub theirs_more : {V : Type 0} (items : V → List RecordedJob) (workers : List Worker) (worker : Worker) (claims claims' : List ClaimView) (ports ports' : List PortState)
    (done done' : List V) (v : V) → items v ≡ worker.done.items
    → claims' ≡ claims ++ worker.claim ∷ [] → ports' ≡ ports ++ worker.port ∷ [] → done' ≡ done ++ v ∷ []
    → AreTheirs workers claims ports (map items done) → AreTheirs (workers ++ worker ∷ []) claims' ports' (map items done')
theirs_more items workers worker claims claims' ports ports' done done' v its more_claims more_ports more_done theirs = record {
  claims = more_claims ∙ ap (λ (cs : List ClaimView). cs ++ worker.claim ∷ []) theirs.claims ∙ sym (map_more (λ w. w.claim) workers worker);
  ports = more_ports ∙ ap (λ (ps : List PortState). ps ++ worker.port ∷ []) theirs.ports ∙ sym (map_more (λ w. w.port) workers worker);
  done = ap (map items) more_done ∙ map_more items done v ∙ ap (λ (ds : List (List RecordedJob)). ds ++ items v ∷ []) theirs.done
      ∙ ap (λ (work : List RecordedJob). map (λ w. w.done.items) workers ++ work ∷ []) its ∙ sym (map_more (λ w. w.done.items) workers worker);
}

pub results_more : {F : Type 0} (all rest rest' : List (Result Worker F)) (r : Result Worker F) (workers : List Worker) (worker : Worker)
    → all ≡ map Ok workers ++ rest → rest ≡ r ∷ rest' → r ≡ Ok worker → all ≡ map Ok (workers ++ worker ∷ []) ++ rest'
results_more {F} all rest rest' r workers worker is next ok =
    is ∙ ap (λ (rs : List (Result Worker F)). map Ok workers ++ rs) (next ∙ ap (λ (x : Result Worker F). x ∷ rest') ok)
    ∙ sym (append_assoc (map Ok workers) (Ok worker ∷ []) rest') ∙ ap (λ (rs : List (Result Worker F)). rs ++ rest') (sym (map_more Ok workers worker))
