-- With what workers begin, and with what they come back.
use Rattle.std.proofs.Common.{◌≡◌, ℕ, zero, suc, ◌+◌, ◌<◌, List, [], ◌∷◌, length, map, replicate, get_or, refl, sym, ap, ◌∙◌, subst, arith, Result, Ok, IfOk}
use Rattle.std.specs.List.{zip, range_with_len}
use Rattle.std.proofs.lemmas.List.{length-map, length-replicate}
use mathlib.Core.Option.{some-ne-none}
use Rattle.atomic_table.specs.Seated.{TableId}
use Rattle.nvm_record.specs.Lists.{IsAt}
use Rattle.nvm_plan.specs.declared.job.Job.{Job}
use Rattle.nvm_space.specs.Ports.{PortState, AreAllPortsOf, new_port, new_ports}
use Rattle.nvm_space.specs.Spaces.{SpaceName}
use Rattle.nvm_engine.specs.Counters.{CounterName, ClaimView, new_claim}
use Rattle.nvm_engine.specs.declared.worker.Worker.{Worker}
use Rattle.nvm_engine.specs.Inside.Working.{AllHaveWorked, HasWorked}
use Rattle.nvm_engine.proofs.Places.{at_index, at_below, at_read, at_one, at_map, at_map_back, at_zip, length_zip, at_replicate}

-- Each worker begins with a claim that has drawn nothing, and the port of its number.
pub given_at : (s : SpaceName) (table : TableId) (claims : List ClaimView) (ports : List PortState) (pairs : List (ClaimView × PortState)) (i : ℕ) (pair : ClaimView × PortState)
    → claims ≡ replicate s.ports (new_claim table) → pairs ≡ zip claims ports → i < length pairs → pair ≡ get_or pairs i pair
    → (pair.0 ≡ new_claim table) × IsAt ports i pair.1
given_at s table claims ports pairs i pair new are below read =
    let at = at_zip claims ports i pair (subst (λ (ps : List (ClaimView × PortState)). IsAt ps i pair) are (at_index pairs i pair below read)) in
    (at_replicate s.ports (new_claim table) pair.0 i (subst (λ (cs : List ClaimView). IsAt cs i pair.0) new at.0), at.1)

pub given_count : (s : SpaceName) (table : TableId) (claims : List ClaimView) (ports : List PortState) (pairs : List (ClaimView × PortState))
    → claims ≡ replicate s.ports (new_claim table) → AreAllPortsOf s ports → pairs ≡ zip claims ports → length pairs ≡ s.ports
given_count s table claims ports pairs new all are =
    let count : length claims ≡ s.ports = ap length new ∙ length-replicate s.ports (new_claim table) in
    ap length are ∙ length_zip claims ports (count ∙ sym all.count) ∙ all.count

at_range : (low n w x : ℕ) → IsAt (range_with_len low n) w x → x ≡ low + w
at_range low zero w x e = absurd (some-ne-none x (sym e))
at_range low (suc n) zero x e = let h : low ≡ x = at_one (low ∷ []) 0 low x refl e in omega (arith, h)
at_range low (suc n) (suc w) x e = let h : x ≡ low + 1 + w = at_range (low + 1) n w x e in omega (arith, h)

-- The port at a place is the new one of that number.
pub new_port_at : (s : SpaceName) (ports : List PortState) (w : ℕ) (port : PortState) → ports ≡ new_ports s → IsAt ports w port → port ≡ new_port s.units w
new_port_at s ports w port are at =
    let number = at_map_back (new_port s.units) (range_with_len 0 s.ports) w port (subst (λ (ps : List PortState). IsAt ps w port) are at) in
    number.2 ∙ ap (new_port s.units) (at_range 0 s.ports w number.0 number.1 ∙ (let e : 0 + w ≡ w = omega arith in e))

-- Where each call ended with success, and what it gave has worked by its port, all have worked.
pub all_have_worked : {F : Type 0} (counter : CounterName) (s : SpaceName) (jobs : List Job) (table : TableId) (claims : List ClaimView) (ports : List PortState)
    (pairs : List (ClaimView × PortState)) (results : List (Result Worker F)) (workers : List Worker)
    → claims ≡ replicate s.ports (new_claim table) → ports ≡ new_ports s → AreAllPortsOf s ports → pairs ≡ zip claims ports
    → length results ≡ length pairs → results ≡ map Ok workers
    → ((i : ℕ) (d : Result Worker F) → i < length pairs → (pair : ClaimView × PortState) × (pair ≡ get_or pairs i pair) × IfOk (get_or results i d) (HasWorked counter s jobs pair.1))
    → AllHaveWorked counter s jobs workers
all_have_worked {F} counter s jobs table claims ports pairs results workers new are all zipped same ended each =
    let count : length pairs ≡ s.ports = given_count s table claims ports pairs new all zipped in
    let counts : length workers ≡ s.ports = sym (length-map workers Ok) ∙ sym (ap length ended) ∙ same ∙ count in
    record {
      count = counts;
      each = λ w worker at.
          let below : w < length workers = at_below workers w worker at in
          let in_pairs : w < length pairs = omega (arith, count, counts) in
          let result : IsAt results w (Ok worker) = subst (λ (rs : List (Result Worker F)). IsAt rs w (Ok worker)) (sym ended) (at_map Ok workers w worker at) in
          let call = each w (Ok worker) in_pairs in
          let read : get_or results w (Ok worker) ≡ Ok worker = at_read results w (Ok worker) (Ok worker) result in
          let worked : HasWorked counter s jobs call.0.1 worker = subst (λ (r : Result Worker F). IfOk r (HasWorked counter s jobs call.0.1)) read call.2 in
          let port = new_port_at s ports w call.0.1 are (given_at s table claims ports pairs w call.0 new zipped in_pairs call.1).1 in
          subst (λ (p : PortState). HasWorked counter s jobs p worker) port worked;
    }
