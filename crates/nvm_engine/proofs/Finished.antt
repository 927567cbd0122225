-- The record of what all workers did.
use Rattle.std.proofs.Common.{◌≡◌, ℕ, suc, ◌+◌, ◌<◌, List, [], ◌∷◌, ◌++◌, length, length-append, map, get_or, All, AllPairs, refl, sym, ap, ◌∙◌, subst, arith, count_by, nat_eq, cond}
use Rattle.std.proofs.lemmas.List.{length-map, get_or_append_left}
use Rattle.std.proofs.lemmas.List.Sums.{sum_by-cons}
use Rattle.std.proofs.Math.ListN.{get_or-map}
use Rattle.nvm_record.specs.Lists.{IsAt}
use Rattle.nvm_geometry.specs.Faults.{IsValid}
use Rattle.nvm_geometry.specs.Namespace.{Namespace}
use Rattle.nvm_plan.specs.declared.job.Job.{Job}
use Rattle.nvm_plan.specs.Fits.{FitsNamespace}
use Rattle.nvm_store.specs.HistoryEntry.{HistoryEntry}
use Rattle.nvm_store.specs.Limit.{IsLimit}
use Rattle.nvm_unit.specs.Ends.{views_of}
use Rattle.nvm_unit.specs.Passes.{UnitName}
use Rattle.nvm_space.specs.Closing.{EndsWhole}
use Rattle.nvm_space.specs.Ports.{PortState, AreAllPortsOf, IsPortOf, new_port}
use Rattle.nvm_space.specs.Spaces.{SpaceName, IsLaidOut, IsPortCount}
use Rattle.nvm_audit.specs.LawfulRecord.{times_done}
use Rattle.nvm_audit.specs.RecordedJob.{RecordedJob}
use Rattle.nvm_engine.specs.Claims.{ClaimState, IsClaims, IsDrawn, HasEnded, HaveEnded, AreDoneOnce, times, times_in}
use Rattle.nvm_engine.specs.Counters.{CounterName, ClaimView, AreAllClaimsOf, lists_of}
use Rattle.nvm_engine.specs.declared.worker.Worker.{Worker}
use Rattle.nvm_engine.specs.DoneJobs.{HaveDone}
use Rattle.nvm_engine.specs.Inside.Gathering.{run_record, IsOfWorkers}
use Rattle.nvm_engine.specs.Inside.Working.{AllHaveWorked, AreTheirs, numbers_of}
use Rattle.nvm_engine.proofs.Places.{at_one, at_map, at_map_back, all_at, all_from_at}

-- How often a job was done is how often its number comes.
times_of_numbers : (x : ℕ) (work : List RecordedJob) → times x (numbers_of work) ≡ count_by (λ d. nat_eq d.job x) work
times_of_numbers x [] = refl
times_of_numbers x (d ∷ work) =
    let rest : times x (numbers_of work) ≡ count_by (λ e. nat_eq e.job x) work = times_of_numbers x work in
    let mine : times x (d.job ∷ numbers_of work) ≡ cond {A = ℕ} (nat_eq d.job x) 1 0 + times x (numbers_of work) =
    sum_by-cons (λ y. cond {A = ℕ} (nat_eq y x) 1 0) d.job (numbers_of work) in
    let theirs : count_by (λ (e : RecordedJob). nat_eq e.job x) (d ∷ work) ≡ cond {A = ℕ} (nat_eq d.job x) 1 0 + count_by (λ (e : RecordedJob). nat_eq e.job x) work =
    sum_by-cons (λ (e : RecordedJob). cond {A = ℕ} (nat_eq e.job x) 1 0) d work in
    mine ∙ ap (λ (n : ℕ). cond {A = ℕ} (nat_eq d.job x) 1 0 + n) rest ∙ sym theirs

times_of_all : (x : ℕ) (done : List (List RecordedJob)) → times_in x (map numbers_of done) ≡ times_done x done
times_of_all x [] = refl
times_of_all x (work ∷ done) =
    let rest : times_in x (map numbers_of done) ≡ times_done x done = times_of_all x done in
    let here : times x (numbers_of work) ≡ count_by (λ (d : RecordedJob). nat_eq d.job x) work = times_of_numbers x work in
    let mine : times_in x (numbers_of work ∷ map numbers_of done) ≡ times x (numbers_of work) + times_in x (map numbers_of done) =
    sum_by-cons (times x) (numbers_of work) (map numbers_of done) in
    let theirs : times_done x (work ∷ done) ≡ count_by (λ (d : RecordedJob). nat_eq d.job x) work + times_done x done =
    sum_by-cons (λ (w : List RecordedJob). count_by (λ (d : RecordedJob). nat_eq d.job x) w) work done in
    mine ∙ ap (λ (n : ℕ). n + times_in x (map numbers_of done)) here
    ∙ ap (λ (n : ℕ). count_by (λ (d : RecordedJob). nat_eq d.job x) work + n) rest ∙ sym theirs

-- Workers that each have ended have all ended.
have_ended : (jobs : ℕ) (workers : List Worker)
    → ((i : ℕ) (worker : Worker) → IsAt workers i worker
    → All (λ x. x < jobs) (numbers_of worker.done.items) × HasEnded jobs (numbers_of worker.done.items) worker.claim.drawn)
    → HaveEnded jobs (map numbers_of (map (λ worker. worker.done.items) workers)) (lists_of (map (λ worker. worker.claim) workers))
have_ended jobs [] each = tt
have_ended jobs (worker ∷ workers) each = (each 0 worker refl, have_ended jobs workers (λ i w at. each (suc i) w at))

-- What a worker did is in the order of its draws.
rises_so : (work : List RecordedJob) (drawn : List ℕ) (last : ℕ) → drawn ≡ numbers_of work ++ last ∷ [] → AllPairs (λ x y. x < y) drawn
    → AllPairs (λ d e. d.job < e.job) work
rises_so work drawn last is rises i j d lt below =
    let numbers = numbers_of work in
    let count : length numbers ≡ length work = length-map work (λ e. e.job) in
    let pairs : AllPairs (λ x y. x < y) (numbers ++ last ∷ []) = subst (λ (xs : List ℕ). AllPairs (λ x y. x < y) xs) is rises in
    let longer : length (numbers ++ last ∷ []) ≡ length numbers + 1 = length-append numbers (last ∷ []) in
    let here : get_or (numbers ++ last ∷ []) i d.job ≡ (get_or work i d).job =
    get_or_append_left numbers (last ∷ []) d.job i (omega arith) ∙ get_or-map (λ (e : RecordedJob). e.job) work i d in
    let there : get_or (numbers ++ last ∷ []) j d.job ≡ (get_or work j d).job =
    get_or_append_left numbers (last ∷ []) d.job j (omega arith) ∙ get_or-map (λ (e : RecordedJob). e.job) work j d in
    let less : get_or (numbers ++ last ∷ []) i d.job < get_or (numbers ++ last ∷ []) j d.job = pairs i j d.job lt (omega arith) in
    omega arith

module _ (counter : CounterName) (s : SpaceName) (jobs : List Job) (workers : List Worker) (claims : List ClaimView) (ports : List PortState) (done : List (List RecordedJob))
    (worked : AllHaveWorked counter s jobs workers) (theirs : AreTheirs workers claims ports done) where
  pub claims_are_all : counter.workers ≡ s.ports → AreAllClaimsOf counter claims
  claims_are_all same = record {
    count = ap length theirs.claims ∙ length-map workers (λ w. w.claim) ∙ worked.count ∙ sym same;
    of = all_from_at (λ (claim : ClaimView). claim.table ≡ counter.table) claims
        (λ i claim at.
        let back = at_map_back (λ (w : Worker). w.claim) workers i claim (subst (λ (cs : List ClaimView). IsAt cs i claim) theirs.claims at) in
        ap (λ (c : ClaimView). c.table) back.2 ∙ (worked.each i back.0 back.1).claim);
  }

  pub ports_are_all : AreAllPortsOf s ports
  ports_are_all = record {
    count = ap length theirs.ports ∙ length-map workers (λ w. w.port) ∙ worked.count;
    each = λ w port at.
        let back = at_map_back (λ (x : Worker). x.port) workers w port (subst (λ (ps : List PortState). IsAt ps w port) theirs.ports at) in
        let its = worked.each w back.0 back.1 in
        subst (λ (p : PortState). IsPortOf s p × (p.number ≡ w)) (sym back.2) (its.of, its.number);
  }

  have_done : (w : ℕ) (work : List RecordedJob) (port : PortState) → IsAt done w work → IsAt ports w port
      → HaveDone s.namespace jobs work (views_of (new_port s.units w).passes) (views_of port.passes)
  have_done w work port in_done in_ports =
      let one = at_map_back (λ (x : Worker). x.done.items) workers w work (subst (λ (ws : List (List RecordedJob)). IsAt ws w work) theirs.done in_done) in
      let other = at_map_back (λ (x : Worker). x.port) workers w port (subst (λ (ps : List PortState). IsAt ps w port) theirs.ports in_ports) in
      let same : one.0 ≡ other.0 = at_one workers w one.0 other.0 one.1 other.1 in
      let its = (worked.each w one.0 one.1).done in
      subst (λ (ds : List RecordedJob). HaveDone s.namespace jobs ds (views_of (new_port s.units w).passes) (views_of port.passes)) (sym one.2)
      (subst (λ (p : PortState). HaveDone s.namespace jobs one.0.done.items (views_of (new_port s.units w).passes) (views_of p.passes))
      (ap (λ (x : Worker). x.port) same ∙ sym other.2) its)

  module _ (word : ℕ) (drawn : IsClaims counter.jobs (record { word = word; lists = lists_of claims })) (count : counter.jobs ≡ length jobs) where
    ended : HaveEnded counter.jobs (map numbers_of done) (lists_of claims)
    ended =
        subst (λ (ds : List (List RecordedJob)). HaveEnded counter.jobs (map numbers_of ds) (lists_of claims)) (sym theirs.done)
        (subst (λ (cs : List ClaimView). HaveEnded counter.jobs (map numbers_of (map (λ (w : Worker). w.done.items) workers)) (lists_of cs)) (sym theirs.claims)
        (have_ended counter.jobs workers (λ i w at. ((worked.each i w at).jobs_alone, (worked.each i w at).ended))))

    its_rise : (w : ℕ) (work : List RecordedJob) → IsAt done w work → AllPairs (λ d e. d.job < e.job) work
    its_rise w work at =
        let back = at_map_back (λ (x : Worker). x.done.items) workers w work (subst (λ (ws : List (List RecordedJob)). IsAt ws w work) theirs.done at) in
        let its = worked.each w back.0 back.1 in
        let claim : IsAt claims w back.0.claim = subst (λ (cs : List ClaimView). IsAt cs w back.0.claim) (sym theirs.claims) (at_map (λ (x : Worker). x.claim) workers w back.0 back.1) in
        let is : IsDrawn counter.jobs word back.0.claim.drawn =
        all_at (IsDrawn counter.jobs word) (lists_of claims) w back.0.claim.drawn drawn.each (at_map (λ (c : ClaimView). c.drawn) claims w back.0.claim claim) in
        let rises : AllPairs (λ d e. d.job < e.job) back.0.done.items = rises_so back.0.done.items back.0.claim.drawn its.ended.last its.ended.after is.rises in
        subst (λ (ds : List RecordedJob). AllPairs (λ d e. d.job < e.job) ds) (sym back.2) rises

    pub of_workers : ((n : ℕ) (state : ClaimState) (dones : List (List ℕ)) → IsClaims n state → 0 < length state.lists → HaveEnded n dones state.lists → AreDoneOnce n dones)
        → (ns : Namespace) (limit count_of_workers : ℕ) (units : List (List HistoryEntry)) → IsValid ns → IsLimit limit → IsPortCount count_of_workers
        → All (FitsNamespace ns) jobs
        → s.namespace ≡ ns → s.limit ≡ limit → s.ports ≡ count_of_workers → IsLaidOut s → length units ≡ length s.units
        → ((k : ℕ) (unit : UnitName) (history : List HistoryEntry) → IsAt s.units k unit → IsAt units k history → EndsWhole k unit ports history)
        → IsOfWorkers (run_record ns limit count_of_workers jobs units done)
    of_workers law ns limit n units valid sound some fit same_namespace same_limit same_count laid all ends =
        let some_worker : 0 < n = some.0 in
        let lists : length (lists_of claims) ≡ s.ports = length-map claims (λ c. c.drawn) ∙ ap length theirs.claims ∙ length-map workers (λ w. w.claim) ∙ worked.count in
        let once : AreDoneOnce counter.jobs (map numbers_of done) =
        law counter.jobs (record { word = word; lists = lists_of claims }) (map numbers_of done) drawn (omega (arith, lists, same_count)) ended in
        record {
          space = s;
          ports = ports;
          gathered = record {
            valid = subst IsValid (sym same_namespace) valid;
            sound = subst IsLimit (sym same_limit) sound;
            count = subst IsPortCount (sym same_count) some;
            fit = subst (λ (space : Namespace). All (FitsNamespace space) jobs) (sym same_namespace) fit;
            namespace = sym same_namespace;
            limit = sym same_limit;
            laid = laid;
            all = ports_are_all;
            once = λ x lt. sym (times_of_all x done) ∙ once.below x (omega (arith, count));
            each_port = sym same_count;
            workers = ap length theirs.done ∙ length-map workers (λ w. w.done.items) ∙ worked.count;
            done = have_done;
            units = all;
            ends = ends;
          };
          rises = all_from_at (λ (work : List RecordedJob). AllPairs (λ d e. d.job < e.job) work) done its_rise;
        }
