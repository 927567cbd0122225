use Rattle.std.proofs.Common.{◌≡◌, ◌∙◌, List, length, map, sym, subst}
use Rattle.std.proofs.lemmas.List.{length-map}
use Rattle.nvm_store.specs.HistoryEntry.{HistoryEntry}
use Rattle.nvm_store.specs.Limit.{IsLimit}
use Rattle.nvm_space.specs.Closing.{EndsWhole}
use Rattle.nvm_engine.proofs.Finished.{claims_are_all, ports_are_all, of_workers}
use Rattle.nvm_engine.proofs.Places.{at_map_back}
use Rattle.nvm_engine.proofs.running.done_by_workers.Goals as goal

pub close-drawn-requires : goal.close-drawn-requires
close-drawn-requires g c =
    let brought = c.in_ok-claims.ensures in
    claims_are_all c.in_ok-counter.counter c.in-Ok.space c.args.jobs.now brought.0 c.in_ok-claims.claims.items c.in_ok-claims.ports.items (map (λ work. work.items) c.in_ok-claims.done.items)
    brought.1 brought.2 (c.in_ok-counter.ensures.workers ∙ sym c.in-Ok.ensures.count)

pub close-requires : goal.close-requires
close-requires g c =
    let brought = c.in_ok-claims.ensures in
    ports_are_all c.in_ok-counter.counter c.in-Ok.space c.args.jobs.now brought.0 c.in_ok-claims.claims.items c.in_ok-claims.ports.items (map (λ work. work.items) c.in_ok-claims.done.items)
    brought.1 brought.2

pub returns-clause-gathered : goal.returns-clause-gathered
returns-clause-gathered g c =
    let s = c.in-Ok.space in
    let brought = c.in_ok-claims.ensures in
    let units = c.in_ok-units.units.items in
    let jobs : c.in_ok-counter.counter.jobs ≡ length c.args.jobs.now = c.in_ok-counter.ensures.jobs in
    let all : length (map (λ history. history.items) units) ≡ length s.units = length-map units (λ history. history.items) ∙ c.in_ok-units.ensures.count in
    of_workers c.in_ok-counter.counter s c.args.jobs.now brought.0 c.in_ok-claims.claims.items c.in_ok-claims.ports.items (map (λ work. work.items) c.in_ok-claims.done.items) brought.1 brought.2
    c.close-drawn.result c.close-drawn.ensures.claims jobs c.each_job_is_done_once.ensures c.args.geometry c.args.limit c.args.workers (map (λ history. history.items) units)
    c.nsze-nsze.ensures.valid (subst IsLimit c.entries-entries.ensures.value c.entries-entries.ensures.valid) c.in-Ok.ensures.taken c.requires.fit
    c.in-Ok.ensures.namespace c.in-Ok.ensures.limit c.in-Ok.ensures.count c.in-Ok.ensures.units all
    (λ k unit history here there.
    let back = at_map_back (λ h. h.items) units k history there in
    subst (λ (entries : List HistoryEntry). EndsWhole k unit c.in_ok-claims.ports.items entries) (sym back.2) (c.in_ok-units.ensures.each k unit back.0 here back.1))
