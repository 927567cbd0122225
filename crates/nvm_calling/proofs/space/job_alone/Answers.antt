use Rattle.std.proofs.Common.{◌≡◌, ◌<◌, ◌∙◌, ℕ, Bool, true, List, [], ◌∷◌, length, map, set, get_or, refl, ap, subst, sym, arith}
use Rattle.std.specs.List.{range_with_len}
use Rattle.std.proofs.lemmas.List.{length-map}
use Rattle.nvm_geometry.specs.Large.{regions_of}
use Rattle.nvm_geometry.specs.Namespace.{Namespace}
use Rattle.nvm_store.specs.HistoryEntry.{HistoryEntry}
use Rattle.nvm_unit.specs.Ends.{views_of}
use Rattle.nvm_space.specs.Closing.{EndsWhole}
use Rattle.nvm_space.specs.Ports.{PortState, new_port, new_ports}
use Rattle.nvm_space.specs.Spaces.{SpaceName}
use Rattle.nvm_space.specs.Trace.{DoesJob}
use Rattle.nvm_space.specs.Shuffle.{AreLawfulHistories}
use Rattle.nvm_space.proofs.Lists.{at_map_back}
use Rattle.nvm_calling.proofs.space.job_alone.Goals as goal

pub run_job-done-requires-clause-of : goal.run_job-done-requires-clause-of
run_job-done-requires-clause-of g c =
    let s = c.in_ok-space.space in
    let ports = c.in_ok-space.ports.items in
    let all = c.in_ok-space.ensures.all in
    let one : 0 < length ports = omega (arith, all.count, c.in_ok-space.ensures.count) in
    c.ports_are_changed_in_place.ensures.of s ports 0 c.index_mut.result.now all one c.index_mut.ensures.value

pub returns-clause-lawful : goal.returns-clause-lawful
returns-clause-lawful g c =
    let s = c.in_ok-space.space in
    let after = set c.in_ok-space.ports.items 0 c.run_job-done.new.port in
    let ended = c.in_ok-histories.histories.items in
    subst (λ (ns : Namespace). AreLawfulHistories ns (map (λ history. history.items) ended))
    (ap regions_of c.in_ok-space.ensures.namespace ∙ c.few_units_are_regions.ensures.same c.args.geometry c.nsze-nsze.ensures.valid.some c.nsze-nsze.ensures.valid.units)
    (c.units_end_with_lawful_histories.ensures s after (map (λ history. history.items) ended) c.in_ok-space.ensures.units
    (length-map ended (λ history. history.items) ∙ c.in_ok-histories.ensures.count)
    (λ k unit history is at.
    let back = at_map_back (λ history. history.items) ended k history at in
    subst (λ (h : List HistoryEntry). EndsWhole k unit after h) (sym back.2) (c.in_ok-histories.ensures.each k unit back.0 is back.1)))

-- A list of one becomes another of one.
one_set : (xs : List PortState) (x : PortState) → length xs ≡ 1 → set xs 0 x ≡ x ∷ []
one_set [] x n = absurd (omega arith)
one_set (y ∷ []) x n = refl
one_set (y ∷ (z ∷ zs)) x n = absurd (omega arith)

-- The ports of a new space of one.
one_new : (s : SpaceName) → s.ports ≡ 1 → new_ports s ≡ new_port s.units 0 ∷ []
one_new s n = ap (λ (k : ℕ). map (new_port s.units) (range_with_len 0 k)) n

-- What stands in front of a list of one.
front_of_one : (xs : List PortState) (x y : PortState) → xs ≡ y ∷ [] → x ≡ get_or xs 0 x → x ≡ y
front_of_one xs x y one is = subst (λ (ys : List PortState). x ≡ get_or ys 0 x) one is

pub returns-clause-alone : goal.returns-clause-alone
returns-clause-alone g c =
    let s = c.in_ok-space.space in
    let before = c.in_ok-space.ports.items in
    let port = c.run_job-done.new.port in
    let ended = c.in_ok-histories.histories.items in
    let one : length before ≡ 1 = c.in_ok-space.ensures.all.count ∙ c.in_ok-space.ensures.count in
    let new : c.index_mut.result.now ≡ new_port s.units 0 =
    front_of_one before c.index_mut.result.now (new_port s.units 0) (c.in_ok-space.ensures.ports ∙ one_new s c.in_ok-space.ensures.count) c.index_mut.ensures.value in
    record {
      space = s;
      namespace = c.in_ok-space.ensures.namespace;
      port = port;
      does =
          subst (λ (ns : Namespace). DoesJob ns true 0 c.args.job.now (views_of (new_port s.units 0).passes) (views_of port.passes) c.run_job-done.result)
          c.in_ok-space.ensures.namespace
          (subst (λ (p : PortState). DoesJob s.namespace true 0 c.args.job.now (views_of p.passes) (views_of port.passes) c.run_job-done.result) new
          (subst (λ (lists : Bool). DoesJob s.namespace lists 0 c.args.job.now (views_of c.index_mut.result.now.passes) (views_of port.passes) c.run_job-done.result)
          c.in_ok-space.ensures.lists c.run_job-done.ensures.does));
      ends = λ k unit history is at.
          let back = at_map_back (λ history. history.items) ended k history at in
          subst (λ (ports : List PortState). EndsWhole k unit ports history) (one_set before port one)
          (subst (λ (h : List HistoryEntry). EndsWhole k unit (set before 0 port) h) (sym back.2) (c.in_ok-histories.ensures.each k unit back.0 is back.1));
    }
