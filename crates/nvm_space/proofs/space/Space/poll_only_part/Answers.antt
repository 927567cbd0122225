use Rattle.std.proofs.Common.{◌≡◌, ◌↔◌, ℕ, List, IsTrue, length, set, ap, sym, subst, arith}
use Rattle.nvm_record.specs.declared.status.Statuses.{Statuses}
use Rattle.nvm_record.specs.Status.{IsSuccess}
use Rattle.nvm_geometry.specs.Boundaries.{unit_number, units_of}
use Rattle.nvm_geometry.specs.Large.{IsLarge, region_of, regions_of}
use Rattle.nvm_store.specs.Answer.{IsRoomFor}
use Rattle.nvm_plan.specs.LentPart.{part_operation_of}
use Rattle.nvm_plan.specs.UnitPlace.{IsUnitPlace}
use Rattle.nvm_unit.specs.Ends.{views_of}
use Rattle.nvm_unit.specs.Passes.{UnitName}
use Rattle.nvm_unit.specs.Replies.{Waits}
use Rattle.nvm_space.specs.AtOnce.{IsDoneAtOnce}
use Rattle.nvm_space.specs.Inside.Parts.{part_done}
use Rattle.nvm_space.specs.Ports.{PortState}
use Rattle.nvm_space.specs.Spaces.{SpaceName, IsLaidOut}
use Rattle.nvm_space.specs.Trace.{DoesPart}
use Rattle.nvm_space.specs.Visits.{BecomesAt}
use Rattle.nvm_space.proofs.AtUnits.{unit_of_space, pass_of_unit, port_of_space, becomes_in}
use Rattle.nvm_space.proofs.OnlyParts.{only_known}
use Rattle.nvm_space.proofs.Waiting.{part_after_waiting, waited_again}
use Rattle.nvm_space.proofs.space.Space.poll_only_part.Goals as goal

pub index-requires : goal.index-requires
index-requires g c =
    let ns = c.args.self.now.namespace in
    let part = part_operation_of c.args.part in
    let large : IsLarge ns = subst IsLarge (ap (λ (s : SpaceName). s.namespace) c.self.view_is) c.nsze-nsze.ensures.valid in
    let known = only_known ns c.requires.only.0 c.args.region part large c.units_number_the_namespace.ensures.below c.regions_have_whole_units.ensures.number c.requires.only.1 in
    let laid : IsLaidOut c.args.self.now = subst IsLaidOut c.self.view_is c.self.invariant.0 in
    let units : c.self.inside.units.items ≡ c.args.self.now.units = ap (λ (s : SpaceName). s.units) c.self.view_is in
    let count : length c.args.self.now.units ≡ units_of (regions_of ns) = laid.count in
    let same : length c.self.inside.units.items ≡ length c.args.self.now.units = ap (λ (us : List UnitName). length us) units in
    omega (arith, known, c.from-place.ensures, count, same, c.self.inside.units.ok.0)

pub index_mut-requires : goal.index_mut-requires
index_mut-requires g c =
    let ns = c.args.self.now.namespace in
    let part = part_operation_of c.args.part in
    let large : IsLarge ns = subst IsLarge (ap (λ (s : SpaceName). s.namespace) c.self.view_is) c.nsze-nsze.ensures.valid in
    let known = only_known ns c.requires.only.0 c.args.region part large c.units_number_the_namespace.ensures.below c.regions_have_whole_units.ensures.number c.requires.only.1 in
    let laid : IsLaidOut c.args.self.now = subst IsLaidOut c.self.view_is c.self.invariant.0 in
    let units : c.self.inside.units.items ≡ c.args.self.now.units = ap (λ (s : SpaceName). s.units) c.self.view_is in
    let count : length c.args.self.now.units ≡ units_of (regions_of ns) = laid.count in
    let passes : length c.port.inside.passes.items ≡ length c.args.port.now.passes = ap (λ (p : PortState). length p.passes) c.port.view_is in
    let counts : length c.args.port.now.passes ≡ length c.args.self.now.units = c.requires.of.count in
    omega (arith, known, c.from-place.ensures, count, passes, counts, c.port.inside.passes.ok.0)

pub poll_part_into-requires-clause-of : goal.poll_part_into-requires-clause-of
poll_part_into-requires-clause-of g c =
    let ns = c.args.self.now.namespace in
    let part = part_operation_of c.args.part in
    let large : IsLarge ns = subst IsLarge (ap (λ (s : SpaceName). s.namespace) c.self.view_is) c.nsze-nsze.ensures.valid in
    let known = only_known ns c.requires.only.0 c.args.region part large c.units_number_the_namespace.ensures.below c.regions_have_whole_units.ensures.number c.requires.only.1 in
    let laid : IsLaidOut c.args.self.now = subst IsLaidOut c.self.view_is c.self.invariant.0 in
    let units : c.self.inside.units.items ≡ c.args.self.now.units = ap (λ (s : SpaceName). s.units) c.self.view_is in
    let state : PortState = record { number = c.port.inside.number; passes = c.port.inside.passes.items } in
    pass_of_unit c.args.self.now c.self.inside.units.items c.args.port.now state c.args.region c.from-place.result c.index.result.now c.index_mut.result.now
    laid units c.port.view_is c.requires.of known c.from-place.ensures c.index.ensures c.index_mut.ensures.value

pub poll_part_into-requires-clause-covered : goal.poll_part_into-requires-clause-covered
poll_part_into-requires-clause-covered g c =
    let ns = c.args.self.now.namespace in
    let part = part_operation_of c.args.part in
    let large : IsLarge ns = subst IsLarge (ap (λ (s : SpaceName). s.namespace) c.self.view_is) c.nsze-nsze.ensures.valid in
    let known = only_known ns c.requires.only.0 c.args.region part large c.units_number_the_namespace.ensures.below c.regions_have_whole_units.ensures.number c.requires.only.1 in
    let laid : IsLaidOut c.args.self.now = subst IsLaidOut c.self.view_is c.self.invariant.0 in
    let units : c.self.inside.units.items ≡ c.args.self.now.units = ap (λ (s : SpaceName). s.units) c.self.view_is in
    let state : PortState = record { number = c.port.inside.number; passes = c.port.inside.passes.items } in
    let its = unit_of_space c.args.self.now c.self.inside.units.items c.args.port.now state c.args.region c.from-place.result c.index.result.now c.index_mut.result.now
    laid units c.port.view_is c.requires.of known c.from-place.ensures c.index.ensures c.index_mut.ensures.value in
    c.requires.covered c.index.result.now.bounds.place
    (subst (λ (k : ℕ). IsUnitPlace (regions_of ns) k c.index.result.now.bounds.place) c.from-place.ensures its.place)

pub poll_part_into-requires-clause-room : goal.poll_part_into-requires-clause-room
poll_part_into-requires-clause-room g c =
    let ns = c.args.self.now.namespace in
    let part = part_operation_of c.args.part in
    let large : IsLarge ns = subst IsLarge (ap (λ (s : SpaceName). s.namespace) c.self.view_is) c.nsze-nsze.ensures.valid in
    let known = only_known ns c.requires.only.0 c.args.region part large c.units_number_the_namespace.ensures.below c.regions_have_whole_units.ensures.number c.requires.only.1 in
    let laid : IsLaidOut c.args.self.now = subst IsLaidOut c.self.view_is c.self.invariant.0 in
    let units : c.self.inside.units.items ≡ c.args.self.now.units = ap (λ (s : SpaceName). s.units) c.self.view_is in
    let state : PortState = record { number = c.port.inside.number; passes = c.port.inside.passes.items } in
    let its = unit_of_space c.args.self.now c.self.inside.units.items c.args.port.now state c.args.region c.from-place.result c.index.result.now c.index_mut.result.now
    laid units c.port.view_is c.requires.of known c.from-place.ensures c.index.ensures c.index_mut.ensures.value in
    subst (λ (n : ℕ). IsRoomFor part n c.args.buffer.now) (sym its.place.size) c.requires.room

pub returns-in_err-statuses-clause-of : goal.returns-in_err-statuses-clause-of
returns-in_err-statuses-clause-of g c =
    let ns = c.args.self.now.namespace in
    let part = part_operation_of c.args.part in
    let large : IsLarge ns = subst IsLarge (ap (λ (s : SpaceName). s.namespace) c.self.view_is) c.nsze-nsze.ensures.valid in
    let known = only_known ns c.requires.only.0 c.args.region part large c.units_number_the_namespace.ensures.below c.regions_have_whole_units.ensures.number c.requires.only.1 in
    let laid : IsLaidOut c.args.self.now = subst IsLaidOut c.self.view_is c.self.invariant.0 in
    let units : c.self.inside.units.items ≡ c.args.self.now.units = ap (λ (s : SpaceName). s.units) c.self.view_is in
    let state : PortState = record { number = c.port.inside.number; passes = c.port.inside.passes.items } in
    port_of_space c.args.self.now c.self.inside.units.items c.args.port.now state c.args.region c.from-place.result c.index.result.now c.index_mut.result.now
    laid units c.port.view_is c.requires.of known c.from-place.ensures c.index.ensures c.index_mut.ensures.value
    c.poll_part_into.new.pass c.poll_part_into.ensures.of c.poll_part_into.ensures.number

pub returns-clause-of : goal.returns-clause-of
returns-clause-of g c =
    let ns = c.args.self.now.namespace in
    let part = part_operation_of c.args.part in
    let large : IsLarge ns = subst IsLarge (ap (λ (s : SpaceName). s.namespace) c.self.view_is) c.nsze-nsze.ensures.valid in
    let known = only_known ns c.requires.only.0 c.args.region part large c.units_number_the_namespace.ensures.below c.regions_have_whole_units.ensures.number c.requires.only.1 in
    let laid : IsLaidOut c.args.self.now = subst IsLaidOut c.self.view_is c.self.invariant.0 in
    let units : c.self.inside.units.items ≡ c.args.self.now.units = ap (λ (s : SpaceName). s.units) c.self.view_is in
    let state : PortState = record { number = c.port.inside.number; passes = c.port.inside.passes.items } in
    port_of_space c.args.self.now c.self.inside.units.items c.args.port.now state c.args.region c.from-place.result c.index.result.now c.index_mut.result.now
    laid units c.port.view_is c.requires.of known c.from-place.ensures c.index.ensures c.index_mut.ensures.value
    c.poll_part_into.new.pass c.poll_part_into.ensures.of c.poll_part_into.ensures.number

pub returns-in_err-statuses-clause-goes : goal.returns-in_err-statuses-clause-goes
returns-in_err-statuses-clause-goes g c = λ job start only waited.
    let ns = c.args.self.now.namespace in
    let part = part_operation_of c.args.part in
    let large : IsLarge ns = subst IsLarge (ap (λ (s : SpaceName). s.namespace) c.self.view_is) c.nsze-nsze.ensures.valid in
    let known = only_known ns c.requires.only.0 c.args.region part large c.units_number_the_namespace.ensures.below c.regions_have_whole_units.ensures.number c.requires.only.1 in
    let laid : IsLaidOut c.args.self.now = subst IsLaidOut c.self.view_is c.self.invariant.0 in
    let units : c.self.inside.units.items ≡ c.args.self.now.units = ap (λ (s : SpaceName). s.units) c.self.view_is in
    let state : PortState = record { number = c.port.inside.number; passes = c.port.inside.passes.items } in
    let does = c.in_err-statuses.ensures.does in
    let waits = becomes_in c.args.self.now c.self.inside.units.items c.args.port.now state c.args.region c.from-place.result c.index.result.now c.index_mut.result.now
    laid units c.port.view_is c.requires.of known c.from-place.ensures c.index.ensures c.index_mut.ensures.value
    Waits c.poll_part_into.new.pass does.0 c.poll_part_into.ensures.proper in
    rw c.from_residual.ensures (does.1, waited_again c.args.region start (views_of c.args.port.now.passes) _ c.waiting_is_no_step.ensures.again waited waits)

pub returns-clause-goes : goal.returns-clause-goes
returns-clause-goes g c = λ job start only waited.
    let ns = c.args.self.now.namespace in
    let part = part_operation_of c.args.part in
    let large : IsLarge ns = subst IsLarge (ap (λ (s : SpaceName). s.namespace) c.self.view_is) c.nsze-nsze.ensures.valid in
    let known = only_known ns c.requires.only.0 c.args.region part large c.units_number_the_namespace.ensures.below c.regions_have_whole_units.ensures.number c.requires.only.1 in
    let laid : IsLaidOut c.args.self.now = subst IsLaidOut c.self.view_is c.self.invariant.0 in
    let units : c.self.inside.units.items ≡ c.args.self.now.units = ap (λ (s : SpaceName). s.units) c.self.view_is in
    let state : PortState = record { number = c.port.inside.number; passes = c.port.inside.passes.items } in
    let unit = unit_number ns part.first in
    let did = c.in_ok-statuses.ensures.does unit in
    let done = part_done c.args.number part did.reply in
    let old = c.args.buffer.now in
    let new = views_of (set c.port.inside.passes.items c.from-place.result c.poll_part_into.new.pass) in
    let here = becomes_in c.args.self.now c.self.inside.units.items c.args.port.now state c.args.region c.from-place.result c.index.result.now c.index_mut.result.now
    laid units c.port.view_is c.requires.of known c.from-place.ensures c.index.ensures c.index_mut.ensures.value
    (DoesPart done) c.poll_part_into.new.pass did.does c.poll_part_into.ensures.proper in
    let since = part_after_waiting c.args.region done start (views_of c.args.port.now.passes) new c.waiting_is_no_step.ensures.changed c.waiting_is_no_step.ensures.looked waited here in
    let does = subst (λ (k : ℕ). BecomesAt k (DoesPart done) start new) {y = region_of ns unit} only.here since in
    let ok = subst (λ (s : Statuses). IsTrue c.is_success.result ↔ IsSuccess s) (sym did.told) c.is_success.ensures in
    subst (λ (s : Statuses). IsDoneAtOnce ns c.args.number job start new old c.poll_part_into.new.buffer s) did.told
    (subst (λ (bytes : List ℕ). IsDoneAtOnce ns c.args.number job start new old bytes did.reply.statuses) (sym did.read)
    (c.an_only_part_is_the_outcome.ensures ns c.args.number job unit part did.reply c.is_success.result start new old only.only did.here does ok))
