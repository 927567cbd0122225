use Rattle.std.proofs.Common.{◌≡◌, ℕ, ◌-◌, List, length, map, IfOk, sym, ap, subst, ◌∙◌, arith}
use Rattle.std.specs.List.{AllZip, range_with_len}
use denote.Param.Members.{lent}
use Rattle.rayon.specs.Numbers.{nat_range}
use Rattle.rayon.proofs.ListFacts.{IfOk-then}
use Rattle.rayon.proofs.ToStd.{nat_range-All}
use Rattle.nvm_geometry.specs.Boundaries.{units_of}
use Rattle.nvm_audit.specs.Inside.UnitSearch.{CanBeAudited, IsFoundIn}
use Rattle.nvm_audit.specs.Recordable.{IsRecordable}
use Rattle.nvm_audit.specs.RecordView.{RecordView}
use Rattle.nvm_audit.proofs.record_audit.found_in_units.Goals as goal

pub collect-requires-clause-ready : goal.collect-requires-clause-ready
collect-requires-clause-ready g c κs within =
    let r = c.args.record.now in
    let held : IsRecordable r = subst IsRecordable c.record.view_is c.record.invariant in
    let count : c.units.result ≡ length r.units =
    c.units.ensures.value ∙ ap (λ (x : RecordView). units_of x.namespace) c.record.view_is ∙ sym held.all_units in
    let ends = c.into_par_iter.ensures in
    let inside = nat_range-All (CanBeAudited r (map (λ group. group.items) c.args.parts.now.items)) 0 c.units.result
    (λ i low high. record { there = omega (arith, high, count); shapes = c.requires.shapes; grouped = c.requires.parts }) in
    rw (c.map.ensures.base, c.map.ensures.f, c.with_min_len.ensures.base, ends.0, ends.1) (λ k d lt. (inside k d lt, λ y p. tt))

pub returns : goal.returns
returns g c =
    let r = c.args.record.now in
    let held : IsRecordable r = subst IsRecordable c.record.view_is c.record.invariant in
    let count : c.units.result ≡ length r.units =
    c.units.ensures.value ∙ ap (λ (x : RecordView). units_of x.namespace) c.record.view_is ∙ sym held.all_units in
    let ends = c.into_par_iter.ensures in
    let whole : c.units.result - 0 ≡ length r.units = omega (arith, count) in
    let start = (λ i. (c.map.ensures.base i).base.start) ∙ (λ i. (c.with_min_len.ensures.base i).start) ∙ ends.0 in
    let end = (λ i. (c.map.ensures.base i).base.end) ∙ (λ i. (c.with_min_len.ensures.base i).end) ∙ ends.1 in
    let same : (lent c.map.result.f).now.1.now ≡ r = (λ i. (lent (c.map.ensures.f i)).now.1.now) in
    IfOk-then c.collect.result _ _ c.collect.ensures (λ v h.
    let places = h.1.1 ∙ (λ i. nat_range (start i) (end i)) ∙ ap (range_with_len 0) whole in
    subst (λ (ys : List _). AllZip (λ unit answer. IfOk answer (IsFoundIn r unit)) (range_with_len 0 (length r.units)) ys) (sym h.2)
    (subst (λ (xs : List ℕ). AllZip (λ unit answer. IfOk answer (IsFoundIn r unit)) xs h.0) places
    (subst (λ (x : RecordView). AllZip (λ unit answer. IfOk answer (IsFoundIn x unit)) h.1.0 h.0) same h.1.2)))
