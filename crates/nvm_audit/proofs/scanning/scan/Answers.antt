use Rattle.std.proofs.Common.{◌≡◌, ◌<◌, length, take, refl, ap, rules, arith}
use Rattle.nvm_audit.specs.Inside.Audited.{view_of_shown}
use Rattle.nvm_audit.specs.RecordedPart.{RecordedPart}
use Rattle.nvm_audit.proofs.Places.{stands_read}
use Rattle.nvm_audit.proofs.Scans.{scan_begins, scan_goes_on, scan_faults, least_there, few_entries}
use Rattle.nvm_audit.proofs.scanning.scan.Goals as goal

pub loop-k-init : goal.loop-k-init
loop-k-init c = scan_begins (view_of_shown c.args.u.now) _ refl

pub bounds-least-worker : goal.bounds-least-worker
bounds-least-worker c =
    let u = view_of_shown c.args.u.now in
    let low : c.loop-k.k < length u.parts = search rules in
    let at = stands_read u.parts c.loop-k.k c.index-part.result.now low c.index-part.ensures in
    let worker = (c.requires.known.parts c.loop-k.k c.index-part.result.now at).worker in
    let same : c.part.inside.worker ≡ c.index-part.result.now.worker = ap (λ (p : RecordedPart). p.worker) c.part.view_is in
    let workers = c.loop-k.invariant.workers in
    omega (arith, worker, same, workers)

pub part_fault-requires-clause-unit : goal.part_fault-requires-clause-unit
part_fault-requires-clause-unit c =
    let u = view_of_shown c.args.u.now in
    let low : c.loop-k.k < length u.parts = search rules in
    let at = stands_read u.parts c.loop-k.k c.index-part.result.now low c.index-part.ensures in
    (c.requires.known.parts c.loop-k.k c.index-part.result.now at).unit

pub part_fault-requires-clause-judged : goal.part_fault-requires-clause-judged
part_fault-requires-clause-judged c = λ within.
    let u = view_of_shown c.args.u.now in
    let low : c.loop-k.k < length u.parts = search rules in
    let at = stands_read u.parts c.loop-k.k c.index-part.result.now low c.index-part.ensures in
    let long = c.requires.walked.long in
    c.requires.walked.judged c.loop-k.k c.index-part.result.now c.index.result.now at (omega (arith, within))
    (stands_read c.args.findings.now.items c.loop-k.k c.index.result.now (omega (arith, low, long)) c.index.ensures)

pub returns-in-Some : goal.returns-in-Some
returns-in-Some c =
    let u = view_of_shown c.args.u.now in
    let p = c.index-part.result.now in
    let low : c.loop-k.k < length u.parts = search rules in
    let at = stands_read u.parts c.loop-k.k p low c.index-part.ensures in
    let worker = (c.requires.known.parts c.loop-k.k p at).worker in
    let same = ap (λ (q : RecordedPart). q.worker) c.part.view_is in
    let least = least_there u c.loop-k.k p c.loop-k.least c.part.inside.worker c.loop-k.invariant same worker in
    scan_faults u c.loop-k.k p c.loop-k.least c.in-Some.fault low c.index-part.ensures
    (c.in-Some.ensures (take c.loop-k.k u.parts) least) c.loop-k.invariant

pub next_point-requires : goal.next_point-requires
next_point-requires c =
    let u = view_of_shown c.args.u.now in
    let p = c.index-part.result.now in
    let low : c.loop-k.k < length u.parts = search rules in
    let at = stands_read u.parts c.loop-k.k p low c.index-part.ensures in
    let worker = (c.requires.known.parts c.loop-k.k p at).worker in
    let same = ap (λ (q : RecordedPart). q.worker) c.part.view_is in
    let least = least_there u c.loop-k.k p c.loop-k.least c.part.inside.worker c.loop-k.invariant same worker in
    few_entries u c.requires.known p.part.point (c.in-None.ensures (take c.loop-k.k u.parts) least).0.within

pub bounds-least-worker-in-loop-k : goal.bounds-least-worker-in-loop-k
bounds-least-worker-in-loop-k c =
    let u = view_of_shown c.args.u.now in
    let low : c.loop-k.k < length u.parts = search rules in
    let at = stands_read u.parts c.loop-k.k c.index-part.result.now low c.index-part.ensures in
    let worker = (c.requires.known.parts c.loop-k.k c.index-part.result.now at).worker in
    let same : c.part.inside.worker ≡ c.index-part.result.now.worker = ap (λ (p : RecordedPart). p.worker) c.part.view_is in
    let workers = c.loop-k.invariant.workers in
    omega (arith, worker, same, workers)

pub loop-k-preserved : goal.loop-k-preserved
loop-k-preserved c =
    let u = view_of_shown c.args.u.now in
    let p = c.index-part.result.now in
    let low : c.loop-k.k < length u.parts = search rules in
    let at = stands_read u.parts c.loop-k.k p low c.index-part.ensures in
    let worker = (c.requires.known.parts c.loop-k.k p at).worker in
    let same = ap (λ (q : RecordedPart). q.worker) c.part.view_is in
    let least = least_there u c.loop-k.k p c.loop-k.least c.part.inside.worker c.loop-k.invariant same worker in
    scan_goes_on u c.loop-k.k p c.loop-k.least c.part.inside.worker c.next_point.result low c.index-part.ensures
    (c.in-None.ensures (take c.loop-k.k u.parts) least) same c.next_point.ensures c.loop-k.invariant
