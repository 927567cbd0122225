use Rattle.std.proofs.Common.{◌≡◌, ℕ, Bool, ◌<◌, length, set, refl, sym, ◌∙◌, subst, arith}
use Rattle.nvm_geometry.specs.Boundaries.{units_of}
use Rattle.nvm_geometry.specs.Large.{regions_of}
use Rattle.nvm_geometry.specs.Namespace.{Namespace}
use Rattle.nvm_plan.specs.LentPart.{part_operation_of}
use Rattle.nvm_plan.specs.UnitPlace.{IsUnitPlace}
use Rattle.nvm_unit.specs.Ends.{views_of}
use Rattle.nvm_space.specs.Inside.Parts.{part_done, reply_told}
use Rattle.nvm_space.specs.Progress.{IsProgress}
use Rattle.nvm_space.specs.Trace.{DoesPart}
use Rattle.nvm_space.specs.UnderWay.{next_unit}
use Rattle.nvm_space.proofs.Meetings.{unit_there, of_unit, still_all, becomes}
use Rattle.nvm_space.proofs.NextParts.{are_few, region_here, replies_so, when_pending}
use Rattle.nvm_space.proofs.running.do_job.Goals as goal

pub loop-progress-init : goal.loop-progress-init
loop-progress-init g c =
    let start = views_of c.args.passes.now.items in
    record {
      passes = λ n all. all;
      progress = subst (λ (b : Bool). IsProgress c.args.geometry.now b c.args.number c.args.job.now start start c.begin-progress.result) (sym c.is_some-lists.ensures)
          (c.begin-progress.ensures start);
    }

pub next_part-part-requires-clause-under_way : goal.next_part-part-requires-clause-under_way
next_part-part-requires-clause-under_way g c =
    let ns = c.args.geometry.now in
    let job = c.args.job.now in
    let w = c.in-Pending.under_way in
    let start = views_of c.args.passes.now.items in
    let now = views_of c.loop-progress.passes.items in
    let known = when_pending ns c.is_some-lists.result c.args.number job start now c.loop-progress.progress w c.in-Pending.is c.loop-progress.invariant.progress in
    (start, now, c.is_some-lists.result, known.1)

pub index_mut-requires : goal.index_mut-requires
index_mut-requires g c =
    let ns = c.args.geometry.now in
    let regions = regions_of ns in
    let few = subst (λ (r : Namespace). c.region_of-region.result < units_of r) c.requires.regions c.region_of-region.ensures.valid in
    let all = c.loop-progress.invariant.passes c.requires.passes.0 c.requires.passes.1 in
    let counts : length c.loop-progress.passes.items ≡ length c.args.units.now = all.count in
    let count : length c.args.units.now ≡ units_of regions = c.requires.units.count in
    omega (arith, few, c.from-place.ensures, count, counts, c.loop-progress.passes.ok.0)

pub do_part-reply-requires-clause-of : goal.do_part-reply-requires-clause-of
do_part-reply-requires-clause-of g c =
    let ns = c.args.geometry.now in
    let regions = regions_of ns in
    let few = subst (λ (r : Namespace). c.region_of-region.result < units_of r) c.requires.regions c.region_of-region.ensures.valid in
    let all = c.loop-progress.invariant.passes c.requires.passes.0 c.requires.passes.1 in
    of_unit regions c.args.units.now c.args.units.now c.requires.passes.0 c.region_of-region.result c.from-place.result c.loop-progress.passes.items c.index-units-place.result c.index_mut.result.now
    c.requires.units.count refl all few c.from-place.ensures c.index-units-place.is c.index_mut.ensures.value

pub do_part-reply-requires-clause-covered : goal.do_part-reply-requires-clause-covered
do_part-reply-requires-clause-covered g c =
    let ns = c.args.geometry.now in
    let regions = regions_of ns in
    let few = subst (λ (r : Namespace). c.region_of-region.result < units_of r) c.requires.regions c.region_of-region.ensures.valid in
    let all = c.loop-progress.invariant.passes c.requires.passes.0 c.requires.passes.1 in
    let w = c.in-Pending.under_way in
    let here = region_here ns c.args.regions c.region_of-region.result c.lba.result w (λ x. c.regions_have_whole_units.ensures.number ns x c.nsze-nsze.ensures.valid) c.requires.regions c.lba.ensures c.region_of-region.ensures.value in
    let there = unit_there regions c.args.units.now c.args.units.now c.requires.passes.0 c.region_of-region.result c.from-place.result c.loop-progress.passes.items c.index-units-place.result c.index_mut.result.now
    c.requires.units.count refl all few c.from-place.ensures c.index-units-place.is c.index_mut.ensures.value in
    c.next_part-part.ensures.covered c.index-units-place.result.bounds.place
    (subst (λ (k : ℕ). IsUnitPlace regions k c.index-units-place.result.bounds.place) (c.from-place.ensures ∙ here) (c.requires.units.place c.from-place.result c.index-units-place.result there))

pub replied-progress-requires-clause-few : goal.replied-progress-requires-clause-few
replied-progress-requires-clause-few g c = λ listed.
    let ns = c.args.geometry.now in
    let regions = regions_of ns in
    let few = subst (λ (r : Namespace). c.region_of-region.result < units_of r) c.requires.regions c.region_of-region.ensures.valid in
    let all = c.loop-progress.invariant.passes c.requires.passes.0 c.requires.passes.1 in
    let there = unit_there regions c.args.units.now c.args.units.now c.requires.passes.0 c.region_of-region.result c.from-place.result c.loop-progress.passes.items c.index-units-place.result c.index_mut.result.now
    c.requires.units.count refl all few c.from-place.ensures c.index-units-place.is c.index_mut.ensures.value in
    let limit = c.requires.units.limit (sym c.is_some-lists.ensures ∙ listed) c.from-place.result c.index-units-place.result there in
    let within = c.do_part-reply.ensures.within in
    omega (arith, limit.1, within)

pub replied-progress-requires-clause-listed : goal.replied-progress-requires-clause-listed
replied-progress-requires-clause-listed g c = λ listed.
    let ns = c.args.geometry.now in
    let w = c.in-Pending.under_way in
    let here = region_here ns c.args.regions c.region_of-region.result c.lba.result w (λ x. c.regions_have_whole_units.ensures.number ns x c.nsze-nsze.ensures.valid) c.requires.regions c.lba.ensures c.region_of-region.ensures.value in
    here ∙ c.few_units_are_regions.ensures.unit ns (next_unit ns w) c.nsze-nsze.ensures.valid.some (are_few ns c.args.recorded c.requires.recorded (sym c.is_some-lists.ensures ∙ listed))

pub replied-progress-requires-clause-replies : goal.replied-progress-requires-clause-replies
replied-progress-requires-clause-replies g c =
    let ns = c.args.geometry.now in
    let regions = regions_of ns in
    let few = subst (λ (r : Namespace). c.region_of-region.result < units_of r) c.requires.regions c.region_of-region.ensures.valid in
    let job = c.args.job.now in
    let w = c.in-Pending.under_way in
    let start = views_of c.args.passes.now.items in
    let now = views_of c.loop-progress.passes.items in
    let new = views_of (set c.loop-progress.passes.items c.from-place.result c.do_part-reply.new.pass) in
    let known = when_pending ns c.is_some-lists.result c.args.number job start now c.loop-progress.progress w c.in-Pending.is c.loop-progress.invariant.progress in
    let all = c.loop-progress.invariant.passes c.requires.passes.0 c.requires.passes.1 in
    let here = region_here ns c.args.regions c.region_of-region.result c.lba.result w (λ x. c.regions_have_whole_units.ensures.number ns x c.nsze-nsze.ensures.valid) c.requires.regions c.lba.ensures c.region_of-region.ensures.value in
    let part = part_operation_of c.next_part-part.result in
    let reply = reply_told (next_unit ns w) c.do_part-reply.result in
    let does = becomes regions c.args.units.now c.args.units.now c.requires.passes.0 c.region_of-region.result c.from-place.result c.loop-progress.passes.items c.index-units-place.result c.index_mut.result.now
    c.requires.units.count refl all few c.from-place.ensures c.index-units-place.is c.index_mut.ensures.value
    (DoesPart (part_done c.args.number part reply)) c.loop-progress.passes.items c.do_part-reply.new.pass refl (c.do_part-reply.ensures.does (next_unit ns w)) c.do_part-reply.ensures.proper in
    (start, now, new, replies_so ns c.is_some-lists.result c.args.number c.region_of-region.result job w reply part start now new known.0 here known.1 c.next_part-part.ensures.part refl does)

pub loop-progress-preserved : goal.loop-progress-preserved
loop-progress-preserved g c =
    let ns = c.args.geometry.now in
    let regions = regions_of ns in
    let few = subst (λ (r : Namespace). c.region_of-region.result < units_of r) c.requires.regions c.region_of-region.ensures.valid in
    let job = c.args.job.now in
    let w = c.in-Pending.under_way in
    let start = views_of c.args.passes.now.items in
    let now = views_of c.loop-progress.passes.items in
    let new = views_of (set c.loop-progress.passes.items c.from-place.result c.do_part-reply.new.pass) in
    let known = when_pending ns c.is_some-lists.result c.args.number job start now c.loop-progress.progress w c.in-Pending.is c.loop-progress.invariant.progress in
    let all = c.loop-progress.invariant.passes c.requires.passes.0 c.requires.passes.1 in
    let here = region_here ns c.args.regions c.region_of-region.result c.lba.result w (λ x. c.regions_have_whole_units.ensures.number ns x c.nsze-nsze.ensures.valid) c.requires.regions c.lba.ensures c.region_of-region.ensures.value in
    let part = part_operation_of c.next_part-part.result in
    let reply = reply_told (next_unit ns w) c.do_part-reply.result in
    let does = becomes regions c.args.units.now c.args.units.now c.requires.passes.0 c.region_of-region.result c.from-place.result c.loop-progress.passes.items c.index-units-place.result c.index_mut.result.now
    c.requires.units.count refl all few c.from-place.ensures c.index-units-place.is c.index_mut.ensures.value
    (DoesPart (part_done c.args.number part reply)) c.loop-progress.passes.items c.do_part-reply.new.pass refl (c.do_part-reply.ensures.does (next_unit ns w)) c.do_part-reply.ensures.proper in
    record {
      passes = λ n its. still_all regions c.args.units.now c.args.units.now n c.region_of-region.result c.from-place.result c.loop-progress.passes.items c.index-units-place.result c.index_mut.result.now
          c.requires.units.count refl (c.loop-progress.invariant.passes n its) few c.from-place.ensures c.index-units-place.is c.index_mut.ensures.value
          c.do_part-reply.new.pass c.do_part-reply.ensures.of c.do_part-reply.ensures.number;
      progress = subst (λ (n : ℕ). IsProgress ns c.is_some-lists.result n job start new c.replied-progress.result) known.0
          (c.replied-progress.ensures.progress start now new
          (replies_so ns c.is_some-lists.result c.args.number c.region_of-region.result job w reply part start now new known.0 here known.1 c.next_part-part.ensures.part refl does));
    }
