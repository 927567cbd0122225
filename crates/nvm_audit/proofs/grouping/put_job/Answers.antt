use Rattle.std.proofs.Common.{◌≡◌, ◌+◌, ◌++◌, ◌∷◌, [], List, length, map, take, get_or, refl, sym, ap, subst, ◌∙◌, append_assoc, append-nil, arith}
use Rattle.std.proofs.lemmas.Bool.{eqb-true, eqb-false}
use Rattle.std.proofs.lemmas.List.{take_all}
use Rattle.nvm_audit.specs.Inside.Grouped.{AreGrouped}
use Rattle.nvm_audit.specs.RecordedJob.{RecordedJob}
use Rattle.nvm_audit.specs.RecordedPart.{RecordedPart, parts_left}
use Rattle.nvm_plan.specs.declared.part.Part.{Part}
use Rattle.nvm_plan.specs.declared.part.PartResult.TheVariants.{Done}
use Rattle.nvm_record.specs.Lists.{IsAt}
use Rattle.nvm_audit.proofs.Standing.{read_there}
use Rattle.nvm_audit.proofs.Groups.{one_part_more, length_left}
use Rattle.nvm_audit.proofs.grouping.put_job.Goals as goal

abbrev none : Part
none = record { unit = 0; point = 0; result = Done }

pub put-requires : goal.put-requires
put-requires c =
    let d = c.args.done.now in
    let i = c.loop-i.i in
    let all = c.as_slice-parts.result.now in
    let part : Part = get_or all i none in
    let parts_are : all ≡ d.parts = c.as_slice-parts.ensures ∙ ap (λ (e : RecordedJob). e.parts) c.done.view_is in
    let there = subst (λ (ps : List Part). IsAt ps i part) parts_are (read_there all i none c.loop-i-test.true) in
    let inside = c.requires i part there in
    let same : c.part_of.result.part.unit ≡ part.unit = ap (λ (p : RecordedPart). p.part.unit) c.part_of.ensures in
    omega (arith, inside, same, c.loop-i.invariant.long)

pub loop-i-init : goal.loop-i-init
loop-i-init c = record {
  long = refl;
  grouped = λ units parts old. subst (λ (ps : List RecordedPart). AreGrouped units ps (map (λ group. group.items) c.args.groups.now.items)) (sym (append-nil parts)) old;
}

pub loop-i-preserved : goal.loop-i-preserved
loop-i-preserved c =
    let d = c.args.done.now in
    let i = c.loop-i.i in
    let worker = c.args.worker in
    let all = c.as_slice-parts.result.now in
    let parts_are : all ≡ d.parts = c.as_slice-parts.ensures ∙ ap (λ (e : RecordedJob). e.parts) c.done.view_is in
    let long : length all ≡ length d.parts = ap length parts_are in
    let there = subst (λ (ps : List Part). IsAt ps i (get_or all i none)) parts_are (read_there all i none c.loop-i-test.true) in
    record {
      long = c.in_ok-put.ensures.long ∙ c.loop-i.invariant.long;
      grouped =
          λ units parts old.
          subst (λ (ps : List RecordedPart). AreGrouped units ps (map (λ group. group.items) c.put.new.groups.items))
          (append_assoc parts (take i (parts_left worker d d.parts)) (c.part_of.result ∷ []) ∙ ap (λ (ps : List RecordedPart). parts ++ ps)
          (ap (λ (p : RecordedPart). take i (parts_left worker d d.parts) ++ p ∷ []) c.part_of.ensures
          ∙ one_part_more worker d i (get_or all i none) _ there
          (λ t. eqb-true (i + 1) (length all) t ∙ long)
          (λ f end. eqb-false (i + 1) (length all) f (end ∙ sym long))))
          (c.in_ok-put.ensures.grouped units (parts ++ take i (parts_left worker d d.parts)) (c.loop-i.invariant.grouped units parts old));
    }

pub returns-clause-grouped : goal.returns-clause-grouped
returns-clause-grouped c = λ units parts old.
    let d = c.args.done.now in
    let i = c.loop-i.i in
    let parts_are : c.as_slice-parts.result.now ≡ d.parts = c.as_slice-parts.ensures ∙ ap (λ (e : RecordedJob). e.parts) c.done.view_is in
    let long = ap length parts_are in
    let left = length_left c.args.worker d d.parts in
    let all_of_it : take i (parts_left c.args.worker d d.parts) ≡ parts_left c.args.worker d d.parts =
    take_all i (parts_left c.args.worker d d.parts) (omega (arith, left, long, c.loop-i-test.false)) in
    subst (λ (ps : List RecordedPart). AreGrouped units (parts ++ ps) (map (λ group. group.items) c.loop-i.groups.items)) all_of_it
    (c.loop-i.invariant.grouped units parts old)
