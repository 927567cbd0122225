use Rattle.std.proofs.Common.{◌≡◌, ℕ, ◌+◌, ap, sym, subst}
use Rattle.nvm_record.specs.PayloadRef.{lent_bytes}
use Rattle.nvm_geometry.specs.Limits.{LiesInUnit}
use Rattle.nvm_plan.specs.OnlyPart.{command_lent}
use Rattle.nvm_plan.proofs.OnlyParts.{operation_of_pair, whole_in_unit}
use Rattle.nvm_plan.proofs.body_fields.ready_part.Goals as goal

pub returns-else-not-lies_in_unit-clause-inside : goal.returns-else-not-lies_in_unit-clause-inside
returns-else-not-lies_in_unit-clause-inside c =
    let ns = c.args.geometry.now in
    let alone = c.in-Single.alone in
    let lies = subst (λ (n : ℕ). LiesInUnit ns alone.slba (n + 1)) c.from.ensures c.if-not-lies_in_unit.ensures.one_unit in
    whole_in_unit ns alone.slba (alone.nlb + 1) c.whole_part.result lies c.whole_part.ensures.first c.whole_part.ensures.blocks

pub returns-else-not-is_ready_pair-clause-ready : goal.returns-else-not-is_ready_pair-clause-ready
returns-else-not-is_ready_pair-clause-ready c =
    rw c.in-Pair.is (c.if-not-is_ready_pair.ensures.ready (lent_bytes c.args.compared) (lent_bytes c.args.payload))

pub returns-else-not-is_ready_pair-clause-part : goal.returns-else-not-is_ready_pair-clause-part
returns-else-not-is_ready_pair-clause-part c =
    let compare = command_lent c.in-Pair.compare (lent_bytes c.args.compared) in
    let write = command_lent c.in-Pair.write (lent_bytes c.args.payload) in
    let ready = c.if-not-is_ready_pair.ensures.ready (lent_bytes c.args.compared) (lent_bytes c.args.payload) in
    rw c.in-Pair.is (rw c.from-in-Pair.ensures (operation_of_pair c.args.geometry.now compare write ready.compare ready.write))

pub returns-else-not-is_ready_pair-clause-inside : goal.returns-else-not-is_ready_pair-clause-inside
returns-else-not-is_ready_pair-clause-inside c =
    let blocks : c.in-Pair.compare.nlb + 1 ≡ c.from-in-Pair.result + 1 = sym (ap (λ (n : ℕ). n + 1) c.from-in-Pair.ensures) in
    let ready = c.if-not-is_ready_pair.ensures.ready (lent_bytes c.args.compared) (lent_bytes c.args.payload) in
    subst (λ (n : ℕ). LiesInUnit c.args.geometry.now c.in-Pair.compare.slba n) blocks ready.limit.one_unit
