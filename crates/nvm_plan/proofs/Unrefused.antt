-- What is known of a job to which no check applies, and that none applies to such a job.
use Rattle.std.proofs.Common.{◌≡◌, ◌⊎◌, ◌↔◌, inl, inr, ◌+◌, ◌≤◌, ◌<◌, nat_lt, Bool, true, false, not, if◌then◌else◌, List, [], ◌∷◌, Some, None, IsTrue, refl, sym, ap, subst, arith, rules}
use Rattle.std.proofs.lemmas.Bool.{cases_Bool, eq-eqb, le-ltb, ltb-false, or_parts, or_from}
use Rattle.std.proofs.lemmas.Grind.{common_steps}
use Rattle.std.proofs.lemmas.List.Elements.{All-nil, All-cons, All-head, All-tail}
use Rattle.std.proofs.lemmas.Option.{same_Some, none-some}
use Rattle.nvm_record.specs.Deeds.{IsPair, IsOnRange}
use Rattle.nvm_record.specs.Op.{carries_ranges}
use Rattle.nvm_record.specs.Ranges.{ranges_of}
use Rattle.nvm_record.specs.Step.{Deed, Operation, writes, zeroes, uncorrectable, reads, compares, pairs, deallocates}
use Rattle.nvm_record.specs.declared.command.Command.{Command}
use Rattle.nvm_record.specs.declared.lba_range.LbaRange.{LbaRange}
use Rattle.nvm_record.specs.declared.op.Op.{Op}
use Rattle.nvm_record.specs.declared.op.Op.TheVariants.{Write, Read, WriteUncorrectable, Compare, WriteZeroes, Dataset, Other}
use Rattle.nvm_geometry.specs.Namespace.{Namespace}
use Rattle.nvm_geometry.specs.Deallocation.{deallocation, EndInNamespace}
use Rattle.nvm_geometry.specs.Limits.{LiesInUnit}
use Rattle.nvm_plan.specs.declared.job.Body.{Body}
use Rattle.nvm_plan.specs.declared.job.Body.TheVariants.{Single, Pair}
use Rattle.nvm_plan.specs.declared.job.Job.{Job}
use Rattle.nvm_plan.specs.Checks.{namespace_identifier, some_ends_above, checks, first_answer, refusal_of}
use Rattle.nvm_plan.specs.Operation.{on_range, dataset_operation, single_operation, operation_of_body, job_operation_of}
use Rattle.nvm_plan.specs.Ready.{LiesInNamespace, IsReadyBody, IsReady}
use Rattle.nvm_plan.proofs.PairLimit.{SharesByNumber, NumberByUnit, kept, within_limit}

all_inside : (ns : Namespace) (rs : List LbaRange) → some_ends_above ns rs ≡ false → EndInNamespace ns rs
all_inside ns [] h = All-nil (λ (r : LbaRange). r.first + r.blocks ≤ ns.nsze)
all_inside ns (r ∷ rs) h =
    let parts = or_parts _ _ h in
    All-cons (λ (r : LbaRange). r.first + r.blocks ≤ ns.nsze) r rs (ltb-false ns.nsze (r.first + r.blocks) parts.0) (all_inside ns rs parts.1)

none_above : (ns : Namespace) (rs : List LbaRange) → EndInNamespace ns rs → some_ends_above ns rs ≡ false
none_above ns [] h = refl
none_above ns (r ∷ rs) h =
    or_from _ _ (le-ltb ns.nsze (r.first + r.blocks) (All-head (λ (r : LbaRange). r.first + r.blocks ≤ ns.nsze) r rs h))
    (none_above ns rs (All-tail (λ (r : LbaRange). r.first + r.blocks ≤ ns.nsze) r rs h))

-- a test for ranges that lie in the namespace, the other way round, is the check
pub ranges_tested : (within : Bool) (ns : Namespace) (rs : List LbaRange) → (IsTrue within ↔ EndInNamespace ns rs) → not within ≡ some_ends_above ns rs
ranges_tested true ns rs h = sym (none_above ns rs (h.0 refl))
ranges_tested false ns rs h =
    elim (cases_Bool (some_ends_above ns rs)) [ inl e ↦ sym e | inr e ↦ absurd (cc (h.1 (all_inside ns rs e))) ]

-- whether what a command of this kind asks for ends above NSZE
abbrev EndsAbove : Namespace → Op → Command → Bool
EndsAbove ns o c = if carries_ranges o then some_ends_above ns (ranges_of c.payload) else nat_lt ns.nsze (c.slba + c.nlb + 1)

range_inside_by : (ns : Namespace) (c : Command) → nat_lt ns.nsze (c.slba + c.nlb + 1) ≡ false → c.slba + (c.nlb + 1) ≤ ns.nsze
range_inside_by ns c h = omega (arith, ltb-false ns.nsze (c.slba + c.nlb + 1) h)

range_not_above : (ns : Namespace) (c : Command) → c.slba + (c.nlb + 1) ≤ ns.nsze → nat_lt ns.nsze (c.slba + c.nlb + 1) ≡ false
range_not_above ns c h = le-ltb ns.nsze (c.slba + c.nlb + 1) (omega (arith, h))

inside : (ns : Namespace) (o : Op) (c : Command) → EndsAbove ns o c ≡ false → LiesInNamespace ns o c
inside ns Write c h = range_inside_by ns c h
inside ns Read c h = range_inside_by ns c h
inside ns WriteUncorrectable c h = range_inside_by ns c h
inside ns Compare c h = range_inside_by ns c h
inside ns WriteZeroes c h = range_inside_by ns c h
inside ns (Dataset deallocate) c h = all_inside ns (ranges_of c.payload) h
inside ns (Other opcode) c h = range_inside_by ns c h

not_above : (ns : Namespace) (o : Op) (c : Command) → LiesInNamespace ns o c → EndsAbove ns o c ≡ false
not_above ns Write c h = range_not_above ns c h
not_above ns Read c h = range_not_above ns c h
not_above ns WriteUncorrectable c h = range_not_above ns c h
not_above ns Compare c h = range_not_above ns c h
not_above ns WriteZeroes c h = range_not_above ns c h
not_above ns (Dataset deallocate) c h = none_above ns (ranges_of c.payload) h
not_above ns (Other opcode) c h = range_not_above ns c h

ready_body : SharesByNumber → (ns : Namespace) (body : Body) → first_answer (checks ns body) ≡ None → IsReadyBody ns body
ready_body shares ns (Single c) h = search (rules, inside ns c.op c)
ready_body shares ns (Pair c d) h = search (rules, within_limit shares)

pub ready_job : SharesByNumber → (ns : Namespace) (job : Job) → refusal_of ns job ≡ None → IsReady ns job
unfolding refusal_of
ready_job shares ns job h = ready_body shares ns job.body h

unrefused_body : NumberByUnit → (ns : Namespace) (body : Body) → IsReadyBody ns body → first_answer (checks ns body) ≡ None
unrefused_body number ns (Single c) r =
    let range : EndsAbove ns c.op c ≡ false = not_above ns c.op c r.range in
    rw (r.op, r.fuse, eq-eqb c.nsid namespace_identifier r.nsid, range) refl
unrefused_body number ns (Pair c d) r =
    let range : nat_lt ns.nsze (c.slba + c.nlb + 1) ≡ false = le-ltb ns.nsze (c.slba + c.nlb + 1) (omega (arith, r.range)) in
    rw (
      r.compare,
      r.write,
      eq-eqb c.nsid namespace_identifier r.nsid,
      eq-eqb d.nsid namespace_identifier r.other_nsid,
      eq-eqb c.slba d.slba (sym r.slba),
      eq-eqb c.nlb d.nlb (sym r.nlb),
      range,
      kept number ns c.slba (c.nlb + 1) r.limit,
    ) refl

pub unrefused_job : NumberByUnit → (ns : Namespace) (job : Job) → IsReady ns job → refusal_of ns job ≡ None
unfolding refusal_of
unrefused_job number ns job r = unrefused_body number ns job.body r

body_in_unit : (ns : Namespace) (body : Body) (op : Operation) → IsReadyBody ns body → operation_of_body ns body ≡ Some op → IsPair op.deed
    → (0 < op.blocks) × (op.first + op.blocks ≤ ns.nsze) × LiesInUnit ns op.first op.blocks
body_in_unit ns body op ready stands pair = grind (arith, common_steps)

-- the operation of a pair lies in one unit of the namespace
pub pair_in_unit : (ns : Namespace) (job : Job) (op : Operation) → IsReady ns job → job_operation_of ns job ≡ Some op → IsPair op.deed
    → (0 < op.blocks) × (op.first + op.blocks ≤ ns.nsze) × LiesInUnit ns op.first op.blocks
pair_in_unit ns job op = body_in_unit ns job.body op

-- what is known of the range of an operation of a job that is ready
abbrev HasItsRange : Namespace → Operation → Type 0
HasItsRange ns op = (op.first + op.blocks ≤ ns.nsze) × (IsOnRange op.deed ⊎ (0 < ns.nsze) → 0 < op.blocks)

on_its_range : (ns : Namespace) (c : Command) (deed : Deed) → c.slba + (c.nlb + 1) ≤ ns.nsze → HasItsRange ns (on_range c deed)
on_its_range ns c deed h = (h, λ some. omega arith)

-- an operation on the whole namespace has a block where there is one
on_whole : (ns : Namespace) (ranges : List LbaRange) → IsOnRange (deallocates ranges) ⊎ (0 < ns.nsze) → 0 < ns.nsze
on_whole ns ranges (inl h) = absurd (cc h)
on_whole ns ranges (inr h) = h

single_range : (ns : Namespace) (o : Op) (c : Command) (op : Operation) → LiesInNamespace ns o c → single_operation ns o c ≡ Some op → HasItsRange ns op
single_range ns Write c op h stands = subst (HasItsRange ns) (same_Some _ _ stands) (on_its_range ns c (writes c.payload) h)
single_range ns Read c op h stands = subst (HasItsRange ns) (same_Some _ _ stands) (on_its_range ns c reads h)
single_range ns WriteUncorrectable c op h stands = subst (HasItsRange ns) (same_Some _ _ stands) (on_its_range ns c uncorrectable h)
single_range ns Compare c op h stands = subst (HasItsRange ns) (same_Some _ _ stands) (on_its_range ns c (compares c.payload) h)
single_range ns WriteZeroes c op h stands = subst (HasItsRange ns) (same_Some _ _ stands) (on_its_range ns c zeroes h)
single_range ns (Dataset deallocate) c op h stands =
    subst (HasItsRange ns) (same_Some (dataset_operation ns deallocate (ranges_of c.payload)) op stands) (omega arith, on_whole ns (if deallocate then ranges_of c.payload else []))
single_range ns (Other opcode) c op h stands = absurd (none-some op stands)

body_range : (ns : Namespace) (body : Body) (op : Operation) → IsReadyBody ns body → operation_of_body ns body ≡ Some op → HasItsRange ns op
body_range ns (Single c) op ready stands = single_range ns c.op c op ready.range stands
body_range ns (Pair c d) op ready stands =
    let is = rw (ready.compare, ready.write) at stands in
    subst (HasItsRange ns) (same_Some (on_range c (pairs c.payload d.payload)) op is) (on_its_range ns c (pairs c.payload d.payload) ready.range)

-- the operation of a job that is ready lies in the namespace, and has a block
pub range_inside : (ns : Namespace) (job : Job) (op : Operation) → IsReady ns job → job_operation_of ns job ≡ Some op
    → (op.first + op.blocks ≤ ns.nsze) × (IsOnRange op.deed ⊎ (0 < ns.nsze) → 0 < op.blocks)
range_inside ns job op = body_range ns job.body op

-- a Deallocate is one of the whole namespace, and its ranges lie there
abbrev HasItsRanges : Namespace → List LbaRange → Operation → Type 0
HasItsRanges ns ranges op = op.deed ≡ deallocates ranges → (op ≡ deallocation ns ranges) × EndInNamespace ns ranges

deallocated_inside : (ns : Namespace) (deallocate : Bool) (rs : List LbaRange) → EndInNamespace ns rs → EndInNamespace ns (if deallocate then rs else [])
deallocated_inside ns true rs h = h
deallocated_inside ns false rs h = All-nil (λ (r : LbaRange). r.first + r.blocks ≤ ns.nsze)

same_ranges : (rs qs : List LbaRange) → deallocates rs ≡ deallocates qs → rs ≡ qs
same_ranges rs qs e = cc e

single_ranges : (ns : Namespace) (o : Op) (c : Command) (op : Operation) (ranges : List LbaRange) → LiesInNamespace ns o c → single_operation ns o c ≡ Some op → HasItsRanges ns ranges op
single_ranges ns Write c op ranges h stands = subst (HasItsRanges ns ranges) (same_Some _ _ stands) (λ e. absurd (cc e))
single_ranges ns Read c op ranges h stands = subst (HasItsRanges ns ranges) (same_Some _ _ stands) (λ e. absurd (cc e))
single_ranges ns WriteUncorrectable c op ranges h stands = subst (HasItsRanges ns ranges) (same_Some _ _ stands) (λ e. absurd (cc e))
single_ranges ns Compare c op ranges h stands = subst (HasItsRanges ns ranges) (same_Some _ _ stands) (λ e. absurd (cc e))
single_ranges ns WriteZeroes c op ranges h stands = subst (HasItsRanges ns ranges) (same_Some _ _ stands) (λ e. absurd (cc e))
single_ranges ns (Dataset deallocate) c op ranges h stands =
    let qs : List LbaRange = if deallocate then ranges_of c.payload else [] in
    subst (HasItsRanges ns ranges) (same_Some (dataset_operation ns deallocate (ranges_of c.payload)) op stands)
    (λ e.
    let same = same_ranges qs ranges e in
    (ap (deallocation ns) same, subst (EndInNamespace ns) same (deallocated_inside ns deallocate (ranges_of c.payload) h)))
single_ranges ns (Other opcode) c op ranges h stands = absurd (none-some op stands)

body_ranges : (ns : Namespace) (body : Body) (op : Operation) (ranges : List LbaRange) → IsReadyBody ns body → operation_of_body ns body ≡ Some op → HasItsRanges ns ranges op
body_ranges ns (Single c) op ranges ready stands = single_ranges ns c.op c op ranges ready.range stands
body_ranges ns (Pair c d) op ranges ready stands =
    let is = rw (ready.compare, ready.write) at stands in
    subst (HasItsRanges ns ranges) (same_Some (on_range c (pairs c.payload d.payload)) op is) (λ e. absurd (cc e))

pub ranges_inside : (ns : Namespace) (job : Job) (op : Operation) (ranges : List LbaRange) → IsReady ns job → job_operation_of ns job ≡ Some op
    → op.deed ≡ deallocates ranges → (op ≡ deallocation ns ranges) × EndInNamespace ns ranges
ranges_inside ns job op ranges = body_ranges ns job.body op ranges

-- a pair has to do with each LBA of its operation
pub pair_on_range : (deed : Deed) → IsPair deed → IsOnRange deed
pair_on_range (writes payload) h = refl
pair_on_range zeroes h = refl
pair_on_range uncorrectable h = refl
pair_on_range reads h = refl
pair_on_range (compares payload) h = refl
pair_on_range (pairs payload new) h = refl
pair_on_range (deallocates ranges) h = absurd (cc h)
