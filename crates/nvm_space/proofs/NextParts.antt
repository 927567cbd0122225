-- The next part of a job that is under way, and what is known of the pass that does it.
use Rattle.std.proofs.Common.{◌≡◌, ℕ, Bool, true, false, ◌+◌, ◌*◌, ◌<◌, ◌≤◌, List, [], ◌∷◌, ◌++◌, map, Option, Some, None, IsSome, is_some, refl, sym, ap, ◌∙◌, subst, arith, inr}
use Rattle.std.specs.Prelude.{IfNone, MatchOption}
use Rattle.std.specs.List.{Contains}
use Rattle.nvm_record.specs.Step.{HasData, Operation}
use Rattle.nvm_geometry.specs.Boundaries.{unit_number, units_of}
use Rattle.nvm_geometry.specs.Faults.{most_units}
use Rattle.nvm_geometry.specs.Large.{region_of, regions_of}
use Rattle.nvm_geometry.specs.Namespace.{Namespace}
use Rattle.nvm_geometry.specs.Parts.{part_in, units_met}
use Rattle.nvm_plan.specs.Checks.{refusal_of}
use Rattle.nvm_plan.specs.JobPart.{job_part_in, job_units, job_units_from}
use Rattle.nvm_plan.specs.Operation.{job_operation_of}
use Rattle.nvm_plan.specs.Outcome.{units_told}
use Rattle.nvm_plan.specs.Reply.{Reply}
use Rattle.nvm_unit.specs.Replies.{Waits}
use Rattle.nvm_plan.specs.declared.job.Job.{Job}
use Rattle.nvm_plan.specs.declared.part.Part.{Part}
use Rattle.nvm_plan.specs.declared.part.PartResult.{PartResult}
use Rattle.nvm_store.specs.Place.{IsCovered}
use Rattle.nvm_store.specs.declared.place.Place.{Place}
use Rattle.nvm_unit.specs.declared.views.PassView.{PassView}
use Rattle.nvm_space.specs.Inside.Parts.{part_done}
use Rattle.nvm_space.specs.Inside.Recorded.{AreRecordedOf}
use Rattle.nvm_space.specs.Inside.Replying.{RepliesTo, with_part}
use Rattle.nvm_space.specs.Progress.{IsProgress}
use Rattle.nvm_space.specs.Trace.{DoesJob, DoesPart, PartDone, part_ended}
use Rattle.nvm_space.specs.UnderWay.{UnderWay, IsUnderWay, next_unit}
use Rattle.nvm_space.specs.Visits.{BecomesAt}
use Rattle.nvm_space.specs.declared.job_done.JobDone.{JobDone}
use Rattle.nvm_space.specs.declared.space.Recorded.{Recorded}
use Rattle.nvm_space.specs.declared.under_way.Progress.{Progress}
use Rattle.nvm_space.specs.declared.under_way.Progress.TheVariants.{Done, Pending}
use Rattle.nvm_space.proofs.PartByPart.{is_among}
use Rattle.nvm_space.proofs.Waiting.{after_waiting}

-- The unit of the next part is one of the namespace's.
pub next_known : (ns : Namespace) (lists : Bool) (job : Job) (w : UnderWay) (start now : List PassView)
    → ((op : Operation) → refusal_of ns job ≡ None → job_operation_of ns job ≡ Some op → job_units ns job ≡ units_met ns op)
    → ((unit : ℕ) → Contains (job_units ns job) unit → unit < units_of ns)
    → IsUnderWay ns lists job w start now → next_unit ns w < units_of ns
next_known ns lists job w start now units inside under =
    inside (next_unit ns w) (subst (λ (us : List ℕ). Contains us (next_unit ns w)) (sym (units under.op under.free under.is_op))
    (is_among (units_told (map (λ (did : PartDone). did.reply) under.have.parts)) (units_met ns under.op) (next_unit ns w)
    (job_units_from ns job (next_unit ns w + 1)) under.have.done.units))

-- The job has a part there.
pub next_there : (ns : Namespace) (lists : Bool) (job : Job) (w : UnderWay) (start now : List PassView)
    → ((op : Operation) (unit : ℕ) → refusal_of ns job ≡ None → job_operation_of ns job ≡ Some op → Contains (units_met ns op) unit
    → job_part_in ns job unit ≡ Some (part_in ns op unit))
    → IsUnderWay ns lists job w start now → IsSome (job_part_in ns job (next_unit ns w))
next_there ns lists job w start now part under =
    let there = part under.op (next_unit ns w) under.free under.is_op
    (is_among (units_told (map (λ (did : PartDone). did.reply) under.have.parts)) (units_met ns under.op) (next_unit ns w)
    (job_units_from ns job (next_unit ns w + 1)) under.have.done.units) in
    subst (λ (o : Option Operation). IsSome o) (sym there) refl

-- What is covered by a place is covered by one in which that lies.
pub covered_too : (place inner : Place) (op : Operation) → place.size ≡ inner.size → place.first ≤ inner.first
    → inner.first + inner.blocks ≤ place.first + place.blocks → IsCovered inner op → IsCovered place op
covered_too place inner op size above below covered =
    let range = covered.range in
    record {
      range = record { some = range.some; above = omega (arith, above, range.above); below = omega (arith, below, range.below) };
      payload = subst (λ (n : ℕ). HasData (op.blocks * n) op.deed) (sym size) covered.payload;
      ranges = covered.ranges;
    }

-- The region of an LBA of the next part is that in which its unit lies.
pub region_here : (ns regions : Namespace) (region lba : ℕ) (w : UnderWay)
    → ((x : ℕ) → unit_number (regions_of ns) x ≡ region_of ns (unit_number ns x)) → regions ≡ regions_of ns → lba ≡ w.lba
    → region ≡ unit_number regions lba → region ≡ region_of ns (next_unit ns w)
region_here ns regions region lba w number same at is =
    is ∙ (ap (λ (r : Namespace). unit_number r lba) same ∙ (number lba ∙ ap (λ (x : ℕ). region_of ns (unit_number ns x)) at))

-- A space whose jobs list their parts has few units.
pub are_few : (ns : Namespace) (recorded : Option Recorded) → AreRecordedOf ns recorded → is_some recorded ≡ true → units_of ns ≤ most_units
are_few ns None of on = absurd (cc on)
are_few ns (Some r) of on = of.1

-- Where parts are listed, the number is the unit's.
pub same_part : (lists : Bool) (parts : List Part) (number unit point : ℕ) (ended : PartResult) → (lists ≡ true → number ≡ unit)
    → with_part lists parts (part_ended number point ended) ≡ with_part lists parts (part_ended unit point ended)
same_part true parts number unit point ended same = ap (λ (u : ℕ). parts ++ part_ended u point ended ∷ []) (same refl)
same_part false parts number unit point ended same = refl

-- what is known of a job that is done, and of one that is pending
pub when_done : (ns : Namespace) (lists : Bool) (number : ℕ) (job : Job) (start now : List PassView) (progress : Progress) (done : JobDone)
    → progress ≡ Done done → IsProgress ns lists number job start now progress → DoesJob ns lists number job start now done
when_done ns lists number job start now progress done is known =
    subst (λ (p : Progress). IsProgress ns lists number job start now p) is known

pub when_pending : (ns : Namespace) (lists : Bool) (number : ℕ) (job : Job) (start now : List PassView) (progress : Progress) (w : UnderWay)
    → progress ≡ Pending w → IsProgress ns lists number job start now progress
    → (w.number ≡ number) × IsUnderWay ns lists job w start now
when_pending ns lists number job start now progress w is known =
    subst (λ (p : Progress). IsProgress ns lists number job start now p) is known

-- The pass of its unit did the next part.
pub replies_so : (ns : Namespace) (lists : Bool) (number region : ℕ) (job : Job) (w : UnderWay) (reply : Reply) (part : Operation) (start now new : List PassView)
    → w.number ≡ number → region ≡ region_of ns (next_unit ns w) → IsUnderWay ns lists job w start now → job_part_in ns job (next_unit ns w) ≡ Some part → reply.part.unit ≡ next_unit ns w
    → BecomesAt region (DoesPart (part_done number part reply)) now new → RepliesTo ns lists job w reply start now new
replies_so ns lists number region job w reply part start now new same here under in_unit at step = record {
  under_way = under;
  part = part;
  in_unit = in_unit;
  at = at;
  step = subst (λ (n : ℕ). BecomesAt (region_of ns (next_unit ns w)) (DoesPart (part_done n part reply)) now new) (sym same)
      (subst (λ (k : ℕ). BecomesAt k (DoesPart (part_done number part reply)) now new) here step);
}

-- A job whose list of parts is the same is as far as it is.
pub same_under_way : (ns : Namespace) (lists : Bool) (job : Job) (number lba : ℕ) (parts listed : List Part) (bytes : List ℕ) (room has : ℕ) (start new : List PassView)
    → listed ≡ parts → has ≡ room
    → IsUnderWay ns lists job (record { number = number; lba = lba; parts = parts; bytes = bytes; room = room }) start new
    → IsUnderWay ns lists job (record { number = number; lba = lba; parts = listed; bytes = bytes; room = has }) start new
same_under_way ns lists job number lba parts listed bytes room has start new same holds under = rw (same, holds) under

-- One whose pass waited is as far as it was.
pub still_under_way : (ns : Namespace) (lists : Bool) (region : ℕ) (job : Job) (w : UnderWay) (start now new : List PassView)
    → ((p q r : PassView) → Waits p q → Waits q r → Waits p r) → region ≡ region_of ns (next_unit ns w) → IsUnderWay ns lists job w start now
    → BecomesAt region Waits now new → IsUnderWay ns lists job w start new
still_under_way ns lists region job w start now new again here under waits = record {
  free = under.free;
  known = under.known;
  op = under.op;
  is_op = under.is_op;
  reached = under.reached;
  have = under.have;
  waited = inr (after_waiting (region_of ns (next_unit ns w)) Waits under.reached now new again under.waited
      (subst (λ (k : ℕ). BecomesAt k Waits now new) here waits));
  room = under.room;
}

-- what is known of an option in which nothing is
pub none_so : {A : Type 0} (o : Option A) → ((x : A) → o ≡ Some x → ⊥) → o ≡ None
none_so None never = refl
none_so (Some x) never = absurd (never x refl)

module _ {A : Type 0} (X : Type 0) where
  pub if_none : (o : Option A) → ((x : A) → o ≡ Some x → ⊥) → IfNone o X → X
  if_none None never known = known
  if_none (Some x) never known = absurd (never x refl)

  pub match_none : (o : Option A) (P : A → Type 0) → ((x : A) → o ≡ Some x → ⊥) → MatchOption o X P → X
  match_none None P never known = known
  match_none (Some x) P never known = absurd (never x refl)
