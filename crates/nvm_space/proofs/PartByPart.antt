-- The parts of a job, one after the other, are what is asked of it.
use Rattle.std.proofs.Common.{◌≡◌, inl, inr, ℕ, ◌+◌, Bool, true, false, length, length-append, List, [], ◌∷◌, ◌++◌, map, Option, Some, None, IsSome, unwrap_or, refl, sym, ap, ◌∙◌, subst, arith}
use Rattle.std.specs.List.{AllByRecursion, Contains}
use Rattle.std.specs.Prelude.{filter, nat_le}
use Rattle.std.proofs.lemmas.List.Elements.{Contains-append_right}
use Rattle.nvm_record.specs.declared.status.Statuses.{Statuses}
use Rattle.nvm_record.specs.declared.status.Statuses.TheVariants.{One}
use Rattle.nvm_record.specs.Deeds.{is_look, is_pair, success_of, IsAct, IsLook, IsFailedPair}
use Rattle.nvm_record.specs.Medium.{Medium}
use Rattle.nvm_record.specs.Status.{IsSuccess, internal_error}
use Rattle.nvm_record.specs.Step.{Operation}
use Rattle.nvm_geometry.specs.Large.{region_of}
use Rattle.nvm_geometry.specs.Namespace.{Namespace}
use Rattle.nvm_geometry.specs.Deallocation.{units_met_from}
use Rattle.nvm_geometry.specs.Parts.{part_in, units_met}
use Rattle.nvm_plan.specs.declared.job.Job.{Job}
use Rattle.nvm_plan.specs.declared.part.Part.{Part}
use Rattle.nvm_plan.specs.declared.part.PartResult.TheVariants as result
use Rattle.nvm_plan.specs.JobPart.{job_part_in, job_units, job_units_from}
use Rattle.nvm_plan.specs.Outcome.{data_told, answered, AreDone, IsOutcomeOf, IsOutcome}
use Rattle.nvm_plan.specs.Reply.{Reply, reply_on, reply_of_stop, stop_of, IsReplyTo, IsSuccessfulReply}
use Rattle.nvm_unit.specs.declared.views.PassView.{PassView}
use Rattle.nvm_space.specs.declared.job_done.JobDone.{JobDone}
use Rattle.nvm_space.specs.declared.replies.PartReply.{PartReply}
use Rattle.nvm_space.specs.Inside.Parts.{reply_told, part_done, job_ended, IsGathered}
use Rattle.nvm_space.specs.Inside.Replying.{with_part}
use Rattle.nvm_space.specs.Trace.{PartDone, DoesPart, DoesParts, IsPartOfJob, DoesJob, listed_of, part_ended}
use Rattle.nvm_space.specs.UnderWay.{HaveDone}
use Rattle.nvm_space.specs.Visits.{BecomesAt}
use Rattle.nvm_space.proofs.DeedLemmas.{internal_error_fails}
use Rattle.nvm_space.proofs.Lists.{map_more}
use Rattle.nvm_space.proofs.PartReplies.{found_no_memory, told_one, part_replies, stop_replies}

all_more : {X : Type 0} (P : X → Type 0) (xs : List X) (y : X) → AllByRecursion P xs → P y → AllByRecursion P (xs ++ y ∷ [])
all_more P [] y all here = (here, tt)
all_more P (x ∷ xs) y all here = (all.0, all_more P xs y all.1 here)

does_more : (region : ℕ → ℕ) (parts : List PartDone) (did : PartDone) (start now new : List PassView) → DoesParts region parts start now → BecomesAt (region did.reply.part.unit) (DoesPart did) now new
    → DoesParts region (parts ++ did ∷ []) start new
does_more region [] did start now new does more = (new, subst (λ (vs : List PassView). BecomesAt (region did.reply.part.unit) (DoesPart did) vs new) does more, refl)
does_more region (first ∷ parts) did start now new does more = (does.0, does.1, does_more region parts did does.0 now new does.2 more)

-- the pass of a unit became another so, and so in another way
becomes_too : (k : ℕ) (So Too : PassView → PassView → Type 0) (old new : List PassView) → ((p q : PassView) → So p q → Too p q) → BecomesAt k So old new → BecomesAt k Too old new
becomes_too k So Too old new too becomes = record {
  before = becomes.before;
  after = becomes.after;
  was = becomes.was;
  so = too becomes.before becomes.after becomes.so;
  proper = becomes.proper;
  others = becomes.others;
}

-- Before the first part none is listed, and with each one more is, where parts are listed.
pub none_listed : (lists : Bool) → listed_of lists [] ≡ []
none_listed true = refl
none_listed false = refl

listed_more : (lists : Bool) (parts : List PartDone) (did : PartDone) (listed : List Part) (part : Part) → listed ≡ listed_of lists parts
    → did.reply.part ≡ part → with_part lists listed part ≡ listed_of lists (parts ++ did ∷ [])
listed_more true parts did listed part are its =
    ap (λ (ps : List Part). ps ++ part ∷ []) are ∙ ap (λ (p : Part). map (λ (d : PartDone). d.reply.part) parts ++ p ∷ []) (sym its)
    ∙ sym (map_more (λ (d : PartDone). d.reply.part) parts did)
listed_more false parts did listed part are its = are

pub one_longer : (lists : Bool) (listed : List Part) (part : Part) → lists ≡ true → length (with_part lists listed part) ≡ length listed + 1
one_longer true listed part on = length-append listed (part ∷ [])
one_longer false listed part on = absurd (let bad = on in cc bad)

-- One part of the job was done in the unit, with these statuses.
pub record IsStep (ns : Namespace) (number : ℕ) (job : Job) (op : Operation) (unit : ℕ) (now new : List PassView)
    (bytes more : List ℕ) (part : Part) (statuses : Statuses) : Type 0 where
  pub did : PartDone
  pub becomes : BecomesAt (region_of ns unit) (DoesPart did) now new
  pub of_job : IsPartOfJob ns number job did
  pub at : did.reply.part.unit ≡ unit
  pub its_part : did.reply.part ≡ part
  pub told : did.reply.statuses ≡ statuses
  pub reply : IsReplyTo op.deed did.reply
  pub goes : IsSuccess statuses → more ≡ bytes ++ unwrap_or did.reply.payload []

-- what a unit reported about the job's part there, with its data gathered
pub step_of : (ns : Namespace) (number : ℕ) (job : Job) (op part : Operation) (unit : ℕ) (now new : List PassView) (bytes more : List ℕ) (r : PartReply) (ended : Part) (statuses : Statuses)
    → BecomesAt (region_of ns unit) (DoesPart (part_done number part (reply_told unit r))) now new → job_part_in ns job unit ≡ Some part
    → ((p q : PassView) → DoesPart (part_done number part (reply_told unit r)) p q → IsReplyTo op.deed (reply_told unit r))
    → ((point : ℕ) → IsReplyTo op.deed (reply_of_stop part.deed (part_ended unit point result.NoMemory)))
    → IsGathered unit r bytes more ended statuses
    → IsStep ns number job op unit now new bytes more ended statuses
step_of ns number job op part unit now new bytes more r ended statuses becomes in_unit replies stops (inl kept) = record {
  did = part_done number part (reply_told unit r);
  becomes = becomes;
  of_job = (refl, in_unit);
  at = refl;
  its_part = sym kept.0;
  told = sym kept.1;
  reply = replies becomes.before becomes.after becomes.so;
  goes = λ success. kept.2;
}
step_of ns number job op part unit now new bytes more r ended statuses becomes in_unit replies stops (inr none) =
    let told : stop_of part.deed ≡ One internal_error = told_one number part (reply_told unit r) becomes.before becomes.after none.0 becomes.so in
    record {
      did = part_done number part (reply_of_stop part.deed (part_ended unit r.point result.NoMemory));
      becomes = becomes_too (region_of ns unit) _ (DoesPart (part_done number part (reply_of_stop part.deed (part_ended unit r.point result.NoMemory)))) now new
          (λ p q does. found_no_memory number part (reply_told unit r) p q none.0 does) becomes;
      of_job = (refl, in_unit);
      at = refl;
      its_part = sym none.1;
      told = told ∙ sym none.2;
      reply = stops r.point;
      goes = λ success. absurd (internal_error_fails (subst IsSuccess none.2 success));
    }

module _ (ns : Namespace) (lists : Bool) (number : ℕ) (job : Job) (op : Operation) where
  -- Before the first part.
  pub not_begun : (start : List PassView) (left : List ℕ) (listed : List Part) (bytes : List ℕ) → AreDone ns op [] left → listed ≡ [] → bytes ≡ []
      → HaveDone ns lists number job op start start left listed bytes
  not_begun start left listed bytes begun none empty = record { parts = []; does = refl; each = tt; done = begun; read = sym empty; are_listed = none ∙ sym (none_listed lists) }

  -- One part more, which succeeded.
  pub one_more : ((replies : List Reply) (r : Reply) (left : List ℕ) → AreDone ns op replies (r.part.unit ∷ left) → IsSuccessfulReply op.deed r → AreDone ns op (replies ++ r ∷ []) left)
      → ((replies : List Reply) (r : Reply) → data_told (replies ++ r ∷ []) ≡ data_told replies ++ unwrap_or r.payload [])
      → (start now new : List PassView) (unit : ℕ) (left : List ℕ) (listed after : List Part) (bytes more_bytes : List ℕ) (part : Part) (statuses : Statuses)
      → HaveDone ns lists number job op start now (unit ∷ left) listed bytes → IsStep ns number job op unit now new bytes more_bytes part statuses → IsSuccess statuses
      → after ≡ with_part lists listed part → HaveDone ns lists number job op start new left after more_bytes
  one_more more joined start now new unit left listed after bytes more_bytes part statuses have step success is =
      let did = step.did in
      let replies = map (λ (d : PartDone). d.reply) have.parts in
      let longer : map (λ (d : PartDone). d.reply) (have.parts ++ did ∷ []) ≡ replies ++ did.reply ∷ [] = map_more (λ (d : PartDone). d.reply) have.parts did in
      record {
        parts = have.parts ++ did ∷ [];
        does = does_more (region_of ns) have.parts did start now new have.does (subst (λ (u : ℕ). BecomesAt (region_of ns u) (DoesPart did) now new) (sym step.at) step.becomes);
        each = all_more (IsPartOfJob ns number job) have.parts did have.each step.of_job;
        done = subst (λ (rs : List Reply). AreDone ns op rs left) (sym longer)
            (more replies did.reply left (subst (λ (u : ℕ). AreDone ns op replies (u ∷ left)) (sym step.at) have.done)
            (record { reply = step.reply; success = subst IsSuccess (sym step.told) success }));
        read = ap data_told longer ∙ joined replies did.reply ∙ ap (λ (xs : List ℕ). xs ++ unwrap_or did.reply.payload []) have.read ∙ sym (step.goes success);
        are_listed = is ∙ listed_more lists have.parts did listed part have.are_listed step.its_part;
      }

  -- What is reported about a part that doesn't succeed is reported about the job.
  pub stops_so : ((replies : List Reply) (r : Reply) (left : List ℕ) → AreDone ns op replies (r.part.unit ∷ left) → IsReplyTo op.deed r → (IsSuccess r.statuses → ⊥) → IsOutcomeOf ns op (replies ++ r ∷ []) r.statuses None)
      → ((replies : List Reply) (told : Statuses) (read : Option (List ℕ)) → IsOutcomeOf ns op replies told read → IsOutcome ns job replies told read)
      → (start now new : List PassView) (unit : ℕ) (left : List ℕ) (listed : List Part) (bytes more_bytes : List ℕ) (part : Part) (statuses : Statuses)
      → HaveDone ns lists number job op start now (unit ∷ left) listed bytes → IsStep ns number job op unit now new bytes more_bytes part statuses → (IsSuccess statuses → ⊥)
      → (replies : List Reply) × IsOutcome ns job replies statuses None
  stops_so stopped outcome start now new unit left listed bytes more_bytes part statuses have step failure =
      let did = step.did in
      let replies = map (λ (d : PartDone). d.reply) have.parts in
      let so = stopped replies did.reply left (subst (λ (u : ℕ). AreDone ns op replies (u ∷ left)) (sym step.at) have.done) step.reply (λ ok. failure (subst IsSuccess step.told ok)) in
      (replies ++ did.reply ∷ [], subst (λ (x : Statuses). IsOutcome ns job (replies ++ did.reply ∷ []) x None) step.told (outcome (replies ++ did.reply ∷ []) did.reply.statuses None so))

  -- A part that doesn't succeed ends the job.
  pub stops : ((replies : List Reply) (r : Reply) (left : List ℕ) → AreDone ns op replies (r.part.unit ∷ left) → IsReplyTo op.deed r → (IsSuccess r.statuses → ⊥) → IsOutcomeOf ns op (replies ++ r ∷ []) r.statuses None)
      → ((replies : List Reply) (told : Statuses) (read : Option (List ℕ)) → IsOutcomeOf ns op replies told read → IsOutcome ns job replies told read)
      → (start now new : List PassView) (unit : ℕ) (left : List ℕ) (listed after : List Part) (bytes more_bytes : List ℕ) (part : Part) (statuses : Statuses) (done : JobDone)
      → HaveDone ns lists number job op start now (unit ∷ left) listed bytes → IsStep ns number job op unit now new bytes more_bytes part statuses → (IsSuccess statuses → ⊥)
      → after ≡ with_part lists listed part → job_ended job statuses None after done → DoesJob ns lists number job start new done
  stops stopped outcome start now new unit left listed after bytes more_bytes part statuses done have step failure is ended =
      let did = step.did in
      let replies = map (λ (d : PartDone). d.reply) have.parts in
      let longer : map (λ (d : PartDone). d.reply) (have.parts ++ did ∷ []) ≡ replies ++ did.reply ∷ [] = map_more (λ (d : PartDone). d.reply) have.parts did in
      let so = stopped replies did.reply left (subst (λ (u : ℕ). AreDone ns op replies (u ∷ left)) (sym step.at) have.done) step.reply (λ ok. failure (subst IsSuccess step.told ok)) in
      record {
        parts = have.parts ++ did ∷ [];
        does = does_more (region_of ns) have.parts did start now new have.does (subst (λ (u : ℕ). BecomesAt (region_of ns u) (DoesPart did) now new) (sym step.at) step.becomes);
        each = all_more (IsPartOfJob ns number job) have.parts did have.each step.of_job;
        told = statuses;
        read = None;
        outcome = subst (λ (rs : List Reply). IsOutcome ns job rs statuses None) (sym longer)
            (subst (λ (x : Statuses). IsOutcome ns job (replies ++ did.reply ∷ []) x None) step.told (outcome (replies ++ did.reply ∷ []) did.reply.statuses None so));
        completions = ended.0;
        listed = ended.1 ∙ is ∙ listed_more lists have.parts did listed part have.are_listed step.its_part;
      }

  -- After the last part.
  pub all_done : ((replies : List Reply) → AreDone ns op replies [] → IsOutcomeOf ns op replies (success_of op.deed) (answered op.deed (data_told replies)))
      → ((replies : List Reply) (told : Statuses) (read : Option (List ℕ)) → IsOutcomeOf ns op replies told read → IsOutcome ns job replies told read)
      → (start now : List PassView) (left : List ℕ) (listed : List Part) (bytes : List ℕ) (done : JobDone) → HaveDone ns lists number job op start now left listed bytes → left ≡ []
      → job_ended job (success_of op.deed) (answered op.deed bytes) listed done → DoesJob ns lists number job start now done
  all_done whole outcome start now left listed bytes done have none ended =
      let replies = map (λ (d : PartDone). d.reply) have.parts in
      let so = whole replies (subst (λ (us : List ℕ). AreDone ns op replies us) none have.done) in
      record {
        parts = have.parts;
        does = have.does;
        each = have.each;
        told = success_of op.deed;
        read = answered op.deed bytes;
        outcome = outcome replies (success_of op.deed) (answered op.deed bytes) (subst (λ (xs : List ℕ). IsOutcomeOf ns op replies (success_of op.deed) (answered op.deed xs)) have.read so);
        completions = ended.0;
        listed = ended.1 ∙ have.are_listed;
      }

-- What was reported about the part of a job that isn't refused.
pub step_so : (ns : Namespace) (number : ℕ) (job : Job) (op part : Operation) (unit : ℕ) (now new : List PassView) (bytes more : List ℕ) (r : PartReply) (ended : Part) (statuses : Statuses)
    → is_look (part_in ns op unit).deed ≡ is_look op.deed → is_pair (part_in ns op unit).deed ≡ is_pair op.deed
    → ((m : Medium) (p : Part) → IsLook op.deed → p.result ≡ result.Looked → IsReplyTo op.deed (reply_on ns op m p))
    → ((m : Medium) (p : Part) → p.result ≡ result.Failed → IsFailedPair (part_in ns op p.unit) m → IsReplyTo op.deed (reply_on ns op m p))
    → ((p : Part) → p.result ≡ result.NoMemory → IsReplyTo op.deed (reply_of_stop op.deed p))
    → ((p : Part) → IsAct op.deed → p.result ≡ result.Full → IsReplyTo op.deed (reply_of_stop op.deed p))
    → part ≡ part_in ns op unit → job_part_in ns job unit ≡ Some part
    → BecomesAt (region_of ns unit) (DoesPart (part_done number part (reply_told unit r))) now new → IsGathered unit r bytes more ended statuses
    → IsStep ns number job op unit now new bytes more ended statuses
step_so ns number job op part unit now new bytes more r ended statuses look pair looked failed no_memory full is in_unit becomes gathered =
    step_of ns number job op part unit now new bytes more r ended statuses becomes in_unit
    (λ p q does. part_replies ns op part unit is look pair looked failed no_memory full number (reply_told unit r) p q refl does)
    (stop_replies ns op part unit is look pair looked failed no_memory full) gathered

-- The unit of the next part is one of the job's.
pub is_among : (before units : List ℕ) (unit : ℕ) (after : List ℕ) → before ++ unit ∷ after ≡ units → Contains units unit
is_among before units unit after e =
    let first : Contains (unit ∷ after) unit = (0, omega arith, refl) in
    subst (λ (us : List ℕ). Contains us unit) e (Contains-append_right before (unit ∷ after) unit first)

-- From unit 0 on, the job's units are all that its operation meets.
pub units_from_all : (ns : Namespace) (job : Job) (op : Operation) → job_units ns job ≡ units_met ns op
    → units_met_from ns op 0 ≡ units_met ns op → job_units_from ns job 0 ≡ units_met ns op
units_from_all ns job op units all = ap (λ (us : List ℕ). filter (λ unit. nat_le 0 unit) us) units ∙ all

pub the_operation : (operation : Option Operation) → IsSome operation → (op : Operation) × (operation ≡ Some op)
the_operation None some = absurd (cc some)
the_operation (Some op) some = (op, refl)

-- Nothing was done.
pub nothing_done : (ns : Namespace) (lists : Bool) (number : ℕ) (job : Job) (views : List PassView) (told : Statuses) (read : Option (List ℕ)) (listed : List Part) (done : JobDone) → IsOutcome ns job [] told read
    → listed ≡ [] → job_ended job told read listed done → DoesJob ns lists number job views views done
nothing_done ns lists number job views told read listed done outcome none ended = record {
  parts = [];
  does = refl;
  each = tt;
  told = told;
  read = read;
  outcome = outcome;
  completions = ended.0;
  listed = ended.1 ∙ none ∙ sym (none_listed lists);
}
