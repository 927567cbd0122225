-- The parts of a unit looked at in their order.
use Rattle.std.proofs.Common.{◌≡◌, ◌≢◌, ◌⊎◌, ℕ, zero, suc, ◌+◌, ◌<◌, ◌≤◌, List, [], ◌∷◌, ◌++◌, length, take, drop, set, replicate, get_or, Option, Some, None, refl, sym, ap, subst, ◌∙◌, arith, inl, inr, length-set}
use Rattle.std.proofs.lemmas.List.{drop_more, drop_all, length-replicate}
use Rattle.std.specs.List.{AllByRecursion}
use Rattle.nvm_record.specs.Deeds.{success_of}
use Rattle.nvm_record.specs.Lists.{IsAt}
use Rattle.nvm_record.specs.Medium.{Medium}
use Rattle.nvm_record.specs.Status.{IsSuccess}
use Rattle.nvm_record.specs.Step.{Operation, statuses_of}
use Rattle.nvm_geometry.specs.Namespace.{Namespace}
use Rattle.nvm_geometry.specs.Parts.{part_in}
use Rattle.nvm_plan.specs.declared.part.PartResult.{PartResult}
use Rattle.nvm_plan.specs.declared.part.PartResult.TheVariants.{Done, Failed, Looked, NoMemory, Full}
use Rattle.nvm_plan.specs.JobPart.{ready_operation, part_of_ready}
use Rattle.nvm_store.specs.HistoryEntry.{HistoryEntry}
use Rattle.nvm_store.specs.Point.{point}
use Rattle.nvm_audit.specs.declared.audit_fault.AuditFault.{AuditFault}
use Rattle.nvm_audit.specs.declared.audit_fault.AuditFault.TheVariants.{PointPast, PointBack, StatusWrong, DataWrong}
use Rattle.nvm_audit.specs.Inside.Audited.{Leads, IsFirstAmong, IsKnownUnit, EndedRight}
use Rattle.nvm_audit.specs.Inside.Scanned.{IsLeastOf, IsScannedTo, checks_of_part}
use Rattle.nvm_audit.specs.PointOrder.{least_after, IsNotBefore}
use Rattle.nvm_audit.specs.Recordable.{most_workers}
use Rattle.nvm_audit.specs.RecordedPart.{RecordedPart}
use Rattle.nvm_audit.specs.Resting.{HasRightStatus}
use Rattle.nvm_audit.specs.UnitChecks.{point_there, point_on, status_right, payload_right, HasItsPoint, HasItsStatus, HasItsData, IsEntryRight, PassesInUnit, entry_checks, part_checks, spot}
use Rattle.nvm_audit.specs.UnitView.{UnitView}
use Rattle.nvm_audit.proofs.Entered.{first_of_front, leads_all, leads_over}
use Rattle.nvm_audit.proofs.Judged.{part_of_whole}
use Rattle.nvm_audit.proofs.Places.{at_left, at_end, at_push, at_set, at_replicate, taken}
use Rattle.nvm_audit.proofs.Standing.{none_stands, read_there, read_is}

module _ {A : Type 0} (P : A → Type 0) where
  pub all_there : (xs : List A) → ((k : ℕ) (x : A) → IsAt xs k x → P x) → AllByRecursion P xs
  all_there [] each = tt
  all_there (x ∷ xs) each = (each zero x refl, all_there xs (λ k y at. each (suc k) y at))

  pub there_all : (xs : List A) → AllByRecursion P xs → (k : ℕ) (x : A) → IsAt xs k x → P x
  there_all [] all k x at = absurd (none_stands k x at)
  there_all (y ∷ ys) all zero x at = subst P (read_is (y ∷ ys) 0 x y at) all.0
  there_all (y ∷ ys) all (suc k) x at = there_all ys all.1 k x at

-- An entry of a unit whose entries are all right is right.
entries_right : (u : UnitView) (es : List HistoryEntry) (n i place : ℕ) (e : HistoryEntry) → AllByRecursion (PassesInUnit u) (entry_checks n es)
    → place ≡ n + i → IsAt es i e → IsEntryRight u place e
entries_right u [] n i place e all is at = absurd (none_stands i e at)
entries_right u (d ∷ ds) n zero place e all is at =
    let same : n ≡ place = omega (arith, is) in
    subst (λ (x : HistoryEntry). IsEntryRight u place x) (read_is (d ∷ ds) 0 e d at)
    (subst (λ (m : ℕ). IsEntryRight u m d) same all.0)
entries_right u (d ∷ ds) n (suc i) place e all is at = entries_right u ds (n + 1) i place e all.1.1 (omega (arith, is)) at

abbrev pub ToldAlike : Type 0
ToldAlike = (op : Operation) (m : Medium) → IsSuccess (statuses_of op m) → statuses_of op m ≡ success_of op.deed

some_whole : (ns : Namespace) (o : Option Operation) (unit : ℕ) (part : Operation) → part_of_ready ns o unit ≡ Some part
    → (op : Operation) × (o ≡ Some op)
some_whole ns None unit part e = cc
some_whole ns (Some op) unit part e = (op, refl)

-- A part that was done ended right where its entry is.
done_right : ToldAlike → (u : UnitView) (p : RecordedPart) → AllByRecursion (PassesInUnit u) (entry_checks 0 u.history)
    → p.part.unit ≡ u.unit → HasItsPoint u p → p.part.result ≡ Done → HasItsStatus u p
done_right told u p all unit has done =
    let made = has.made done in
    let n = p.part.point in
    let entry = made.0 in
    let m = point u.namespace.block_size u.history n in
    let right = entries_right u u.history 0 n n entry all (omega arith) made.1 in
    let job = right.part.job in
    let whole = some_whole u.namespace (ready_operation u.namespace job) u.unit entry.operation right.part.part in
    let op = whole.0 in
    let same : entry.operation ≡ part_in u.namespace op p.part.unit =
    part_of_whole u.namespace (ready_operation u.namespace job) u.unit entry.operation op right.part.part whole.1
    ∙ ap (λ (i : ℕ). part_in u.namespace op i) (sym unit) in
    let success = subst (λ (x : Operation). IsSuccess (statuses_of x m)) same right.success in
    let part = part_in u.namespace op p.part.unit in
    record {
      whole = op;
      does = record {
        job = job;
        its = subst (λ (i : ℕ). IsAt u.jobs i job) made.2.job right.part.its;
        ready = whole.1;
      };
      status =
          subst (λ (r : PartResult). HasRightStatus u.namespace.block_size u.limit u.history part p r) (sym done)
          (sym (told part m success));
    }

is_done : (r : PartResult) → (r ≡ Done) ⊎ (r ≢ Done)
is_done Done = inl refl
is_done Failed = inr (λ e. cc)
is_done Looked = inr (λ e. cc)
is_done NoMemory = inr (λ e. cc)
is_done Full = inr (λ e. cc)

pub status_of : ToldAlike → (u : UnitView) (p : RecordedPart) → AllByRecursion (PassesInUnit u) (entry_checks 0 u.history)
    → p.part.unit ≡ u.unit → HasItsPoint u p → EndedRight u p → HasItsStatus u p
status_of told u p all unit has ended = elim (is_done p.part.result) [
  | inl done ↦ done_right told u p all unit has done
  | inr other ↦ ended other
]

module _ (before : List RecordedPart) (p : RecordedPart) (least : ℕ) (is : IsLeastOf before p.worker least) where
  pub not_back : least ≤ p.part.point → AllByRecursion (λ earlier. IsNotBefore earlier p) before
  not_back high =
      all_there (λ earlier. IsNotBefore earlier p) before
      (λ k e at same. let low = is.above k e at (sym same) in omega (arith, low, high))

  pub goes_back : p.part.point < least → ¬ (AllByRecursion (λ earlier. IsNotBefore earlier p) before)
  goes_back low all =
      let one = is.one (omega (arith, low)) in
      let high = there_all (λ earlier. IsNotBefore earlier p) before all one.0 one.1 one.2 (sym one.3) in
      let value = one.4 in
      absurd (omega (arith, low, high, value))

module _ (u : UnitView) (before : List RecordedPart) (p : RecordedPart) (number n : ℕ) (job_is : number ≡ p.done.job)
    (point_is : n ≡ p.part.point) where
  pub past : ¬ (HasItsPoint u p) → IsFirstAmong u (checks_of_part before p) (PointPast number (spot u.unit n))
  past none = record { check = point_there p; first = inl (refl, none); is = rw (job_is, point_is) refl }

  pub back : HasItsPoint u p → ¬ (AllByRecursion (λ earlier. IsNotBefore earlier p) before)
      → IsFirstAmong u (checks_of_part before p) (PointBack number (spot u.unit n))
  back has none = record { check = point_on before p; first = inr (has, inl (refl, none)); is = rw (job_is, point_is) refl }

  pub wrong_status : HasItsPoint u p → AllByRecursion (λ earlier. IsNotBefore earlier p) before → ¬ (HasItsStatus u p)
      → IsFirstAmong u (checks_of_part before p) (StatusWrong number (Some (spot u.unit n)))
  wrong_status has on none =
      record { check = status_right p; first = inr (has, inr (on, inl (refl, none))); is = rw (job_is, point_is) refl }

  pub wrong_data : HasItsPoint u p → AllByRecursion (λ earlier. IsNotBefore earlier p) before → HasItsStatus u p → ¬ (HasItsData u p)
      → IsFirstAmong u (checks_of_part before p) (DataWrong number (spot u.unit n))
  wrong_data has on status none =
      record { check = payload_right p; first = inr (has, inr (on, inr (status, inl (refl, none)))); is = rw (job_is, point_is) refl }

-- Before any part each worker may have any point.
pub scan_begins : (u : UnitView) (least : List ℕ) → least ≡ replicate 64 0 → IsScannedTo u 0 least
scan_begins u least is =
    record {
      workers = ap length is ∙ length-replicate {A = ℕ} 64 0;
      each = λ worker n at.
          let zero : n ≡ 0 = at_replicate 64 0 worker n (subst (λ (xs : List ℕ). IsAt xs worker n) is at) in
          record {
            above = λ k e stands same. absurd (none_stands k e stands);
            one = λ some. absurd (omega (arith, some, zero));
          };
      leads = leads_all (PassesInUnit u) (part_checks [] u.parts);
    }

no_less : (p : RecordedPart) (r : PartResult) → p.part.point ≤ least_after p.part r
no_less p Done = omega arith
no_less p Failed = omega arith
no_less p Looked = omega arith
no_less p NoMemory = omega arith
no_less p Full = omega arith

-- the lowest points with one part more
least_of_more : (before : List RecordedPart) (p : RecordedPart) (least : List ℕ)
    → ((worker n : ℕ) → IsAt least worker n → IsLeastOf before worker n) → AllByRecursion (λ earlier. IsNotBefore earlier p) before
    → (worker n : ℕ) → IsAt (set least p.worker (least_after p.part p.part.result)) worker n → IsLeastOf (before ++ p ∷ []) worker n
least_of_more before p least old on worker n at = elim (at_set least p.worker (least_after p.part p.part.result) worker n at) [
  | inl here ↦
      let mine = here.0 in
      let value = here.1 in
      let least_is = no_less p p.part.result in
      record {
        above = λ k e stands same. elim (at_push before p k e stands) [
          | inl first ↦
              let low = there_all (λ earlier. IsNotBefore earlier p) before on k e first (sym mine ∙ sym same) in
              omega (arith, low, least_is, value)
          | inr last ↦
              let also : least_after e.part e.part.result ≡ least_after p.part p.part.result =
              ap (λ (q : RecordedPart). least_after q.part q.part.result) last.1 in
              omega (arith, also, value)
        ];
        one = λ some. (length before, p, at_end before p, sym mine, sym value);
      }
  | inr there ↦
      let before_it = old worker n there.1 in
      record {
        above = λ k e stands same. elim (at_push before p k e stands) [
          | inl first ↦ before_it.above k e first same
          | inr last ↦ absurd (there.0 (sym same ∙ ap (λ (q : RecordedPart). q.worker) last.1))
        ];
        one = λ some. let w = before_it.one some in (w.0, w.1, at_left before (p ∷ []) w.0 w.1 w.2, w.3, w.4);
      }
]

pub scan_goes_on : (u : UnitView) (k : ℕ) (p : RecordedPart) (least : List ℕ) (worker next : ℕ) → k < length u.parts → p ≡ get_or u.parts k p
    → AllByRecursion (PassesInUnit u) (checks_of_part (take k u.parts) p) → worker ≡ p.worker → next ≡ least_after p.part p.part.result
    → IsScannedTo u k least → IsScannedTo u (k + 1) (set least worker next)
scan_goes_on u k p least worker next low read passed worker_is next_is old =
    let front = taken u.parts k p low read in
    let rest : drop k u.parts ≡ p ∷ drop (k + 1) u.parts =
    drop_more u.parts k p low ∙ ap (λ (x : RecordedPart). x ∷ drop (k + 1) u.parts) (sym read) in
    record {
      workers = length-set least worker next ∙ old.workers;
      each = λ who n at.
          subst (λ (ps : List RecordedPart). IsLeastOf ps who n) (sym front)
          (least_of_more (take k u.parts) p least old.each passed.1.0 who n
          (subst (λ (xs : List ℕ). IsAt xs who n) (ap (λ (w : ℕ). set least w next) worker_is ∙ ap (λ (v : ℕ). set least p.worker v) next_is) at));
      leads =
          subst (λ (ps : List RecordedPart). Leads (PassesInUnit u) (part_checks ps (drop (k + 1) u.parts)) (part_checks [] u.parts)) (sym front)
          (leads_over (PassesInUnit u) (checks_of_part (take k u.parts) p) (part_checks (take k u.parts ++ p ∷ []) (drop (k + 1) u.parts))
          (part_checks [] u.parts) passed
          (subst (λ (ps : List RecordedPart). Leads (PassesInUnit u) (part_checks (take k u.parts) ps) (part_checks [] u.parts)) rest old.leads));
    }

pub scan_faults : (u : UnitView) (k : ℕ) (p : RecordedPart) (least : List ℕ) (fault : AuditFault) → k < length u.parts → p ≡ get_or u.parts k p
    → IsFirstAmong u (checks_of_part (take k u.parts) p) fault → IsScannedTo u k least → IsFirstAmong u (part_checks [] u.parts) fault
scan_faults u k p least fault low read found old =
    let rest : drop k u.parts ≡ p ∷ drop (k + 1) u.parts =
    drop_more u.parts k p low ∙ ap (λ (x : RecordedPart). x ∷ drop (k + 1) u.parts) (sym read) in
    let leads = subst (λ (ps : List RecordedPart). Leads (PassesInUnit u) (part_checks (take k u.parts) ps) (part_checks [] u.parts)) rest old.leads in
    record {
      check = found.check;
      first = leads.first found.check
          (first_of_front (PassesInUnit u) (checks_of_part (take k u.parts) p)
          (part_checks (take k u.parts ++ p ∷ []) (drop (k + 1) u.parts)) found.check found.first);
      is = found.is;
    }

pub scan_ends : (u : UnitView) (k : ℕ) (least : List ℕ) → k ≡ length u.parts → IsScannedTo u k least
    → AllByRecursion (PassesInUnit u) (part_checks [] u.parts)
scan_ends u k least is old =
    let none = drop_all k u.parts (omega (arith, is)) in
    (subst (λ (ps : List RecordedPart). Leads (PassesInUnit u) (part_checks (take k u.parts) ps) (part_checks [] u.parts)) none old.leads).all_pass tt

-- what the scan has kept for the worker of a part
pub least_there : (u : UnitView) (k : ℕ) (p : RecordedPart) (least : List ℕ) (worker : ℕ) → IsScannedTo u k least → worker ≡ p.worker
    → p.worker < most_workers → IsLeastOf (take k u.parts) p.worker (get_or least worker 0)
least_there u k p least worker scanned same few =
    let workers = scanned.workers in
    scanned.each p.worker (get_or least worker 0)
    (subst (λ (w : ℕ). IsAt least w (get_or least worker 0)) same (read_there least worker 0 (omega (arith, workers, same, few))))

pub few_entries : (u : UnitView) → IsKnownUnit u → (n : ℕ) → n ≤ length u.history → n ≤ 4194304
few_entries u known n low = let few = known.few in let limit = known.limit.1 in omega (arith, few, limit, low)
