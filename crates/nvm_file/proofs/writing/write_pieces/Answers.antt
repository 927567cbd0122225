use Rattle.std.proofs.Common.{◌≡◌, ◌++◌, All, ap, map, refl, subst, sym}
use Rattle.std.specs.List.{flat_map}
use Rattle.std.proofs.lemmas.List.Elements.{All-map}
use Rattle.nvm_text.specs.Handed.{TakesFront}
use Rattle.nvm_text.proofs.Taking.{behind, first_of, on_err, on_err_then, on_ok_then, within}
use Rattle.nvm_audit.specs.declared.record.Record.TheInside.{Inside}
use Rattle.nvm_audit.specs.Recordable.{IsRecordable}
use Rattle.nvm_audit.specs.RecordView.{RecordView}
use Rattle.nvm_audit.specs.Shown.{shown_by}
use Rattle.nvm_file.specs.Counted.{counted}
use Rattle.nvm_file.specs.EntrySpelling.{history_bytes}
use Rattle.nvm_file.specs.Fits.{DoneFits, FitsItsFields, JobFits, NumbersFit}
use Rattle.nvm_file.specs.HeadSpelling.{head_bytes}
use Rattle.nvm_file.specs.JobSpelling.{job_bytes}
use Rattle.nvm_file.specs.Spelling.{record_bytes}
use Rattle.nvm_file.specs.WorkSpelling.{work_bytes}
use Rattle.nvm_file.proofs.Lengths.{short_units, short_works}
use Rattle.nvm_file.proofs.writing.write_pieces.Goals as goal

-- The numbers of a record fit where those of its parts do.
fit_of : (inside : Inside) (r : RecordView) → shown_by inside ≡ r → NumbersFit r.namespace → All JobFits inside.jobs.items
    → All (λ work. All DoneFits work.items) inside.done.items → FitsItsFields r
fit_of inside r view namespace jobs done =
    record {
      namespace = namespace;
      jobs = subst (λ (v : RecordView). All JobFits v.jobs) view jobs;
      done = subst (λ (v : RecordView). All (All DoneFits) v.done) view (All-map (All DoneFits) (λ work. work.items) inside.done.items done);
    }

pub returns-in_err-write_head-clause-front : goal.returns-in_err-write_head-clause-front
returns-in_err-write_head-clause-front g c =
    let r = c.args.run.now in
    within c.from_residual.result _ _ _ (head_bytes r) (counted job_bytes r.jobs ++ (flat_map history_bytes r.units ++ flat_map work_bytes r.done))
    refl c.in_err-write_head.ensures.front

pub returns-in_err-write_jobs-clause-front : goal.returns-in_err-write_jobs-clause-front
returns-in_err-write_jobs-clause-front g c =
    let r = shown_by c.run.inside in
    let after = flat_map history_bytes r.units ++ flat_map work_bytes r.done in
    on_err c.from_residual-in_err-write_jobs.result (subst (TakesFront _ _) (ap record_bytes c.run.view_is)
    (behind _ _ _ _ (head_bytes r) (counted job_bytes r.jobs ++ after) (ap head_bytes (sym c.run.view_is)) c.in_ok-write_head.ensures.whole
    (first_of _ _ _ (counted job_bytes r.jobs) after (ap (counted job_bytes) c.deref.ensures.value) c.in_err-write_jobs.ensures.front)))

pub write_units-requires : goal.write_units-requires
write_units-requires g c = rw c.deref-2.ensures.value (short_units (shown_by c.run.inside) c.run.invariant c.run.inside.units.items refl)

pub returns-in_err-write_units-clause-front : goal.returns-in_err-write_units-clause-front
returns-in_err-write_units-clause-front g c =
    let r = shown_by c.run.inside in
    let units = flat_map history_bytes r.units in
    let done = flat_map work_bytes r.done in
    on_err c.from_residual-in_err-write_units.result (subst (TakesFront _ _) (ap record_bytes c.run.view_is)
    (behind _ _ _ _ (head_bytes r) (counted job_bytes r.jobs ++ (units ++ done)) (ap head_bytes (sym c.run.view_is)) c.in_ok-write_head.ensures.whole
    (behind _ _ _ _ (counted job_bytes r.jobs) (units ++ done) (ap (counted job_bytes) c.deref.ensures.value) c.in_ok-write_jobs.ensures.whole
    (first_of _ _ _ units done (ap (λ l. flat_map history_bytes (map (λ h. h.items) l)) c.deref-2.ensures.value) c.in_err-write_units.ensures.front))))

pub write_workers-requires : goal.write_workers-requires
write_workers-requires g c = rw c.deref-3.ensures.value (short_works (shown_by c.run.inside) c.run.invariant c.run.inside.done.items refl)

pub returns-clause-front : goal.returns-clause-front
returns-clause-front g c =
    let r = shown_by c.run.inside in
    let units = flat_map history_bytes r.units in
    let done = flat_map work_bytes r.done in
    on_err_then c.write_workers.result (λ failed. subst (TakesFront _ _) (ap record_bytes c.run.view_is)
    (behind _ _ _ _ (head_bytes r) (counted job_bytes r.jobs ++ (units ++ done)) (ap head_bytes (sym c.run.view_is)) c.in_ok-write_head.ensures.whole
    (behind _ _ _ _ (counted job_bytes r.jobs) (units ++ done) (ap (counted job_bytes) c.deref.ensures.value) c.in_ok-write_jobs.ensures.whole
    (behind _ _ _ _ units done (ap (λ l. flat_map history_bytes (map (λ h. h.items) l)) c.deref-2.ensures.value) c.in_ok-write_units.ensures.whole
    (subst (TakesFront _ _) (ap (λ l. flat_map work_bytes (map (λ w. w.items) l)) c.deref-3.ensures.value) failed))))) c.write_workers.ensures.front

pub returns-clause-fits : goal.returns-clause-fits
returns-clause-fits g c =
    on_ok_then c.write_workers.result (fit_of c.run.inside c.args.run.now c.run.view_is c.in_ok-write_head.ensures.fit
    (subst (All JobFits) c.deref.ensures.value c.in_ok-write_jobs.ensures.fit))
    (on_ok_then c.write_workers.result (subst (All (λ work. All DoneFits work.items)) c.deref-3.ensures.value) c.write_workers.ensures.fit)

pub returns-clause-file : goal.returns-clause-file
returns-clause-file g c =
    on_ok_then c.write_workers.result (λ fits. c.spellings_are_files.ensures.read c.args.run.now (subst IsRecordable c.run.view_is c.run.invariant) fits)
    (returns-clause-fits g c)
