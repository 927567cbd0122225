-- A lawful record has one text.
use Rattle.std.proofs.Common.{◌≡◌, ℕ, List, [], refl, sym, ap, ◌∙◌}
use Rattle.nvm_plan.specs.declared.completions.Completions.{Completions}
use Rattle.nvm_audit.specs.LawfulRecord.{IsLawfulRecord}
use Rattle.nvm_audit.specs.RecordedJob.{RecordedJob}
use Rattle.nvm_audit.specs.RecordView.{RecordView}
use Rattle.nvm_audit.proofs.OneList.{all_done, all_done_once}
use Rattle.nvm_engine.specs.Lines.{job_lines}
use Rattle.nvm_engine.specs.RecordLines.{IsTextOf}
use Rattle.nvm_engine.specs.declared.form.Form.TheVariants.{Short}
use Rattle.nvm_engine.proofs.Told.{lines_of, told_of, were_told}

module _ (r : RecordView) (lawful : IsLawfulRecord r) where
  pub text_alone : (text other : List ℕ) → IsTextOf r text → IsTextOf r other → text ≡ other
  text_alone text other a b =
      let (its, were, are) = were_told r.done 0 r.jobs a.told a.of in
      let (again, also, same) = were_told r.done 0 r.jobs b.told b.of in
      let told : a.told ≡ b.told =
      are ∙ ap (λ (ds : List RecordedJob). told_of r.jobs ds) (all_done_once r lawful its again were also) ∙ sym same in
      a.lines ∙ ap (λ (told : List Completions). job_lines Short [] r.jobs told) told ∙ sym b.lines

  pub text_some : (text : List ℕ) × IsTextOf r text
  text_some =
      let (its, were) = all_done r lawful in
      let text = job_lines Short [] r.jobs (told_of r.jobs its) in
      (text, lines_of Short [] r text its were refl)
