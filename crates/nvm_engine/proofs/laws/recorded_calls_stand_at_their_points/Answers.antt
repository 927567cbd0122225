use Rattle.std.proofs.Common.{◌≡◌, ◌⊎◌, ℕ, List, true, ap, ◌∙◌, sym, inl, inr, take}
use Rattle.nvm_record.specs.Lists.{IsAt}
use Rattle.nvm_plan.specs.declared.part.PartResult.{PartResult}
use Rattle.nvm_plan.specs.declared.part.PartResult.TheVariants.{Failed, Looked}
use Rattle.nvm_store.specs.Call.{Call}
use Rattle.nvm_store.specs.HistoryEntry.{HistoryEntry}
use Rattle.nvm_space.specs.Shuffle.{StandsAtItsPoint, entries_of_unit}
use Rattle.nvm_audit.specs.LawfulRecord.{IsLawfulRecord}
use Rattle.nvm_audit.specs.RecordedCalls.{IsCallOfPart}
use Rattle.nvm_audit.specs.RecordedPart.{RecordedPart, parts_in_unit}
use Rattle.nvm_audit.specs.RecordView.{RecordView}
use Rattle.nvm_audit.proofs.OneActs.{KeepsLooks, HasPart, ShapesByPlan}
use Rattle.nvm_audit.proofs.RecordRuns.{is_call, CoversParts}
use Rattle.nvm_audit.proofs.RecordRuns as records
use Rattle.nvm_engine.proofs.laws.recorded_calls_stand_at_their_points.Goals as goal

rests : (result : PartResult) → (result ≡ Looked) ⊎ (result ≡ Failed) → is_call result ≡ true
rests result (inl e) = ap is_call e
rests result (inr e) = ap is_call e

module _ (looks : KeepsLooks) (has_part : HasPart) (covers : CoversParts) (shapes : ShapesByPlan) where
  stands : (r : RecordView) (unit k : ℕ) (history before : List HistoryEntry) (p : RecordedPart)
      → IsLawfulRecord r → IsAt r.units unit history → IsAt (parts_in_unit unit r.done) k p
      → (p.part.result ≡ Looked) ⊎ (p.part.result ≡ Failed)
      → entries_of_unit r.namespace unit before ≡ take p.part.point history
      → (call : Call) × IsCallOfPart r.namespace r.jobs p call × StandsAtItsPoint r.namespace r.units before call
  stands r unit k history before p lawful there at looked holds =
      let its = records.its looks has_part covers shapes r lawful unit history there in
      let good = records.good looks has_part covers shapes r lawful unit history there k p at (rests p.part.result looked) in
      let its_point : good.call.point ≡ p.part.point = ap (λ (c : Call). c.point) good.of.is in (
        good.call,
        good.of,
        record {
          unit = unit;
          history = history;
          place = its.place;
          its = there;
          lies = its.lies;
          on = good.on;
          holds = holds ∙ ap (λ (n : ℕ). take n history) (sym its_point);
        },
      )

pub returns-clause-stands : goal.returns-clause-stands
returns-clause-stands c = λ r unit k history before p lawful there at looked holds.
    stands c.parts_keep_their_kind.ensures.look c.parts_of_jobs.ensures.part c.parts_of_jobs.ensures.covered c.shapes_by_plan.ensures.ready
    r unit k history before p lawful there at looked holds

pub returns-clause-answer : goal.returns-clause-answer
returns-clause-answer c = λ r unit k n history all p lawful shuffle there at looked holds.
    let found = stands c.parts_keep_their_kind.ensures.look c.parts_of_jobs.ensures.part c.parts_of_jobs.ensures.covered c.shapes_by_plan.ensures.ready
    r unit k history (take n all) p lawful there at looked holds in (
      found.0,
      found.1,
      c.calls_keep_their_answers.ensures.answer r.namespace r.units all n found.0
          (record {
            count = lawful.complete.all_units;
            each = λ u h where_. let its = lawful.units u h where_ in (its.place, its.lies, its.lawful);
          }) shuffle found.2,
    )
