-- Where the units of passes lie: a part leaves it, whatever it does.
use Rattle.std.proofs.Common.{◌≡◌, ℕ, zero, suc, List, [], ◌∷◌, map, refl, sym, ap, subst, ◌∙◌, inl, inr}
use mathlib.Core.Option.{some-injective, some-ne-none}
use Rattle.nvm_record.specs.Lists.{IsAt}
use Rattle.nvm_geometry.specs.Large.{regions_of}
use Rattle.nvm_geometry.specs.Namespace.{Namespace}
use Rattle.nvm_plan.specs.declared.job.Job.{Job}
use Rattle.nvm_plan.specs.UnitPlace.{IsUnitPlace}
use Rattle.nvm_store.specs.HistoryEntry.{HistoryEntry}
use Rattle.nvm_unit.specs.declared.bounds.Bounds.{Bounds}
use Rattle.nvm_unit.specs.declared.replies.Changed.{Changed}
use Rattle.nvm_unit.specs.declared.replies.Changed.TheVariants.{Done, Failed, NoMemory, Full}
use Rattle.nvm_unit.specs.declared.views.PassView.{PassView}
use Rattle.nvm_unit.specs.Ends.{views_of}
use Rattle.nvm_unit.specs.Passes.{UnitName}
use Rattle.nvm_unit.specs.Replies.{pass_after}
use Rattle.nvm_space.specs.Ports.{new_pass, new_port}
use Rattle.nvm_space.specs.Spaces.{SpaceName, IsLaidOut}
use Rattle.nvm_space.specs.Trace.{PartDone, DoesPart, DoesParts}
use Rattle.nvm_space.specs.Visits.{BecomesAt}
use Rattle.nvm_audit.specs.RecordedJob.{RecordedJob}
use Rattle.nvm_engine.specs.DoneJobs.{HasDoneJob}
use Rattle.nvm_engine.proofs.InLists.{was_there}

-- Something holds of what is settled of each pass's unit.
abbrev pub HaveBounds : (ℕ → Bounds → Type 0) → List PassView → Type 0
HaveBounds P views = (k : ℕ) (view : PassView) → IsAt views k view → P k view.bounds

-- The passes are of units of the namespace, each at the place of its unit.
abbrev pub AreInTheirUnits : Namespace → List PassView → Type 0
AreInTheirUnits ns views = (k : ℕ) (view : PassView) → IsAt views k view → IsUnitPlace ns k view.bounds.place

bounds_after : (changed : Changed) (history : List HistoryEntry) (entry : HistoryEntry) (p : PassView)
    → (pass_after changed history entry p).bounds ≡ p.bounds
bounds_after (Done point) history entry p = refl
bounds_after (Failed point statuses) history entry p = refl
bounds_after (NoMemory point) history entry p = refl
bounds_after (Full point) history entry p = refl

-- a part leaves where its pass's unit lies
pub bounds_kept : (did : PartDone) (p q : PassView) → DoesPart did p q → q.bounds ≡ p.bounds
bounds_kept did p q (inl change) =
    let made = change.2 in
    ap (λ (view : PassView). view.bounds) made.3 ∙ bounds_after change.1 made.0 _ p
bounds_kept did p q (inr look) =
    let observed = look.2 in
    ap (λ (view : PassView). view.bounds) observed.3

module _ (P : ℕ → Bounds → Type 0) where
  pub step_keeps : (k : ℕ) (did : PartDone) (old new : List PassView) → BecomesAt k (DoesPart did) old new → HaveBounds P old
      → HaveBounds P new
  step_keeps k did old new becomes have j view at =
      elim (was_there old k j becomes.after view (subst (λ (views : List PassView). IsAt views j view) becomes.others at)) [
        | inl here ↦
            let same : view.bounds ≡ becomes.before.bounds =
            ap (λ (v : PassView). v.bounds) here.1 ∙ bounds_kept did becomes.before becomes.after becomes.so in
            rw (here.0, same) (have k becomes.before becomes.was)
        | inr there ↦ have j view there
      ]

  -- What is settled of the passes' units stays.
  pub bounds_stay : (acts : List PartDone) (old new : List PassView) → DoesParts (λ unit. unit) acts old new → HaveBounds P old → HaveBounds P new
  bounds_stay [] old new same have = subst (HaveBounds P) (sym same) have
  bounds_stay (did ∷ rest) old new does have =
      bounds_stay rest does.0 new does.2 (step_keeps did.reply.part.unit did old does.0 does.1 have)

-- what a new port's passes are of
new_view : (worker : ℕ) (units : List UnitName) (k : ℕ) (view : PassView) → IsAt (views_of (map (new_pass worker) units)) k view
    → (unit : UnitName) × IsAt units k unit × (view.bounds ≡ unit.bounds)
new_view worker [] k view at = absurd (some-ne-none view (sym at))
new_view worker (unit ∷ units) zero view at = (unit, refl, ap (λ (v : PassView). v.bounds) (sym (some-injective _ view at)))
new_view worker (unit ∷ units) (suc k) view at = new_view worker units k view at

-- Where each unit is a region, the passes of a new port are of units of the namespace.
pub new_port_lies : (s : SpaceName) (worker : ℕ) → regions_of s.namespace ≡ s.namespace → IsLaidOut s → AreInTheirUnits s.namespace (views_of (new_port s.units worker).passes)
new_port_lies s worker alike laid k view at =
    let found = new_view worker s.units k view at in
    rw found.2 (subst (λ (ns : Namespace). IsUnitPlace ns k found.0.bounds.place) alike (laid.each k found.0 found.1).place)

-- Passes of units of the namespace stay so.
pub places_stay : (ns : Namespace) (jobs : List Job) (d : RecordedJob) (old new : List PassView) → HasDoneJob ns jobs d old new
    → AreInTheirUnits ns old → AreInTheirUnits ns new
places_stay ns jobs d old new done places = bounds_stay (λ k b. IsUnitPlace ns k b.place) done.parts old new done.does places
