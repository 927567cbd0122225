-- A file of evidence of either kind, read from its front.
use Rattle.std.specs.Prelude.{ℕ, ◌==◌, List, if◌then◌else◌, Result, Ok}
use Rattle.nvm_file.specs.Fields.{◌>>=◌}
use Rattle.nvm_evidence.specs.declared.evidence.Evidence.{Evidence}
use Rattle.nvm_evidence.specs.declared.evidence.Evidence.TheVariants.{Order, Contradiction}
use Rattle.nvm_evidence.specs.declared.evidence_fault.EvidenceFault.{EvidenceFault}
use Rattle.nvm_evidence.specs.ContradictionReading.{HeldContradictionView, contradiction_at, seen_held_contradiction}
use Rattle.nvm_evidence.specs.FrontReading.{evidence_kind_at, of_contradiction, of_order}
use Rattle.nvm_evidence.specs.OrderReading.{HeldOrderView, order_at, seen_held_order}

-- what a file of evidence holds
pub data EvidenceView : Type 0 where
  order : HeldOrderView → EvidenceView
  contradiction : HeldContradictionView → EvidenceView

abbrev pub seen_evidence : Evidence → EvidenceView
seen_evidence (Order held) = order (seen_held_order held)
seen_evidence (Contradiction held) = contradiction (seen_held_contradiction held)

-- what the bytes of a file of this kind read as
abbrev pub evidence_of : ℕ → List ℕ → Result EvidenceView EvidenceFault
evidence_of kind bytes =
    if kind == of_order then order_at bytes >>= (λ held. Ok (order held)) else
    contradiction_at bytes >>= (λ held. Ok (contradiction held))

-- what the bytes read as: their evidence, or the first fault that is met
unfoldable pub evidence_at : List ℕ → Result EvidenceView EvidenceFault
evidence_at bytes = do
  kind ← evidence_kind_at of_order of_contradiction bytes
  evidence_of kind.0 bytes
