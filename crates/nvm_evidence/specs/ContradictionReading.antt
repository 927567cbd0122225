-- A contradiction's file, read from its front (docs/FORMATS.md, "Contradiction").
use Rattle.std.specs.Prelude.{◌≡◌, ℕ, ◌==◌, List, length, if◌then◌else◌, Result, Ok}
use Rattle.nvm_standard.specs.declared.profile.Profile.{Profile}
use Rattle.nvm_standard.specs.Nodes.{node}
use Rattle.nvm_standard.specs.declared.contradiction.Conclusion.{Conclusion}
use Rattle.nvm_standard.specs.declared.contradiction.Conclusion.TheVariants.{Loop, Nobody, Nowhere}
use Rattle.nvm_standard.specs.declared.fact.Fact.{Fact}
use Rattle.nvm_standard.specs.declared.fact.Fact.TheVariants.{Time, Deallocate, Own, Source, Over, Under, First, AtFirst, TiedBefore, TiedAfter}
use Rattle.nvm_file.specs.Fields.{◌>>=◌}
use Rattle.nvm_evidence.specs.declared.evidence_fault.EvidenceFault.{EvidenceFault}
use Rattle.nvm_evidence.specs.declared.evidence.HeldContradiction.{HeldContradiction}
use Rattle.nvm_evidence.specs.Fields.{counted_at, kind_at, made, number_at, whole}
use Rattle.nvm_evidence.specs.FrontReading.{front_at, of_contradiction}

-- A contradiction, and what the device was held to where it was found.
pub record HeldContradictionView : Type 0 where
  pub profile : Profile
  pub facts : List Fact
  pub conclusion : Conclusion

abbrev pub seen_held_contradiction : HeldContradiction → HeldContradictionView
seen_held_contradiction held =
    record { profile = held.profile; facts = held.contradiction.facts.items; conclusion = held.contradiction.conclusion }

-- two numbers, three, and four
unfoldable pub two_at : ℕ → List ℕ → Result ((ℕ × ℕ) × List ℕ) EvidenceFault
two_at total bytes = do
  a ← number_at total 4 bytes
  b ← number_at total 4 a.1
  Ok ((a.0, b.0), b.1)

unfoldable pub three_at : ℕ → List ℕ → Result ((ℕ × ℕ × ℕ) × List ℕ) EvidenceFault
three_at total bytes = do
  a ← number_at total 4 bytes
  more ← two_at total a.1
  Ok ((a.0, more.0.0, more.0.1), more.1)

unfoldable pub four_at : ℕ → List ℕ → Result ((ℕ × ℕ × ℕ × ℕ) × List ℕ) EvidenceFault
four_at total bytes = do
  a ← number_at total 4 bytes
  more ← three_at total a.1
  Ok ((a.0, more.0.0, more.0.1, more.0.2), more.1)

-- the conclusion of this kind, 0 to 2
abbrev pub conclusion_by : ℕ → ℕ → List ℕ → Result (Conclusion × List ℕ) EvidenceFault
conclusion_by total kind bytes =
    if kind == 0 then Ok (Loop, bytes) else
    if kind == 1 then made (λ (reader, block). Nobody reader block) (two_at total bytes) else
    made Nowhere (number_at total 4 bytes)

-- the fact of this kind, 0 to 9
abbrev pub fact_by : ℕ → ℕ → List ℕ → Result (Fact × List ℕ) EvidenceFault
fact_by total kind bytes =
    if kind == 0 then made (λ (p, x, q, y). Time (node p x) (node q y)) (four_at total bytes) else
    if kind == 1 then made (λ (deallocate, writer, x). Deallocate deallocate writer x) (three_at total bytes) else
    if kind == 2 then made (λ (later, x). Own later x) (two_at total bytes) else
    if kind == 3 then made (λ (writer, reader, x). Source writer reader x) (three_at total bytes) else
    if kind == 4 then made (λ (reader, writer, x, source). Over reader writer x source) (four_at total bytes) else
    if kind == 5 then made (λ (writer, source, x, reader). Under writer source x reader) (four_at total bytes) else
    if kind == 6 then made (λ (reader, writer, x). First reader writer x) (three_at total bytes) else
    if kind == 7 then made (λ (reader, x). AtFirst reader x) (two_at total bytes) else
    if kind == 8 then made (λ (reader, x, entry, y). TiedBefore reader x entry y) (four_at total bytes) else
    made (λ (entry, reader, x, y). TiedAfter entry reader x y) (four_at total bytes)

-- what is absurd by the facts
unfoldable pub conclusion_at : ℕ → List ℕ → Result (Conclusion × List ℕ) EvidenceFault
conclusion_at total bytes = do
  kind ← kind_at total 0 2 bytes
  conclusion_by total kind.0 kind.1

-- a fact
unfoldable pub fact_at : ℕ → List ℕ → Result (Fact × List ℕ) EvidenceFault
fact_at total bytes = do
  kind ← kind_at total 0 9 bytes
  fact_by total kind.0 kind.1

-- what the bytes read as: their contradiction, or the first fault that is met
unfoldable pub contradiction_at : List ℕ → Result HeldContradictionView EvidenceFault
contradiction_at bytes = do
  front ← front_at of_contradiction bytes
  conclusion ← conclusion_at (length bytes) front.1
  facts ← counted_at (length bytes) (fact_at (length bytes)) conclusion.1
  whole (length bytes) (record { profile = front.0; facts = facts.0; conclusion = conclusion.0 }) facts.1

-- The bytes are a file of the contradiction, and of no other.
abbrev pub IsContradictionFile : List ℕ → HeldContradiction → Type 0
IsContradictionFile bytes held = contradiction_at bytes ≡ Ok (seen_held_contradiction held)
