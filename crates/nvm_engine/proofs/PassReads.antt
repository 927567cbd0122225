-- What a part reads by a pass has exactly the bytes of its blocks.
use Rattle.std.proofs.Common.{◌≡◌, ℕ, ◌*◌, List, [], ◌∷◌, length, Some, None, Result, Ok, Err, refl, sym, ap, subst, ◌∙◌, inl, inr}
use Rattle.std.specs.List.{AllByRecursion}
use Rattle.std.proofs.lemmas.Option.{none-some}
use Rattle.nvm_record.specs.Medium.{Medium, HasBlockSize}
use Rattle.nvm_record.specs.Step.{Deed, Operation, data_of}
use Rattle.nvm_store.specs.declared.place.Place.{Place}
use Rattle.nvm_store.specs.History.{replay_of, IsLawfulHistory}
use Rattle.nvm_store.specs.HistoryEntry.{HistoryEntry}
use Rattle.nvm_unit.specs.declared.replies.Changed.{Changed}
use Rattle.nvm_unit.specs.declared.replies.Changed.TheVariants.{Done, Failed, NoMemory, Full}
use Rattle.nvm_unit.specs.declared.replies.Observed.{Observed}
use Rattle.nvm_unit.specs.declared.replies.ObserveFault.{ObserveFault}
use Rattle.nvm_unit.specs.declared.replies.ObserveFault.TheVariants as observe_fault
use Rattle.nvm_unit.specs.declared.views.PassView.{PassView}
use Rattle.nvm_unit.specs.Replies.{AnswersLook, medium_at}
use Rattle.nvm_space.specs.Trace.{PartDone, DoesPart, DoesParts, reply_of_change, reply_of_look}
use Rattle.nvm_engine.proofs.PassPlaces.{HaveBounds, step_keeps}

-- Lawful histories lead to media of their unit's block size.
abbrev pub KeepSizes : Type 0
KeepSizes = (place : Place) (history : List HistoryEntry) → IsLawfulHistory place history → HasBlockSize place.size (replay_of place.size history)

-- What is read of a medium of a block size has exactly the bytes of its blocks.
abbrev pub ReadsAreWhole : Type 0
ReadsAreWhole =
    (size : ℕ) (op : Operation) (m : Medium) (payload : List ℕ) → HasBlockSize size m → data_of op m ≡ Some payload
    → length payload ≡ op.blocks * size

-- All passes are of units of this block size.
abbrev pub HaveSize : ℕ → List PassView → Type 0
HaveSize size views = HaveBounds (λ k b. b.place.size ≡ size) views

-- What the part read, where it read anything, has exactly the bytes of its blocks.
abbrev pub ReadsItsBytes : ℕ → PartDone → Type 0
ReadsItsBytes size did = (bytes : List ℕ) → did.reply.payload ≡ Some bytes → length bytes ≡ did.operation.blocks * size

nothing_read : (unit : ℕ) (deed : Deed) (changed : Changed) → (reply_of_change unit deed changed).payload ≡ None
nothing_read unit deed (Done point) = refl
nothing_read unit deed (Failed point statuses) = refl
nothing_read unit deed (NoMemory point) = refl
nothing_read unit deed (Full point) = refl

-- what a look reads is what the step reads of its medium
look_reads : (unit entries : ℕ) (op : Operation) (m : Medium) (answer : Result Observed ObserveFault) (bytes : List ℕ)
    → AnswersLook answer entries op m → (reply_of_look unit op.deed answer).payload ≡ Some bytes → data_of op m ≡ Some bytes
look_reads unit entries op m (Ok observed) bytes answers read = sym answers.1.1 ∙ read
look_reads unit entries op m (Err (observe_fault.NoMemory point)) bytes answers read = absurd (none-some bytes read)

module _ (keep : KeepSizes) (whole : ReadsAreWhole) where
  part_reads : (did : PartDone) (p q : PassView) → DoesPart did p q → ReadsItsBytes p.bounds.place.size did
  part_reads did p q (inl change) bytes read =
      absurd (none-some bytes
      (sym (nothing_read did.reply.part.unit did.operation.deed change.1) ∙ sym (ap (λ (r : _). r.payload) change.3) ∙ read))
  part_reads did p q (inr look) bytes read =
      let observed = look.2 in
      let history = observed.0 in
      whole p.bounds.place.size did.operation (medium_at p.bounds history) bytes (keep p.bounds.place history observed.1.lawful.lawful)
      (look_reads did.reply.part.unit (length history) did.operation (medium_at p.bounds history) look.1 bytes observed.2
      (sym (ap (λ (r : _). r.payload) look.3) ∙ read))

  -- Each part that was done by passes of one block size read exactly the bytes of its blocks.
  pub parts_read : (size : ℕ) (acts : List PartDone) (old new : List PassView) → DoesParts (λ unit. unit) acts old new → HaveSize size old
      → AllByRecursion (ReadsItsBytes size) acts
  parts_read size [] old new does have = tt
  parts_read size (did ∷ rest) old new does have =
      let becomes = does.1 in
      let first : ReadsItsBytes size did =
      subst (λ (n : ℕ). ReadsItsBytes n did) (have did.reply.part.unit becomes.before becomes.was)
      (part_reads did becomes.before becomes.after becomes.so) in (
        first,
        parts_read size rest does.0 new does.2
            (step_keeps (λ k b. b.place.size ≡ size) did.reply.part.unit did old does.0 becomes have),
      )
