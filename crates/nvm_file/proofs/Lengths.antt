-- The lists of a record are no longer than the fields of their lengths hold.
use Rattle.std.proofs.Common.{◌≡◌, inl, inr, ℕ, ◌<◌, ◌^◌, List, [], length, map, get_or, All, Vec, sym, ap, subst, ◌∙◌, arith, IsTrue, not}
use Rattle.std.proofs.lemmas.Bool.{false≢true}
use Rattle.std.proofs.lemmas.List.{get_or-map, length-map}
use Rattle.nvm_record.specs.Deeds.{is_deallocate}
use Rattle.nvm_record.specs.Lists.{IsAt}
use Rattle.nvm_record.specs.Step.{Deed, Operation, writes, zeroes, uncorrectable, reads, compares, pairs, deallocates}
use Rattle.nvm_store.specs.declared.place.Place.{Place}
use Rattle.nvm_store.specs.HistoryEntry.{HistoryEntry}
use Rattle.nvm_audit.specs.declared.version.Version.{Version}
use Rattle.nvm_audit.specs.declared.version.Version.TheVariants.{One, Two}
use Rattle.nvm_audit.specs.Recordable.{HoldsKind, HoldsLimit, IsDeallocateOfUnit, IsRecordable, IsRecordableHistory, IsRecordableWork}
use Rattle.nvm_audit.specs.RecordedJob.{RecordedJob}
use Rattle.nvm_audit.specs.RecordView.{RecordView}
use Rattle.nvm_file.proofs.Places.{at_mapped}
use Rattle.nvm_file.specs.Inside.Short.{IsShortDeed, IsShortHistory, IsShortWork}

on_range : (deed : Deed) → IsTrue (not (is_deallocate deed)) → IsShortDeed deed
on_range (writes payload) h = tt
on_range zeroes h = tt
on_range uncorrectable h = tt
on_range reads h = tt
on_range (compares payload) h = tt
on_range (pairs payload new) h = tt
on_range (deallocates ranges) h = absurd (false≢true h)

of_unit : (place : Place) (op : Operation) → IsDeallocateOfUnit place op → IsShortDeed op.deed
of_unit place op h = subst IsShortDeed (sym h.deed) h.few

short_deed : (version : Version) (place : Place) (op : Operation) → HoldsKind version place op → IsShortDeed op.deed
short_deed One place op h = on_range op.deed h
short_deed Two place op (inl h) = on_range op.deed h
short_deed Two place op (inr h) = of_unit place op h

within_limit : (version : Version) (limit : ℕ) → HoldsLimit version limit → limit < 2 ^ 32
within_limit One limit h = omega (arith, h.1)
within_limit Two limit h = omega (arith, h.1)

short_history : (r : RecordView) → IsRecordable r → (unit : ℕ) (history : List HistoryEntry) → IsRecordableHistory r unit history
    → IsShortHistory history
short_history r can unit history h =
    record {
      few = omega (arith, h.few, within_limit r.version r.limit can.limit);
      each = λ k d below. short_deed r.version h.place (get_or history k d).operation (h.each k d below).kind;
    }

short_work : (r : RecordView) → IsRecordable r → (work : List RecordedJob) → IsRecordableWork r work → IsShortWork work
short_work r can work h =
    record {
      few = omega (arith, h.few);
      each = λ k d below. omega (arith, (h.each k d below).few, can.namespace.units);
    }

-- each unit's history, where the record's are mapped from these
pub short_units : {A : Type 0} (r : RecordView) → IsRecordable r → (histories : List (Vec HistoryEntry A))
    → r.units ≡ map (λ history. history.items) histories → All (λ history. IsShortHistory history.items) histories
short_units r can histories is k d below =
    let history = (get_or histories k d).items in
    let at : IsAt r.units k history = subst (λ l. IsAt l k history) (sym is) (at_mapped (λ h. h.items) histories k d below) in
    short_history r can k history (can.units k history at)

-- and what each worker did
pub short_works : {A : Type 0} (r : RecordView) → IsRecordable r → (works : List (Vec RecordedJob A))
    → r.done ≡ map (λ work. work.items) works → All (λ work. IsShortWork work.items) works
short_works r can works is k d below =
    let long : k < length r.done = subst (λ n. k < n) (sym (ap length is ∙ length-map works (λ work. work.items))) below in
    let read : get_or r.done k [] ≡ (get_or works k d).items =
    ap (λ l. get_or l k []) is ∙ get_or-map (λ work. work.items) works k d [] below in
    short_work r can (get_or works k d).items (subst (IsRecordableWork r) read (can.done k [] long))
