-- Entries of a unit's history that were read are spelled so.
use Rattle.std.proofs.Common.{◌≡◌, ℕ, zero, suc, ◌*◌, ◌%◌, ◌≤◌, List, [], ◌∷◌, ◌++◌, length, take, drop, take-append-drop, Ok, refl, sym, ap, subst, ◌∙◌, arith}
use Rattle.byteorder.specs.Endian.{little_bytes}
use Rattle.nvm_record.specs.declared.lba_range.LbaRange.{LbaRange}
use Rattle.nvm_record.specs.Ranges.{most_ranges}
use Rattle.nvm_record.specs.Step.{Operation}
use Rattle.nvm_store.specs.declared.place.Place.{Place}
use Rattle.nvm_store.specs.HistoryEntry.{HistoryEntry}
use Rattle.nvm_store.specs.Operation.{write_operation, zeroes_operation, uncorrectable_operation, pair_operation, ranges_operation}
use Rattle.nvm_audit.specs.declared.version.Version.{Version}
use Rattle.nvm_audit.specs.declared.version.Version.TheVariants.{One, Two}
use Rattle.nvm_file.specs.declared.frame.Frame.{Frame}
use Rattle.nvm_file.specs.declared.record_fault.RecordFault.TheVariants.{BadValue}
use Rattle.nvm_file.specs.EntryReading.{lies_in, range_in, write_at, zeroes_at, uncorrectable_at, fused_at, deallocate_at, last_kind, operation_of_kind, operation_at, entry_at, place_of, history_at}
use Rattle.nvm_file.specs.EntrySpelling.{change_bytes, cut_bytes, entry_bytes, history_bytes, kind_of}
use Rattle.nvm_file.specs.Fields.{offset, bytes_at, number_at, number_in, number_below, items_at}
use Rattle.nvm_file.proofs.FieldSpellings.{Takes, and_then, spelled_as, number_takes, in_takes, below_takes, run_takes, items_take, how_many, counted_takes}
use Rattle.nvm_file.proofs.NumberBytes.{IsBytes}
use Rattle.nvm_file.proofs.Readings.{bind_ok, took, ok_is, in_range as is_in}

range_takes : (total : ℕ) (place : Place) (bytes : List ℕ) (x : LbaRange × List ℕ) → IsBytes bytes → range_in total place bytes ≡ Ok x
    → Takes bytes (cut_bytes x.0) x.1
unfolding range_in
range_takes total place bytes x are e =
    let a = bind_ok (number_at total 8 bytes) _ x e in
    let b = bind_ok (number_at total 4 a.0.1) _ x a.2 in
    let range : LbaRange = record { first = a.0.0; blocks = b.0.0 } in
    let g = took (lies_in place range) (BadValue (offset total a.0.1)) (range, b.0.1) x b.2 in
    let first = number_takes total 8 bytes a.0 are a.1 in
    let blocks = number_takes total 4 a.0.1 b.0 first.rest_are b.1 in
    subst (λ (y : LbaRange × List ℕ). Takes bytes (cut_bytes y.0) y.1) g.1 (and_then _ _ _ _ _ first blocks)

-- the operation that was read, and what stands behind its kind
abbrev Changes : List ℕ → Operation × List ℕ → Type 0
Changes bytes x = Takes bytes (change_bytes x.0.first x.0.blocks x.0.deed) x.1

write_takes : (total : ℕ) (place : Place) (bytes : List ℕ) (x : Operation × List ℕ) → IsBytes bytes → write_at total place bytes ≡ Ok x
    → Changes bytes x × (kind_of x.0.deed ≡ 1)
unfolding write_at
write_takes total place bytes x are e =
    let a = bind_ok (range_in total place bytes) _ x e in
    let b = bind_ok (bytes_at total (a.0.0.blocks * place.size) a.0.1) _ x a.2 in
    let range = range_takes total place bytes a.0 are a.1 in
    let payload = run_takes total (a.0.0.blocks * place.size) a.0.1 b.0 range.rest_are b.1 in
    subst (λ (y : Operation × List ℕ). Changes bytes y × (kind_of y.0.deed ≡ 1))
    (ok_is (write_operation a.0.0.first a.0.0.blocks b.0.0, b.0.1) x b.2) (and_then _ _ _ _ _ range payload, refl)

zeroes_takes : (total : ℕ) (place : Place) (bytes : List ℕ) (x : Operation × List ℕ) → IsBytes bytes → zeroes_at total place bytes ≡ Ok x
    → Changes bytes x × (kind_of x.0.deed ≡ 2)
unfolding zeroes_at
zeroes_takes total place bytes x are e =
    let a = bind_ok (range_in total place bytes) _ x e in
    let range = range_takes total place bytes a.0 are a.1 in
    subst (λ (y : Operation × List ℕ). Changes bytes y × (kind_of y.0.deed ≡ 2))
    (ok_is (zeroes_operation a.0.0.first a.0.0.blocks, a.0.1) x a.2) (range, refl)

mark_takes : (total : ℕ) (place : Place) (bytes : List ℕ) (x : Operation × List ℕ) → IsBytes bytes → uncorrectable_at total place bytes ≡ Ok x
    → Changes bytes x × (kind_of x.0.deed ≡ 3)
unfolding uncorrectable_at
mark_takes total place bytes x are e =
    let a = bind_ok (range_in total place bytes) _ x e in
    let range = range_takes total place bytes a.0 are a.1 in
    subst (λ (y : Operation × List ℕ). Changes bytes y × (kind_of y.0.deed ≡ 3))
    (ok_is (uncorrectable_operation a.0.0.first a.0.0.blocks, a.0.1) x a.2) (range, refl)

fused_takes : (total : ℕ) (place : Place) (bytes : List ℕ) (x : Operation × List ℕ) → IsBytes bytes → fused_at total place bytes ≡ Ok x
    → Changes bytes x × (kind_of x.0.deed ≡ 4)
unfolding fused_at
fused_takes total place bytes x are e =
    let a = bind_ok (range_in total place bytes) _ x e in
    let size = a.0.0.blocks * place.size in
    let b = bind_ok (bytes_at total (2 * size) a.0.1) _ x a.2 in
    let range = range_takes total place bytes a.0 are a.1 in
    let payload = run_takes total (2 * size) a.0.1 b.0 range.rest_are b.1 in
    let both = spelled_as a.0.1 b.0.0 (take size b.0.0 ++ drop size b.0.0) b.0.1 (sym (take-append-drop size b.0.0)) payload in
    subst (λ (y : Operation × List ℕ). Changes bytes y × (kind_of y.0.deed ≡ 4))
    (ok_is (pair_operation a.0.0.first a.0.0.blocks (take size b.0.0) (drop size b.0.0), b.0.1) x b.2)
    (and_then _ _ _ _ _ range both, refl)

deallocate_takes : (total : ℕ) (place : Place) (bytes : List ℕ) (x : Operation × List ℕ) → IsBytes bytes
    → deallocate_at total place bytes ≡ Ok x → Changes bytes x × (kind_of x.0.deed ≡ 5)
unfolding deallocate_at
deallocate_takes total place bytes x are e =
    let a = bind_ok (number_in total 2 1 most_ranges bytes) _ x e in
    let b = bind_ok (items_at (λ _. range_in total place) 0 a.0.0 a.0.1) _ x a.2 in
    let count = in_takes total 2 1 most_ranges bytes a.0 are a.1 in
    let ranges = items_take cut_bytes (λ _. range_in total place) (λ i l y. range_takes total place l y) 0 a.0.0 a.0.1 b.0 count.rest_are b.1 in
    let many = how_many (λ _. range_in total place) 0 a.0.0 a.0.1 b.0 b.1 in
    let counted = spelled_as bytes (little_bytes 2 a.0.0) (little_bytes 2 (length b.0.0)) a.0.1 (ap (little_bytes 2) (sym many)) count in
    subst (λ (y : Operation × List ℕ). Changes bytes y × (kind_of y.0.deed ≡ 5))
    (ok_is (ranges_operation place.first place.blocks b.0.0, b.0.1) x b.2) (and_then _ _ _ _ _ counted ranges, refl)

-- The kind, and what stands behind it.
by_kind : (kind total : ℕ) (place : Place) (bytes : List ℕ) (x : Operation × List ℕ) → IsBytes bytes → 1 ≤ kind → kind ≤ 5
    → operation_of_kind kind total place bytes ≡ Ok x → Changes bytes x × (kind_of x.0.deed ≡ kind)
by_kind zero total place bytes x are low high e = absurd (omega (arith, low))
by_kind (suc zero) total place bytes x are low high e = write_takes total place bytes x are e
by_kind (suc (suc zero)) total place bytes x are low high e = zeroes_takes total place bytes x are e
by_kind (suc (suc (suc zero))) total place bytes x are low high e = mark_takes total place bytes x are e
by_kind (suc (suc (suc (suc zero)))) total place bytes x are low high e = fused_takes total place bytes x are e
by_kind (suc (suc (suc (suc (suc zero))))) total place bytes x are low high e = deallocate_takes total place bytes x are e
by_kind (suc (suc (suc (suc (suc (suc n)))))) total place bytes x are low high e = absurd (omega (arith, high))

pub at_most_five : (version : Version) → last_kind version ≤ 5
at_most_five One = omega arith
at_most_five Two = omega arith

operation_takes : (total : ℕ) (version : Version) (place : Place) (bytes : List ℕ) (x : Operation × List ℕ) → IsBytes bytes
    → operation_at total version place bytes ≡ Ok x
    → Takes bytes (kind_of x.0.deed ∷ change_bytes x.0.first x.0.blocks x.0.deed) x.1
unfolding operation_at
operation_takes total version place bytes x are e =
    let a = bind_ok (number_in total 1 1 (last_kind version) bytes) _ x e in
    let limits = is_in total 1 1 (last_kind version) bytes a.0 a.1 in
    let high : a.0.0 ≤ 5 = omega (arith, limits.1, at_most_five version) in
    let kind = in_takes total 1 1 (last_kind version) bytes a.0 are a.1 in
    let change = by_kind a.0.0 total place a.0.1 x kind.rest_are limits.0 high a.2 in
    let small : a.0.0 % 256 ≡ a.0.0 = omega (arith, high) in
    let byte = spelled_as bytes (little_bytes 1 a.0.0) (kind_of x.0.deed ∷ []) a.0.1 (ap (λ k. k ∷ []) (small ∙ sym change.1)) kind in
    and_then _ _ _ _ _ byte change.0

pub entry_takes : (frame : Frame) (place : Place) (bytes : List ℕ) (x : HistoryEntry × List ℕ) → IsBytes bytes
    → entry_at frame place bytes ≡ Ok x → Takes bytes (entry_bytes x.0) x.1
unfolding entry_at
entry_takes frame place bytes x are e =
    let a = bind_ok (number_below frame.total 2 frame.workers bytes) _ x e in
    let b = bind_ok (number_below frame.total 4 frame.jobs a.0.1) _ x a.2 in
    let c = bind_ok (operation_at frame.total frame.version place b.0.1) _ x b.2 in
    let pass = below_takes frame.total 2 frame.workers bytes a.0 are a.1 in
    let job = below_takes frame.total 4 frame.jobs a.0.1 b.0 pass.rest_are b.1 in
    let operation = operation_takes frame.total frame.version place b.0.1 c.0 job.rest_are c.1 in
    subst (λ (y : HistoryEntry × List ℕ). Takes bytes (entry_bytes y.0) y.1)
    (ok_is (record { pass = a.0.0; job = b.0.0; operation = c.0.0 }, c.0.1) x c.2)
    (and_then _ _ _ _ _ pass (and_then _ _ _ _ _ job operation))

pub history_takes : (frame : Frame) (unit : ℕ) (bytes : List ℕ) (x : List HistoryEntry × List ℕ) → IsBytes bytes
    → history_at frame unit bytes ≡ Ok x → Takes bytes (history_bytes x.0) x.1
unfolding history_at
history_takes frame unit bytes x are e =
    let item = λ (_ : ℕ). entry_at frame (place_of frame.geometry unit) in
    let a = bind_ok (number_in frame.total 4 0 frame.limit bytes) _ x e in
    let count = in_takes frame.total 4 0 frame.limit bytes a.0 are a.1 in
    counted_takes entry_bytes item (λ i l y. entry_takes frame (place_of frame.geometry unit) l y) bytes a.0 x count a.2
