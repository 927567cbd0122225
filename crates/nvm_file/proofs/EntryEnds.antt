-- What is left behind an entry of a history is an end of what was left before it.
use Rattle.std.proofs.Common.{◌≡◌, ℕ, zero, suc, ◌+◌, ◌*◌, ◌≤◌, ◌||◌, cond, ltb, List, [], ◌∷◌, ◌++◌, length, take, drop, take-append-drop, append_assoc, Result, Ok, refl, sym, ap, subst, ◌∙◌, arith}
use Rattle.nvm_record.specs.declared.lba_range.LbaRange.{LbaRange}
use Rattle.nvm_record.specs.Ranges.{most_ranges}
use Rattle.nvm_record.specs.Step.{Operation}
use Rattle.nvm_store.specs.declared.place.Place.{Place}
use Rattle.nvm_store.specs.HistoryEntry.{HistoryEntry}
use Rattle.nvm_audit.specs.declared.version.Version.{Version}
use Rattle.nvm_file.specs.declared.frame.Frame.{Frame}
use Rattle.nvm_file.specs.declared.record_fault.RecordFault.TheVariants.{BadValue, Truncated}
use Rattle.nvm_file.specs.EntryReading.{lies_in, range_in, write_at, zeroes_at, uncorrectable_at, fused_at, deallocate_at, last_kind, operation_of_kind, operation_at, entry_at}
use Rattle.nvm_file.specs.Fields.{◌>>=◌, offset, refused, bytes_at, number_at, number_in, number_below, items_at}
use Rattle.nvm_file.specs.Inside.Rest.{EndsWith}
use Rattle.nvm_file.proofs.EntrySpellings.{at_most_five}
use Rattle.nvm_file.proofs.Readings.{bind_ok, kept, ok_same, took, in_range as is_in}

ends_then : (a b c : List ℕ) → EndsWith a b → EndsWith b c → EndsWith a c
ends_then a b c first second =
    (first.0 ++ second.0, first.1 ∙ ap (λ (l : List ℕ). first.0 ++ l) second.1 ∙ sym (append_assoc first.0 second.0 c))

-- What is read leaves an end.
abbrev pub LeavesEnd : {A E : Type 0} → (List ℕ → Result (A × List ℕ) E) → Type 0
LeavesEnd {A} {E} read = (bytes : List ℕ) (x : A × List ℕ) → read bytes ≡ Ok x → EndsWith bytes x.1

dropped : (n : ℕ) (bytes : List ℕ) → EndsWith bytes (drop n bytes)
dropped n bytes = (take n bytes, sym (take-append-drop n bytes))

number_ends : (total n : ℕ) → LeavesEnd (number_at total n)
unfolding number_at
number_ends total n bytes x e =
    let g = kept (ltb (length bytes) n) (Truncated (offset total bytes)) _ x e in
    subst (λ (y : ℕ × List ℕ). EndsWith bytes y.1) g.1 (dropped n bytes)

in_ends : (total n low high : ℕ) → LeavesEnd (number_in total n low high)
unfolding number_in
in_ends total n low high bytes x e =
    let a = bind_ok (number_at total n bytes) (λ m. cond (ltb m.0 low || ltb high m.0) (refused total bytes) (Ok m)) x e in
    let g = kept (ltb a.0.0 low || ltb high a.0.0) (BadValue (offset total bytes)) a.0 x a.2 in
    number_ends total n bytes x (a.1 ∙ ap Ok g.1)

below_ends : (total n end : ℕ) → LeavesEnd (number_below total n end)
unfolding number_below
below_ends total n end bytes x e =
    let a = bind_ok (number_at total n bytes) (λ m. cond (ltb m.0 end) (Ok m) (refused total bytes)) x e in
    let g = took (ltb a.0.0 end) (BadValue (offset total bytes)) a.0 x a.2 in
    number_ends total n bytes x (a.1 ∙ ap Ok g.1)

run_ends : (total n : ℕ) → LeavesEnd (bytes_at total n)
unfolding bytes_at
run_ends total n bytes x e =
    let g = kept (ltb (length bytes) n) (Truncated (offset total bytes)) _ x e in
    subst (λ (y : List ℕ × List ℕ). EndsWith bytes y.1) g.1 (dropped n bytes)

module _ {A E : Type 0} (item : ℕ → List ℕ → Result (A × List ℕ) E) (ends : (i : ℕ) → LeavesEnd (item i)) where
  pub items_end : (place count : ℕ) → LeavesEnd (items_at item place count)
  unfolding items_at
  items_end place zero bytes x e = subst (λ (y : List A × List ℕ). EndsWith bytes y.1) (ok_same ([], bytes) x e) ([], refl)
  items_end place (suc count) bytes x e =
      let a = bind_ok (item place bytes) (λ first. items_at item (place + 1) count first.1 >>= λ others. Ok (first.0 ∷ others.0, others.1)) x e in
      let b = bind_ok (items_at item (place + 1) count a.0.1) (λ others. Ok (a.0.0 ∷ others.0, others.1)) x a.2 in
      subst (λ (y : List A × List ℕ). EndsWith bytes y.1) (ok_same (a.0.0 ∷ b.0.0, b.0.1) x b.2)
      (ends_then _ _ _ (ends place bytes a.0 a.1) (items_end (place + 1) count a.0.1 b.0 b.1))

range_ends : (total : ℕ) (place : Place) → LeavesEnd (range_in total place)
unfolding range_in
range_ends total place bytes x e =
    let a = bind_ok (number_at total 8 bytes) _ x e in
    let b = bind_ok (number_at total 4 a.0.1) _ x a.2 in
    let range : LbaRange = record { first = a.0.0; blocks = b.0.0 } in
    let g = took (lies_in place range) (BadValue (offset total a.0.1)) (range, b.0.1) x b.2 in
    subst (λ (y : LbaRange × List ℕ). EndsWith bytes y.1) g.1
    (ends_then _ _ _ (number_ends total 8 bytes a.0 a.1) (number_ends total 4 a.0.1 b.0 b.1))

-- An end is left behind what was done.
abbrev Leaves : List ℕ → Operation × List ℕ → Type 0
Leaves bytes x = EndsWith bytes x.1

write_ends : (total : ℕ) (place : Place) → LeavesEnd (write_at total place)
unfolding write_at
write_ends total place bytes x e =
    let a = bind_ok (range_in total place bytes) _ x e in
    let b = bind_ok (bytes_at total (a.0.0.blocks * place.size) a.0.1) _ x a.2 in
    subst (Leaves bytes) (ok_same _ x b.2)
    (ends_then _ _ _ (range_ends total place bytes a.0 a.1) (run_ends total (a.0.0.blocks * place.size) a.0.1 b.0 b.1))

zeroes_ends : (total : ℕ) (place : Place) → LeavesEnd (zeroes_at total place)
unfolding zeroes_at
zeroes_ends total place bytes x e =
    let a = bind_ok (range_in total place bytes) _ x e in
    subst (Leaves bytes) (ok_same _ x a.2) (range_ends total place bytes a.0 a.1)

mark_ends : (total : ℕ) (place : Place) → LeavesEnd (uncorrectable_at total place)
unfolding uncorrectable_at
mark_ends total place bytes x e =
    let a = bind_ok (range_in total place bytes) _ x e in
    subst (Leaves bytes) (ok_same _ x a.2) (range_ends total place bytes a.0 a.1)

fused_ends : (total : ℕ) (place : Place) → LeavesEnd (fused_at total place)
unfolding fused_at
fused_ends total place bytes x e =
    let a = bind_ok (range_in total place bytes) _ x e in
    let size = a.0.0.blocks * place.size in
    let b = bind_ok (bytes_at total (2 * size) a.0.1) _ x a.2 in
    subst (Leaves bytes) (ok_same _ x b.2)
    (ends_then _ _ _ (range_ends total place bytes a.0 a.1) (run_ends total (2 * size) a.0.1 b.0 b.1))

deallocate_ends : (total : ℕ) (place : Place) → LeavesEnd (deallocate_at total place)
unfolding deallocate_at
deallocate_ends total place bytes x e =
    let a = bind_ok (number_in total 2 1 most_ranges bytes) _ x e in
    let b = bind_ok (items_at (λ _. range_in total place) 0 a.0.0 a.0.1) _ x a.2 in
    subst (Leaves bytes) (ok_same _ x b.2)
    (ends_then _ _ _ (in_ends total 2 1 most_ranges bytes a.0 a.1)
    (items_end (λ _. range_in total place) (λ _. range_ends total place) 0 a.0.0 a.0.1 b.0 b.1))

by_kind : (kind total : ℕ) (place : Place) (bytes : List ℕ) (x : Operation × List ℕ) → kind ≤ 5 → operation_of_kind kind total place bytes ≡ Ok x
    → EndsWith bytes x.1
by_kind zero total place bytes x high e = deallocate_ends total place bytes x e
by_kind (suc zero) total place bytes x high e = write_ends total place bytes x e
by_kind (suc (suc zero)) total place bytes x high e = zeroes_ends total place bytes x e
by_kind (suc (suc (suc zero))) total place bytes x high e = mark_ends total place bytes x e
by_kind (suc (suc (suc (suc zero)))) total place bytes x high e = fused_ends total place bytes x e
by_kind (suc (suc (suc (suc (suc zero))))) total place bytes x high e = deallocate_ends total place bytes x e
by_kind (suc (suc (suc (suc (suc (suc n)))))) total place bytes x high e = absurd (omega (arith, high))

operation_ends : (total : ℕ) (version : Version) (place : Place) → LeavesEnd (operation_at total version place)
unfolding operation_at
operation_ends total version place bytes x e =
    let a = bind_ok (number_in total 1 1 (last_kind version) bytes) _ x e in
    let limits = is_in total 1 1 (last_kind version) bytes a.0 a.1 in
    let high : a.0.0 ≤ 5 = omega (arith, limits.1, at_most_five version) in
    ends_then _ _ _ (in_ends total 1 1 (last_kind version) bytes a.0 a.1) (by_kind a.0.0 total place a.0.1 x high a.2)

pub entry_ends : (frame : Frame) (place : Place) → LeavesEnd (entry_at frame place)
unfolding entry_at
entry_ends frame place bytes x e =
    let a = bind_ok (number_below frame.total 2 frame.workers bytes) _ x e in
    let b = bind_ok (number_below frame.total 4 frame.jobs a.0.1) _ x a.2 in
    let c = bind_ok (operation_at frame.total frame.version place b.0.1) _ x b.2 in
    subst (λ (y : HistoryEntry × List ℕ). EndsWith bytes y.1) (ok_same _ x c.2)
    (ends_then _ _ _ (below_ends frame.total 2 frame.workers bytes a.0 a.1)
    (ends_then _ _ _ (below_ends frame.total 4 frame.jobs a.0.1 b.0 b.1) (operation_ends frame.total frame.version place b.0.1 c.0 c.1)))
