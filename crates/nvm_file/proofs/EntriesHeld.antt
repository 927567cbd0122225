-- An entry that is read is one that a record of its version can hold.
use Rattle.std.proofs.Common.{◌≡◌, ◌≢◌, ℕ, ◌+◌, ◌*◌, ◌<◌, ◌≤◌, cond, ◌&&◌, eqb, ltb, leb, List, [], length, take, drop, Ok, inl, inr, refl, ap, subst, arith}
use Rattle.std.proofs.lemmas.Bool.{and_parts, eqb-false, leb-true, ltb-true}
use Rattle.std.proofs.lemmas.List.{length-take, length-drop}
use Rattle.nvm_record.specs.declared.lba_range.LbaRange.{LbaRange}
use Rattle.nvm_record.specs.Deeds.{IsAct, IsOnRange}
use Rattle.nvm_record.specs.Ranges.{most_ranges}
use Rattle.nvm_record.specs.Step.{Operation}
use Rattle.nvm_store.specs.declared.place.Place.{Place}
use Rattle.nvm_store.specs.HistoryEntry.{HistoryEntry}
use Rattle.nvm_store.specs.Operation.{write_operation, zeroes_operation, uncorrectable_operation, pair_operation, ranges_operation}
use Rattle.nvm_store.specs.Place.{IsCovered, IsWithin}
use Rattle.nvm_audit.specs.declared.version.Version.{Version}
use Rattle.nvm_audit.specs.declared.version.Version.TheVariants.{One, Two}
use Rattle.nvm_audit.specs.Recordable.{HoldsKind}
use Rattle.nvm_file.specs.declared.frame.Frame.{Frame}
use Rattle.nvm_file.specs.declared.record_fault.RecordFault.TheVariants.{BadValue}
use Rattle.nvm_file.specs.EntryReading.{deallocate_at, entry_at, fused_at, last_kind, lies_in, operation_at, operation_of_kind, range_in, uncorrectable_at, write_at, zeroes_at}
use Rattle.nvm_file.specs.Fields.{◌>>=◌, bytes_at, items_at, number_at, number_below, number_in, offset, refused}
use Rattle.nvm_file.proofs.Readings.{bind_ok, chosen, each_holds, has_length, in_range, is_below, ok_is, took}

-- What holds of what was done, where it was read.
pub record IsHeldOperation (version : Version) (place : Place) (op : Operation) : Type 0 where
  pub act : IsAct op.deed
  pub covered : IsCovered place op
  pub kind : HoldsKind version place op

-- What holds of an entry that was read.
pub record IsHeldEntry (frame : Frame) (place : Place) (entry : HistoryEntry) : Type 0 where
  pub pass : entry.pass < frame.workers
  pub job : entry.job < frame.jobs
  pub operation : IsHeldOperation frame.version place entry.operation

abbrev range_with : ℕ → ℕ → LbaRange
range_with first blocks = record { first = first; blocks = blocks }

on_range : (version : Version) (place : Place) (op : Operation) → IsOnRange op.deed → HoldsKind version place op
on_range One place op h = h
on_range Two place op h = inl h

range_held : (total : ℕ) (place : Place) (bytes : List ℕ) (x : LbaRange × List ℕ) → range_in total place bytes ≡ Ok x
    → IsWithin place x.0.first x.0.blocks
unfolding range_in
range_held total place bytes x e =
    let a = bind_ok (number_at total 8 bytes)
    (λ first. number_at total 4 first.1 >>= λ blocks. cond (lies_in place (range_with first.0 blocks.0))
    (Ok (range_with first.0 blocks.0, blocks.1)) (refused total first.1)) x e in
    let b = bind_ok (number_at total 4 a.0.1)
    (λ blocks. cond (lies_in place (range_with a.0.0 blocks.0)) (Ok (range_with a.0.0 blocks.0, blocks.1)) (refused total a.0.1)) x a.2 in
    let r = range_with a.0.0 b.0.0 in
    let g = took (lies_in place r) (BadValue (offset total a.0.1)) (r, b.0.1) x b.2 in
    let h = and_parts (ltb 0 r.blocks) (leb place.first r.first && leb (r.first + r.blocks) (place.first + place.blocks)) g.0 in
    let k = and_parts (leb place.first r.first) (leb (r.first + r.blocks) (place.first + place.blocks)) h.1 in
    subst (λ (y : LbaRange × List ℕ). IsWithin place y.0.first y.0.blocks) g.1
    (record { some = ltb-true _ _ h.0; above = leb-true _ _ k.0; below = leb-true _ _ k.1 })

module _ (version : Version) (place : Place) (total : ℕ) (bytes : List ℕ) (x : Operation × List ℕ) where
  write_held : write_at total place bytes ≡ Ok x → IsHeldOperation version place x.0
  unfolding write_at
  write_held e =
      let a = bind_ok (range_in total place bytes)
      (λ range. bytes_at total (range.0.blocks * place.size) range.1
      >>= λ payload. Ok (write_operation range.0.first range.0.blocks payload.0, payload.1)) x e in
      let b = bind_ok (bytes_at total (a.0.0.blocks * place.size) a.0.1)
      (λ payload. Ok (write_operation a.0.0.first a.0.0.blocks payload.0, payload.1)) x a.2 in
      let op = write_operation a.0.0.first a.0.0.blocks b.0.0 in
      subst (λ (y : Operation × List ℕ). IsHeldOperation version place y.0) (ok_is (op, b.0.1) x b.2)
      (record {
        act = refl;
        covered = record {
          range = range_held total place bytes a.0 a.1;
          payload = has_length total (a.0.0.blocks * place.size) a.0.1 b.0 b.1;
          ranges = tt;
        };
        kind = on_range version place op refl;
      })

  zeroes_held : zeroes_at total place bytes ≡ Ok x → IsHeldOperation version place x.0
  unfolding zeroes_at
  zeroes_held e =
      let a = bind_ok (range_in total place bytes) (λ range. Ok (zeroes_operation range.0.first range.0.blocks, range.1)) x e in
      let op = zeroes_operation a.0.0.first a.0.0.blocks in
      subst (λ (y : Operation × List ℕ). IsHeldOperation version place y.0) (ok_is (op, a.0.1) x a.2)
      (record {
        act = refl;
        covered = record { range = range_held total place bytes a.0 a.1; payload = tt; ranges = tt };
        kind = on_range version place op refl;
      })

  uncorrectable_held : uncorrectable_at total place bytes ≡ Ok x → IsHeldOperation version place x.0
  unfolding uncorrectable_at
  uncorrectable_held e =
      let a = bind_ok (range_in total place bytes) (λ range. Ok (uncorrectable_operation range.0.first range.0.blocks, range.1)) x e in
      let op = uncorrectable_operation a.0.0.first a.0.0.blocks in
      subst (λ (y : Operation × List ℕ). IsHeldOperation version place y.0) (ok_is (op, a.0.1) x a.2)
      (record {
        act = refl;
        covered = record { range = range_held total place bytes a.0 a.1; payload = tt; ranges = tt };
        kind = on_range version place op refl;
      })

  fused_held : fused_at total place bytes ≡ Ok x → IsHeldOperation version place x.0
  unfolding fused_at
  fused_held e =
      let a = bind_ok (range_in total place bytes)
      (λ range. bytes_at total (2 * (range.0.blocks * place.size)) range.1
      >>= λ payload. Ok (
        pair_operation range.0.first range.0.blocks (take (range.0.blocks * place.size) payload.0)
            (drop (range.0.blocks * place.size) payload.0),
        payload.1,
      )) x e in
      let n = a.0.0.blocks * place.size in
      let b = bind_ok (bytes_at total (2 * n) a.0.1)
      (λ payload. Ok (pair_operation a.0.0.first a.0.0.blocks (take n payload.0) (drop n payload.0), payload.1)) x a.2 in
      let op = pair_operation a.0.0.first a.0.0.blocks (take n b.0.0) (drop n b.0.0) in
      let len : length b.0.0 ≡ 2 * n = has_length total (2 * n) a.0.1 b.0 b.1 in
      subst (λ (y : Operation × List ℕ). IsHeldOperation version place y.0) (ok_is (op, b.0.1) x b.2)
      (record {
        act = refl;
        covered = record {
          range = range_held total place bytes a.0 a.1;
          payload = (halves n b.0.0 len);
          ranges = tt;
        };
        kind = on_range version place op refl;
      })
    where
      halves : (n : ℕ) (both : List ℕ) → length both ≡ 2 * n → (length (take n both) ≡ n) × (length (drop n both) ≡ n)
      halves n both len = (omega (arith, len, length-take n both), omega (arith, len, length-drop n both))

some_ranges : (rs : List LbaRange) → 1 ≤ length rs → rs ≢ []
some_ranges rs some e = let none : length rs ≡ 0 = ap length e in absurd (omega (arith, some, none))

-- What holds of a Deallocate, which the second version alone has.
deallocate_held : (place : Place) → 0 < place.blocks → (total : ℕ) (bytes : List ℕ) (x : Operation × List ℕ)
    → deallocate_at total place bytes ≡ Ok x → IsHeldOperation Two place x.0
unfolding deallocate_at
deallocate_held place blocks total bytes x e =
    let a = bind_ok (number_in total 2 1 most_ranges bytes)
    (λ count. items_at (λ _. range_in total place) 0 count.0 count.1
    >>= λ ranges. Ok (ranges_operation place.first place.blocks ranges.0, ranges.1)) x e in
    let b = bind_ok (items_at (λ _. range_in total place) 0 a.0.0 a.0.1)
    (λ ranges. Ok (ranges_operation place.first place.blocks ranges.0, ranges.1)) x a.2 in
    let count = in_range total 2 1 most_ranges bytes a.0 a.1 in
    let each = each_holds (λ r. (0 < r.blocks) × (place.first ≤ r.first) × (r.first + r.blocks ≤ place.first + place.blocks))
    (λ _. range_in total place)
    (λ i rest y h. let w = range_held total place rest y h in (w.some, w.above, w.below)) 0 a.0.0 a.0.1 b.0 b.1 in
    let op = ranges_operation place.first place.blocks b.0.0 in
    let few : length b.0.0 ≤ most_ranges = omega (arith, each.1, count.1) in
    let some : 1 ≤ length b.0.0 = omega (arith, each.1, count.0) in
    subst (λ (y : Operation × List ℕ). IsHeldOperation Two place y.0) (ok_is (op, b.0.1) x b.2)
    (record {
      act = refl;
      covered = record {
        range = record { some = blocks; above = omega arith; below = omega arith };
        payload = tt;
        ranges = record { some = some_ranges b.0.0 some; each = each.0 };
      };
      kind = inr (record { ranges = b.0.0; deed = refl; first = refl; blocks = refl; few = few });
    })

second_alone : (version : Version) (place : Place) → 0 < place.blocks → (total kind : ℕ) (bytes : List ℕ) (x : Operation × List ℕ)
    → kind ≤ last_kind version → 5 ≤ kind → deallocate_at total place bytes ≡ Ok x → IsHeldOperation version place x.0
second_alone One place blocks total kind bytes x last five e = absurd (omega (arith, last, five))
second_alone Two place blocks total kind bytes x last five e = deallocate_held place blocks total bytes x e

kind_held : (version : Version) (place : Place) → 0 < place.blocks → (total kind : ℕ) (bytes : List ℕ) (x : Operation × List ℕ)
    → 1 ≤ kind → kind ≤ last_kind version → operation_of_kind kind total place bytes ≡ Ok x → IsHeldOperation version place x.0
kind_held version place blocks total kind bytes x low last e =
    elim (chosen (eqb kind 1) (write_at total place bytes) _ (Ok x) e) [
      | inl h ↦ write_held version place total bytes x h.1
      | inr one ↦ elim (chosen (eqb kind 2) (zeroes_at total place bytes) _ (Ok x) one.1) [
        | inl h ↦ zeroes_held version place total bytes x h.1
        | inr two ↦ elim (chosen (eqb kind 3) (uncorrectable_at total place bytes) _ (Ok x) two.1) [
          | inl h ↦ uncorrectable_held version place total bytes x h.1
          | inr three ↦ elim (chosen (eqb kind 4) (fused_at total place bytes) _ (Ok x) three.1) [
            | inl h ↦ fused_held version place total bytes x h.1
            | inr four ↦ second_alone version place blocks total kind bytes x last
                (above kind low (eqb-false kind 1 one.0) (eqb-false kind 2 two.0) (eqb-false kind 3 three.0) (eqb-false kind 4 four.0)) four.1
          ]
        ]
      ]
    ]
  where
    above : (kind : ℕ) → 1 ≤ kind → kind ≢ 1 → kind ≢ 2 → kind ≢ 3 → kind ≢ 4 → 5 ≤ kind
    above kind low one two three four = omega (arith, low, one, two, three, four)

pub entry_held : (frame : Frame) (place : Place) → 0 < place.blocks → (bytes : List ℕ) (x : HistoryEntry × List ℕ)
    → entry_at frame place bytes ≡ Ok x → IsHeldEntry frame place x.0
unfolding entry_at operation_at
entry_held frame place blocks bytes x e =
    let a = bind_ok (number_below frame.total 2 frame.workers bytes)
    (λ pass. number_below frame.total 4 frame.jobs pass.1 >>= λ job. operation_at frame.total frame.version place job.1
    >>= λ operation. Ok (record { pass = pass.0; job = job.0; operation = operation.0 }, operation.1)) x e in
    let b = bind_ok (number_below frame.total 4 frame.jobs a.0.1)
    (λ job. operation_at frame.total frame.version place job.1
    >>= λ operation. Ok (record { pass = a.0.0; job = job.0; operation = operation.0 }, operation.1)) x a.2 in
    let c = bind_ok (operation_at frame.total frame.version place b.0.1)
    (λ operation. Ok (record { pass = a.0.0; job = b.0.0; operation = operation.0 }, operation.1)) x b.2 in
    let d = bind_ok (number_in frame.total 1 1 (last_kind frame.version) b.0.1)
    (λ kind. operation_of_kind kind.0 frame.total place kind.1) c.0 c.1 in
    let range = in_range frame.total 1 1 (last_kind frame.version) b.0.1 d.0 d.1 in
    let entry : HistoryEntry = record { pass = a.0.0; job = b.0.0; operation = c.0.0 } in
    subst (λ (y : HistoryEntry × List ℕ). IsHeldEntry frame place y.0) (ok_is (entry, c.0.1) x c.2)
    (record {
      pass = is_below frame.total 2 frame.workers bytes a.0 a.1;
      job = is_below frame.total 4 frame.jobs a.0.1 b.0 b.1;
      operation = kind_held frame.version place blocks frame.total d.0.0 d.0.1 c.0 range.0 range.1 d.2;
    })
