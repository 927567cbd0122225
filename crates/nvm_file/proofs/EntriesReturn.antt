-- A unit's history is read of its spelling.
use Rattle.std.proofs.Common.{◌≡◌, ℕ, ◌+◌, ◌*◌, ◌<◌, ◌≤◌, true, ◌&&◌, ltb, leb, List, [], ◌∷◌, ◌++◌, length, All, Ok, inl, inr, refl, sym, ap, subst, ◌∙◌, take, drop, arith}
use Rattle.std.specs.List.{AllByRecursion, flat_map}
use Rattle.std.proofs.lemmas.Bool.{and_from, le-leb, lt-ltb, false≢true}
use Rattle.std.proofs.lemmas.List.{take_at, drop_at, length-append}
use Rattle.std.proofs.lemmas.List.Elements.{recursion_from_All}
use Rattle.byteorder.specs.Endian.{little_bytes}
use Rattle.nvm_record.specs.declared.lba_range.LbaRange.{LbaRange}
use Rattle.nvm_record.specs.Deeds.{IsAct}
use Rattle.nvm_record.specs.Ranges.{AreRangesWithin, most_ranges}
use Rattle.nvm_record.specs.Step.{Deed, Operation, writes, zeroes, uncorrectable, reads, compares, pairs, deallocates, HasData, HasRangesWithin}
use Rattle.nvm_store.specs.declared.place.Place.{Place}
use Rattle.nvm_store.specs.HistoryEntry.{HistoryEntry}
use Rattle.nvm_store.specs.Operation.{write_operation, zeroes_operation, uncorrectable_operation, pair_operation, ranges_operation}
use Rattle.nvm_store.specs.Place.{IsCovered, IsWithin}
use Rattle.nvm_audit.specs.declared.version.Version.{Version}
use Rattle.nvm_audit.specs.declared.version.Version.TheVariants.{One, Two}
use Rattle.nvm_audit.specs.Recordable.{HoldsKind}
use Rattle.nvm_file.specs.declared.frame.Frame.{Frame}
use Rattle.nvm_file.specs.EntryReading.{lies_in, range_in, write_at, zeroes_at, uncorrectable_at, fused_at, deallocate_at, last_kind, operation_at, entry_at, place_of, history_at}
use Rattle.nvm_file.specs.EntrySpelling.{change_bytes, cut_bytes, entry_bytes, extent_bytes, history_bytes, kind_of}
use Rattle.nvm_file.specs.Fields.{number_in}
use Rattle.nvm_file.proofs.Returning.{bytes_return, items_return, number_below_returns, number_in_returns, number_returns, read_then}

-- All LBAs of the place have fields that hold them.
abbrev pub EndsLow : Place → Type 0
EndsLow place = place.first + place.blocks ≤ 65536

range_returns : (total : ℕ) (place : Place) (range : LbaRange) (rest : List ℕ) → EndsLow place → IsWithin place range.first range.blocks
    → range_in total place (cut_bytes range ++ rest) ≡ Ok (range, rest)
unfolding range_in
range_returns total place range rest low within =
    let lies : lies_in place range ≡ true =
    and_from (ltb 0 range.blocks) (leb place.first range.first && leb (range.first + range.blocks) (place.first + place.blocks))
    (lt-ltb 0 range.blocks within.some)
    (and_from (leb place.first range.first) (leb (range.first + range.blocks) (place.first + place.blocks))
    (le-leb place.first range.first within.above) (le-leb (range.first + range.blocks) (place.first + place.blocks) within.below)) in
    read_then _ _ _ _ (number_returns total 8 range.first (little_bytes 4 range.blocks ++ rest) (omega (arith, low, within.below)))
    (read_then _ _ _ _ (number_returns total 4 range.blocks rest (omega (arith, low, within.below))) (rw lies refl))

module _ (total : ℕ) (place : Place) (low : EndsLow place) (first blocks : ℕ) (within : IsWithin place first blocks) (rest : List ℕ) where
  extent : (after : List ℕ)
      → range_in total place (extent_bytes first blocks ++ after) ≡ Ok (record { first = first; blocks = blocks }, after)
  extent after = range_returns total place (record { first = first; blocks = blocks }) after low within

  write_returns : (payload : List ℕ) → length payload ≡ blocks * place.size
      → write_at total place (change_bytes first blocks (writes payload) ++ rest) ≡ Ok (write_operation first blocks payload, rest)
  unfolding write_at
  write_returns payload long =
      read_then _ _ _ _ (extent (payload ++ rest)) (read_then _ _ _ _ (bytes_return total (blocks * place.size) payload rest long) refl)

  zeroes_return : zeroes_at total place (change_bytes first blocks zeroes ++ rest) ≡ Ok (zeroes_operation first blocks, rest)
  unfolding zeroes_at
  zeroes_return = read_then _ _ _ _ (extent rest) refl

  mark_returns : uncorrectable_at total place (change_bytes first blocks uncorrectable ++ rest) ≡ Ok (uncorrectable_operation first blocks, rest)
  unfolding uncorrectable_at
  mark_returns = read_then _ _ _ _ (extent rest) refl

  fused_returns : (payload new : List ℕ) → length payload ≡ blocks * place.size → length new ≡ blocks * place.size
      → fused_at total place (change_bytes first blocks (pairs payload new) ++ rest) ≡ Ok (pair_operation first blocks payload new, rest)
  unfolding fused_at
  fused_returns payload new long same =
      let size = blocks * place.size in
      let both : length (payload ++ new) ≡ 2 * size = omega (arith, length-append payload new, long, same) in
      let cut : pair_operation first blocks (take size (payload ++ new)) (drop size (payload ++ new)) ≡ pair_operation first blocks payload new =
      rw (take_at payload new size long, drop_at payload new size long) refl in
      read_then _ _ _ _ (extent ((payload ++ new) ++ rest))
      (read_then _ _ _ _ (bytes_return total (2 * size) (payload ++ new) rest both)
      (ap (λ (op : Operation). Ok (op, rest)) cut))

deallocate_returns : (total : ℕ) (place : Place) (ranges : List LbaRange) (rest : List ℕ) → EndsLow place
    → length ranges ≤ most_ranges → AreRangesWithin place.first place.blocks ranges
    → deallocate_at total place (change_bytes place.first place.blocks (deallocates ranges) ++ rest)
    ≡ Ok (ranges_operation place.first place.blocks ranges, rest)
unfolding deallocate_at
deallocate_returns total place ranges rest low few within =
    let each : AllByRecursion (λ range. IsWithin place range.first range.blocks) ranges =
    recursion_from_All _ ranges (λ k d below.
    let h = within.each k d below in record { some = h.0; above = h.1; below = h.2 }) in
    let some : 1 ≤ length ranges = one_at_least ranges within.some in
    read_then _ _ _ _ (number_in_returns total 2 1 most_ranges (length ranges) (flat_map cut_bytes ranges ++ rest) (omega (arith, few)) some few)
    (read_then _ _ _ _ (items_return cut_bytes (λ range. IsWithin place range.first range.blocks) (λ _. range_in total place)
    (λ i range after lies. range_returns total place range after low lies) 0 ranges rest each) refl)
  where
    one_at_least : (rs : List LbaRange) → ¬ (rs ≡ []) → 1 ≤ length rs
    one_at_least [] some = absurd (some refl)
    one_at_least (r ∷ rs) some = omega arith

four_at_least : (version : Version) → 4 ≤ last_kind version
four_at_least One = omega arith
four_at_least Two = omega arith

kind_returns : (total kind : ℕ) (version : Version) (rest : List ℕ) → 1 ≤ kind → kind ≤ last_kind version → kind ≤ 5
    → number_in total 1 1 (last_kind version) (little_bytes 1 kind ++ rest) ≡ Ok (kind, rest)
kind_returns total kind version rest some high few =
    number_in_returns total 1 1 (last_kind version) kind rest (omega (arith, few)) some high

-- A Deallocate is on the whole unit, and in the second version alone.
is_of_unit : (version : Version) (place : Place) (first blocks : ℕ) (ranges : List LbaRange)
    → HoldsKind version place (ranges_operation first blocks ranges)
    → (version ≡ Two) × (first ≡ place.first) × (blocks ≡ place.blocks) × (length ranges ≤ most_ranges)
is_of_unit One place first blocks ranges h = absurd (false≢true h)
is_of_unit Two place first blocks ranges (inl h) = absurd (false≢true h)
is_of_unit Two place first blocks ranges (inr h) = (refl, h.first, h.blocks, few h.deed h.few)
  where
    ranges_in : Deed → List LbaRange
    ranges_in (writes payload) = []
    ranges_in zeroes = []
    ranges_in uncorrectable = []
    ranges_in reads = []
    ranges_in (compares payload) = []
    ranges_in (pairs payload new) = []
    ranges_in (deallocates rs) = rs

    few : {others : List LbaRange} → deallocates ranges ≡ deallocates others → length others ≤ most_ranges → length ranges ≤ most_ranges
    few same low = subst (λ (rs : List LbaRange). length rs ≤ most_ranges) (sym (ap ranges_in same)) low

module _ (total : ℕ) (version : Version) (place : Place) (low : EndsLow place) (first blocks : ℕ) (within : IsWithin place first blocks) (rest : List ℕ) where
  four : (kind : ℕ) → kind ≤ 4 → kind ≤ last_kind version
  four kind few = omega (arith, few, four_at_least version)

  cut_returns : (ranges : List LbaRange) → HoldsKind version place (ranges_operation first blocks ranges) → AreRangesWithin first blocks ranges
      → operation_at total version place (5 ∷ (change_bytes first blocks (deallocates ranges) ++ rest))
      ≡ Ok (ranges_operation first blocks ranges, rest)
  unfolding operation_at
  cut_returns ranges holds lies =
      let unit = is_of_unit version place first blocks ranges holds in
      let high : 5 ≤ last_kind version = subst (λ (v : Version). 5 ≤ last_kind v) (sym unit.0) (omega arith) in
      let inside = subst (λ (n : ℕ). AreRangesWithin n place.blocks ranges) unit.1 (subst (λ (n : ℕ). AreRangesWithin first n ranges) unit.2 lies) in
      let whole : ranges_operation place.first place.blocks ranges ≡ ranges_operation first blocks ranges =
      λ i. ranges_operation (sym unit.1 i) (sym unit.2 i) ranges in
      read_then _ _ _ _ (kind_returns total 5 version (change_bytes first blocks (deallocates ranges) ++ rest) (omega arith) high (omega arith))
      (deallocate_returns total place ranges rest low unit.3 inside ∙ ap (λ (op : Operation). Ok (op, rest)) whole)

  deed_returns : (deed : Deed) → IsAct deed → HasData (blocks * place.size) deed → HasRangesWithin first blocks deed
      → HoldsKind version place (record { first = first; blocks = blocks; deed = deed })
      → operation_at total version place (kind_of deed ∷ (change_bytes first blocks deed ++ rest))
      ≡ Ok (record { first = first; blocks = blocks; deed = deed }, rest)
  unfolding operation_at
  deed_returns (writes payload) act long lies holds =
      read_then _ _ _ _ (kind_returns total 1 version _ (omega arith) (four 1 (omega arith)) (omega arith))
      (write_returns total place low first blocks within rest payload long)
  deed_returns zeroes act long lies holds =
      read_then _ _ _ _ (kind_returns total 2 version _ (omega arith) (four 2 (omega arith)) (omega arith))
      (zeroes_return total place low first blocks within rest)
  deed_returns uncorrectable act long lies holds =
      read_then _ _ _ _ (kind_returns total 3 version _ (omega arith) (four 3 (omega arith)) (omega arith))
      (mark_returns total place low first blocks within rest)
  deed_returns reads act long lies holds = absurd (false≢true act)
  deed_returns (compares payload) act long lies holds = absurd (false≢true act)
  deed_returns (pairs payload new) act long lies holds =
      read_then _ _ _ _ (kind_returns total 4 version _ (omega arith) (four 4 (omega arith)) (omega arith))
      (fused_returns total place low first blocks within rest payload new long.0 long.1)
  deed_returns (deallocates ranges) act long lies holds = cut_returns ranges holds lies

-- An entry may stand in the unit that lies there.
pub record MayStand (frame : Frame) (place : Place) (entry : HistoryEntry) : Type 0 where
  pub pass : entry.pass < frame.workers
  pub job : entry.job < frame.jobs
  pub act : IsAct entry.operation.deed
  pub covered : IsCovered place entry.operation
  pub kind : HoldsKind frame.version place entry.operation

entry_returns : (frame : Frame) (place : Place) (entry : HistoryEntry) (rest : List ℕ) → EndsLow place → frame.workers ≤ 64
    → frame.jobs ≤ 4194304 → MayStand frame place entry → entry_at frame place (entry_bytes entry ++ rest) ≡ Ok (entry, rest)
unfolding entry_at
entry_returns frame place entry rest low workers jobs may =
    let op = entry.operation in
    let change = change_bytes op.first op.blocks op.deed ++ rest in
    let behind_job = kind_of op.deed ∷ change in
    let behind_pass = little_bytes 4 entry.job ++ behind_job in
    read_then _ _ _ _ (number_below_returns frame.total 2 frame.workers entry.pass behind_pass (omega (arith, may.pass, workers)) may.pass)
    (read_then _ _ _ _ (number_below_returns frame.total 4 frame.jobs entry.job behind_job (omega (arith, may.job, jobs)) may.job)
    (read_then _ _ _ _ (deed_returns frame.total frame.version place low op.first op.blocks may.covered.range rest op.deed
    may.act may.covered.payload may.covered.ranges may.kind) refl))

pub history_returns : (frame : Frame) (unit : ℕ) (history : List HistoryEntry) (rest : List ℕ) → EndsLow (place_of frame.geometry unit)
    → frame.workers ≤ 64 → frame.jobs ≤ 4194304 → frame.limit ≤ 4194304 → length history ≤ frame.limit
    → All (MayStand frame (place_of frame.geometry unit)) history
    → history_at frame unit (history_bytes history ++ rest) ≡ Ok (history, rest)
unfolding history_at
history_returns frame unit history rest low workers jobs limit few may =
    let place = place_of frame.geometry unit in
    let entries = flat_map entry_bytes history ++ rest in
    read_then _ _ _ _ (number_in_returns frame.total 4 0 frame.limit (length history) entries (omega (arith, few, limit)) (omega arith) few)
    (items_return entry_bytes (MayStand frame place) (λ _. entry_at frame place)
    (λ i entry after here. entry_returns frame place entry after low workers jobs here) 0 history rest (recursion_from_All _ history may))
