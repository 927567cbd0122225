-- Comparisons of blocks with data, and pairs, which rest on one.
use Rattle.std.proofs.Common.{◌≡◌, ◌≢◌, ℕ, suc, ◌*◌, ◌-◌, List, [], ◌∷◌, length, Bool, true, false, cond, refl, sym, ap, ◌∙◌, arith}
use Rattle.std.proofs.lemmas.Bool.{true≢false}
use Rattle.std.proofs.lemmas.List.{length-append}
use Rattle.std.specs.Str.{bytes_eq}
use Rattle.nvm_record.specs.declared.block.Block.{Block}
use Rattle.nvm_record.specs.declared.block.Block.TheVariants.{Bytes, Uncorrectable}
use Rattle.nvm_record.specs.declared.status.Status.{Status}
use Rattle.nvm_record.specs.declared.status.Statuses.TheVariants.{Two}
use Rattle.nvm_record.specs.Medium.{Medium, range, has_mark, joined}
use Rattle.nvm_record.specs.Status.{IsSuccess, successful_completion, unrecovered_read_error, compare_failure, aborted_due_to_failed_fused_command}
use Rattle.nvm_record.specs.Step.{Deed, writes, zeroes, uncorrectable, reads, compares, pairs, deallocates, compares_equal, comparison, statuses_on, statuses_of, medium_after}
use Rattle.nvm_store.specs.Operation.{write_operation, pair_operation}
use Rattle.nvm_record.specs.Deeds.{FailsOn}
use Rattle.nvm_store.specs.Contents.{Contents, place_of}
use Rattle.nvm_store.specs.Place.{IsWithin}
use Rattle.nvm_store.specs.Inside.Sound.{AreOfSize, blocks_at}
use Rattle.nvm_store.proofs.Ranges.{part_length, part_sized}

-- Blocks without a mark, each of its size, are together that many bytes.
pub length-joined : (size : ℕ) (blocks : List Block) → AreOfSize size blocks → has_mark blocks ≡ false
    → length (joined blocks) ≡ length blocks * size
length-joined size [] sized none = omega arith
length-joined size (Uncorrectable ∷ bs) sized none = absurd (true≢false none)
length-joined size (Bytes bytes ∷ bs) sized none =
    let here : length bytes ≡ size = sized 0 (Bytes bytes) refl in
    let rest : length (joined bs) ≡ length bs * size = length-joined size bs (λ i block at. sized (suc i) block at) none in
    length-append bytes (joined bs) ∙ grind (arith, here, rest)

-- the same of some blocks of a unit
pub bytes_length : (unit : Contents) (first n : ℕ) → AreOfSize unit.size unit.blocks → IsWithin (place_of unit) first n
    → has_mark (blocks_at unit first n) ≡ false → length (joined (blocks_at unit first n)) ≡ n * unit.size
bytes_length unit first n sized within none =
    length-joined unit.size (blocks_at unit first n) (part_sized unit.size unit.blocks (first - unit.first) n sized) none
    ∙ ap (λ (k : ℕ). k * unit.size) (part_length unit first n within)

-- A comparison that ends with success holds.
holds_where_successful : (mark same : Bool)
    → cond mark unrecovered_read_error (cond (cond mark false same) successful_completion compare_failure) ≡ successful_completion
    → cond mark false same ≡ true
holds_where_successful true same e = absurd (omega (arith, ap (λ (s : Status). s.sct) e))
holds_where_successful false true e = refl
holds_where_successful false false e = absurd (omega (arith, ap (λ (s : Status). s.sct) e))

-- A Write that isn't aborted belongs to a comparison that holds.
holds_where_written : (same : Bool) → cond same successful_completion aborted_due_to_failed_fused_command ≡ successful_completion → same ≡ true
holds_where_written true e = refl
holds_where_written false e = absurd (omega (arith, ap (λ (s : Status). s.sc) e))

-- What a pair that succeeds does to the medium is what its Write does.
pub pair_is_write : (size first blocks : ℕ) (compare write : List ℕ) (m : Medium) (lba : ℕ)
    → IsSuccess (statuses_of (pair_operation first blocks compare write) m)
    → medium_after size (pair_operation first blocks compare write) m lba
    ≡ medium_after size (write_operation first blocks write) m lba
pair_is_write size first blocks compare write m lba success =
    let holds : compares_equal (range m first blocks) compare ≡ true = holds_where_written (compares_equal (range m first blocks) compare) success.1 in
    grind (arith, holds)

-- What is reported for a pair whose comparison doesn't hold.
pub failed_pair_told : (blocks : List Block) (deed : Deed) → FailsOn blocks deed
    → (s : Status) × (statuses_on blocks deed ≡ Two s aborted_due_to_failed_fused_command) × (s ≢ successful_completion)
failed_pair_told blocks (writes payload) fails = absurd fails
failed_pair_told blocks zeroes fails = absurd fails
failed_pair_told blocks uncorrectable fails = absurd fails
failed_pair_told blocks reads fails = absurd fails
failed_pair_told blocks (compares payload) fails = absurd fails
failed_pair_told blocks (pairs compare write) fails =
    let aborted : cond (compares_equal blocks compare) successful_completion aborted_due_to_failed_fused_command ≡ aborted_due_to_failed_fused_command =
    ap (λ (t : Bool). cond t successful_completion aborted_due_to_failed_fused_command) fails in (
      comparison blocks compare,
      ap (λ (t : Status). Two (comparison blocks compare) t) aborted,
      λ success. absurd (true≢false (sym (holds_where_successful (has_mark blocks) (bytes_eq (joined blocks) compare) success) ∙ fails)),
    )
failed_pair_told blocks (deallocates ranges) fails = absurd fails
