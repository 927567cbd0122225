use Rattle.std.proofs.Common.{◌≡◌, ◌⊎◌, inl, inr, ℕ, List, [], ◌∷◌, ◌++◌, refl, subst, ◌∙◌}
use Rattle.std.specs.Io.KnownBytes.{Appends}
use Rattle.byteorder.specs.Endian.{little_bytes}
use Rattle.nvm_store.specs.Act.{operation_of}
use Rattle.nvm_store.specs.declared.act.Act.{Act}
use Rattle.nvm_store.specs.declared.act.Act.TheVariants.{Zeroes, Uncorrectable}
use Rattle.nvm_text.specs.Handed.{TakesFront}
use Rattle.nvm_text.proofs.Taking.{within, then_whole, then_front, first_of, behind, both, on_err, on_err_then, on_ok_then}
use Rattle.nvm_file.specs.EntrySpelling.{change_bytes, entry_bytes, extent_bytes, kind_of}
use Rattle.nvm_file.specs.Inside.Short.{IsShortDeed}
use Rattle.nvm_file.proofs.CutRanges.{ranges_of_slice, few_in_slice}
use Rattle.nvm_file.proofs.writing.entries.write_act.Goals as goal

-- what stands before what was done
abbrev numbered : ℕ → ℕ → ℕ → List ℕ → List ℕ
numbered pass job kind rest = little_bytes 2 pass ++ (little_bytes 4 job ++ (kind ∷ rest))

-- an act with a range of blocks alone
has_no_data : (act : Act) (pass job first blocks : ℕ) → (act ≡ Zeroes blocks first) ⊎ (act ≡ Uncorrectable blocks first)
    → numbered pass job (kind_of (operation_of act).deed) (extent_bytes first blocks) ≡ entry_bytes (record { pass = pass; job = job; operation = operation_of act })
has_no_data act pass job first blocks (inl e) = rw e refl
has_no_data act pass job first blocks (inr e) = rw e refl

-- a Write

pub returns-in_err-hand_noting-in-Write-clause-front : goal.returns-in_err-hand_noting-in-Write-clause-front
returns-in_err-hand_noting-in-Write-clause-front g c =
    let act = c.in-Write in
    rw act.is (within c.from_residual.result _ _ _ (numbered c.args.pass c.args.job 1 (extent_bytes act.first act.blocks)) act.payload
    (rw (c.kind-kind.ensures, act.is) at c.extent_front.ensures) c.in_err-hand_noting-in-Write.ensures.front)

pub returns-in_ok-hand_noting-in-Write-clause-whole : goal.returns-in_ok-hand_noting-in-Write-clause-whole
returns-in_ok-hand_noting-in-Write-clause-whole g c =
    let act = c.in-Write in
    rw act.is (then_whole c.hand_noting-in-Write.result _ _ _ _ (numbered c.args.pass c.args.job 1 (extent_bytes act.first act.blocks)) _ act.payload
    (rw (c.kind-kind.ensures, act.is) at c.extent_front.ensures) c.as_slice.ensures c.in_ok-hand_noting-in-Write.ensures.whole c.hand_noting-in-Write.ensures.whole)

pub returns-in_ok-hand_noting-in-Write-clause-front : goal.returns-in_ok-hand_noting-in-Write-clause-front
returns-in_ok-hand_noting-in-Write-clause-front g c =
    let act = c.in-Write in
    rw act.is (then_front c.hand_noting-in-Write.result _ _ _ _ (numbered c.args.pass c.args.job 1 (extent_bytes act.first act.blocks)) _ act.payload
    (rw (c.kind-kind.ensures, act.is) at c.extent_front.ensures) c.as_slice.ensures c.in_ok-hand_noting-in-Write.ensures.whole c.hand_noting-in-Write.ensures.front)

-- a Write Zeroes, or a Write Uncorrectable

pub returns-in-Zeroes-clause-whole : goal.returns-in-Zeroes-clause-whole
returns-in-Zeroes-clause-whole g c =
    let act = c.in-Zeroes in
    on_ok_then c.hand_noting-in-Zeroes.result (λ taken.
    subst (Appends _ _) ((rw c.kind-kind.ensures at c.extent_front-in-Zeroes.ensures) ∙ has_no_data c.args.act.now c.args.pass c.args.job act.first act.blocks act.is) taken)
    c.hand_noting-in-Zeroes.ensures.whole

-- a fused pair

pub returns-in_err-hand_noting-in-Pair-clause-front : goal.returns-in_err-hand_noting-in-Pair-clause-front
returns-in_err-hand_noting-in-Pair-clause-front g c =
    let act = c.in-Pair in
    rw act.is (within c.from_residual-in_err-hand_noting-in-Pair.result _ _ _ (numbered c.args.pass c.args.job 4 (extent_bytes act.first act.blocks)) (act.compare ++ act.write)
    (rw (c.kind-kind.ensures, act.is) at c.extent_front-in-Pair.ensures) c.in_err-hand_noting-in-Pair.ensures.front)

pub returns-in_err-hand_noting-in-Pair-2-clause-front : goal.returns-in_err-hand_noting-in-Pair-2-clause-front
returns-in_err-hand_noting-in-Pair-2-clause-front g c =
    let act = c.in-Pair in
    rw act.is (on_err c.from_residual-in_err-hand_noting-in-Pair-2.result (behind _ _ _ _ (numbered c.args.pass c.args.job 4 (extent_bytes act.first act.blocks))
    (act.compare ++ act.write) (rw (c.kind-kind.ensures, act.is) at c.extent_front-in-Pair.ensures) c.in_ok-hand_noting-in-Pair.ensures.whole
    (first_of _ _ _ act.compare act.write c.as_slice-in-Pair.ensures c.in_err-hand_noting-in-Pair-2.ensures.front)))

pub returns-in_ok-hand_noting-in-Pair-2-clause-whole : goal.returns-in_ok-hand_noting-in-Pair-2-clause-whole
returns-in_ok-hand_noting-in-Pair-2-clause-whole g c =
    let act = c.in-Pair in
    rw act.is (on_ok_then c.hand_noting-in-Pair-3.result (λ taken.
    both _ _ _ _ (numbered c.args.pass c.args.job 4 (extent_bytes act.first act.blocks)) (act.compare ++ act.write)
    (rw (c.kind-kind.ensures, act.is) at c.extent_front-in-Pair.ensures) c.in_ok-hand_noting-in-Pair.ensures.whole
    (both _ _ _ _ act.compare act.write c.as_slice-in-Pair.ensures c.in_ok-hand_noting-in-Pair-2.ensures.whole
    (subst (Appends _ _) c.as_slice-in-Pair-2.ensures taken))) c.hand_noting-in-Pair-3.ensures.whole)

pub returns-in_ok-hand_noting-in-Pair-2-clause-front : goal.returns-in_ok-hand_noting-in-Pair-2-clause-front
returns-in_ok-hand_noting-in-Pair-2-clause-front g c =
    let act = c.in-Pair in
    rw act.is (on_err_then c.hand_noting-in-Pair-3.result (λ failed.
    behind _ _ _ _ (numbered c.args.pass c.args.job 4 (extent_bytes act.first act.blocks)) (act.compare ++ act.write)
    (rw (c.kind-kind.ensures, act.is) at c.extent_front-in-Pair.ensures) c.in_ok-hand_noting-in-Pair.ensures.whole
    (behind _ _ _ _ act.compare act.write c.as_slice-in-Pair.ensures c.in_ok-hand_noting-in-Pair-2.ensures.whole
    (subst (TakesFront _ _) c.as_slice-in-Pair-2.ensures failed))) c.hand_noting-in-Pair-3.ensures.front)

-- a Deallocate

pub write_ranges-requires : goal.write_ranges-requires
write_ranges-requires g c =
    few_in_slice c.as_slice-in-Deallocate.result.now c.in-Deallocate.ranges c.as_slice-in-Deallocate.ensures
    (subst (λ act. IsShortDeed (operation_of act).deed) c.in-Deallocate.is c.requires)

pub returns-in_err-hand_noting-in-Deallocate-clause-front : goal.returns-in_err-hand_noting-in-Deallocate-clause-front
returns-in_err-hand_noting-in-Deallocate-clause-front g c =
    let did = operation_of c.args.act.now in
    within c.from_residual-in_err-hand_noting-in-Deallocate.result _ _ _ (numbered c.args.pass c.args.job (kind_of did.deed) []) (change_bytes did.first did.blocks did.deed)
    (rw c.kind-kind.ensures at c.entry_front.ensures) c.in_err-hand_noting-in-Deallocate.ensures.front

pub returns-in_ok-hand_noting-in-Deallocate-clause-whole : goal.returns-in_ok-hand_noting-in-Deallocate-clause-whole
returns-in_ok-hand_noting-in-Deallocate-clause-whole g c =
    rw c.in-Deallocate.is (on_ok_then c.write_ranges.result (λ taken.
    both _ _ _ _ (numbered c.args.pass c.args.job 5 []) _ (rw (c.kind-kind.ensures, c.in-Deallocate.is) at c.entry_front.ensures) c.in_ok-hand_noting-in-Deallocate.ensures.whole
    (subst (Appends _ _) (ranges_of_slice c.as_slice-in-Deallocate.result.now c.in-Deallocate.ranges c.as_slice-in-Deallocate.ensures) taken))
    c.write_ranges.ensures.whole)

pub returns-in_ok-hand_noting-in-Deallocate-clause-front : goal.returns-in_ok-hand_noting-in-Deallocate-clause-front
returns-in_ok-hand_noting-in-Deallocate-clause-front g c =
    rw c.in-Deallocate.is (on_err_then c.write_ranges.result (λ failed.
    behind _ _ _ _ (numbered c.args.pass c.args.job 5 []) _ (rw (c.kind-kind.ensures, c.in-Deallocate.is) at c.entry_front.ensures) c.in_ok-hand_noting-in-Deallocate.ensures.whole
    (subst (TakesFront _ _) (ranges_of_slice c.as_slice-in-Deallocate.result.now c.in-Deallocate.ranges c.as_slice-in-Deallocate.ensures) failed))
    c.write_ranges.ensures.front)
