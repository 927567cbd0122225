use Rattle.std.proofs.Common.{◌≡◌, ℕ, refl}
use Rattle.nvm_record.specs.Deeds.{is_look, is_read, is_pair, is_deallocate}
use Rattle.nvm_record.specs.Step.{Deed, Operation, writes, zeroes, uncorrectable, reads, compares, pairs, deallocates}
use Rattle.nvm_geometry.specs.Namespace.{Namespace}
use Rattle.nvm_geometry.specs.Parts.{blocks_below, blocks_in, deed_part}
use Rattle.nvm_geometry.proofs.laws.parts_keep_their_kind.Goals as goal

abbrev IsOfKindOf : Deed → Deed → Type 0
IsOfKindOf part whole =
    (is_look part ≡ is_look whole) × (is_read part ≡ is_read whole) × (is_pair part ≡ is_pair whole)
    × (is_deallocate part ≡ is_deallocate whole)

kinds : (size first skipped blocks : ℕ) (deed : Deed) → IsOfKindOf (deed_part size first skipped blocks deed) deed
kinds size first skipped blocks (writes payload) = (refl, refl, refl, refl)
kinds size first skipped blocks zeroes = (refl, refl, refl, refl)
kinds size first skipped blocks uncorrectable = (refl, refl, refl, refl)
kinds size first skipped blocks reads = (refl, refl, refl, refl)
kinds size first skipped blocks (compares payload) = (refl, refl, refl, refl)
kinds size first skipped blocks (pairs payload new) = (refl, refl, refl, refl)
kinds size first skipped blocks (deallocates ranges) = (refl, refl, refl, refl)

in_unit : (ns : Namespace) (op : Operation) (unit : ℕ)
    → IsOfKindOf (deed_part ns.block_size op.first (blocks_below ns op.first op.blocks unit) (blocks_in ns op.first op.blocks unit) op.deed) op.deed
in_unit ns op unit =
    kinds ns.block_size op.first (blocks_below ns op.first op.blocks unit) (blocks_in ns op.first op.blocks unit) op.deed

pub returns-clause-look : goal.returns-clause-look
returns-clause-look c ns op unit = (in_unit ns op unit).0

pub returns-clause-read : goal.returns-clause-read
returns-clause-read c ns op unit = (in_unit ns op unit).1

pub returns-clause-pair : goal.returns-clause-pair
returns-clause-pair c ns op unit = (in_unit ns op unit).2

pub returns-clause-deallocate : goal.returns-clause-deallocate
returns-clause-deallocate c ns op unit = (in_unit ns op unit).3
