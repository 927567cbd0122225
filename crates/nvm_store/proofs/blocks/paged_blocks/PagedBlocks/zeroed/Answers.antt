use Rattle.std.proofs.Common.{ℕ, ◌*◌, length, replicate, arith}
use Rattle.std.proofs.lemmas.List.{take-replicate}
use Rattle.nvm_store.specs.Inside.Gathered.{IsGathered}
use Rattle.nvm_store.specs.Inside.Rewrite.{zero_block}
use Rattle.nvm_store.proofs.Gathering.{first_is_gathered, gathered_first}
use Rattle.nvm_store.proofs.blocks.paged_blocks.PagedBlocks.zeroed.Goals as goal

pub invariant_of-result : goal.invariant_of-result
invariant_of-result c =
    let numbers = c.in_ok-zeroed.field-0 in
    let enough = c.in_ok-zeroed.ensures.enough in
    let few = c.in_ok-zeroed.ensures.few in
    let sound : IsGathered 8 (zero_block c.args.size) (replicate 8 (zero_block c.args.size)) (replicate {A = ℕ} (length numbers) 0) =
    first_is_gathered 8 (length numbers) (zero_block c.args.size) (omega arith) in
    record {
      paged = record {
        gathered = rw (c.in_ok-zeroed-2.ensures.size, c.in_ok-zeroed-2.ensures.list, c.in_ok-zeroed.ensures.zeroes) sound;
        few = omega arith;
        small = rw c.in_ok-zeroed-2.ensures.size c.requires.small;
      };
      enough = omega arith;
      low = c.requires.few;
    }

pub returns-clause-list : goal.returns-clause-list
returns-clause-list c =
    let numbers = c.in_ok-zeroed.field-0 in
    let enough = c.in_ok-zeroed.ensures.enough in
    let all = gathered_first 8 (length numbers) (zero_block c.args.size) in
    rw (c.in_ok-zeroed-2.ensures.list, c.in_ok-zeroed.ensures.zeroes, all) (take-replicate c.args.count (length numbers * 8) (zero_block c.args.size) (omega arith))
