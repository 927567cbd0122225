use Rattle.nvm_engine.proofs.WholeReads as reads
use Rattle.nvm_engine.proofs.shown_parts.done_reads_are_whole.Goals as goal

pub returns-clause-done : goal.returns-clause-done
returns-clause-done c =
    reads.done_is_whole c.pieces_stand_in_line.ensures.in_line c.ready_jobs.ensures.range c.whole_ranges_are_reached.ensures.units
    c.lawful_replay_has_block_size.ensures.replay c.steps_keep_block_sizes.ensures.payload c.ready_jobs.ensures.pair

pub returns-clause-gathered : goal.returns-clause-gathered
returns-clause-gathered c =
    reads.gathered_are_whole c.pieces_stand_in_line.ensures.in_line c.ready_jobs.ensures.range c.whole_ranges_are_reached.ensures.units
    c.lawful_replay_has_block_size.ensures.replay c.steps_keep_block_sizes.ensures.payload c.ready_jobs.ensures.pair c.few_units_are_regions.ensures.same
