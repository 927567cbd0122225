use Rattle.nvm_engine.proofs.PartsShown as parts
use Rattle.nvm_engine.proofs.shown_parts.parts_show_what_was_done.Goals as goal

pub returns-clause-shown : goal.returns-clause-shown
returns-clause-shown c =
    parts.done_is_shown c.pieces_stand_in_line.ensures.in_line c.ready_jobs.ensures.range c.whole_ranges_are_reached.ensures.units
    c.lawful_replay_has_block_size.ensures.replay c.steps_keep_block_sizes.ensures.payload c.ready_jobs.ensures.pair

pub returns-clause-shape : goal.returns-clause-shape
returns-clause-shape c = parts.has_its_shape c.outcomes_have_their_shape.ensures
