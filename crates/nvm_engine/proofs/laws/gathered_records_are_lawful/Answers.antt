use Rattle.nvm_engine.proofs.GatheredRecord as gathered
use Rattle.nvm_engine.proofs.KnownLaws.{AnswerLaws, MarkLaws, HistoryLaws}
use Rattle.nvm_engine.proofs.PortParts.{JobsAreShown}
use Rattle.nvm_engine.proofs.laws.gathered_records_are_lawful.Goals as goal

pub returns : goal.returns
returns c s ports r is =
    let answers : AnswerLaws = record {
      change_at = c.changes_rest_on_their_points.ensures.at;
      done_at = c.changes_rest_on_their_points.ensures.done;
      failed_at = c.changes_rest_on_their_points.ensures.failed;
      look_at = c.looks_rest_on_their_points.ensures.at;
      observed_at = c.looks_rest_on_their_points.ensures.observed;
      told_alike = c.success_is_told_alike.ensures;
      succeeds = c.act_succeeds_unless_failed_pair.ensures;
    } in
    let marks : MarkLaws = record {
      change_marks = c.changes_mark_their_points.ensures.marked;
      change_entries = c.changes_mark_their_points.ensures.entries;
      change_mine = c.changes_mark_their_points.ensures.mine;
      look_marks = c.looks_mark_their_points.ensures.marked;
      look_entries = c.looks_mark_their_points.ensures.entries;
      look_mine = c.looks_mark_their_points.ensures.mine;
    } in
    let histories : HistoryLaws = record {
      itself = c.beginnings_of_beginnings_begin.ensures.itself;
      further = c.beginnings_of_beginnings_begin.ensures.further;
      no_longer = c.beginnings_of_beginnings_begin.ensures.length;
      among = c.entries_are_their_passes_own.ensures.among;
    } in
    let shown : JobsAreShown s.namespace r.jobs = λ worker d old new done laid.
    let parts = c.parts_show_what_was_done.ensures.shown s.namespace r.jobs d old new worker done laid in
    record { acts = parts.0; does = parts.1; shows = parts.2 } in
    gathered.record_lawful answers marks histories s ports r shown
    (λ d old new done. c.parts_show_what_was_done.ensures.shape s.namespace r.jobs d old new done) is
    (c.few_units_are_regions.ensures.same s.namespace is.valid.some is.valid.units)
    (c.done_reads_are_whole.ensures.gathered s ports r is)
