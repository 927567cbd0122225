use Rattle.nvm_trace.proofs.Latest.{all_kept, room_read, noted_more}
use Rattle.std.proofs.Common.{map}
use Rattle.nvm_trace.proofs.timing.note_all.Goals as goal

pub note-requires : goal.note-requires
note-requires c =
    room_read (map (λ row. row.items) c.loop-step.rows.items) c.deref-step-items.result.now c.args.steps.now.items c.loop-step.step-index _
    c.deref-step-items.ensures.value c.loop-step.invariant.room c.loop-step-test.true

pub loop-step-preserved : goal.loop-step-preserved
loop-step-preserved c =
    let rows = map (λ row. row.items) c.loop-step.rows.items in
    let new = map (λ row. row.items) c.note.new.rows.items in
    record {
      room = all_kept rows new c.args.steps.now.items c.note.ensures.room c.loop-step.invariant.room;
      noted =
          noted_more new c.deref-step-items.result.now c.args.steps.now.items c.loop-step.step-index _ c.deref-step-items.ensures.value
          c.loop-step-test.true (c.note.ensures.noted _ c.loop-step.invariant.noted);
    }
