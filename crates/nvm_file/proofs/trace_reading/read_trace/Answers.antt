use Rattle.nvm_file.specs.Inside.Head.{trace_frame_by}
use Rattle.nvm_file.specs.Inside.Rest.{left_of}
use Rattle.nvm_file.proofs.TracesHeld.{head_held}
use Rattle.nvm_file.proofs.trace_reading.read_trace.Goals as goal

pub behind_head-requires : goal.behind_head-requires
behind_head-requires c =
    rw c.trace_frame_of-frame.ensures
    (head_held c.len-total.result (left_of c.whole.result)
    (trace_frame_by c.len-total.result c.in_ok-head.head, left_of c.in_ok-head.rest) c.in_ok-head.ensures.head)
