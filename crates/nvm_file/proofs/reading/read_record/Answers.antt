use Rattle.nvm_file.specs.Inside.Head.{frame_by}
use Rattle.nvm_file.specs.Inside.Rest.{left_of}
use Rattle.nvm_file.proofs.HeadsHeld.{head_held}
use Rattle.nvm_file.proofs.reading.read_record.Goals as goal

pub body_of-requires : goal.body_of-requires
body_of-requires c =
    rw c.frame_of-frame.ensures
    (head_held c.len-total.result (left_of c.whole.result) (frame_by c.len-total.result c.in_ok-head.head, left_of c.in_ok-head.rest)
    c.in_ok-head.ensures.head c.in_ok-head.ensures.held)
