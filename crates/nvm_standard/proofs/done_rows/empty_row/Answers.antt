use Rattle.nvm_standard.specs.PointView.{seen}
use Rattle.nvm_standard.proofs.RowsMore.{empty_row_of}
use Rattle.nvm_standard.proofs.done_rows.empty_row.Goals as goal

pub returns : goal.returns
returns c = λ o n.
    empty_row_of o n c.row_len.result (seen c.args.point.now) c.in_ok-row.row.items (c.in_ok-row.ensures.items_if_clones_equal (λ y e. e)) c.row_len.ensures
