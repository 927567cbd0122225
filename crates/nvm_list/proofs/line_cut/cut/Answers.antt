use Rattle.std.proofs.lemmas.List.{take_rest}
use Rattle.nvm_list.specs.Words.{is}
use Rattle.nvm_list.proofs.Cutting.{cut_inside, cut_at_end}
use Rattle.nvm_list.proofs.line_cut.cut.Goals as goal

pub returns-then-place-bytes-clause-parts : goal.returns-then-place-bytes-clause-parts
returns-then-place-bytes-clause-parts c =
    rw take_rest (cut_inside (is c.args.end) c.args.bytes.now c.place_of-place.result c.place_of-place.ensures.place c.if-place-bytes.true)

pub returns-else-place-bytes-clause-parts : goal.returns-else-place-bytes-clause-parts
returns-else-place-bytes-clause-parts c =
    cut_at_end (is c.args.end) c.args.bytes.now c.place_of-place.result c.place_of-place.ensures.place c.if-place-bytes.false
