use Rattle.std.proofs.lemmas.Bool.Decides.{Decides-eqb}
use Rattle.std.proofs.lemmas.Slice.Eq.{strip_prefix_is}
use Rattle.nvm_record.specs.Ranges.{range_bytes}
use Rattle.nvm_trace.proofs.pieces.after_range.Goals as goal

pub returns : goal.returns
returns c =
    let cases = rw (c.as_slice.ensures, c.bytes.ensures.bytes) at c.strip_prefix.ensures.cases in
    strip_prefix_is Decides-eqb c.args.bytes.now (range_bytes c.args.range) c.strip_prefix.result cases
