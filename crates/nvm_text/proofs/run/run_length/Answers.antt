use Rattle.std.proofs.Common.{◌<◌, ◌-◌, ◌∙◌, length, take, drop, arith, sym}
use Rattle.std.proofs.lemmas.Slice.Eq.{bytes_eq-Decides}
use Rattle.nvm_text.proofs.EqualBytes.{one_equal, piece_equal}
use Rattle.nvm_text.proofs.run.run_length.Goals as goal

pub returns-then-eq-clause-equal : goal.returns-then-eq-clause-equal
returns-then-eq-clause-equal c =
    λ k below.
    let bytes = c.args.bytes.now in
    let others = length bytes - 1 in
    let some : 0 < length bytes = c.requires in
    let same = (bytes_eq-Decides (take others (drop 1 bytes)) (take others bytes)).0 (sym c.eq.ensures ∙ c.if-eq.true) in
    (piece_equal bytes 1 others (one_equal bytes some) (omega arith) same).equal k (omega arith)
