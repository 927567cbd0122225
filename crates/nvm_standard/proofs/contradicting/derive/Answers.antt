use Rattle.std.proofs.Common.{◌<◌, length, refl, rules}
use Rattle.std.proofs.lemmas.Option.{slice_get_read}
use Rattle.nvm_standard.specs.PointView.{seen_table}
use Rattle.nvm_standard.proofs.Deriving.{next_derived}
use Rattle.nvm_standard.proofs.contradicting.derive.Goals as goal

pub loop-n-preserved : goal.loop-n-preserved
loop-n-preserved c =
    let facts = c.args.facts.now.items in
    let n = c.loop-n.n in
    let fact = c.index-fact.result.now in
    let low : n < length facts = search rules in
    next_derived (seen_table c.args.points.now) facts n fact c.loop-n.known c.note_fact.new.known
    (slice_get_read facts (length facts) n fact refl low c.index-fact.ensures) c.loop-n.invariant (c.if-not-is_given.ensures refl)
    c.in_ok-note_fact.ensures
