use Rattle.std.proofs.Common.{◌≡◌, length}
use Rattle.std.specs.Vec.Iter.{into_iter_items, into_iter_len}
use Rattle.std.proofs.lemmas.Iterator.{YieldsList-from_zip, items_from_collect}
use Rattle.std.proofs.lemmas.Iterator.Adapters.{YieldsList-from_vec}
use Rattle.nvm_engine.proofs.workers.paired.Goals as goal

pub returns : goal.returns
returns c =
    let claims : into_iter_items c.zip.result.a ≡ c.args.claims.items = (search) in
    let claims_len : into_iter_len c.zip.result.a ≡ length c.args.claims.items = (search) in
    let ports : into_iter_items c.zip.result.b ≡ c.args.ports.items = (search) in
    let ports_len : into_iter_len c.zip.result.b ≡ length c.args.ports.items = (search) in
    items_from_collect c.collect.result c.collect.ensures.ran (YieldsList-from_zip (YieldsList-from_vec c.args.claims.items claims claims_len) (YieldsList-from_vec c.args.ports.items ports ports_len))
