use Rattle.std.proofs.Common.{◌++◌, refl}
use Rattle.byteorder.specs.Endian.{little_bytes}
use Rattle.nvm_text.proofs.Taking.{within, behind, first_of, on_err, on_err_then}
use Rattle.nvm_file.specs.WorkSpelling.{payload_bytes, statuses_bytes}
use Rattle.nvm_file.proofs.writing.traces.write_ending.Goals as goal

pub returns-in_err-hand_noting-clause-front : goal.returns-in_err-hand_noting-clause-front
returns-in_err-hand_noting-clause-front g c =
    let e = c.args.ending.now in
    within c.from_residual.result _ _ _ (little_bytes 8 e.time) (statuses_bytes e.statuses ++ payload_bytes e.payload)
    c.eight_bytes.ensures c.in_err-hand_noting.ensures.front

pub returns-in_err-write_statuses-clause-front : goal.returns-in_err-write_statuses-clause-front
returns-in_err-write_statuses-clause-front g c =
    let e = c.args.ending.now in
    let statuses = statuses_bytes e.statuses in
    let payload = payload_bytes e.payload in
    on_err c.from_residual-in_err-write_statuses.result
    (behind _ _ _ _ (little_bytes 8 e.time) (statuses ++ payload) c.eight_bytes.ensures c.in_ok-hand_noting.ensures.whole
    (first_of _ _ _ statuses payload refl c.in_err-write_statuses.ensures.front))

pub returns-clause-front : goal.returns-clause-front
returns-clause-front g c =
    let e = c.args.ending.now in
    let statuses = statuses_bytes e.statuses in
    let payload = payload_bytes e.payload in
    on_err_then c.write_payload.result (λ failed.
    behind _ _ _ _ (little_bytes 8 e.time) (statuses ++ payload) c.eight_bytes.ensures c.in_ok-hand_noting.ensures.whole
    (behind _ _ _ _ statuses payload refl c.in_ok-write_statuses.ensures.whole failed)) c.write_payload.ensures.front
