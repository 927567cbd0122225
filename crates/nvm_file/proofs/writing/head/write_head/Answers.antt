use Rattle.std.proofs.Common.{◌++◌, ap, refl, subst}
use Rattle.std.specs.Io.KnownBytes.{Appends}
use Rattle.byteorder.specs.Endian.{little_bytes}
use Rattle.nvm_text.specs.Handed.{TakesFront}
use Rattle.nvm_text.proofs.Taking.{behind, both, first_of, on_err, on_err_then, on_ok_then}
use Rattle.nvm_file.specs.HeadSpelling.{head_bytes, limit_bytes, name_of, namespace_bytes}
use Rattle.nvm_file.proofs.writing.head.write_head.Goals as goal

pub returns-in_err-hand_noting-clause-front : goal.returns-in_err-hand_noting-clause-front
returns-in_err-hand_noting-clause-front g c =
    let r = c.run.inside in
    on_err c.from_residual.result (subst (TakesFront _ _) (ap head_bytes c.run.view_is)
    (first_of _ _ _ (name_of r.version) (namespace_bytes r.geometry ++ (limit_bytes r.version r.limit ++ little_bytes 2 r.workers))
    c.name.ensures c.in_err-hand_noting.ensures.front))

pub returns-in_err-hand_noting-2-clause-front : goal.returns-in_err-hand_noting-2-clause-front
returns-in_err-hand_noting-2-clause-front g c =
    let r = c.run.inside in
    let after = limit_bytes r.version r.limit ++ little_bytes 2 r.workers in
    on_err c.from_residual-in_err-hand_noting-2.result (subst (TakesFront _ _) (ap head_bytes c.run.view_is)
    (behind _ _ _ _ (name_of r.version) (namespace_bytes r.geometry ++ after) c.name.ensures c.in_ok-hand_noting.ensures.whole
    (first_of _ _ _ (namespace_bytes r.geometry) after c.namespace_bytes.ensures.bytes c.in_err-hand_noting-2.ensures.front)))

pub returns-in_err-write_limit-clause-front : goal.returns-in_err-write_limit-clause-front
returns-in_err-write_limit-clause-front g c =
    let r = c.run.inside in
    let limit = limit_bytes r.version r.limit in
    let workers = little_bytes 2 r.workers in
    on_err c.from_residual-in_err-write_limit.result (subst (TakesFront _ _) (ap head_bytes c.run.view_is)
    (behind _ _ _ _ (name_of r.version) (namespace_bytes r.geometry ++ (limit ++ workers)) c.name.ensures c.in_ok-hand_noting.ensures.whole
    (behind _ _ _ _ (namespace_bytes r.geometry) (limit ++ workers) c.namespace_bytes.ensures.bytes c.in_ok-hand_noting-2.ensures.whole
    (first_of _ _ _ limit workers refl c.in_err-write_limit.ensures.front))))

pub returns-clause-whole : goal.returns-clause-whole
returns-clause-whole g c =
    let r = c.run.inside in
    let limit = limit_bytes r.version r.limit in
    let workers = little_bytes 2 r.workers in
    on_ok_then c.hand_noting-3.result (λ taken. subst (Appends _ _) (ap head_bytes c.run.view_is)
    (both _ _ _ _ (name_of r.version) (namespace_bytes r.geometry ++ (limit ++ workers)) c.name.ensures c.in_ok-hand_noting.ensures.whole
    (both _ _ _ _ (namespace_bytes r.geometry) (limit ++ workers) c.namespace_bytes.ensures.bytes c.in_ok-hand_noting-2.ensures.whole
    (both _ _ _ _ limit workers refl c.in_ok-write_limit.ensures.whole
    (subst (Appends _ _) c.two_bytes.ensures taken))))) c.hand_noting-3.ensures.whole

pub returns-clause-front : goal.returns-clause-front
returns-clause-front g c =
    let r = c.run.inside in
    let limit = limit_bytes r.version r.limit in
    let workers = little_bytes 2 r.workers in
    on_err_then c.hand_noting-3.result (λ failed. subst (TakesFront _ _) (ap head_bytes c.run.view_is)
    (behind _ _ _ _ (name_of r.version) (namespace_bytes r.geometry ++ (limit ++ workers)) c.name.ensures c.in_ok-hand_noting.ensures.whole
    (behind _ _ _ _ (namespace_bytes r.geometry) (limit ++ workers) c.namespace_bytes.ensures.bytes c.in_ok-hand_noting-2.ensures.whole
    (behind _ _ _ _ limit workers refl c.in_ok-write_limit.ensures.whole
    (subst (TakesFront _ _) c.two_bytes.ensures failed))))) c.hand_noting-3.ensures.front
