use Rattle.std.proofs.Common.{◌++◌, ap, refl, subst}
use Rattle.std.specs.Io.KnownBytes.{Appends}
use Rattle.nvm_text.specs.Handed.{TakesFront}
use Rattle.nvm_text.proofs.Taking.{within, behind, both, first_of, on_err, on_err_then, on_ok_then}
use Rattle.nvm_trace.specs.Shown.{shown_by}
use Rattle.nvm_file.specs.HeadSpelling.{namespace_bytes}
use Rattle.nvm_file.specs.TraceHeadReading.{trace_name}
use Rattle.nvm_file.specs.TraceSpelling.{trace_head_bytes, window_bytes}
use Rattle.nvm_file.proofs.writing.traces.write_trace_head.Goals as goal

pub returns-in_err-hand_noting-clause-front : goal.returns-in_err-hand_noting-clause-front
returns-in_err-hand_noting-clause-front g c =
    let t = c.args.trace.now in
    within c.from_residual.result _ _ _ trace_name (namespace_bytes t.namespace ++ window_bytes t) refl c.in_err-hand_noting.ensures.front

pub returns-in_err-hand_noting-2-clause-front : goal.returns-in_err-hand_noting-2-clause-front
returns-in_err-hand_noting-2-clause-front g c =
    let t = shown_by c.trace.inside in
    on_err c.from_residual-in_err-hand_noting-2.result (subst (TakesFront _ _) (ap trace_head_bytes c.trace.view_is)
    (behind _ _ _ _ trace_name (namespace_bytes t.namespace ++ window_bytes t) refl c.in_ok-hand_noting.ensures.whole
    (first_of _ _ _ (namespace_bytes t.namespace) (window_bytes t) c.namespace_bytes.ensures.bytes c.in_err-hand_noting-2.ensures.front)))

pub returns-clause-whole : goal.returns-clause-whole
returns-clause-whole g c =
    let t = shown_by c.trace.inside in
    on_ok_then c.hand_noting-3.result (λ taken. subst (Appends _ _) (ap trace_head_bytes c.trace.view_is)
    (both _ _ _ _ trace_name (namespace_bytes t.namespace ++ window_bytes t) refl c.in_ok-hand_noting.ensures.whole
    (both _ _ _ _ (namespace_bytes t.namespace) (window_bytes t) c.namespace_bytes.ensures.bytes c.in_ok-hand_noting-2.ensures.whole
    (subst (Appends _ _) c.window_bytes.ensures taken)))) c.hand_noting-3.ensures.whole

pub returns-clause-front : goal.returns-clause-front
returns-clause-front g c =
    let t = shown_by c.trace.inside in
    on_err_then c.hand_noting-3.result (λ failed. subst (TakesFront _ _) (ap trace_head_bytes c.trace.view_is)
    (behind _ _ _ _ trace_name (namespace_bytes t.namespace ++ window_bytes t) refl c.in_ok-hand_noting.ensures.whole
    (behind _ _ _ _ (namespace_bytes t.namespace) (window_bytes t) c.namespace_bytes.ensures.bytes c.in_ok-hand_noting-2.ensures.whole
    (subst (TakesFront _ _) c.window_bytes.ensures failed)))) c.hand_noting-3.ensures.front
