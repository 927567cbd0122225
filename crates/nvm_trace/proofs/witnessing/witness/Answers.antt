use Rattle.std.proofs.Common.{◌≡◌, inl, inr}
use Rattle.std.proofs.lemmas.Result.{err_from_is_err_and, MatchResult-weaker}
use Rattle.nvm_trace.specs.declared.witness_fault.WitnessFault.TheVariants.{NoMemory}
use Rattle.nvm_trace.proofs.NoFault.{no_fault}
use Rattle.nvm_trace.proofs.witnessing.witness.Goals as goal

pub returns-in_err-owners-clause-accepted : goal.returns-in_err-owners-clause-accepted
returns-in_err-owners-clause-accepted g c = λ explained.
    let none = no_fault c.one_check_is_the_first_fault.ensures.none c.args.judging c.args.trace.now c.args.record.now in
    let fault = c.in_err-owners.field-0.0 in
    let p = err_from_is_err_and c.from_residual.result c.from_residual.ensures.1 in
    let refused : fault ≡ NoMemory =
    elim c.in_err-owners.ensures.fault [ inl first ↦ absurd (none fault explained first) | inr refused ↦ refused ] in
    rw (p.1, p.2) refused

pub returns-clause-accepted : goal.returns-clause-accepted
returns-clause-accepted g c = λ explained.
    let none = no_fault c.one_check_is_the_first_fault.ensures.none c.args.judging c.args.trace.now c.args.record.now in
    MatchResult-weaker c.explained.result {P' = λ _. Unit {0}} {Q' = λ fault. fault ≡ NoMemory}
    (c.explained.ensures c.args.judging c.in_ok-owners.ensures.owners c.in_ok-owners.ensures.jobs) (λ x of. tt)
    (λ fault h. elim h [ inl first ↦ absurd (none fault explained first) | inr refused ↦ refused ])
