use Rattle.std.proofs.Common.{inl, inr, ◌≡◌, ℕ, ◌≤◌, length, All, ap, ◌∙◌, subst, arith}
use Rattle.std.proofs.lemmas.List.Elements.{All-from_recursion}
use Rattle.nvm_record.specs.Entry.{IsWhole}
use Rattle.std.proofs.lemmas.Result.{err_from_is_err_and}
use Rattle.nvm_geometry.specs.Namespace.{Namespace}
use Rattle.nvm_engine.proofs.Reading.{few_commands}
use Rattle.nvm_engine.proofs.engine.execute_watched.Goals as goal

pub jobs_of-requires-clause-commands : goal.jobs_of-requires-clause-commands
jobs_of-requires-clause-commands g c =
    All-from_recursion (λ host. length host.items ≤ 65536) c.in_ok-hosts.hosts.items
    (few_commands c.block_size.result _ (λ host. host.items) c.in_ok-hosts.hosts.items c.in_ok-hosts.ensures.commands)

pub record_of-requires-clause-fit : goal.record_of-requires-clause-fit
record_of-requires-clause-fit g c = λ lives outlive.
    c.in_ok-jobs.ensures.fit c.in_ok-geometry.geometry
    (subst (λ (n : ℕ). All (λ host. All (IsWhole n) host.items) c.in_ok-hosts.hosts.items) c.block_size.ensures.value c.in_ok-hosts.ensures.whole)

pub record_of-requires-clause-known : goal.record_of-requires-clause-known
record_of-requires-clause-known g c = λ lives outlive. c.in_ok-jobs.ensures.known c.block_size.result c.in_ok-hosts.ensures.whole

pub returns-in_err-hosts-clause-fault : goal.returns-in_err-hosts-clause-fault
returns-in_err-hosts-clause-fault g c =
    let p = err_from_is_err_and c.from_residual-in_err-hosts.result c.from_residual-in_err-hosts.ensures.1 in
    let size : c.block_size.result ≡ c.args.settings.now.block =
    c.block_size.ensures.value ∙ ap (λ (ns : Namespace). ns.block_size) c.in_ok-geometry.ensures.numbers in
    let few : length c.args.files.now ≤ 64 = omega arith in
    rw (p.1, p.2)
    (elim c.in_err-hosts.ensures.fault [
      | inl of_files ↦
          inr (inr (inl (few, c.in_ok-geometry.ensures.namespace, rw size at of_files)))
      | inr none ↦ inr (inr (inr none))
    ])
