-- A job that is read is one that a record of its version can hold.
use Rattle.std.proofs.Common.{◌≡◌, ◌⊎◌, ℕ, eqb, IsTrue, List, Ok, inl, inr, subst}
use Rattle.nvm_record.specs.declared.command.Command.{Command}
use Rattle.nvm_record.specs.declared.op.Op.{Op}
use Rattle.nvm_record.specs.declared.op.Op.TheVariants.{Other}
use Rattle.nvm_record.specs.Entry.{IsUnknownDataset, IsWhole}
use Rattle.nvm_plan.specs.declared.job.Body.{Body}
use Rattle.nvm_plan.specs.declared.job.Body.TheVariants.{Single, Pair}
use Rattle.nvm_plan.specs.declared.job.Job.{Job}
use Rattle.nvm_plan.specs.Fits.{FitsNamespace, IsWholeBody, most_hosts}
use Rattle.nvm_plan.specs.Profile.{is_in_profile}
use Rattle.nvm_audit.specs.Recordable.{HoldsBody}
use Rattle.nvm_file.specs.declared.scope.Scope.{Scope}
use Rattle.nvm_file.specs.declared.standing.Standing.TheVariants.{Alone, FirstOfPair, SecondOfPair}
use Rattle.nvm_file.specs.CommandReading.{command_at}
use Rattle.nvm_file.specs.Fields.{◌>>=◌, number_in}
use Rattle.nvm_file.specs.JobReading.{body_at, job_at, pair_at, single_at}
use Rattle.nvm_file.proofs.CommandsHeld.{IsProperEach, command_held}
use Rattle.nvm_file.proofs.Readings.{bind_ok, chosen, in_range, ok_is}

-- What holds of the commands of a job that was read.
record IsHeldBody (scope : Scope) (body : Body) : Type 0 where
  whole : IsWholeBody scope.geometry.block_size body
  known : HoldsBody scope.version body

-- What holds of a job that was read.
pub record IsHeldJob (scope : Scope) (job : Job) : Type 0 where
  pub fits : FitsNamespace scope.geometry job
  pub known : HoldsBody scope.version job.body

unknown_is_not : IsTrue (is_in_profile (Other 9)) → ⊥
unknown_is_not h = absurd cc

surely : (size : ℕ) (c : Command) → IsWhole size c ⊎ IsUnknownDataset c → IsTrue (is_in_profile c.op) → IsWhole size c
surely size c (inl whole) t = whole
surely size c (inr unknown) t = absurd (unknown_is_not (subst (λ (o : Op). IsTrue (is_in_profile o)) unknown.op t))

module _ (proper : IsProperEach) (scope : Scope) where
  single_held : (bytes : List ℕ) (x : Body × List ℕ) → single_at scope bytes ≡ Ok x → IsHeldBody scope x.0
  unfolding single_at
  single_held bytes x e =
      let a = bind_ok (command_at scope Alone bytes) (λ command. Ok (Single command.0, command.1)) x e in
      let h = command_held proper scope Alone bytes a.0 a.1 in
      subst (λ (y : Body × List ℕ). IsHeldBody scope y.0) (ok_is (Single a.0.0, a.0.1) x a.2)
      (record { whole = h.whole; known = h.known })

  pair_held : (bytes : List ℕ) (x : Body × List ℕ) → pair_at scope bytes ≡ Ok x → IsHeldBody scope x.0
  unfolding pair_at
  pair_held bytes x e =
      let a = bind_ok (command_at scope FirstOfPair bytes)
      (λ first. command_at scope SecondOfPair first.1 >>= λ second. Ok (Pair first.0 second.0, second.1)) x e in
      let b = bind_ok (command_at scope SecondOfPair a.0.1) (λ second. Ok (Pair a.0.0 second.0, second.1)) x a.2 in
      let h = command_held proper scope FirstOfPair bytes a.0 a.1 in
      let k = command_held proper scope SecondOfPair a.0.1 b.0 b.1 in
      let size = scope.geometry.block_size in
      subst (λ (y : Body × List ℕ). IsHeldBody scope y.0) (ok_is (Pair a.0.0 b.0.0, b.0.1) x b.2)
      (record {
        whole = (
          surely size a.0.0 h.whole h.stands.1,
          surely size b.0.0 k.whole k.stands.1,
          record { first = h.stands.0; second = k.stands.0; first_op = h.stands.1; second_op = k.stands.1 },
        );
        known = (h.known, k.known);
      })

  body_held : (kind : ℕ) (bytes : List ℕ) (x : Body × List ℕ) → body_at kind scope bytes ≡ Ok x → IsHeldBody scope x.0
  body_held kind bytes x e = elim (chosen (eqb kind 0) (single_at scope bytes) (pair_at scope bytes) (Ok x) e) [
    | inl h ↦ single_held bytes x h.1
    | inr h ↦ pair_held bytes x h.1
  ]

  pub job_held : (bytes : List ℕ) (x : Job × List ℕ) → job_at scope bytes ≡ Ok x → IsHeldJob scope x.0
  unfolding job_at
  job_held bytes x e =
      let a = bind_ok (number_in scope.total 2 1 most_hosts bytes)
      (λ host. number_in scope.total 1 0 1 host.1 >>= λ kind. body_at kind.0 scope kind.1
      >>= λ body. Ok (record { host = host.0; body = body.0 }, body.1)) x e in
      let b = bind_ok (number_in scope.total 1 0 1 a.0.1)
      (λ kind. body_at kind.0 scope kind.1 >>= λ body. Ok (record { host = a.0.0; body = body.0 }, body.1)) x a.2 in
      let c = bind_ok (body_at b.0.0 scope b.0.1) (λ body. Ok (record { host = a.0.0; body = body.0 }, body.1)) x b.2 in
      let host = in_range scope.total 2 1 most_hosts bytes a.0 a.1 in
      let h = body_held b.0.0 b.0.1 c.0 c.1 in
      let job : Job = record { host = a.0.0; body = c.0.0 } in
      subst (λ (y : Job × List ℕ). IsHeldJob scope y.0) (ok_is (job, c.0.1) x c.2)
      (record { fits = record { host = host.0; host_end = host.1; body = h.whole }; known = h.known })
