-- A job is read of its spelling.
use Rattle.std.proofs.Common.{◌≡◌, ◌⊎◌, ℕ, Bool, true, false, List, ◌∷◌, ◌++◌, not, Ok, inl, inr, refl, ap, subst, ◌∙◌, append_assoc, arith}
use Rattle.std.proofs.lemmas.Bool.{and_from}
use Rattle.byteorder.specs.Endian.{little_bytes}
use Rattle.nvm_record.specs.declared.command.Command.{Command}
use Rattle.nvm_record.specs.declared.op.Op.{Op}
use Rattle.nvm_record.specs.declared.op.Op.TheVariants.{Write, Read, WriteUncorrectable, Compare, WriteZeroes, Dataset, Other}
use Rattle.nvm_record.specs.Entry.{HasDataOf, HasFieldsInRange, IsUnknownDataset, IsWhole, spelling_of}
use Rattle.nvm_record.specs.Op.{carries_ranges}
use Rattle.nvm_plan.specs.declared.job.Body.{Body}
use Rattle.nvm_plan.specs.declared.job.Body.TheVariants.{Single, Pair}
use Rattle.nvm_plan.specs.declared.job.Job.{Job}
use Rattle.nvm_plan.specs.Fits.{FitsNamespace, IsWholeBody, most_hosts}
use Rattle.nvm_plan.specs.Profile.{is_in_profile}
use Rattle.nvm_audit.specs.declared.version.Version.{Version}
use Rattle.nvm_audit.specs.declared.version.Version.TheVariants.{One, Two}
use Rattle.nvm_audit.specs.Recordable.{HoldsBody, HoldsCommand}
use Rattle.nvm_file.specs.declared.scope.Scope.{Scope}
use Rattle.nvm_file.specs.declared.standing.Standing.{Standing}
use Rattle.nvm_file.specs.declared.standing.Standing.TheVariants.{Alone, FirstOfPair, SecondOfPair}
use Rattle.nvm_file.specs.CommandReading.{command_at, is_first, is_second, may_stand}
use Rattle.nvm_file.specs.Fits.{BodyFits, JobFits}
use Rattle.nvm_file.specs.Fields.{number_in}
use Rattle.nvm_file.specs.JobReading.{body_at, job_at, pair_at, single_at}
use Rattle.nvm_file.specs.JobSpelling.{body_kind, commands_bytes, job_bytes}
use Rattle.nvm_file.proofs.CommandsReturn.{fields_by}
use Rattle.nvm_file.proofs.Returning.{number_in_returns, read_then}
use Rattle.nvm_file.proofs.WholeCommandsAgain.{dataset_again, plain_again}

-- What carries ranges is a Dataset Management, and then it has them.
has_ranges : (op : Op) → carries_ranges op ≡ true → (deallocate : Bool) × (op ≡ Dataset deallocate)
has_ranges Write some = absurd cc
has_ranges Read some = absurd cc
has_ranges WriteUncorrectable some = absurd cc
has_ranges Compare some = absurd cc
has_ranges WriteZeroes some = absurd cc
has_ranges (Dataset deallocate) some = (deallocate, refl)
has_ranges (Other opcode) some = absurd cc

is_second_version : (version : Version) (c : Command) → carries_ranges c.op ≡ true → HoldsCommand version c → version ≡ Two
is_second_version One c some known = absurd (both (carries_ranges c.op) some known)
  where
    both : (b : Bool) → b ≡ true → not b ≡ true → ⊥
    both true t f = absurd cc
    both false t f = absurd cc
is_second_version Two c some known = refl

module _ (scope : Scope) (standing : Standing) (c : Command) (rest : List ℕ) (range : HasFieldsInRange c)
    (stands : may_stand standing (fields_by c) ≡ true) where
  with_ranges : carries_ranges c.op ≡ true → IsWhole scope.geometry.block_size c ⊎ IsUnknownDataset c → HoldsCommand scope.version c
      → command_at scope standing (spelling_of c ++ rest) ≡ Ok (c, rest)
  with_ranges some (inl whole) known =
      let dataset = has_ranges c.op some in
      let ranges = subst (λ (o : Op). HasDataOf scope.geometry.block_size o c) dataset.1 whole.payload in
      dataset_again scope standing c rest range stands dataset.0
      (is_second_version scope.version c some known) dataset.1 ranges
  with_ranges some (inr unknown) known = absurd (none some (ap carries_ranges unknown.op))
    where
      none : {b : Bool} → b ≡ true → b ≡ false → ⊥
      none t f = absurd (cc (t, f))

  command_returns : IsWhole scope.geometry.block_size c ⊎ IsUnknownDataset c → HoldsCommand scope.version c
      → command_at scope standing (spelling_of c ++ rest) ≡ Ok (c, rest)
  command_returns whole known = by (carries_ranges c.op) refl
    where
      by : (b : Bool) → carries_ranges c.op ≡ b → command_at scope standing (spelling_of c ++ rest) ≡ Ok (c, rest)
      by true some = with_ranges some whole known
      by false none = plain_again scope standing c rest range stands none whole known

single_returns : (scope : Scope) (c : Command) (rest : List ℕ) → IsWholeBody scope.geometry.block_size (Single c)
    → HoldsCommand scope.version c → HasFieldsInRange c → single_at scope (spelling_of c ++ rest) ≡ Ok (Single c, rest)
unfolding single_at
single_returns scope c rest whole known range =
    read_then _ _ _ _ (command_returns scope Alone c rest range refl whole known) refl

pair_returns : (scope : Scope) (c d : Command) (rest : List ℕ) → IsWholeBody scope.geometry.block_size (Pair c d)
    → HoldsBody scope.version (Pair c d) → BodyFits (Pair c d)
    → pair_at scope ((spelling_of c ++ spelling_of d) ++ rest) ≡ Ok (Pair c d, rest)
unfolding pair_at
pair_returns scope c d rest (first, second, fused) known range =
    let of_first = and_from (is_first c.fuse) (is_in_profile c.op) (ap is_first fused.first) fused.first_op in
    let of_second = and_from (is_second d.fuse) (is_in_profile d.op) (ap is_second fused.second) fused.second_op in
    ap (pair_at scope) (append_assoc (spelling_of c) (spelling_of d) rest)
    ∙ read_then _ _ _ _ (command_returns scope FirstOfPair c (spelling_of d ++ rest) range.0 of_first (inl first) known.0)
    (read_then _ _ _ _ (command_returns scope SecondOfPair d rest range.1 of_second (inl second) known.1) refl)

body_returns : (scope : Scope) (body : Body) (rest : List ℕ) → IsWholeBody scope.geometry.block_size body
    → HoldsBody scope.version body → BodyFits body → body_at (body_kind body) scope (commands_bytes body ++ rest) ≡ Ok (body, rest)
body_returns scope (Single c) rest whole known range = single_returns scope c rest whole known range
body_returns scope (Pair c d) rest whole known range = pair_returns scope c d rest whole known range

kind_returns : (total : ℕ) (body : Body) (rest : List ℕ)
    → number_in total 1 0 1 (body_kind body ∷ rest) ≡ Ok (body_kind body, rest)
kind_returns total (Single c) rest = number_in_returns total 1 0 1 0 rest (omega arith) (omega arith) (omega arith)
kind_returns total (Pair c d) rest = number_in_returns total 1 0 1 1 rest (omega arith) (omega arith) (omega arith)

pub job_returns : (scope : Scope) (job : Job) (rest : List ℕ) → FitsNamespace scope.geometry job → HoldsBody scope.version job.body
    → JobFits job → job_at scope (job_bytes job ++ rest) ≡ Ok (job, rest)
unfolding job_at
job_returns scope job rest fits known range =
    let commands = commands_bytes job.body in
    let grouped : job_bytes job ++ rest ≡ little_bytes 2 job.host ++ (body_kind job.body ∷ (commands ++ rest)) = refl in
    ap (job_at scope) grouped
    ∙ read_then _ _ _ _ (number_in_returns scope.total 2 1 most_hosts job.host (body_kind job.body ∷ (commands ++ rest))
    (omega (arith, fits.host_end)) fits.host fits.host_end)
    (read_then _ _ _ _ (kind_returns scope.total job.body (commands ++ rest))
    (read_then _ _ _ _ (body_returns scope job.body rest fits.body known range) refl))
