-- What is taken from the front of a host's commands, with the jobs of the rest, makes the jobs of all.
use Rattle.std.proofs.Common.{◌≡◌, ◌<◌, List, [], ◌∷◌, length, get_or, arith}
use Rattle.nvm_record.specs.declared.command.Command.{Command}
use Rattle.nvm_plan.specs.declared.job.Body.{Body}
use Rattle.nvm_plan.specs.declared.job.Body.TheVariants.{Single, Pair}
use Rattle.nvm_plan.specs.Profile.{IsFusedPair}
use Rattle.nvm_plan.specs.Jobs.{IsPairing}
use Rattle.nvm_plan.proofs.OnePairing.{pairing_pair, pairing_last, pairing_single}

-- c is taken, and then d, which was seen as e before
pub pair_taken : (all left after : List Command) (c d e : Command) → all ≡ c ∷ left → left ≡ d ∷ after → e ≡ get_or left 0 e → IsFusedPair c e
    → (rest : List Body) → IsPairing after rest → IsPairing all (Pair c d ∷ rest)
pair_taken all left after c d e whole next seen pair rest h =
    let same : e ≡ d = rw next at seen in
    rw (whole, next) (pairing_pair c d after rest (rw same at pair) h)

pub last_taken : (all left : List Command) (c : Command) → all ≡ c ∷ left → left ≡ []
    → (rest : List Body) → IsPairing left rest → IsPairing all (Single c ∷ rest)
last_taken all left c whole none rest h = rw (whole, none) (pairing_last c rest (rw none at h))

-- c is taken, and e, which comes next, isn't its pair
pub single_taken : (all left : List Command) (c e : Command) → all ≡ c ∷ left → 0 < length left → e ≡ get_or left 0 e → ¬ (IsFusedPair c e)
    → (rest : List Body) → IsPairing left rest → IsPairing all (Single c ∷ rest)
single_taken all [] c e whole some seen no_pair rest h = absurd (omega (arith, some))
single_taken all (d ∷ after) c e whole some seen no_pair rest h =
    let same : e ≡ d = seen in
    rw whole (pairing_single c d after rest (rw same at no_pair) h)
