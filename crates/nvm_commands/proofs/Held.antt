-- What is said of bytes that were read is said of the path that they were read from.
use Rattle.std.proofs.Common.{◌⊎◌, ℕ, List, inl, inr}
use Rattle.nvm_commands.specs.Audited.{IsUnwitnessed}
use Rattle.nvm_commands.specs.Explained.{IsStoryFault}
use Rattle.nvm_commands.specs.Fault.{IsFaultOfEvidenceAt, IsFaultOfRecordIn}
use Rattle.nvm_commands.specs.declared.fault.Fault.{Fault}

pub judged_fault : (trace other held : List ℕ) (fault : Fault) → IsFaultOfRecordIn other held fault ⊎ IsFaultOfEvidenceAt other fault
    → IsUnwitnessed trace other fault
judged_fault trace other held fault (inl is) = inr (inr (inr (inl (held, is))))
judged_fault trace other held fault (inr is) = inr (inr (inr (inr is)))

pub story_fault : (trace seen other held : List ℕ) (fault : Fault) → IsStoryFault trace seen other held fault → IsUnwitnessed trace other fault
story_fault trace seen other held fault (inl is) = inr (inl (inr (seen, is)))
story_fault trace seen other held fault (inr (_, is)) = judged_fault trace other held fault is
