-- A job that has one part, and the commands of entries whose data is lent.
use Rattle.std.specs.Prelude.{◌≡◌, ℕ, List, [], ◌∷◌, None, Some}
use Rattle.nvm_record.specs.Step.{Operation}
use Rattle.nvm_record.specs.declared.command.Command.{Command}
use Rattle.nvm_record.specs.declared.entry.EntryFields.{EntryFields}
use Rattle.nvm_geometry.specs.Namespace.{Namespace}
use Rattle.nvm_plan.specs.Checks.{refusal_of}
use Rattle.nvm_plan.specs.JobPart.{job_units, job_part_in}
use Rattle.nvm_plan.specs.declared.body_fields.BodyFields.{BodyFields}
use Rattle.nvm_plan.specs.declared.body_fields.BodyFields.TheVariants as fields
use Rattle.nvm_plan.specs.declared.job.Body.{Body}
use Rattle.nvm_plan.specs.declared.job.Body.TheVariants.{Pair, Single}
use Rattle.nvm_plan.specs.declared.job.Job.{Job}

-- the command of an entry with these fields, and of this data
abbrev pub command_lent : EntryFields → List ℕ → Command
command_lent fields payload =
    record {
      cid = fields.cid;
      nsid = fields.nsid;
      fuse = fields.fuse;
      op = fields.op;
      slba = fields.slba;
      nlb = fields.nlb;
      payload = payload;
    }

-- the body of entries with these fields: of this data, and of `compared` in a pair's first command
abbrev pub body_lent : BodyFields → List ℕ → List ℕ → Body
body_lent (fields.Single alone) payload compared = Single (command_lent alone payload)
body_lent (fields.Pair compare write) payload compared = Pair (command_lent compare compared) (command_lent write payload)

-- No check refuses the job, and it has this part in this unit and no other.
pub record IsOnlyPart (ns : Namespace) (job : Job) (unit : ℕ) (part : Operation) : Type 0 where
  pub free : refusal_of ns job ≡ None
  pub units : job_units ns job ≡ unit ∷ []
  pub in_unit : job_part_in ns job unit ≡ Some part
