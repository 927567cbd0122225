-- The jobs that a host of a load is to ask for.
use Rattle.std.specs.Prelude.{◌≡◌, ℕ, ◌+◌, List, map, None, All}
use Rattle.std.specs.List.{flat_map, range_with_len}
use Rattle.nvm_record.specs.Entry.{IsWhole}
use Rattle.nvm_record.specs.declared.command.Command.{Command}
use Rattle.nvm_record.specs.declared.op.Op.TheVariants.{Write}
use Rattle.nvm_plan.specs.Checks.{refusal_of}
use Rattle.nvm_plan.specs.Jobs.{IsBody, IsPairing, commands_of}
use Rattle.nvm_plan.specs.declared.job.Body.{Body}
use Rattle.nvm_generate.specs.Blocks.{HasFewBlocks}
use Rattle.nvm_generate.specs.Stamp.{stamps}
use Rattle.nvm_generate.specs.Wanted.{IsWanted}
use Rattle.nvm_generate.specs.declared.load.Load.{Load}

-- Where it is a Write, each of its blocks has the stamp of its place in it.
abbrev pub IsStamped : ℕ → ℕ → Command → Type 0
IsStamped size host c = c.op ≡ Write → c.payload ≡ stamps size host c.cid (c.nlb + 1)

-- What is known of a command of a load.
pub record IsCommandOfLoad (load : Load) (host : ℕ) (c : Command) : Type 0 where
  -- it has exactly the data that it calls for
  pub whole : IsWhole load.geometry.block_size c
  pub stamped : IsStamped load.geometry.block_size host c
  -- it has at most NAWUN + 1 blocks, and at most 256
  pub few : HasFewBlocks load.geometry c.op c

-- What is known of a job of a load.
pub record IsJobOfLoad (load : Load) (host : ℕ) (body : Body) : Type 0 where
  -- no check refuses it, so all its blocks lie in the namespace, and a pair is in the limit
  pub served : refusal_of load.geometry (record { host = host; body = body }) ≡ None
  pub pair : IsBody body
  pub commands : All (IsCommandOfLoad load host) (commands_of body)
  pub wanted : IsWanted load.mix body

-- The jobs are of this load, and have as many commands as it says, whose CIDs count them from 1. They are the jobs that a
-- host's commands are: each pair that it is to send is one, and no other neighbours are a pair.
pub record AreJobsOfLoad (load : Load) (host : ℕ) (bodies : List Body) : Type 0 where
  pub jobs : All (IsJobOfLoad load host) bodies
  pub cids : map (λ c. c.cid) (flat_map commands_of bodies) ≡ range_with_len 1 load.commands
  pub paired : IsPairing (flat_map commands_of bodies) bodies
