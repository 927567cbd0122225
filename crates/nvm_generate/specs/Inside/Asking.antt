-- What is known while a host asks for commands.
use Rattle.std.specs.Prelude.{◌≡◌, ℕ, ◌+◌, ◌*◌, length, map, All, IfSome}
use Rattle.std.specs.List.{range_with_len}
use Rattle.nvm_plan.specs.Jobs.{IsBody, commands_of}
use Rattle.nvm_plan.specs.Ready.{IsReadyBody}
use Rattle.nvm_plan.specs.declared.job.Body.{Body}
use Rattle.nvm_generate.specs.Inside.Range.{IsRangeOf}
use Rattle.nvm_generate.specs.Load.{IsCommandOfLoad}
use Rattle.nvm_generate.specs.Wanted.{IsWanted}
use Rattle.nvm_generate.specs.declared.asking.Asking.{Asking}
use Rattle.nvm_generate.specs.declared.asking.Content.{Content}
use Rattle.nvm_generate.specs.declared.load.Load.{Load}

-- The blocks lie in the namespace, and the data is theirs.
pub record IsContentOf (load : Load) (content : Content) : Type 0 where
  pub range : IsRangeOf load.geometry content.range.first content.range.nlb
  pub whole : length content.payload ≡ (content.range.nlb + 1) * load.geometry.block_size

-- So is what the host wrote last.
abbrev pub IsAsking : Load → Asking → Type 0
IsAsking load asking = IfSome asking.written (IsContentOf load)

-- It can be the job whose first command has this CID.
pub record IsNext (load : Load) (host cid : ℕ) (body : Body) : Type 0 where
  pub ready : IsReadyBody load.geometry body
  pub pair : IsBody body
  pub commands : All (IsCommandOfLoad load host) (commands_of body)
  pub wanted : IsWanted load.mix body
  pub cids : map (λ c. c.cid) (commands_of body) ≡ range_with_len cid (length (commands_of body))
