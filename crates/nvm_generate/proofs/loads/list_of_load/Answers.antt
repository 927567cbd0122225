use Rattle.std.proofs.Common.{◌≡◌, ◌≤◌, Ok, All, length, subst, ap, sym, ◌∙◌, arith}
use Rattle.std.proofs.lemmas.Result.{IfOk-weaker}
use Rattle.std.specs.List.{flat_map}
use Rattle.nvm_record.specs.BlockSize.{IsBlockSize}
use Rattle.nvm_record.specs.Entry.{IsWhole}
use Rattle.nvm_record.specs.HostFile.{most_commands}
use Rattle.nvm_plan.specs.Jobs.{commands_of}
use Rattle.nvm_generate.proofs.Jobs.{all_whole, as_many}
use Rattle.nvm_generate.proofs.loads.list_of_load.Goals as goal

pub returns : goal.returns
returns c =
    let load = c.args.load.now in
    let jobs = c.in_ok-jobs.jobs.items in
    let is = c.in_ok-jobs.ensures in
    let same : c.deref.result.now ≡ flat_map commands_of jobs = c.deref.ensures.value ∙ c.in_ok-commands.ensures in
    let size : IsBlockSize load.geometry.block_size = subst IsBlockSize c.block_size-size.ensures.value c.block_size-size.ensures.valid in
    let whole : All (IsWhole load.geometry.block_size) c.deref.result.now = subst (All (IsWhole load.geometry.block_size)) (sym same) (all_whole load c.args.host jobs is.jobs) in
    let few : length c.deref.result.now ≤ most_commands = omega (arith, ap length same, as_many load c.args.host jobs is) in
    IfOk-weaker c.list.result _ _ (λ text again. (jobs, is, again load.geometry.block_size size whole few ∙ ap Ok same)) c.list.ensures.again
