use Rattle.std.proofs.Common.{drop, subst, arith, length-drop}
use Rattle.nvm_record.specs.Entry.{IsCommandFault}
use Rattle.nvm_record.proofs.host_file.next_command.Goals as goal

pub overflow_add-result : goal.overflow_add-result
overflow_add-result c =
    let cut = subst (IsCommandFault c.args.size (drop c.args.from c.args.bytes.now)) c.in-Err-CutData.field-0-is c.in-Err-CutData.ensures.fault in
    omega (arith, cut.0, length-drop c.args.from c.args.bytes.now)
