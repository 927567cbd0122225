use Rattle.std.proofs.Common.{map}
use Rattle.nvm_c.proofs.Worked.{handed_file, record_of_ports}
use Rattle.nvm_c.proofs.recording.file_of_work.Goals as goal

pub returns-in-Ok-clause-file : goal.returns-in-Ok-clause-file
returns-in-Ok-clause-file c = λ held worked. handed_file c.lawful_file.result held c.args.from c.args.most c.in-Ok.whole
    (λ lawful. record_of_ports c.args.work.geometry c.args.work.limit held (map (λ own. own.items) c.args.work.jobs.items)
    (map (λ did. did.items) c.args.work.done.items) c.in-Ok.whole worked c.in-Ok.ensures lawful)
    c.lawful_file.ensures.lawful c.lawful_file.ensures.file c.lawful_file.ensures.bytes
