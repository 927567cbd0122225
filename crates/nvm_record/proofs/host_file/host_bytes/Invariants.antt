use Rattle.std.proofs.Common.{◌≡◌, ◌++◌, drop}
use Rattle.std.specs.List.{flat_map, AllByRecursion}
use Rattle.nvm_record.specs.Entry.{spelling_of}
use Rattle.nvm_record.specs.HostFile.{file_of}
use Rattle.nvm_record.proofs.WrittenFiles.{SpellsItself}
use Rattle.nvm_record.proofs.host_file.host_bytes.Given as goal

abbrev pub invariant-loop-command : goal.invariant-loop-command
invariant-loop-command l = record {
  whole : l.bytes.items ++ flat_map spelling_of (drop l.command-index l.commands) ≡ file_of l.commands;
  spelled : AllByRecursion SpellsItself (drop l.command-index l.commands) → AllByRecursion SpellsItself l.commands;
}
