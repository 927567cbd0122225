use Rattle.std.proofs.Common.{◌++◌, take}
use Rattle.std.specs.Io.KnownBytes.{Appends}
use Rattle.std.specs.List.{flat_map}
use Rattle.nvm_record.specs.Entry.{spelling_of}
use Rattle.nvm_record.specs.HostFile.{file_name}
use Rattle.nvm_file.proofs.writing.host.write_commands.Given as goal

abbrev pub invariant-loop-command : goal.invariant-loop-command
invariant-loop-command g l =
    record {
      written : Appends (g.W.Write.contents l.fn.writer) (g.W.Write.contents l.writer)
          (file_name ++ flat_map spelling_of (take l.command-index l.commands));
    }
