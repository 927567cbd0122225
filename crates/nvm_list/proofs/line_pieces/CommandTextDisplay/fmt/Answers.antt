use Rattle.std.proofs.Output.{has_written_of_eq}
use Rattle.nvm_list.proofs.SpacedWords.{command_spaced}
use Rattle.nvm_list.proofs.line_pieces.CommandTextDisplay.fmt.Goals as goal

pub returns-clause-writes : goal.returns-clause-writes
returns-clause-writes g c = λ plain ok.
    has_written_of_eq _ _ _ _ _ (command_spaced c.args.self.now.place c.args.self.now.command.now _ _ c.deallocate_option-deallocate.ensures c.fuse_option-fuse.ensures) (c.write.ensures.writes plain ok)
