use Rattle.std.proofs.Common.{◌++◌, ◌∷◌}
use Rattle.byteorder.specs.Endian.{little_bytes}
use Rattle.nvm_record.specs.Entry.{entry_of}
use Rattle.nvm_text.proofs.Taking.{within, then_whole, then_front}
use Rattle.nvm_file.proofs.writing.jobs.write_first.Goals as goal

pub returns-in_err-hand_noting-clause-front : goal.returns-in_err-hand_noting-clause-front
returns-in_err-hand_noting-clause-front g c =
    within c.from_residual.result _ _ _ (little_bytes 2 c.args.host ++ (c.args.kind ∷ entry_of c.args.command.now)) c.args.command.now.payload
    c.first_piece.ensures.bytes c.in_err-hand_noting.ensures.front

pub returns-clause-whole : goal.returns-clause-whole
returns-clause-whole g c =
    then_whole c.hand_noting-2.result _ _ _ _ (little_bytes 2 c.args.host ++ (c.args.kind ∷ entry_of c.args.command.now)) _ c.args.command.now.payload
    c.first_piece.ensures.bytes c.as_slice.ensures c.in_ok-hand_noting.ensures.whole c.hand_noting-2.ensures.whole

pub returns-clause-front : goal.returns-clause-front
returns-clause-front g c =
    then_front c.hand_noting-2.result _ _ _ _ (little_bytes 2 c.args.host ++ (c.args.kind ∷ entry_of c.args.command.now)) _ c.args.command.now.payload
    c.first_piece.ensures.bytes c.as_slice.ensures c.in_ok-hand_noting.ensures.whole c.hand_noting-2.ensures.front
