use Rattle.std.proofs.Common.{◌∙◌, length, ap}
use Rattle.nvm_c.specs.Told.{overwritten}
use Rattle.nvm_file.specs.Spelling.{record_bytes}
use Rattle.nvm_c.proofs.Pieces.{over_piece}
use Rattle.nvm_c.proofs.recording.put_part.Goals as goal

pub returns : goal.returns
returns c = λ held from given. record {
  run = given.run;
  of = given.of;
  file = given.file;
  written = c.overwrite.ensures ∙ ap (λ p. overwritten p c.args.bytes.now) c.piece.ensures
      ∙ over_piece c.args.window.now from (record_bytes given.run) c.args.bytes.now given.handed;
  size = c.count.ensures ∙ ap length given.handed.taken;
}
