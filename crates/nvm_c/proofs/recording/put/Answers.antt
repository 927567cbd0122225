use Rattle.std.proofs.Common.{◌≡◌, ◌∙◌, length, ap, arith, refl}
use Rattle.nvm_c.specs.Told.{overwritten}
use Rattle.nvm_c.proofs.Pieces.{over_piece}
use Rattle.nvm_file.specs.Spelling.{record_bytes}
use Rattle.nvm_c.proofs.recording.put.Goals as goal

pub returns-then-bytes-count : goal.returns-then-bytes-count
returns-then-bytes-count c = λ held given.
    let size : c.count-count.result ≡ length (record_bytes given.run) = c.count-count.ensures ∙ ap length given.handed.taken in
    record { run = given.run; of = given.of; file = given.file; long = omega (arith, size, c.if-bytes-count.true); kept = refl; size = size }

pub returns : goal.returns
returns c = λ held given.
    let size : c.count-count.result ≡ length (record_bytes given.run) = c.count-count.ensures ∙ ap length given.handed.taken in
    record {
      run = given.run;
      of = given.of;
      file = given.file;
      fits = omega (arith, size, c.if-bytes-count.false);
      written = c.overwrite.ensures ∙ ap (λ p. overwritten p c.args.bytes.now) c.piece.ensures
          ∙ over_piece c.args.window.now 0 (record_bytes given.run) c.args.bytes.now given.handed;
      size = size;
    }
