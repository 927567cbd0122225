use Rattle.std.proofs.Common.{◌≡◌, ◌+◌, [], ◌++◌, take, arith}
use Rattle.std.specs.List.{flat_map}
use Rattle.std.proofs.lemmas.List.Elements.{All-more}
use Rattle.std.proofs.lemmas.Grind.{common_steps}
use Rattle.nvm_text.proofs.Taking.{loop_front, loop_next}
use Rattle.nvm_plan.specs.declared.part.Part.{Part}
use Rattle.nvm_plan.specs.declared.part.PartResult.TheVariants.{Done}
use Rattle.nvm_file.specs.Fits.{PartFits}
use Rattle.nvm_file.specs.WorkSpelling.{part_bytes}
use Rattle.nvm_file.proofs.writing.done_jobs.write_parts.Goals as goal

pub returns-in_err-hand_noting-clause-front : goal.returns-in_err-hand_noting-clause-front
returns-in_err-hand_noting-clause-front g c =
    let parts = c.args.parts.now in
    let i = c.loop-part.part-index in
    let next : flat_map part_bytes (take (i + 1) parts) ≡ flat_map part_bytes (take i parts) ++ c.part_bytes.result = grind (arith, common_steps) in
    loop_front c.from_residual.result part_bytes parts i _ _ _ [] c.part_bytes.result next c.loop-part.invariant.written c.in_err-hand_noting.ensures.front

pub loop-part-preserved : goal.loop-part-preserved
loop-part-preserved g c =
    let parts = c.args.parts.now in
    let i = c.loop-part.part-index in
    let none : Part = record { unit = 0; point = 0; result = Done } in
    let next : flat_map part_bytes (take (i + 1) parts) ≡ flat_map part_bytes (take i parts) ++ c.part_bytes.result = grind (arith, common_steps) in
    record {
      written = loop_next part_bytes parts i _ _ _ [] c.part_bytes.result next c.loop-part.invariant.written c.in_ok-hand_noting.ensures.whole;
      fit = All-more PartFits parts i none c.loop-part-test.true c.loop-part.invariant.fit c.part_bytes.ensures.fits;
    }
