use Rattle.std.proofs.Common.{ap, ◌∙◌}
use Rattle.nvm_c.proofs.refuting.ruling.Goals as goal

pub returns : goal.returns
returns c = record {
  held = c.args.held.now;
  held_file = c.requires;
  answer = c.in_ok-refuted.refuted;
  refuted = c.in_ok-refuted.ensures;
  code_is = c.code_of.ensures;
  line_is = ap (λ v. v.items) c.into_bytes.ensures.value ∙ c.in_ok-line.ensures;
}
