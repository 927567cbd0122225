use Rattle.std.proofs.Common.{◌≡◌, ◌∙◌, ℕ, length, Some, ap, sym, rules}
use Rattle.nvm_c.proofs.Answered.{long_as_read}
use Rattle.nvm_c.proofs.gathering.is_whole_answer.Goals as goal

pub returns-in-Some : goal.returns-in-Some
returns-in-Some c = λ same.
    let long : c.in-Some.length ≡ length c.args.data.now = search rules in
    long_as_read c.args.geometry c.args.job.now c.args.data.now (sym c.answer_length.ensures ∙ c.in-Some.is ∙ ap (λ (n : ℕ). Some n) long)
