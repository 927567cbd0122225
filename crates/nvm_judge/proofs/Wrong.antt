-- A reply that is wrong by itself leaves no order.
use Rattle.std.proofs.Common.{◌≡◌, ℕ, Some, sym, ◌∙◌}
use Rattle.std.proofs.lemmas.Option.{none-some}
use Rattle.nvm_standard.specs.Table.{first_wrong}
use Rattle.nvm_standard.specs.declared.profile.Profile.{Profile}
use Rattle.nvm_trace.specs.TraceView.{TraceView}
use Rattle.nvm_judge.specs.Explained.{IsWrong}

pub is_wrong : (t : TraceView) (profile : Profile) (command : ℕ) → first_wrong t.jobs ≡ Some command → IsWrong t profile command
is_wrong t profile command its = record { its = its; refuted = λ o e. none-some command (sym e.right ∙ its) }
