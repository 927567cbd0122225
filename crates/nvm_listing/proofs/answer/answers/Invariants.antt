use Rattle.std.proofs.Common.{map}
use Rattle.nvm_audit.proofs.DoneWalk.{IsWalk}
use Rattle.nvm_listing.specs.Answers.{answer_of}
use Rattle.nvm_listing.proofs.AnswersMade.{answers_made}
use Rattle.nvm_listing.proofs.answer.answers.Given as goal

abbrev pub invariant-loop-number : goal.invariant-loop-number
invariant-loop-number l = IsWalk answers_made tt l.run.jobs l.run.done l.number tt (map answer_of l.answers.items)
