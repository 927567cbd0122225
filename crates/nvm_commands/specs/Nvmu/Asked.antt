-- What is answered to the words of a command line.
use Rattle.std.specs.Prelude.{◌≡◌, map, string_bytes}
use Rattle.nvm_commands.specs.Nvmu.Answer.{AreWitnessedFiles}
use Rattle.nvm_commands.specs.Nvmu.Judged.{AreRefutedFiles, IsJudgedFile}
use Rattle.nvm_commands.specs.Nvmu.Runs.{IsShownOn}
use Rattle.nvm_commands.specs.declared.nvmu.answer.Answer.{Answer}
use Rattle.nvm_commands.specs.declared.nvmu.answer.Answer.TheVariants.{Ran, Audited, Refuted}
use Rattle.nvm_commands.specs.declared.nvmu.words.Asked.{Asked}
use Rattle.nvm_commands.specs.declared.nvmu.words.Asked.TheVariants.{Run, Audit, Witness, Refute}

-- It is an answer of what was asked for: of files, judged and printed as the words say.
abbrev pub IsAnswerTo : Asked → Answer → Type 0
IsAnswerTo (Run settings out files) (Ran run) = IsShownOn settings (map (λ path. string_bytes path) files.items) run
IsAnswerTo (Audit words) (Audited telling judged) = (telling ≡ words.telling) × IsJudgedFile judged
IsAnswerTo (Witness words) answer = AreWitnessedFiles words.judging answer
IsAnswerTo (Refute trace contradiction) (Refuted refuted) = AreRefutedFiles refuted
IsAnswerTo asked answer = ⊥
