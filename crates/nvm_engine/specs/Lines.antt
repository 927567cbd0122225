-- What is printed of jobs: a line for each command, in the order of the jobs, a pair's first command first, and under it in the
-- long form what its list says and the name of its status. Completions that aren't of their job's commands have no line; a run has
-- none of these.
use Rattle.std.specs.Prelude.{ℕ, List, [], ◌∷◌, ◌++◌}
use Rattle.nvm_record.specs.declared.op.Op.{Op}
use Rattle.nvm_record.specs.declared.completion.Completion.{Completion}
use Rattle.nvm_plan.specs.declared.completions.Completions.{Completions}
use Rattle.nvm_plan.specs.declared.completions.Completions.TheVariants.{One, Two}
use Rattle.nvm_plan.specs.declared.job.Body.{Body}
use Rattle.nvm_plan.specs.declared.job.Body.TheVariants.{Single, Pair}
use Rattle.nvm_plan.specs.declared.job.Job.{Job}
use Rattle.nvm_text.specs.Lines.{line}
use Rattle.nvm_engine.specs.UnderLine.{Lists, after_next, next_of, under}
use Rattle.nvm_engine.specs.declared.form.Form.{Form}

-- the line of a command, and what is under it
abbrev pub line_in : Form → Op → Completion → List ℕ → List ℕ
line_in form op completion said = line op completion ++ under form said completion.status

-- the lines of a host's job
abbrev pub body_lines : Form → Lists → ℕ → Body → Completions → List ℕ
body_lines form lists host (Single c) (One ended) = line_in form c.op ended (next_of lists host)
body_lines form lists host (Single c) (Two first second) = []
body_lines form lists host (Pair c d) (One ended) = []
body_lines form lists host (Pair c d) (Two first second) =
    line_in form c.op first (next_of lists host) ++ line_in form d.op second (next_of (after_next lists host) host)

-- what the lists say after a host's job
abbrev pub after_body : Lists → ℕ → Body → Lists
after_body lists host (Single c) = after_next lists host
after_body lists host (Pair c d) = after_next (after_next lists host) host

-- the lines of jobs
abbrev pub job_lines : Form → Lists → List Job → List Completions → List ℕ
job_lines form lists [] rest = []
job_lines form lists (job ∷ jobs) [] = []
job_lines form lists (job ∷ jobs) (ended ∷ rest) =
    body_lines form lists job.host job.body ended ++ job_lines form (after_body lists job.host job.body) jobs rest
