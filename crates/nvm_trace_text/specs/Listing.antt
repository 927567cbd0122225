-- The text of a trace: its head, and a line for each job.
use Rattle.std.specs.Prelude.{ℕ, List, [], ◌∷◌, ◌++◌, codes, decimal, Option, Some, None}
use Rattle.nvm_geometry.specs.Namespace.{Namespace}
use Rattle.nvm_record.specs.declared.command.Command.{Command}
use Rattle.nvm_plan.specs.declared.job.Body.{Body}
use Rattle.nvm_plan.specs.declared.job.Body.TheVariants.{Single, Pair}
use Rattle.nvm_text.specs.Lines.{statuses_text, payload_text}
use Rattle.nvm_list.specs.Listing.{command_text}
use Rattle.nvm_trace.specs.TraceView.{TraceView}
use Rattle.nvm_trace.specs.declared.deallocated.Deallocated.{Deallocated}
use Rattle.nvm_trace.specs.declared.deallocated.Deallocated.TheVariants.{Zeroes as ZeroesRead, Ones, Either}
use Rattle.nvm_trace.specs.declared.reads.Reads.{Reads}
use Rattle.nvm_trace.specs.declared.reads.Reads.TheVariants.{Atomic, Whole, ByBlocks}
use Rattle.nvm_trace.specs.declared.start.Start.{Start}
use Rattle.nvm_trace.specs.declared.start.Start.TheVariants.{Zeroes, Unknown}
use Rattle.nvm_trace.specs.declared.traced_job.Ending.{Ending}
use Rattle.nvm_trace.specs.declared.traced_job.TracedJob.{TracedJob}
use Rattle.nvm_trace_text.specs.declared.head.Numbers.{Numbers}

abbrev pub start_word : Start → List ℕ
start_word Zeroes = codes "zeroes"
start_word Unknown = codes "unknown"

abbrev pub reads_word : Reads → List ℕ
reads_word Atomic = codes "atomic"
reads_word Whole = codes "whole"
reads_word ByBlocks = codes "by-blocks"

-- nothing where it may be either
abbrev pub deallocated_text : Deallocated → List ℕ
deallocated_text ZeroesRead = codes " deallocated zeroes"
deallocated_text Ones = codes " deallocated ones"
deallocated_text Either = []

unfoldable pub numbers_text : Numbers → List ℕ
numbers_text n =
    codes "trace nsze " ++ (decimal n.nsze
    ++ (codes " block " ++ (decimal n.block
    ++ (codes " nabsn " ++ (decimal n.nabsn
    ++ (codes " nabo " ++ (decimal n.nabo ++ (codes " nawun " ++ (decimal n.nawun ++ (codes " nacwu " ++ decimal n.nacwu))))))))))

unfoldable pub known_text : ℕ → Start → Reads → Deallocated → List ℕ
known_text lba start reads deallocated =
    codes " first " ++ (decimal lba
    ++ (codes " start " ++ (start_word start
    ++ (codes " reads " ++ (reads_word reads ++ (deallocated_text deallocated ++ codes "\n"))))))

-- the numbers of a namespace
abbrev pub numbers_in : Namespace → Numbers
numbers_in ns =
    record { nsze = ns.nsze; block = ns.block_size; nabsn = ns.nabsn; nabo = ns.nabo; nawun = ns.nawun; nacwu = ns.nacwu }

abbrev pub head_line : TraceView → List ℕ
head_line t = numbers_text (numbers_in t.namespace) ++ known_text t.first t.start t.reads t.deallocated

-- when it ended, if it did
abbrev pub time_of : Option Ending → Option ℕ
time_of None = None
time_of (Some e) = Some e.time

-- `-` for no time
abbrev pub time_text : Option ℕ → List ℕ
time_text None = codes "-"
time_text (Some time) = decimal time

abbrev pub end_text : Option Ending → List ℕ
end_text e = time_text (time_of e)

-- the command as in a command list, behind its identifier
abbrev pub sent_text : Command → List ℕ
sent_text c = decimal c.cid ++ (codes " " ++ command_text c.cid c)

abbrev pub body_text : Body → List ℕ
body_text (Single c) = sent_text c
body_text (Pair c d) = sent_text c ++ (codes " + " ++ sent_text d)

abbrev pub reply_text : Option Ending → List ℕ
reply_text None = []
reply_text (Some e) = codes " = " ++ (statuses_text e.statuses ++ payload_text e.payload)

abbrev pub job_line : TracedJob → List ℕ
job_line j =
    decimal j.began
    ++ (codes " "
    ++ (end_text j.ended
    ++ (codes " " ++ (decimal j.job.host ++ (codes " " ++ (body_text j.job.body ++ (reply_text j.ended ++ codes "\n")))))))

abbrev pub job_lines : List TracedJob → List ℕ
job_lines [] = []
job_lines (j ∷ js) = job_line j ++ job_lines js

abbrev pub text_of : TraceView → List ℕ
text_of t = head_line t ++ job_lines t.jobs
