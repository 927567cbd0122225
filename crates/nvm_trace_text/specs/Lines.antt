-- A line: when a command or a fused pair began and ended, its host, the command or both, each behind its identifier, and what came back.
use Rattle.std.specs.Prelude.{ℕ, ◌+◌, ◌*◌, ◌==◌, nat_le, if◌then◌else◌, List, [], ◌∷◌, codes, Option, Some, None, Result, Ok, Err}
use Rattle.std.specs.List.{before_first, after_first}
use Rattle.std.specs.Str.{bytes_eq}
use Rattle.nvm_record.specs.declared.command.Command.{Command}
use Rattle.nvm_record.specs.declared.status.Status.{Status}
use Rattle.nvm_record.specs.declared.status.Statuses.{Statuses}
use Rattle.nvm_record.specs.declared.status.Statuses.TheVariants.{One, Two}
use Rattle.nvm_plan.specs.declared.job.Body.{Body}
use Rattle.nvm_plan.specs.declared.job.Body.TheVariants.{Single, Pair}
use Rattle.nvm_list.specs.Data.{payload}
use Rattle.nvm_list.specs.Lines.{command}
use Rattle.nvm_list.specs.Numbers.{number, hex_byte}
use Rattle.nvm_list.specs.Words.{is, first, others, words_in}
use Rattle.nvm_trace.specs.declared.traced_job.Ending.{Ending}
use Rattle.nvm_trace.specs.declared.traced_job.TracedJob.{TracedJob}
use Rattle.nvm_trace_text.specs.Expecting.{◌>>=◌, as_listed}
use Rattle.nvm_trace_text.specs.Head.{ended_with}
use Rattle.nvm_trace_text.specs.Marks.{before_mark, behind_mark}
use Rattle.nvm_trace_text.specs.declared.expected.TraceExpected.{TraceExpected}
use Rattle.nvm_trace_text.specs.declared.expected.TraceExpected.TheVariants as expecting

abbrev pub from_least : ℕ → TraceExpected → Option ℕ → Result ℕ TraceExpected
from_least least expected None = Err expected
from_least least expected (Some n) = if nat_le least n then Ok n else Err expected

-- a number from `least` to `most`, and the words behind it
abbrev pub field : ℕ → ℕ → TraceExpected → List (List ℕ) → Result (ℕ × List (List ℕ)) TraceExpected
field least most expected words = from_least least expected (number most (first words)) >>= λ n. Ok (n, others words)

-- when it ended, or `-`, and the words behind; the last number of 64 bits is no such time, since in a file it stands for no end
abbrev pub end_time : List (List ℕ) → Result (Option ℕ × List (List ℕ)) TraceExpected
end_time words =
    if bytes_eq (first words) (codes "-")
    then Ok (None, others words)
    else (field 0 18446744073709551614 expecting.Ended words >>= λ t. Ok (Some t.0, t.1))

-- a command behind its identifier; a word `cid=` may only repeat it
abbrev pub identified : ℕ → List (List ℕ) → Result Command TraceExpected
identified size words = do
  cid ← field 0 65535 expecting.Cid words
  c ← as_listed (command size cid.0 cid.1)
  if c.cid == cid.0 then Ok c else Err expecting.OtherCid

-- the second command stands behind `+`
abbrev pub body_with : ℕ → Command → Option (List ℕ) → Result Body TraceExpected
body_with size c None = Ok (Single c)
body_with size c (Some second) = identified size (words_in second) >>= λ d. Ok (Pair c d)

abbrev pub status_of : Option ℕ → Option ℕ → Result Status TraceExpected
status_of None code = Err expecting.Status
status_of (Some sct) None = Err expecting.Status
status_of (Some sct) (Some sc) = Ok (record { sct = sct; sc = sc })

-- the status code type, `/`, and the status code
abbrev pub status : List ℕ → Result Status TraceExpected
status word = status_of (number 255 (before_first (is 47) word)) (hex_byte (after_first (is 47) word))

-- so many bytes of data, if there is a word
abbrev pub read_data : ℕ → List (List ℕ) → Result (Option (List ℕ)) TraceExpected
read_data wanted [] = Ok None
read_data wanted (word ∷ words) = as_listed (payload wanted word) >>= λ bytes. ended_with (Some bytes) expecting.End words

-- a status for each command, and data only behind that of one command
abbrev pub reply : ℕ → Body → List (List ℕ) → Result (Statuses × Option (List ℕ)) TraceExpected
reply size (Single c) words = do
  s ← status (first words)
  bytes ← read_data ((c.nlb + 1) * size) (others words)
  Ok (One s, bytes)
reply size (Pair c d) words = do
  s ← status (first words)
  t ← status (first (others words))
  ended_with (Two s t, None) expecting.End (others (others words))

-- what stands behind `=`, which is there just where the job ended
abbrev pub ending : ℕ → Body → Option ℕ → Option (List ℕ) → Result (Option Ending) TraceExpected
ending size body None None = Ok None
ending size body None (Some told) = Err expecting.NoReply
ending size body (Some time) None = Err expecting.Reply
ending size body (Some time) (Some told) = do
  r ← reply size body (words_in told)
  Ok (Some (record { time = time; statuses = r.0; payload = r.1 }))

-- the job of a line that was cut: the words of the first command, the second command and what came back
unfoldable pub job_of : ℕ → List (List ℕ) → Option (List ℕ) → Option (List ℕ) → Result TracedJob TraceExpected
job_of size words second told = do
  began ← field 1 18446744073709551615 expecting.Began words
  ended ← end_time began.1
  host ← field 1 64 expecting.Host ended.1
  c ← identified size host.1
  body ← body_with size c second
  e ← ending size body ended.0 told
  Ok (record { job = record { host = host.0; body = body }; began = began.0; ended = e })

-- the line is cut at the first `=` that is a word, and what stands before it at the first `+` that is one
abbrev pub job : ℕ → List ℕ → Result TracedJob TraceExpected
job size line =
    let sent = before_mark 61 line in
    job_of size (words_in (before_mark 43 sent)) (behind_mark 43 sent) (behind_mark 61 line)
