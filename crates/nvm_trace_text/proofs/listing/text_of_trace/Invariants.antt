use Rattle.std.proofs.Common.{◌≡◌, ◌++◌, drop, string_bytes}
use Rattle.nvm_trace_text.specs.Listing.{job_lines, text_of}
use Rattle.nvm_trace_text.proofs.listing.text_of_trace.Given as goal

abbrev pub invariant-loop-job : goal.invariant-loop-job
invariant-loop-job l = string_bytes l.text ++ job_lines (drop l.job-index l.trace.jobs) ≡ text_of l.trace
