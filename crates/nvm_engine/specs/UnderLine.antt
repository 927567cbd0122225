-- What is printed under the line of a command in the long form: what its list says of it, and the name and the number of its status.
-- The commands of a host's list are done in their order, so each takes the next line of that list that has words.
use Rattle.std.specs.Prelude.{ℕ, ◌-◌, List, [], ◌++◌, map, codes}
use Rattle.std.specs.Borrow.{Bor}
use lib.ListN.{get_or, set}
use Rattle.nvm_record.specs.declared.status.Status.{Status}
use Rattle.nvm_list.specs.Words.{first, others}
use Rattle.nvm_list.specs.Said.{said_lines}
use Rattle.nvm_engine.specs.StatusNames.{status_name, status_digits}
use Rattle.nvm_engine.specs.declared.form.Form.{Form}
use Rattle.nvm_engine.specs.declared.form.Form.TheVariants.{Short, Long}

-- what is said on the lines of each list that have words, host 1's first
abbrev pub Lists : Type 0
Lists = List (List (List ℕ))

abbrev pub lists_say : List (Bor (List ℕ)) → Lists
lists_say lists = map (λ list. said_lines list.now) lists

-- what the list of a host says of its next command
abbrev pub next_of : Lists → ℕ → List ℕ
next_of lists host = first (get_or lists (host - 1) [])

-- what the lists say after that
abbrev pub after_next : Lists → ℕ → Lists
after_next lists host = set lists (host - 1) (others (get_or lists (host - 1) []))

-- what is said of a command, and the name of its status
unfoldable pub named_text : List ℕ → Status → List ℕ
named_text said status = codes "  " ++ (said ++ (codes ": " ++ status_name status))

-- the number of a status in parentheses, and the end of the line
unfoldable pub number_text : Status → List ℕ
number_text status = codes " (0x" ++ (status_digits status ++ codes ")\n")

-- what is under the line of a command of which this is said and that ended with this status
abbrev pub under : Form → List ℕ → Status → List ℕ
under Short said status = []
under Long said status = named_text said status ++ number_text status
