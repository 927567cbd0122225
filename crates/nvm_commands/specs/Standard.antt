-- Paths that name a standard stream.
use Rattle.std.specs.Prelude.{ℕ, Bool, true, if◌then◌else◌, List, codes}
use Rattle.std.specs.Str.{bytes_eq}

-- the path names standard input
abbrev pub names_input : List ℕ → Bool
names_input path = if bytes_eq path (codes "-") then true else bytes_eq path (codes "/dev/stdin")
