-- What a line of a list says, as it is written there: what is before its comment, without the blanks round it.
use Rattle.std.specs.Prelude.{ℕ, if◌then◌else◌, List, [], ◌∷◌, map, reverse}
use Rattle.std.specs.List.{before_first, filter}
use Rattle.nvm_list.specs.Words.{is, is_blank, is_word, text_lines}

abbrev pub without_blanks_before : List ℕ → List ℕ
without_blanks_before [] = []
without_blanks_before (byte ∷ bytes) = if is_blank byte then without_blanks_before bytes else byte ∷ bytes

abbrev pub without_blanks_behind : List ℕ → List ℕ
without_blanks_behind bytes = reverse (without_blanks_before (reverse bytes))

abbrev pub said : List ℕ → List ℕ
said line = without_blanks_behind (without_blanks_before (before_first (is 35) line))

-- what is said on the lines that have words
abbrev pub said_lines : List ℕ → List (List ℕ)
said_lines text = filter is_word (map said (text_lines text))
