-- The text of a list: lines, and in each of them words and then a comment.
use Rattle.std.specs.Prelude.{ℕ, ◌==◌, ◌||◌, nat_lt, Bool, List, [], ◌∷◌, length}
use Rattle.std.specs.List.{slice_split, before_first, filter}

-- it is exactly this byte
abbrev pub is : ℕ → ℕ → Bool
is byte b = b == byte

-- spaces, tabs and carriage returns part words
abbrev pub is_blank : ℕ → Bool
is_blank b = (b == 32 || b == 9) || b == 13

abbrev pub is_word : List ℕ → Bool
is_word word = nat_lt 0 (length word)

-- what is between line feeds
abbrev pub text_lines : List ℕ → List (List ℕ)
text_lines text = slice_split (is 10) text

-- what is between blanks
abbrev pub words_in : List ℕ → List (List ℕ)
words_in bytes = filter is_word (slice_split is_blank bytes)

-- the words of a line, before the first `#`
abbrev pub words : List ℕ → List (List ℕ)
words line = words_in (before_first (is 35) line)

-- the first word, which is empty where there is none
abbrev pub first : List (List ℕ) → List ℕ
first [] = []
first (word ∷ words) = word

-- the words after the first
abbrev pub others : List (List ℕ) → List (List ℕ)
others [] = []
others (word ∷ words) = words
