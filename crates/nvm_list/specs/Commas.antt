-- A word of several parts, which commas join.
use Rattle.std.specs.Prelude.{ℕ, List, [], ◌∷◌, ◌++◌, codes, Option, Some, None}
use Rattle.std.specs.List.{slice_split}
use Rattle.nvm_list.specs.Words.{is}

-- a part in front of others, where each says something
abbrev pub with_part : {A : Type 0} → Option A → Option (List A) → Option (List A)
with_part None parts = None
with_part (Some part) None = None
with_part (Some part) (Some parts) = Some (part ∷ parts)

-- what texts say, where each of them says something
abbrev pub read_each : {A : Type 0} → (List ℕ → Option A) → List (List ℕ) → Option (List A)
read_each read [] = Some []
read_each read (text ∷ texts) = with_part (read text) (read_each read texts)

-- what the parts of a word say
abbrev pub read_parts : {A : Type 0} → (List ℕ → Option A) → List ℕ → Option (List A)
read_parts read word = read_each read (slice_split (is 44) word)

-- texts, each after a comma
abbrev pub behind_commas : List (List ℕ) → List ℕ
behind_commas [] = []
behind_commas (text ∷ texts) = codes "," ++ (text ++ behind_commas texts)

-- texts, joined by commas
abbrev pub joined : List (List ℕ) → List ℕ
joined [] = []
joined (text ∷ texts) = text ++ behind_commas texts
