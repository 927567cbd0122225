-- A line is cut where a byte stands as a word by itself, behind another word.
use Rattle.std.specs.Prelude.{ℕ, ◌+◌, ◌==◌, nat_lt, Bool, ◌&&◌, ◌||◌, if◌then◌else◌, List, [], ◌∷◌, length, take, drop, get_or, Option, Some, None}
use Rattle.nvm_list.specs.Words.{is_blank}

-- a blank, the byte, and then a blank or the end
abbrev pub is_mark : ℕ → List ℕ → Bool
is_mark mark bytes =
    nat_lt 1 (length bytes)
    && (is_blank (get_or bytes 0 0) && (get_or bytes 1 0 == mark && (length bytes == 2 || is_blank (get_or bytes 2 0))))

-- how many bytes stand before the first such place
abbrev pub mark_place : ℕ → List ℕ → ℕ
mark_place mark [] = 0
mark_place mark (b ∷ bytes) = if is_mark mark (b ∷ bytes) then 0 else 1 + mark_place mark bytes

abbrev pub before_mark : ℕ → List ℕ → List ℕ
before_mark mark bytes = take (mark_place mark bytes) bytes

-- what stands behind the mark, if there is one
abbrev pub behind_mark : ℕ → List ℕ → Option (List ℕ)
behind_mark mark bytes =
    if nat_lt (mark_place mark bytes) (length bytes) then Some (drop (mark_place mark bytes + 2) bytes) else None
