-- What is printed of expectations: a line for each that isn't met, and then how many there are and how many of them aren't met.
use Rattle.std.specs.Prelude.{ℕ, ◌==◌, ◌&&◌, not, Bool, if◌then◌else◌, List, [], ◌∷◌, ◌++◌, length, codes, decimal}
use Rattle.std.specs.List.{count_by}
use Rattle.nvm_text.specs.Lines.{identifiers, name_of, status_text}
use Rattle.nvm_listing.specs.declared.check.Check.{Check}

-- the command ended as expected
abbrev pub is_met : Check → Bool
is_met c = c.expected.sct == c.actual.sct && c.expected.sc == c.actual.sc

abbrev pub unmet_count : List Check → ℕ
unmet_count checks = count_by (λ c. not (is_met c)) checks

-- the host, the command identifier, the name of the command, and the two statuses
abbrev pub check_text : Check → List ℕ
check_text c =
    identifiers c.host c.cid
    ++ (name_of c.op ++ (codes " expected " ++ (status_text c.expected ++ (codes " got " ++ status_text c.actual))))

abbrev pub unmet_line : Check → List ℕ
unmet_line c = if is_met c then [] else codes "unmet " ++ (check_text c ++ codes "\n")

abbrev pub unmet_lines : List Check → List ℕ
unmet_lines [] = []
unmet_lines (c ∷ cs) = unmet_line c ++ unmet_lines cs

-- how many expectations there are, and how many aren't met
abbrev pub count_line : ℕ → ℕ → List ℕ
count_line checks unmet = codes "expectations " ++ (decimal checks ++ (codes " unmet " ++ (decimal unmet ++ codes "\n")))

abbrev pub checks_text : List Check → List ℕ
checks_text checks = unmet_lines checks ++ count_line (length checks) (unmet_count checks)
