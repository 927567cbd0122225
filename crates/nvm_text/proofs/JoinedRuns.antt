-- A run, and then the rest of the runs.
use Rattle.std.proofs.Common.{◌≡◌, ℕ, ◌+◌, if◌then◌else◌, List, [], ◌∷◌, ◌++◌, Bool, true, false, length, codes, nat_eq, append_assoc, append-nil, arith}
use Rattle.std.proofs.lemmas.Bool.{ne_eqb}
use Rattle.nvm_text.specs.Runs.{Run, run_of, with_front, runs}
use Rattle.nvm_text.specs.Lines.{comma_before, run_text, runs_text}

after_comma : (r s : Run) (rs : List Run) → (run_text r ++ codes ",") ++ runs_text (s ∷ rs) ≡ runs_text (r ∷ s ∷ rs)
after_comma r s rs = append_assoc (run_text r) (codes ",") (runs_text (s ∷ rs))

some_runs : (r : Run) (b n : ℕ) (s : Run) (rs : List Run) (v : Bool)
    → (run_text r ++ codes ",") ++ runs_text (if v then run_of n b ∷ rs else run_of 1 b ∷ s ∷ rs)
    ≡ runs_text (r ∷ (if v then run_of n b ∷ rs else run_of 1 b ∷ s ∷ rs))
some_runs r b n s rs true = after_comma r (run_of n b) rs
some_runs r b n s rs false = after_comma r (run_of 1 b) (s ∷ rs)

front_is_some : (r : Run) (b : ℕ) (rs : List Run) → (run_text r ++ codes ",") ++ runs_text (with_front b rs) ≡ runs_text (r ∷ with_front b rs)
front_is_some r b [] = after_comma r (run_of 1 b) []
front_is_some r b (s ∷ rs) = some_runs r b (s.count + 1) s rs (nat_eq s.byte b)

-- A comma comes between the run and the others, where there are any.
pub run_and_rest : (r : Run) (rest : List ℕ)
    → (run_text r ++ comma_before rest) ++ runs_text (runs rest) ≡ runs_text (r ∷ runs rest)
run_and_rest r [] = append-nil (run_text r ++ [])
run_and_rest r (b ∷ rest) = rw (ne_eqb (length (b ∷ rest)) 0 (λ e. omega (arith, e))) (front_is_some r b (runs rest))
