-- The longest runs, from the front of the bytes.
use Rattle.std.proofs.Common.{◌≡◌, ◌≢◌, nat_eq, if◌then◌else◌, ℕ, zero, suc, ◌+◌, ◌<◌, List, [], ◌∷◌, ◌++◌, Bool, true, false, length, get_or, replicate, refl, sym, ap, ◌∙◌, subst, arith}
use Rattle.std.proofs.lemmas.Bool.{eq-eqb, ne_eqb, eqb-true, eqb-false}
use Rattle.nvm_text.specs.Runs.{Run, run_of, with_front, runs, written_out, AreNonempty, NeighboursDiffer, AreLongestRuns}

-- the first of the runs, if there is one, is of another byte
abbrev pub Apart : ℕ → List Run → Type 0
Apart b [] = Unit {0}
Apart b (r ∷ rs) = b ≢ r.byte

-- A byte that differs from the first run's begins a run.
front_apart : (b : ℕ) (rs : List Run) → Apart b rs → with_front b rs ≡ run_of 1 b ∷ rs
front_apart b [] h = refl
front_apart b (r ∷ rs) h = rw (ne_eqb r.byte b (λ e. h (sym e))) refl

-- A byte that is the first run's makes that run longer.
front_joins : (b n : ℕ) (rs : List Run) → with_front b (run_of n b ∷ rs) ≡ run_of (n + 1) b ∷ rs
front_joins b n rs = rw (eq-eqb b b refl) refl

one_more_byte : (n b : ℕ) (rest : List ℕ) → Apart b (runs rest) → runs (replicate (suc n) b ++ rest) ≡ run_of (suc n) b ∷ runs rest
one_more_byte zero b rest h = front_apart b (runs rest) h
one_more_byte (suc n) b rest h =
    let more : suc n + 1 ≡ suc (suc n) = omega arith in
    ap (λ (rs : List Run). with_front b rs) (one_more_byte n b rest h) ∙ front_joins b (suc n) (runs rest) ∙ ap (λ (k : ℕ). run_of k b ∷ runs rest) more

-- Equal bytes before others are a run.
pub runs_replicate : (n b : ℕ) (rest : List ℕ) → 0 < n → Apart b (runs rest) → runs (replicate n b ++ rest) ≡ run_of n b ∷ runs rest
runs_replicate zero b rest some h = absurd (omega arith)
runs_replicate (suc n) b rest some h = one_more_byte n b rest h

-- the first run is of the first byte
apart_case : (b c : ℕ) (r : Run) (rs : List Run) (v : Bool) → b ≢ c → Apart b (if v then run_of (r.count + 1) c ∷ rs else run_of 1 c ∷ r ∷ rs)
apart_case b c r rs true h = h
apart_case b c r rs false h = h

apart_front : (b c : ℕ) (rs : List Run) → b ≢ c → Apart b (with_front c rs)
apart_front b c [] h = h
apart_front b c (r ∷ rs) h = apart_case b c r rs (nat_eq r.byte c) h

pub apart_runs : (b : ℕ) (bytes : List ℕ) → (0 < length bytes → get_or bytes 0 0 ≢ b) → Apart b (runs bytes)
apart_runs b [] h = tt
apart_runs b (c ∷ bytes) h = let some : 0 < length (c ∷ bytes) = omega arith in apart_front b c (runs bytes) (λ e. h some (sym e))

-- What runs stand for has these very runs, where none is empty and none can be longer.
apart_next : (r : Run) (rs : List Run) → NeighboursDiffer (r ∷ rs) → Apart r.byte rs
apart_next r [] h = tt
apart_next r (s ∷ rs) h = h.0

differ_next : (r : Run) (rs : List Run) → NeighboursDiffer (r ∷ rs) → NeighboursDiffer rs
differ_next r [] h = tt
differ_next r (s ∷ rs) h = h.1

pub runs_written_out : (rs : List Run) → AreNonempty rs → NeighboursDiffer rs → rs ≡ runs (written_out rs)
runs_written_out [] some differ = refl
runs_written_out (r ∷ rs) some differ =
    let more : rs ≡ runs (written_out rs) = runs_written_out rs some.1 (differ_next r rs differ) in
    let apart : Apart r.byte (runs (written_out rs)) = subst (λ (x : List Run). Apart r.byte x) more (apart_next r rs differ) in
    ap (λ (x : List Run). r ∷ x) more ∙ sym (runs_replicate r.count r.byte (written_out rs) some.0 apart)

-- A byte in front keeps the runs longest.
same_front : (b : ℕ) (r : Run) (rs : List Run) → r.byte ≡ b → NeighboursDiffer (r ∷ rs) → NeighboursDiffer (run_of (r.count + 1) b ∷ rs)
same_front b r [] e h = tt
same_front b r (s ∷ rs) e h = (subst (λ (x : ℕ). x ≢ s.byte) e h.0, h.1)

front_case : (b : ℕ) (r : Run) (rs : List Run) (v : Bool) → nat_eq r.byte b ≡ v → AreLongestRuns (written_out (r ∷ rs)) (r ∷ rs)
    → AreLongestRuns (b ∷ written_out (r ∷ rs)) (if v then run_of (r.count + 1) b ∷ rs else run_of 1 b ∷ r ∷ rs)
front_case b r rs true e h =
    let same : r.byte ≡ b = eqb-true r.byte b e in
    let more : r.count + 1 ≡ suc r.count = omega arith in
    record {
      whole = ap (λ (k : ℕ). replicate k b ++ written_out rs) more ∙ ap (λ (x : ℕ). b ∷ (replicate r.count x ++ written_out rs)) (sym same);
      nonempty = (omega arith, h.nonempty.1);
      longest = same_front b r rs same h.longest;
    }
front_case b r rs false e h = record {
  whole = refl;
  nonempty = (omega arith, h.nonempty);
  longest = (λ k. eqb-false r.byte b e (sym k), h.longest);
}

front_longest : (b : ℕ) (rs : List Run) → AreLongestRuns (written_out rs) rs → AreLongestRuns (b ∷ written_out rs) (with_front b rs)
front_longest b [] h = record { whole = refl; nonempty = (omega arith, tt); longest = tt }
front_longest b (r ∷ rs) h = front_case b r rs (nat_eq r.byte b) refl h

pub runs_longest : (bytes : List ℕ) → AreLongestRuns bytes (runs bytes)
runs_longest [] = record { whole = refl; nonempty = tt; longest = tt }
runs_longest (b ∷ bytes) =
    let rest = runs_longest bytes in
    let back : AreLongestRuns (written_out (runs bytes)) (runs bytes) = record { whole = refl; nonempty = rest.nonempty; longest = rest.longest } in
    subst (λ (x : List ℕ). AreLongestRuns (b ∷ x) (with_front b (runs bytes))) rest.whole (front_longest b (runs bytes) back)

pub only_longest : (bytes : List ℕ) (rs : List Run) → AreLongestRuns bytes rs → rs ≡ runs bytes
only_longest bytes rs h = runs_written_out rs h.nonempty h.longest ∙ ap (λ (x : List ℕ). runs x) h.whole
