-- What each atomic step says to the seat that makes it.
use Rattle.std.specs.Prelude.{◌≡◌, ℕ, ◌<◌, List, [], ◌∷◌, ◌++◌, take, drop, All}
use Rattle.atomic_table.specs.Table.{Me, Step}

-- what a seat carries
abbrev pub Sits : Type 0
Sits = Me (Unit {0}) (List (List ℕ))

-- a seat of workers with these lists
abbrev pub resting : List (List ℕ) → Sits
resting lists = (lists, [])

-- The seat's one worker drew n, which is above all that it had drawn.
abbrev pub HasDrawn : ℕ → Sits → Sits → Type 0
HasDrawn n m m' =
    (drawn : List ℕ) → m ≡ resting (drawn ∷ []) → (m' ≡ resting ((drawn ++ n ∷ []) ∷ [])) × All (λ x. x < n) drawn

-- a fetch_add
abbrev pub draws : Step (Unit {0}) → Sits → ℕ → Sits → Type 0
draws step m n m' = HasDrawn n m m'

-- how workers are distinguished: the first stays
abbrev pub first_of : List (List ℕ) → List (List ℕ)
first_of lists = take 1 lists

abbrev pub others_of : List (List ℕ) → List (List ℕ)
others_of lists = drop 1 lists

abbrev pub together : List (List ℕ) → List (List ℕ) → List (List ℕ)
together lists others = lists ++ others
