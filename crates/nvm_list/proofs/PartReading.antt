-- Reading the parts of a word one after the other.
use Rattle.std.proofs.Common.{◌≡◌, ℕ, List, [], ◌∷◌, ◌++◌, Option, Some, None, refl, sym, ap, ◌∙◌, append_assoc}
use Rattle.std.proofs.lemmas.List.{append-nil}
use Rattle.nvm_list.specs.Commas.{with_part, read_each}

-- parts after those that were read before
abbrev pub behind : {A : Type 0} → List A → Option (List A) → Option (List A)
behind front None = None
behind front (Some parts) = Some (front ++ parts)

module _ {A : Type 0} where
  pub behind_none : (parts : Option (List A)) → behind [] parts ≡ parts
  behind_none None = refl
  behind_none (Some parts) = refl

  regroup : (front : List A) (part : A) (parts : Option (List A)) → behind front (with_part (Some part) parts) ≡ behind (front ++ part ∷ []) parts
  regroup front part None = refl
  regroup front part (Some parts) = ap (λ (ps : List A). Some ps) (sym (append_assoc front (part ∷ []) parts))

  pub goes_on : (read : List ℕ → Option A) (front : List A) (part : A) (text : List ℕ) (texts all : List (List ℕ)) (whole : Option (List A)) → all ≡ text ∷ texts → Some part ≡ read text
      → behind front (read_each read all) ≡ whole → behind (front ++ part ∷ []) (read_each read texts) ≡ whole
  goes_on read front part text texts all whole cut here so_far =
      sym (regroup front part (read_each read texts)) ∙ ap (λ (p : Option A). behind front (with_part p (read_each read texts))) here ∙ ap (λ (ts : List (List ℕ)). behind front (read_each read ts)) (sym cut) ∙ so_far

  pub stops : (read : List ℕ → Option A) (front : List A) (text : List ℕ) (texts all : List (List ℕ)) (whole : Option (List A)) → all ≡ text ∷ texts → None ≡ read text
      → behind front (read_each read all) ≡ whole → None ≡ whole
  stops read front text texts all whole cut here so_far =
      ap (λ (p : Option A). behind front (with_part p (read_each read texts))) here ∙ ap (λ (ts : List (List ℕ)). behind front (read_each read ts)) (sym cut) ∙ so_far

  pub ends : (read : List ℕ → Option A) (front : List A) (whole : Option (List A)) → behind front (read_each read []) ≡ whole → Some front ≡ whole
  ends read front whole so_far = ap (λ (ps : List A). Some ps) (sym (append-nil front)) ∙ so_far
