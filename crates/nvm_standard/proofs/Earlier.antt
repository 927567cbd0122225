-- What comes before what in an explanation, by times too.
use Rattle.std.proofs.Common.{◌≡◌, ◌≢◌, ℕ, ◌<◌, ◌≤◌, inl, inr, Option, Some, None, IfSome, subst, arith}
use Rattle.std.proofs.lemmas.Bool.{cases_order}
use Rattle.nvm_standard.specs.PointView.{TableView}
use Rattle.nvm_standard.specs.Explanation.{IsExplanation}
use Rattle.nvm_standard.specs.OrderView.{OrderView}
use Rattle.nvm_standard.specs.Places.{IsDoneAt}
use Rattle.nvm_standard.specs.Presence.{IsDone}
use Rattle.nvm_standard.specs.Knowledge.{Knowledge}
use Rattle.nvm_standard.specs.Times.{ComesBefore, IsDeallocate, IsTime, WasOver}
use Rattle.nvm_standard.proofs.Done.{IsFirst, Precedes, one_there, stands_done, to_named}

-- what is so in an explanation
abbrev pub truth : TableView → OrderView → Knowledge
truth t o = record { there = λ a. IsDone o a.point a.block; before = Precedes o; first = IsFirst t o }

-- A time that was over isn't past what began only then.
pub over : (time : Option ℕ) (from : ℕ) → WasOver time from → IfSome time (λ w. from ≤ w) → ⊥
over None from was late = let is = was.is in cc
over (Some u) from was late =
    let is = was.is in
    let e : u ≡ was.at = cc in
    let before = was.before in omega (arith, e, before, late)

-- Of two positions the one is earlier, unless it isn't.
pub earlier : (i j : ℕ) → i ≢ j → (j < i → ⊥) → i < j
earlier i j ne not = elim (cases_order i j) [
  | inl same ↦ absurd (ne same)
  | inr r ↦ elim r [ inl less ↦ less | inr more ↦ absurd (not more) ]
]

module _ (t : TableView) (o : OrderView) (e : IsExplanation t o) where
  -- Two points aren't done at one position.
  pub apart : (n m x y i j : ℕ) → n ≢ m → IsDoneAt o n x i → IsDoneAt o m y j → i ≢ j
  apart n m x y i j ne d f same = ne (one_there t o e n m x y j (subst (λ (k : ℕ). IsDoneAt o n x k) same d) f)

  pub by_time : (n m x y i j : ℕ) → IsTime t n m → IsDoneAt o n x i → IsDoneAt o m y j → i < j
  by_time n m x y i j is d f =
      earlier i j (apart n m x y i j is.other d f)
      (λ less. over is.first.until is.second.from is.over
      (e.time j i f.p d.p is.second is.first less (stands_done t o e m y j is.second f is.second_is)
      (stands_done t o e n x i is.first d is.first_is)))

  pub deallocated : (n w x i j : ℕ) → IsDeallocate t n w x → IsDoneAt o n x i → IsDoneAt o w x j → i < j
  deallocated n w x i j is d f =
      earlier i j (apart n w x x i j is.other d f)
      (λ less. over is.first.over is.second.from is.over
      (e.deallocates j i x f.p d.p is.second is.first less (stands_done t o e w x j is.second f is.second_is) is.sure is.puts f.block
      (stands_done t o e n x i is.first d is.first_is) d.block))

  pub comes : (n m x i j : ℕ) → ComesBefore t (truth t o) n m x → IsDoneAt o n x i → IsDoneAt o m x j → i < j
  comes n m x i j (inl before) d f = before i j (to_named t o e n x i d) (to_named t o e m x j f)
  comes n m x i j (inr (inl is)) d f = by_time n m x x i j is d f
  comes n m x i j (inr (inr is)) d f = deallocated n m x i j is d f
