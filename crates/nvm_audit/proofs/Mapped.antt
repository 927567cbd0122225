-- Two lists compared by what a function makes of their elements.
use Rattle.std.proofs.Common.{◌≡◌, ℕ, ◌+◌, ◌<◌, List, length, take, map, sym, ap, ◌∙◌, subst}
use Rattle.std.proofs.lemmas.List.{get_or-map, take_more_same, length-map}
use lib.ListN.{get_or}

module _ {X Y : Type 0} (f : X → Y) (xs ys : List X) (i : ℕ) (x y : X) where
  read : (zs : List X) (z : X) → i < length zs → z ≡ get_or zs i z → get_or (map f zs) i (f x) ≡ f z
  read zs z below is = get_or-map f zs i z (f x) below ∙ ap f (sym is)

  pub one_more : i < length xs → i < length ys → x ≡ get_or xs i x → y ≡ get_or ys i y → take i (map f xs) ≡ take i (map f ys)
      → f x ≡ f y → take (i + 1) (map f xs) ≡ take (i + 1) (map f ys)
  one_more below also x_is y_is before same =
      take_more_same (map f xs) (map f ys) i (f x) (subst (λ n. i < n) (sym (length-map xs f)) below)
      (subst (λ n. i < n) (sym (length-map ys f)) also) before
      (read xs x below x_is ∙ same ∙ sym (read ys y also y_is))

  pub same_there : i < length xs → i < length ys → x ≡ get_or xs i x → y ≡ get_or ys i y → map f xs ≡ map f ys → f x ≡ f y
  same_there below also x_is y_is same =
      sym (read xs x below x_is) ∙ ap (λ (l : List Y). get_or l i (f x)) same ∙ read ys y also y_is
