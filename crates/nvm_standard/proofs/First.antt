-- What the blocks held at first, as it is said block by block.
use Rattle.std.proofs.Common.{◌≡◌, ◌≢◌, ℕ, ◌+◌, ◌<◌, ◌≤◌, List, [], ◌∷◌, ◌++◌, Some, length, map, take, replicate, slice_get, get_or, ap, sym, subst, refl, ◌∙◌, arith}
use Rattle.std.proofs.lemmas.List.{take_more, take_all, length-map, length-replicate, get_or-replicate}
use Rattle.std.proofs.lemmas.Option.{slice_get_within, get_or_from_slice_get, slice_get-map, slice_get-get_or}
use Rattle.nvm_record.specs.Medium.{Medium, zero_medium}
use Rattle.nvm_standard.specs.PointView.{TableView}
use Rattle.nvm_standard.specs.Contents.{first_blocks, with_first, with_one}
use Rattle.nvm_standard.specs.Inside.Held.{Holds}
use Rattle.nvm_standard.specs.OrderView.{OrderView, FirstView, ContentView, block_of}

with_first-append : (size : ℕ) (fs gs : List FirstView) (m : Medium) → with_first size (fs ++ gs) m ≡ with_first size gs (with_first size fs m)
with_first-append size [] gs m = refl
with_first-append size (f ∷ fs) gs m = with_first-append size fs gs (with_one size f m)

-- One more block is said.
pub first_more : (size : ℕ) (fs : List FirstView) (k : ℕ) (f : FirstView) (m : Medium) → slice_get fs k ≡ Some f
    → with_first size (take (k + 1) fs) m ≡ with_one size f (with_first size (take k fs) m)
first_more size fs k f m at =
    let inside : k < length fs = slice_get_within fs k f at in
    let more = take_more fs k f inside in
    let here : get_or fs k f ≡ f = get_or_from_slice_get fs k f f at in
    ap (λ (gs : List FirstView). with_first size gs m) (more ∙ ap (λ (r : FirstView). take k fs ++ r ∷ []) here)
    ∙ with_first-append size (take k fs) (f ∷ []) m

pub one_here : (size : ℕ) (f : FirstView) (m : Medium) → with_one size f m f.block ≡ block_of size f.content
one_here size f m = grind arith

pub one_there : (size : ℕ) (f : FirstView) (m : Medium) (x : ℕ) → x ≢ f.block → with_one size f m x ≡ m x
one_there size f m x ne = grind arith

-- Nothing is said: all are zeroes.
pub zeroes_hold : {A : Type 0} (t : TableView) (f : A → ContentView) (a : A) → ((size : ℕ) → (x : ℕ) → block_of size (f a) ≡ zero_medium size x)
    → Holds t (map f (replicate t.nsze a)) (zero_medium t.block_size)
zeroes_hold {A} t f a same =
    record {
      all = length-map (replicate t.nsze a) f ∙ length-replicate t.nsze a;
      each = λ x c h.
          let inside : x < length (map f (replicate t.nsze a)) = slice_get_within (map f (replicate t.nsze a)) x c h in
          let below : x < length (replicate t.nsze a) = omega (arith, inside, length-map (replicate t.nsze a) f) in
          let few : x < t.nsze = omega (arith, below, length-replicate t.nsze a) in
          let read : slice_get (replicate t.nsze a) x ≡ Some a =
          slice_get-get_or (replicate t.nsze a) x a below ∙ ap Some (get_or-replicate t.nsze x a a few) in
          let both : Some c ≡ Some (f a) = sym h ∙ slice_get-map f (replicate t.nsze a) x ∙ (rw read refl) in
          let is : c ≡ f a = cc in
          subst (λ (d : ContentView). block_of t.block_size d ≡ zero_medium t.block_size x) (sym is) (same t.block_size x);
    }

pub first_all : (t : TableView) (o : OrderView) (k : ℕ) → length o.first ≤ k
    → with_first t.block_size (take k o.first) (zero_medium t.block_size) ≡ first_blocks t o
unfolding first_blocks
first_all t o k long = ap (λ (fs : List FirstView). with_first t.block_size fs (zero_medium t.block_size)) (take_all k o.first long)
