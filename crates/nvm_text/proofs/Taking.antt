-- What a writer took of bytes that it was handed in several pieces.
use Rattle.std.proofs.Common.{◌≡◌, ℕ, ◌+◌, ◌<◌, List, [], ◌∷◌, ◌++◌, length, get_or, map, append-nil, take, drop, take-append-drop, Option, Result, Ok, Err, OnOk, OnErr, refl, sym, ap, subst, ◌∙◌, append_assoc}
use Rattle.std.specs.Io.KnownBytes.{Appends, Keeps}
use Rattle.std.specs.List.{flat_map}
use Rattle.std.proofs.lemmas.List.Concat.{flat_map-append, flat_map-cons}
use Rattle.std.proofs.lemmas.List.{take_more, get_or-map, length-map}
use Rattle.std.proofs.KnownBytes.{Appends-nil, Appends-kept, Appends-trans}
use Rattle.nvm_text.specs.Handed.{TakesFront}

-- It took none of them.
pub takes_none : (a b : Option (List ℕ)) (bytes : List ℕ) → Keeps a b → TakesFront a b bytes
takes_none a b bytes kept = ([], bytes, refl, Appends-kept a a b [] (Appends-nil a) kept)

-- It failed within the first piece.
pub takes_within : (a b : Option (List ℕ)) (piece after : List ℕ) → TakesFront a b piece → TakesFront a b (piece ++ after)
takes_within a b piece after (front, rest, whole, taken) =
    (front, rest ++ after, ap (λ l. l ++ after) whole ∙ append_assoc front rest after, taken)

-- It took the first piece, and failed within what comes after.
pub takes_behind : (a b c : Option (List ℕ)) (piece after : List ℕ) → Appends a b piece → TakesFront b c after
    → TakesFront a c (piece ++ after)
takes_behind a b c piece after first (front, rest, whole, taken) = (
  piece ++ front,
  rest,
  ap (λ l. piece ++ l) whole ∙ sym (append_assoc piece front rest),
  Appends-trans a b c piece front first taken,
)

pub on_err : {A E P : Type 0} (r : Result A E) → P → OnErr r P
on_err (Ok x) p = tt
on_err (Err e) p = p

pub on_ok_then : {A E P Q : Type 0} (r : Result A E) → (P → Q) → OnOk r P → OnOk r Q
on_ok_then (Ok x) f p = f p
on_ok_then (Err e) f p = tt

pub on_err_then : {A E P Q : Type 0} (r : Result A E) → (P → Q) → OnErr r P → OnErr r Q
on_err_then (Ok x) f p = tt
on_err_then (Err e) f p = f p

-- The same of calls, by what each answered: the first piece is `p`, and what comes after it is `q`.
module _ {A E : Type 0} (r : Result A E) where
  -- The first failed.
  pub within : (a b : Option (List ℕ)) (x p q : List ℕ) → x ≡ p → TakesFront a b x → OnErr r (TakesFront a b (p ++ q))
  within a b x p q e taken = on_err r (takes_within a b p q (subst (TakesFront a b) e taken))

  -- The first gave all, and then the second did.
  pub then_whole : (a b c : Option (List ℕ)) (x p y q : List ℕ) → x ≡ p → y ≡ q → Appends a b x → OnOk r (Appends b c y)
      → OnOk r (Appends a c (p ++ q))
  then_whole a b c x p y q e f first second =
      on_ok_then r (λ k. Appends-trans a b c p q (subst (Appends a b) e first) (subst (Appends b c) f k)) second

  -- The first gave all, and then the second failed.
  pub then_front : (a b c : Option (List ℕ)) (x p y q : List ℕ) → x ≡ p → y ≡ q → Appends a b x → OnErr r (TakesFront b c y)
      → OnErr r (TakesFront a c (p ++ q))
  then_front a b c x p y q e f first second =
      on_err_then r (λ k. takes_behind a b c p q (subst (Appends a b) e first) (subst (TakesFront b c) f k)) second

-- In a loop over items: those before item i were written, and of item i, whose bytes are `y`, a front.
pub loop_front : {A E T : Type 0} (r : Result A E) (f : T → List ℕ) (xs : List T) (i : ℕ) (a b c : Option (List ℕ)) (p y : List ℕ)
    → flat_map f (take (i + 1) xs) ≡ flat_map f (take i xs) ++ y
    → Appends a b (p ++ flat_map f (take i xs)) → TakesFront b c y → OnErr r (TakesFront a c (p ++ flat_map f xs))
loop_front r f xs i a b c p y next before failed =
    let after = flat_map f (drop (i + 1) xs) in
    let front = p ++ flat_map f (take i xs) in
    let split : flat_map f xs ≡ flat_map f (take i xs) ++ (y ++ after) =
    ap (flat_map f) (sym (take-append-drop (i + 1) xs)) ∙ flat_map-append f (take (i + 1) xs) (drop (i + 1) xs)
    ∙ ap (λ l. l ++ after) next ∙ append_assoc (flat_map f (take i xs)) y after in
    let whole : front ++ (y ++ after) ≡ p ++ flat_map f xs =
    append_assoc p (flat_map f (take i xs)) (y ++ after) ∙ ap (λ l. p ++ l) (sym split) in
    on_err r (subst (TakesFront a c) whole (takes_behind a b c front (y ++ after) before (takes_within b c y after failed)))

-- Item i was written too.
pub loop_next : {T : Type 0} (f : T → List ℕ) (xs : List T) (i : ℕ) (a b c : Option (List ℕ)) (p y : List ℕ)
    → flat_map f (take (i + 1) xs) ≡ flat_map f (take i xs) ++ y
    → Appends a b (p ++ flat_map f (take i xs)) → Appends b c y → Appends a c (p ++ flat_map f (take (i + 1) xs))
loop_next f xs i a b c p y next before item =
    let front = p ++ flat_map f (take i xs) in
    subst (Appends a c) (append_assoc p (flat_map f (take i xs)) y ∙ ap (λ l. p ++ l) (sym next))
    (Appends-trans a b c front y before item)

-- The same for more than two pieces, one in the other: the piece at hand is `p`.
pub first_of : (a b : Option (List ℕ)) (x p q : List ℕ) → x ≡ p → TakesFront a b x → TakesFront a b (p ++ q)
first_of a b x p q e taken = takes_within a b p q (subst (TakesFront a b) e taken)

pub behind : (a b c : Option (List ℕ)) (x p q : List ℕ) → x ≡ p → Appends a b x → TakesFront b c q → TakesFront a c (p ++ q)
behind a b c x p q e first rest = takes_behind a b c p q (subst (Appends a b) e first) rest

pub both : (a b c : Option (List ℕ)) (x p q : List ℕ) → x ≡ p → Appends a b x → Appends b c q → Appends a c (p ++ q)
both a b c x p q e first rest = Appends-trans a b c p q (subst (Appends a b) e first) rest

-- The bytes of one item more, where the items are what `m` makes of others.
pub next_of_map : {S T : Type 0} (f : T → List ℕ) (m : S → T) (xs : List S) (i : ℕ) (d : S) (y : List ℕ) → i < length xs
    → y ≡ f (m (get_or xs i d)) → flat_map f (take (i + 1) (map m xs)) ≡ flat_map f (take i (map m xs)) ++ y
next_of_map f m xs i d y below is =
    let item = m (get_or xs i d) in
    let front = take i (map m xs) in
    let long : i < length (map m xs) = subst (λ n. i < n) (sym (length-map xs m)) below in
    let one : take (i + 1) (map m xs) ≡ front ++ item ∷ [] =
    take_more (map m xs) i item long ∙ ap (λ x. front ++ x ∷ []) (get_or-map m xs i d item below) in
    ap (flat_map f) one ∙ flat_map-append f front (item ∷ [])
    ∙ ap (λ l. flat_map f front ++ l) (flat_map-cons f item [] ∙ append-nil (f item) ∙ sym is)
