-- The fault of a file at one of several paths.
use Rattle.std.proofs.Common.{◌≡◌, ℕ, ◌+◌, ◌<◌, ◌++◌, ◌∷◌, [], List, String, length, map, take, get_or, string_bytes, sym, subst, ap, ◌∙◌}
use Rattle.std.proofs.lemmas.List.{take_more, get_or-map, length-map}
use Rattle.std.proofs.lemmas.List.Elements.{Contains-get_or}
use Rattle.std.specs.Global.{Global}
use Rattle.std.specs.List.{Contains}
use Rattle.nvm_commands.specs.Paths.{IsOfOne}
use Rattle.nvm_commands.specs.declared.fault.Fault.{Fault}

-- the bytes of the string at a place
pub bytes_at : (paths : List (String Global)) (k : ℕ) (path : String Global) → k < length paths → get_or paths k path ≡ path
    → get_or (map (λ p. string_bytes p) paths) k (string_bytes path) ≡ string_bytes path
bytes_at paths k path lt is = get_or-map (λ p. string_bytes p) paths k path (string_bytes path) lt ∙ ap (λ p. string_bytes p) is

-- It is the fault of one of the paths where it is that of the string at a place.
pub one_of : (Is : List ℕ → Fault → Type 0) (paths : List (String Global)) (k : ℕ) (path : String Global) (fault : Fault) → k < length paths
    → get_or paths k path ≡ path → Is (string_bytes path) fault → IsOfOne Is (map (λ p. string_bytes p) paths) fault
one_of Is paths k path fault lt is h =
    let all : List (List ℕ) = map (λ p. string_bytes p) paths in
    let low : k < length all = subst (λ (n : ℕ). k < n) (sym (length-map paths (λ p. string_bytes p))) lt in
    (string_bytes path, subst (Contains all) (bytes_at paths k path lt is) (Contains-get_or all k (string_bytes path) low), h)

-- one path more
pub paths_more : (paths : List (String Global)) (k : ℕ) (path : String Global) → k < length paths → get_or paths k path ≡ path
    → take (k + 1) (map (λ p. string_bytes p) paths) ≡ take k (map (λ p. string_bytes p) paths) ++ string_bytes path ∷ []
paths_more paths k path lt is =
    let all : List (List ℕ) = map (λ p. string_bytes p) paths in
    let long : k < length all = subst (λ (n : ℕ). k < n) (sym (length-map paths (λ p. string_bytes p))) lt in
    take_more all k (string_bytes path) long ∙ ap (λ (bytes : List ℕ). take k all ++ bytes ∷ []) (bytes_at paths k path lt is)
