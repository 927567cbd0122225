-- Lists of a load, one more.
use Rattle.std.proofs.Common.{◌≡◌, ℕ, ◌+◌, List, [], ◌∷◌, ◌++◌, String, length, map, string_bytes, subst, sym, arith}
use Rattle.std.proofs.lemmas.List.{length-map, map-append}
use Rattle.std.specs.Global.{Global}
use Rattle.nvm_generate.specs.declared.load.Load.{Load}
use Rattle.nvm_commands.specs.Generated.{AreListsOfLoad, IsListOfLoad}

behind : (load : Load) (host : ℕ) (texts : List (List ℕ)) (text : List ℕ) → AreListsOfLoad load host texts
    → IsListOfLoad load (host + length texts) text → AreListsOfLoad load host (texts ++ text ∷ [])
behind load host [] text before here =
    let same : host + 0 ≡ host = omega arith in (subst (λ n. IsListOfLoad load n text) same here, tt)
behind load host (first ∷ texts) text before here =
    let same : host + length (first ∷ texts) ≡ host + 1 + length texts = omega arith in
    (before.0, behind load (host + 1) texts text before.1 (subst (λ n. IsListOfLoad load n text) same here))

pub lists_more : (load : Load) (texts : List (String Global)) (text : String Global) (before : ℕ) → length texts ≡ before
    → AreListsOfLoad load 1 (map (λ t. string_bytes t) texts) → IsListOfLoad load (before + 1) (string_bytes text)
    → AreListsOfLoad load 1 (map (λ t. string_bytes t) (texts ++ text ∷ []))
lists_more load texts text before long lists here =
    let bytes : List (List ℕ) = map (λ t. string_bytes t) texts in
    let place : before + 1 ≡ 1 + length bytes = omega (arith, length-map texts (λ t. string_bytes t)) in
    subst (AreListsOfLoad load 1) (sym (map-append (λ t. string_bytes t) texts (text ∷ [])))
    (behind load 1 bytes (string_bytes text) lists (subst (λ n. IsListOfLoad load n (string_bytes text)) place here))
