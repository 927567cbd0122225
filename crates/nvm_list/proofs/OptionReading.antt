-- Reading options one after the other.
use Rattle.std.proofs.Common.{◌≡◌, ℕ, Bool, List, [], ◌∷◌, Result, Ok, Err, sym, ap, ◌∙◌}
use Rattle.nvm_list.specs.Expecting.{◌>>=◌}
use Rattle.nvm_list.specs.Options.{Options, with_option, options_after}
use Rattle.nvm_list.specs.declared.expected.Expected.{Expected}

abbrev then_rest : Bool → Result Options Expected → List (List ℕ) → Result Options Expected
then_rest ranges read words = read >>= λ more. options_after ranges more words

pub goes_on : (ranges : Bool) (o p : Options) (word : List ℕ) (words all : List (List ℕ)) (whole : Result Options Expected) → all ≡ word ∷ words → Ok p ≡ with_option ranges o word → options_after ranges o all ≡ whole → options_after ranges p words ≡ whole
goes_on ranges o p word words all whole here read so_far = ap (λ (r : Result Options Expected). then_rest ranges r words) read ∙ ap (λ (ws : List (List ℕ)). options_after ranges o ws) (sym here) ∙ so_far

pub stops : (ranges : Bool) (o : Options) (e : Expected) (word : List ℕ) (words all : List (List ℕ)) (whole : Result Options Expected) → all ≡ word ∷ words → Err e ≡ with_option ranges o word → options_after ranges o all ≡ whole → Err e ≡ whole
stops ranges o e word words all whole here read so_far = ap (λ (r : Result Options Expected). then_rest ranges r words) read ∙ ap (λ (ws : List (List ℕ)). options_after ranges o ws) (sym here) ∙ so_far

pub ends : (ranges : Bool) (o : Options) (all : List (List ℕ)) (whole : Result Options Expected) → all ≡ [] → options_after ranges o all ≡ whole → Ok o ≡ whole
ends ranges o all whole none so_far = ap (λ (ws : List (List ℕ)). options_after ranges o ws) (sym none) ∙ so_far
