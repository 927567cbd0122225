-- A host's commands have one pairing, which is made from the front.
use Rattle.std.proofs.Common.{◌≡◌, List, [], ◌∷◌, ◌++◌, refl, ap, sym, ◌∙◌}
use Rattle.std.specs.List.{AllByRecursion, flat_map}
use Rattle.std.proofs.lemmas.List.Elements.{All-cons, All-nil, recursion_from_All}
use Rattle.nvm_record.specs.declared.command.Command.{Command}
use Rattle.nvm_plan.specs.declared.job.Body.{Body}
use Rattle.nvm_plan.specs.declared.job.Body.TheVariants.{Single, Pair}
use Rattle.nvm_plan.specs.Profile.{IsFusedPair}
use Rattle.nvm_plan.specs.Jobs.{commands_of, IsBody, IsPairing}

-- no neighbours that are by themselves are a fused pair
abbrev pub LeavesAlone : List Body → Type 0
LeavesAlone bodies = (before : List Body) (c d : Command) (after : List Body) → bodies ≡ before ++ Single c ∷ (Single d ∷ after) → ¬ (IsFusedPair c d)

leaves_none : LeavesAlone []
leaves_none [] c d after e = absurd (cc)
leaves_none (x ∷ xs) c d after e = absurd (cc)

leaves_more : (b : Body) (rest : List Body)
    → ((c d : Command) (after : List Body) → b ≡ Single c → rest ≡ Single d ∷ after → ¬ (IsFusedPair c d))
    → LeavesAlone rest → LeavesAlone (b ∷ rest)
leaves_more b rest here there [] c d after e = here c d after (cc) (cc)
leaves_more b rest here there (x ∷ xs) c d after e = there xs c d after (cc)

leaves_rest : (b : Body) (rest : List Body) → LeavesAlone (b ∷ rest) → LeavesAlone rest
leaves_rest b rest all before c d after e = all (b ∷ before) c d after (ap (λ bs. b ∷ bs) e)

pub pairing_none : IsPairing [] []
pairing_none = record { whole = refl; paired = All-nil IsBody; alone = leaves_none }

-- a pair, and the jobs of what follows it
pub pairing_pair : (c d : Command) (cs : List Command) (rest : List Body) → IsFusedPair c d → IsPairing cs rest
    → IsPairing (c ∷ d ∷ cs) (Pair c d ∷ rest)
pairing_pair c d cs rest pair h =
    record {
      whole = ap (λ xs. c ∷ d ∷ xs) h.whole;
      paired = All-cons IsBody (Pair c d) rest pair h.paired;
      alone = leaves_more (Pair c d) rest (λ x y after e f. absurd (cc)) h.alone;
    }

-- the last command, by itself
pub pairing_last : (c : Command) (rest : List Body) → IsPairing [] rest → IsPairing (c ∷ []) (Single c ∷ rest)
pairing_last c rest h =
    record {
      whole = ap (λ xs. c ∷ xs) h.whole;
      paired = All-cons IsBody (Single c) rest tt h.paired;
      alone = leaves_more (Single c) rest (λ x y after e f. let g = rw f at h.whole in absurd (cc)) h.alone;
    }

-- a command that is no pair with the next
pub pairing_single : (c d : Command) (cs : List Command) (rest : List Body) → ¬ (IsFusedPair c d) → IsPairing (d ∷ cs) rest
    → IsPairing (c ∷ d ∷ cs) (Single c ∷ rest)
pairing_single c d cs rest no_pair h =
    record {
      whole = ap (λ xs. c ∷ xs) h.whole;
      paired = All-cons IsBody (Single c) rest tt h.paired;
      alone = leaves_more (Single c) rest (λ x y after e f p.
          let g = rw f at h.whole in
          let same_first : x ≡ c = cc in
          let same_second : y ≡ d = cc in
          no_pair (rw same_first at (rw same_second at p))) h.alone;
    }

-- a second isn't a first
not_both : (c d e : Command) → IsFusedPair c d → IsFusedPair d e → ⊥
not_both c d e p q = cc (p.second, q.first)

one : (xs ys : List Body) → flat_map commands_of xs ≡ flat_map commands_of ys → AllByRecursion IsBody xs → AllByRecursion IsBody ys
    → LeavesAlone xs → LeavesAlone ys → xs ≡ ys
one [] [] e p q l m = refl
one [] (Single c ∷ ys) e p q l m = cc
one [] (Pair c d ∷ ys) e p q l m = cc
one (Single c ∷ xs) [] e p q l m = cc
one (Pair c d ∷ xs) [] e p q l m = cc
one (Single c ∷ xs) (Single d ∷ ys) e p q l m =
    let rest = one xs ys (cc) p.1 q.1 (leaves_rest (Single c) xs l) (leaves_rest (Single d) ys m) in cc
one (Pair c d ∷ xs) (Pair x y ∷ ys) e p q l m =
    let rest = one xs ys (cc) p.1 q.1 (leaves_rest (Pair c d) xs l) (leaves_rest (Pair x y) ys m) in cc
one (Single c ∷ []) (Pair x y ∷ ys) e p q l m = absurd (cc)
one (Single c ∷ (Single d ∷ xs)) (Pair x y ∷ ys) e p q l m =
    let same_first : x ≡ c = cc in
    let same_second : y ≡ d = cc in
    absurd (l [] c d xs refl (rw same_first at (rw same_second at q.0)))
one (Single c ∷ (Pair d z ∷ xs)) (Pair x y ∷ ys) e p q l m =
    let same : y ≡ d = cc in
    absurd (not_both x d z (rw same at q.0) p.1.0)
one (Pair x y ∷ xs) (Single c ∷ []) e p q l m = absurd (cc)
one (Pair x y ∷ xs) (Single c ∷ (Single d ∷ ys)) e p q l m =
    let same_first : x ≡ c = cc in
    let same_second : y ≡ d = cc in
    absurd (m [] c d ys refl (rw same_first at (rw same_second at p.0)))
one (Pair x y ∷ xs) (Single c ∷ (Pair d z ∷ ys)) e p q l m =
    let same : y ≡ d = cc in
    absurd (not_both x d z (rw same at p.0) q.1.0)

-- two pairings of the same commands are one
pub one_pairing_alone : (commands : List Command) (xs ys : List Body) → IsPairing commands xs → IsPairing commands ys → xs ≡ ys
one_pairing_alone commands xs ys a b =
    one xs ys (a.whole ∙ sym b.whole) (recursion_from_All IsBody xs a.paired) (recursion_from_All IsBody ys b.paired) a.alone b.alone
