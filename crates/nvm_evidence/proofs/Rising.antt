-- Numbers after a sort and a `dedup`: rising, each once.
use Rattle.std.proofs.Common.{◌≡◌, ℕ, List, [], IsPermutation, IsSorted, eqb, subst, sym}
use Rattle.std.specs.List.{dedup}
use Rattle.std.specs.List.Retain.{DiffersFromLast, IsFiltered}
use Rattle.std.specs.Ordering.{nat_cmp}
use Rattle.std.proofs.lemmas.List.Filters.{dedup_is}
use Rattle.std.proofs.lemmas.List.Kept.{Contains-dedup_nat, Contains-from_dedup}
use Rattle.std.proofs.lemmas.List.Sorted.{Contains-permutation, IsPermutation-sym}
use Rattle.std.proofs.lemmas.Map.Keys.{IsStrictlyIncreasing-dedup}
use Rattle.nvm_evidence.specs.Named.{AreRising}

pub are_rising : (all sorted once : List ℕ) → IsPermutation all sorted → IsSorted nat_cmp sorted
    → IsFiltered (DiffersFromLast eqb) [] sorted once → AreRising all once
are_rising all sorted once moved in_order kept =
    let same : once ≡ dedup eqb sorted = dedup_is eqb sorted once kept in
    subst (AreRising all) (sym same) (record {
      rising = IsStrictlyIncreasing-dedup sorted in_order;
      exactly = λ n. (
        (λ here. Contains-permutation sorted all n (IsPermutation-sym all sorted moved) (Contains-from_dedup eqb sorted n here)),
        (λ there. Contains-dedup_nat sorted n (Contains-permutation all sorted n moved there)),
      );
    })
