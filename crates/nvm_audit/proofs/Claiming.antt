-- Entries that parts made.
use Rattle.std.proofs.Common.{◌≡◌, ◌⊎◌, ◌↔◌, ℕ, ◌<◌, ◌≤◌, List, [], ◌∷◌, ◌++◌, length, set, replicate, Bool, true, false, IsTrue, sym, ap, subst, ◌∙◌, arith, inl, inr, length-set}
use Rattle.std.proofs.lemmas.List.{length-replicate}
use mathlib.Core.Bool.{true≢false}
use lib.ListN.{get_or}
use Rattle.nvm_record.specs.Lists.{IsAt}
use Rattle.nvm_store.specs.HistoryEntry.{HistoryEntry}
use Rattle.nvm_audit.specs.Inside.Claims.{AreClaims}
use Rattle.nvm_audit.specs.LawfulUnit.{MadeEntry, IsClaimed, HasMadeEntry}
use Rattle.nvm_audit.specs.RecordedPart.{RecordedPart}
use Rattle.nvm_audit.proofs.Places.{at_left, at_end, at_push, at_set, at_replicate}
use Rattle.nvm_audit.proofs.Standing.{none_stands, below, read_there, read_is, one_there}

-- What was read at the part's point says whether the part made it.
pub made_there : (history : List HistoryEntry) (p : RecordedPart) (n : ℕ) (entry : HistoryEntry) (made : Bool) → n ≡ p.part.point
    → p.part.point < length history → entry ≡ get_or history n entry → IsTrue made ↔ MadeEntry p.part.point entry p
    → IsTrue made ↔ HasMadeEntry history p
made_there history p n entry made same low read tells =
    let is : entry ≡ get_or history p.part.point entry = read ∙ ap (λ k. get_or history k entry) same in (
      λ t. (entry, subst (λ (e : HistoryEntry). IsAt history p.part.point e) (sym is) (read_there history p.part.point entry low), tells.0 t),
      λ h. tells.1 (subst (λ (e : HistoryEntry). MadeEntry p.part.point e p) (sym (read_is history p.part.point h.0 entry h.1) ∙ sym is) h.2),
    )

-- Nothing is at a point that the history hasn't come to.
pub none_made : (history : List HistoryEntry) (p : RecordedPart) → length history ≤ p.part.point → ¬ (HasMadeEntry history p)
none_made history p high h = let low = below history p.part.point h.0 h.1 in omega (arith, low, high)

none_claimed : (n : ℕ) (entry : HistoryEntry) → ¬ (IsClaimed [] n entry)
none_claimed n entry h = none_stands h.0 h.1 h.2

-- Before any part nothing is claimed.
pub no_claims : (history : List HistoryEntry) (claimed : List Bool) → claimed ≡ replicate (length history) false → AreClaims history [] claimed
no_claims history claimed is =
    record {
      whole = ap length is ∙ length-replicate (length history) false;
      each = λ i entry made at mark.
          let none = at_replicate (length history) false i made (subst (λ (bs : List Bool). IsAt bs i made) is mark) in
          (λ t. absurd (true≢false (sym t ∙ none)), λ h. absurd (none_claimed i entry h));
    }

by_last : (history : List HistoryEntry) (parts : List RecordedPart) (p : RecordedPart) (i : ℕ) (entry : HistoryEntry)
    → IsClaimed (parts ++ p ∷ []) i entry → IsClaimed parts i entry ⊎ MadeEntry i entry p
by_last history parts p i entry h = elim (at_push parts p h.0 h.1 h.2) [
  | inl here ↦ inl (h.0, h.1, here, h.3)
  | inr last ↦ inr (subst (λ (q : RecordedPart). MadeEntry i entry q) last.1 h.3)
]

still : (parts : List RecordedPart) (p : RecordedPart) (i : ℕ) (entry : HistoryEntry) → IsClaimed parts i entry
    → IsClaimed (parts ++ p ∷ []) i entry
still parts p i entry h = (h.0, h.1, at_left parts (p ∷ []) h.0 h.1 h.2, h.3)

-- A part that made its entry claims exactly that.
pub claims_one : (history : List HistoryEntry) (parts : List RecordedPart) (p : RecordedPart) (claimed : List Bool)
    → AreClaims history parts claimed → HasMadeEntry history p → AreClaims history (parts ++ p ∷ []) (set claimed p.part.point true)
claims_one history parts p claimed old made =
    record {
      whole = length-set claimed p.part.point true ∙ old.whole;
      each = λ i entry mark at marked.
          elim (at_set claimed p.part.point true i mark marked) [
            | inl here ↦ (
              λ t. (
                length parts,
                p,
                at_end parts p,
                subst (λ (n : ℕ). MadeEntry n entry p) (sym here.0)
                    (subst (λ (e : HistoryEntry). MadeEntry p.part.point e p)
                    (one_there history p.part.point made.0 entry made.1 (subst (λ (n : ℕ). IsAt history n entry) here.0 at)) made.2),
              ),
              λ h. here.1,
            )
            | inr there ↦
                let tells = old.each i entry mark at there.1 in (
                  λ t. still parts p i entry (tells.0 t),
                  λ h. elim (by_last history parts p i entry h) [
                    | inl before ↦ tells.1 before
                    | inr last ↦ absurd (there.0 (sym last.point))
                  ],
                )
          ];
    }

-- A part that made none claims nothing.
pub claims_none : (history : List HistoryEntry) (parts : List RecordedPart) (p : RecordedPart) (claimed : List Bool)
    → AreClaims history parts claimed → ¬ (HasMadeEntry history p) → AreClaims history (parts ++ p ∷ []) claimed
claims_none history parts p claimed old none =
    record {
      whole = old.whole;
      each = λ i entry mark at marked.
          let tells = old.each i entry mark at marked in (
            λ t. still parts p i entry (tells.0 t),
            λ h. elim (by_last history parts p i entry h) [
              | inl before ↦ tells.1 before
              | inr last ↦ absurd (none (
                entry,
                subst (λ (n : ℕ). IsAt history n entry) (sym last.point) at,
                subst (λ (n : ℕ). MadeEntry n entry p) (sym last.point) last,
              ))
            ],
          );
    }
