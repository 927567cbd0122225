-- The least job whose recorded outcome doesn't agree with its reply.
use Rattle.std.proofs.Common.{◌≡◌, ◌⊎◌, ℕ, zero, suc, ◌≤◌, List, [], ◌∷◌, ◌++◌, Contains, Option, Some, None, refl, sym, subst, ◌∙◌, inl, inr, arith}
use Rattle.std.specs.Prelude.{IfSome, MatchOption}
use Rattle.std.proofs.lemmas.List.Elements.{Contains-append_left, Contains-append_right, Contains-append_cases, Contains-push, Contains-push_cases}
use Rattle.std.specs.List.{flat_map}
use mathlib.Core.Option.{some-injective}
use Rattle.nvm_record.specs.Lists.{IsAt}
use Rattle.nvm_geometry.specs.Namespace.{Namespace}
use Rattle.nvm_audit.specs.RecordedJob.{RecordedJob}
use Rattle.nvm_trace.specs.Pieces.{Piece}
use Rattle.nvm_trace.specs.FirstFault.{IsFirstWithout}
use Rattle.nvm_trace.specs.Inside.Replies.{Agrees, IsLeastWrong, HasReplyAt}
use Rattle.nvm_trace.proofs.Places.{contained, placed, none_stands}

-- The jobs of all workers, one list after the other.
abbrev pub all_of : {A : Type 0} → List (List A) → List A
all_of done = flat_map (λ work. work) done

module _ {A : Type 0} where
  pub in_all : (done : List (List A)) (worker k : ℕ) (work : List A) (d : A) → IsAt done worker work → IsAt work k d → Contains (all_of done) d
  in_all [] worker k work d by at = absurd (none_stands worker work by)
  in_all (w ∷ ws) zero k work d by at =
      Contains-append_left w (all_of ws) d (contained w k d (subst (λ (v : List A). IsAt v k d) (sym (some-injective w work by)) at))
  in_all (w ∷ ws) (suc worker) k work d by at = Contains-append_right w (all_of ws) d (in_all ws worker k work d by at)

  pub out_of_all : (done : List (List A)) (d : A) → Contains (all_of done) d
      → (worker k : ℕ) × (work : List A) × IsAt done worker work × IsAt work k d
  out_of_all [] d has = let low = has.1 in absurd (omega (arith, low))
  out_of_all (w ∷ ws) d has = elim (Contains-append_cases w (all_of ws) d has) [
    | inl here ↦ let at = placed w d here in (0, at.0, w, refl, at.1)
    | inr after ↦ let rest = out_of_all ws d after in (suc rest.0, rest.1, rest.2, rest.3, rest.4)
  ]

module _ (ns : Namespace) (traced : List Piece) (seen : List RecordedJob) (d : RecordedJob) where
  -- One done job more agrees.
  pub least_kept : (least : Option ℕ) → Agrees ns traced d → IsLeastWrong ns traced seen least → IsLeastWrong ns traced (seen ++ d ∷ []) least
  least_kept None agrees old = λ e has. elim (Contains-push_cases seen d e has) [
    | inl before ↦ old e before
    | inr same ↦ subst (λ (x : RecordedJob). Agrees ns traced x) same agrees
  ]
  least_kept (Some n) agrees old = (
    λ e has low. elim (Contains-push_cases seen d e has) [
      | inl before ↦ old.0 e before low
      | inr same ↦ subst (λ (x : RecordedJob). Agrees ns traced x) same agrees
    ],
    (old.1.0, Contains-append_left seen (d ∷ []) old.1.0 old.1.1, old.1.2, old.1.3),
  )

  -- One done job more doesn't.
  pub least_taken : (least : Option ℕ) (n : ℕ) → (Agrees ns traced d → ⊥) → n ≤ d.job → IfSome least (λ m. n ≤ m)
      → (n ≡ d.job) ⊎ (least ≡ Some n) → IsLeastWrong ns traced seen least → IsLeastWrong ns traced (seen ++ d ∷ []) (Some n)
  least_taken None n differs low before (inl is) old = (
    λ e has below. elim (Contains-push_cases seen d e has) [
      | inl earlier ↦ old e earlier
      | inr same ↦ let job : d.job ≡ e.job = (λ i. (same i).job) in absurd (omega (arith, low, below, job))
    ],
    (d, Contains-push seen d, sym is, differs),
  )
  least_taken None n differs low before (inr is) old = cc
  least_taken (Some m) n differs low before which old = (
    λ e has below. elim (Contains-push_cases seen d e has) [
      | inl earlier ↦ old.0 e earlier (omega (arith, before, below))
      | inr same ↦ let job : d.job ≡ e.job = (λ i. (same i).job) in absurd (omega (arith, low, below, job))
    ],
    elim which [
      | inl is ↦ (d, Contains-push seen d, sym is, differs)
      | inr is ↦
          let same : m ≡ n = cc in
          (old.1.0, Contains-append_left seen (d ∷ []) old.1.0 old.1.1, old.1.2 ∙ same, old.1.3)
    ],
  )

-- Which job's it is, by its number.
pub least_is_first : (ns : Namespace) (traced : List Piece) (done : List (List RecordedJob)) (least : Option ℕ)
    → IsLeastWrong ns traced (all_of done) least
    → MatchOption least ((number : ℕ) → HasReplyAt ns traced done number) (IsFirstWithout (HasReplyAt ns traced done))
least_is_first ns traced done None all = λ number worker k work d j by at is its.
    all d (in_all done worker k work d by at) j (subst (λ (n : ℕ). IsAt traced n j) (sym is) its)
least_is_first ns traced done (Some n) least = record {
  before = λ number low worker k work d j by at is its.
      least.0 d (in_all done worker k work d by at) (omega (arith, is, low)) j (subst (λ (m : ℕ). IsAt traced m j) (sym is) its);
  fails = λ has.
      let o = least.1 in
      let at = out_of_all done o.0 o.1 in
      o.3 (λ j its. has at.0 at.1 at.2 o.0 j at.3 at.4 o.2 (subst (λ (m : ℕ). IsAt traced m j) o.2 its));
}
