-- Entries, and those among which they are.
use Rattle.std.proofs.Common.{◌≡◌, ◌⊎◌, ℕ, zero, suc, ◌+◌, ◌<◌, ◌==◌, if◌then◌else◌, Bool, true, false, List, [], ◌∷◌, ◌++◌, length, eq-eqb, append-nil, subst, refl, sym, ap, ◌∙◌, arith, inl, inr, Result}
use Rattle.std.proofs.lemmas.Bool.{eqb-true}
use mathlib.Core.Option.{some, some-injective, some-ne-none}
use Rattle.nvm_record.specs.Step.{Operation}
use Rattle.nvm_store.specs.HistoryEntry.{HistoryEntry}
use Rattle.nvm_unit.specs.declared.replies.Changed.{Changed}
use Rattle.nvm_unit.specs.declared.replies.Observed.{Observed}
use Rattle.nvm_unit.specs.declared.replies.ObserveFault.{ObserveFault}
use Rattle.nvm_unit.specs.declared.views.PassView.{PassView}
use Rattle.nvm_record.specs.Lists.{IsAt}
use Rattle.nvm_unit.specs.Passes.{IsProperPass, Finds}
use Rattle.nvm_unit.specs.Replies.{AnswersChange, AnswersLook, Makes, Observes, medium_at, entry_of_job, pass_after}
use Rattle.nvm_unit.specs.Views.{entries_by_from, entries_by, shown}
use Rattle.nvm_unit.proofs.Lists.{at_below, at_append_right}

-- an entry with its place
abbrev Placed : Type 0
Placed = ℕ × HistoryEntry

-- The entry, if it bears the number, before the rest.
abbrev before_if : Bool → Placed → List Placed → List Placed
before_if bears entry rest = if bears then entry ∷ rest else rest

before_here : (bears : Bool) (entry : Placed) (rest : List Placed) → bears ≡ true → IsAt (before_if bears entry rest) 0 entry
before_here true entry rest is = refl
before_here false entry rest is = absurd (cc)

before_there : (bears : Bool) (entry : Placed) (rest : List Placed) (i : ℕ) (e : Placed) → IsAt rest i e → (k : ℕ) × IsAt (before_if bears entry rest) k e
before_there true entry rest i e at = (suc i, at)
before_there false entry rest i e at = (i, at)

before_back : (bears : Bool) (entry : Placed) (rest : List Placed) (i : ℕ) (e : Placed) → IsAt (before_if bears entry rest) i e
    → ((bears ≡ true) × (entry ≡ e)) ⊎ ((k : ℕ) × IsAt rest k e)
before_back true entry rest zero e at = inl (refl, some-injective entry e at)
before_back true entry rest (suc i) e at = inr (i, at)
before_back false entry rest i e at = inr (i, at)

among_from : (from pass : ℕ) (history : List HistoryEntry) (k : ℕ) (entry : HistoryEntry) → entry.pass ≡ pass → IsAt history k entry
    → (i : ℕ) × IsAt (entries_by_from from pass history) i (from + k, entry)
among_from from pass [] k entry bears at = absurd (some-ne-none entry (sym at))
among_from from pass (x ∷ xs) zero entry bears at =
    let same : x ≡ entry = some-injective x entry at in
    let place : from + 0 ≡ from = omega arith in
    let is : (x.pass == pass) ≡ true = eq-eqb x.pass pass (ap (λ (l : HistoryEntry). l.pass) same ∙ bears) in
    let here : IsAt (entries_by_from from pass (x ∷ xs)) 0 (from, x) = before_here (x.pass == pass) (from, x) (entries_by_from (suc from) pass xs) is in
    (0, subst (λ (l : HistoryEntry). IsAt (entries_by_from from pass (x ∷ xs)) 0 (from + 0, l)) same (rw place here))
among_from from pass (x ∷ xs) (suc k) entry bears at =
    let rest = among_from (suc from) pass xs k entry bears at in
    let place : suc from + k ≡ from + suc k = omega arith in
    before_there (x.pass == pass) (from, x) (entries_by_from (suc from) pass xs) rest.0 (from + suc k, entry)
    (subst (λ (n : ℕ). IsAt (entries_by_from (suc from) pass xs) rest.0 (n, entry)) place rest.1)

pub entry_among : (history : List HistoryEntry) (k : ℕ) (entry : HistoryEntry) → IsAt history k entry → (i : ℕ) × IsAt (entries_by entry.pass history) i (k, entry)
entry_among history k entry at =
    let one = among_from 0 entry.pass history k entry refl at in
    let place : 0 + k ≡ k = omega arith in
    (one.0, subst (λ (n : ℕ). IsAt (entries_by entry.pass history) one.0 (n, entry)) place one.1)

back_from : (from pass : ℕ) (history : List HistoryEntry) (i n : ℕ) (entry : HistoryEntry) → IsAt (entries_by_from from pass history) i (n, entry)
    → (k : ℕ) × (n ≡ from + k) × IsAt history k entry × (entry.pass ≡ pass)
back_from from pass [] i n entry at = let e : Placed = (n, entry) in absurd (some-ne-none e (sym at))
back_from from pass (x ∷ xs) i n entry at =
    elim (before_back (x.pass == pass) (from, x) (entries_by_from (suc from) pass xs) i (n, entry) at) [
      | inl here ↦
          let same : x ≡ entry = ap (λ (e : Placed). e.1) here.1 in
          let place : from ≡ n = ap (λ (e : Placed). e.0) here.1 in
          let bears : entry.pass ≡ pass = ap (λ (l : HistoryEntry). l.pass) (sym same) ∙ eqb-true x.pass pass here.0 in
          (0, omega arith, ap (λ (l : HistoryEntry). some l) same, bears)
      | inr there ↦
          let rest = back_from (suc from) pass xs there.0 n entry there.1 in
          let place : n ≡ suc from + rest.0 = rest.1 in
          (suc rest.0, omega arith, rest.2, rest.3)
    ]

pub entry_stands : (pass : ℕ) (history : List HistoryEntry) (i k : ℕ) (entry : HistoryEntry) → IsAt (entries_by pass history) i (k, entry)
    → IsAt history k entry × (entry.pass ≡ pass)
entry_stands pass history i k entry at =
    let one = back_from 0 pass history i k entry at in
    let place : one.0 ≡ k = let is : k ≡ 0 + one.0 = one.1 in omega arith in
    (subst (λ (n : ℕ). IsAt history n entry) place one.2, one.3)

-- Nothing comes after what the pass had seen, where each entry is its own.
none_behind : (p : PassView) (history rest : List HistoryEntry) → p.bounds.passes ≡ 1 → p.number ≡ 0 → IsProperPass p → Finds (length history) p history
    → history ≡ p.seen ++ rest → rest ≡ []
none_behind p history [] count number proper finds is = refl
none_behind p history (x ∷ xs) count number proper finds is =
    let place : length p.seen + 0 ≡ length p.seen = omega arith in
    let behind : IsAt (p.seen ++ x ∷ xs) (length p.seen) x =
    subst (λ (n : ℕ). IsAt (p.seen ++ x ∷ xs) n x) place (at_append_right p.seen (x ∷ xs) 0 x refl) in
    let at : IsAt history (length p.seen) x = subst (λ (h : List HistoryEntry). IsAt h (length p.seen) x) (sym is) behind in
    let below : x.pass < p.bounds.passes = finds.lawful.bears (length p.seen) x at in
    let own : x.pass ≡ p.number = omega arith in
    let among = entry_among history (length p.seen) x at in
    let same : entries_by x.pass history ≡ entries_by p.number p.seen =
    ap (λ (n : ℕ). entries_by n history) own ∙ (finds.mine ∙ sym proper.own) in
    let seen = subst (λ (es : List Placed). IsAt es among.0 (length p.seen, x)) same among.1 in
    let stands = entry_stands p.number p.seen among.0 (length p.seen) x seen in
    let lt : length p.seen < length p.seen = at_below p.seen (length p.seen) x stands.0 in
    absurd (omega arith)

pub all_seen : (p : PassView) (history : List HistoryEntry) → p.bounds.passes ≡ 1 → p.number ≡ 0 → IsProperPass p → Finds (length history) p history
    → history ≡ p.seen
all_seen p history count number proper finds =
    let rest = finds.seen.0 in
    finds.seen.1 ∙ (ap (λ (ls : List HistoryEntry). p.seen ++ ls) (none_behind p history rest count number proper finds finds.seen.1) ∙ append-nil p.seen)

pub change_alone : (changed : Changed) (p q : PassView) (job : ℕ) (op : Operation) → p.bounds.passes ≡ 1 → p.number ≡ 0 → IsProperPass p → Makes changed p job op q
    → AnswersChange changed (length p.seen) p.bounds.limit op (medium_at p.bounds p.seen) × (q ≡ pass_after changed p.seen (entry_of_job p job op) p)
change_alone changed p q job op count number proper makes =
    let same : makes.0 ≡ p.seen = all_seen p makes.0 count number proper makes.1 in (
      subst (λ (h : List HistoryEntry). AnswersChange changed (length h) p.bounds.limit op (medium_at p.bounds h)) same makes.2,
      makes.3 ∙ ap (λ (h : List HistoryEntry). pass_after changed h (entry_of_job p job op) p) same,
    )

pub look_alone : (answer : Result Observed ObserveFault) (p q : PassView) (op : Operation) → p.bounds.passes ≡ 1 → p.number ≡ 0 → IsProperPass p → Observes answer p op q
    → AnswersLook answer (length p.seen) op (medium_at p.bounds p.seen) × (q ≡ shown true (length p.seen) p.seen p)
look_alone answer p q op count number proper observes =
    let same : observes.0 ≡ p.seen = all_seen p observes.0 count number proper observes.1 in (
      subst (λ (h : List HistoryEntry). AnswersLook answer (length h) op (medium_at p.bounds h)) same observes.2,
      observes.3 ∙ ap (λ (h : List HistoryEntry). shown true (length h) h p) same,
    )
