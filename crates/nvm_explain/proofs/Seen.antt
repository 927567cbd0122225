-- Which workers were seen, by a mark for each.
use Rattle.std.proofs.Common.{◌≡◌, ◌+◌, arith, drop, map, ◌<◌, ℕ, zero, suc, ◌&&◌, Bool, true, false, not, List, ◌∷◌, ap, refl, sym, subst, eqb-true, eq-eqb, ne_eqb, ◌∙◌, nat_eq, get_or, set, length, replicate, inl, inr, get_or-set_same, get_or-set_other}
use Rattle.std.proofs.lemmas.Bool.{cases_eq}
use Rattle.std.proofs.lemmas.List.{at_drop_more}
use Rattle.std.specs.List.{All, filter}
use Rattle.nvm_store.specs.HistoryEntry.{HistoryEntry}
use Rattle.nvm_audit.specs.Recordable.{most_workers}
use Rattle.nvm_explain.specs.Once.{once}
use Rattle.nvm_explain.proofs.Meeting.{filter_all, first_met, met}

-- the different workers among those that are left which weren't seen
abbrev pub unseen : List Bool → List ℕ → List ℕ
unseen seen left = filter (λ worker. not (get_or seen worker false)) (once nat_eq left)

no_marks : (n worker : ℕ) → get_or (replicate n false) worker false ≡ false
no_marks zero worker = refl
no_marks (suc n) zero = refl
no_marks (suc n) (suc worker) = no_marks n worker

-- Where none was seen, all are left.
pub none_seen : (n : ℕ) (left : List ℕ) → unseen (replicate n false) left ≡ once nat_eq left
none_seen n left = filter_all (λ worker. not (get_or (replicate n false) worker false)) (λ worker. ap not (no_marks n worker)) (once nat_eq left)

-- One that was seen before counts no more.
pub seen_before : (seen : List Bool) (worker : ℕ) (left : List ℕ) → get_or seen worker false ≡ true
    → unseen seen (worker ∷ left) ≡ unseen seen left
seen_before seen worker left here =
    met nat_eq (λ w. not (get_or seen w false)) worker left (ap not here)
    (λ w same. ap not (subst (λ (v : ℕ). get_or seen v false ≡ true) (sym (eqb-true w worker same)) here))

marked : (seen : List Bool) (worker w : ℕ) → worker < length seen
    → not (get_or (set seen worker true) w false) ≡ (not (nat_eq w worker) && not (get_or seen w false))
marked seen worker w low = elim (cases_eq w worker) [
  | inl same ↦ rw (eq-eqb w worker same, same, get_or-set_same seen worker true false low) refl
  | inr apart ↦ rw (ne_eqb w worker apart, get_or-set_other seen worker w true false apart) refl
]

-- One that is seen first counts once.
pub seen_next : (seen : List Bool) (worker : ℕ) (left : List ℕ) → worker < length seen → get_or seen worker false ≡ false
    → unseen seen (worker ∷ left) ≡ worker ∷ unseen (set seen worker true) left
seen_next seen worker left low here =
    first_met nat_eq (λ w. not (get_or seen w false)) (λ w. not (get_or (set seen worker true) w false)) worker left (ap not here)
    (λ w. marked seen worker w low)

-- the different workers of these entries which weren't seen
abbrev pub unseen_of : List Bool → List HistoryEntry → List ℕ
unseen_of seen entries = unseen seen (map (λ entry. entry.pass) entries)

-- The next entry is of a worker that was seen.
pub seen_step : (seen : List Bool) (entries : List HistoryEntry) (k worker : ℕ) (d : HistoryEntry) → k < length entries
    → worker ≡ (get_or entries k d).pass → get_or seen worker false ≡ true
    → unseen_of seen (drop k entries) ≡ unseen_of seen (drop (k + 1) entries)
seen_step seen entries k worker d low is here =
    at_drop_more (λ (es : List HistoryEntry). unseen_of seen es) entries k d low
    ∙ seen_before seen (get_or entries k d).pass _ (subst (λ (w : ℕ). get_or seen w false ≡ true) is here)

-- The next entry is of a worker that wasn't seen.
pub mark_step : (seen : List Bool) (entries : List HistoryEntry) (k worker : ℕ) (d : HistoryEntry) → k < length entries
    → worker ≡ (get_or entries k d).pass → All (λ entry. entry.pass < most_workers) entries → length seen ≡ most_workers → get_or seen worker false ≡ false
    → length (unseen_of seen (drop k entries)) ≡ length (unseen_of (set seen worker true) (drop (k + 1) entries)) + 1
mark_step seen entries k worker d low is few marks here =
    let pass = (get_or entries k d).pass in
    let under : pass < length seen = omega (arith, few k d low, marks) in
    let next = seen_next seen pass (map (λ entry. entry.pass) (drop (k + 1) entries)) under
    (subst (λ (w : ℕ). get_or seen w false ≡ false) is here) in
    let all = ap length (at_drop_more (λ (es : List HistoryEntry). unseen_of seen es) entries k d low ∙ next) in
    let same = ap (λ w. length (unseen_of (set seen w true) (drop (k + 1) entries))) is in
    omega (arith, all, same)
