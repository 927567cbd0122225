-- What is left to say of statuses, of which some were met.
use Rattle.std.proofs.Common.{◌≡◌, ◌+◌, ◌<◌, ℕ, drop, get_or, length, map, if◌then◌else◌, ◌==◌, ◌&&◌, ◌||◌, Bool, true, false, not, List, [], ◌∷◌, ◌++◌, append_assoc, ap, ap₂, refl, sym, subst, eqb-true, ◌∙◌}
use Rattle.std.proofs.lemmas.List.{at_drop_more}
use Rattle.std.specs.List.{filter}
use Rattle.nvm_record.specs.declared.status.Status.{Status}
use Rattle.nvm_record.specs.declared.status.Statuses.{Statuses}
use Rattle.nvm_record.specs.declared.status.Statuses.TheVariants.{One, Two}
use Rattle.nvm_audit.specs.RecordedJob.{RecordedJob}
use Rattle.nvm_explain.specs.Ended.{is_met, met_with, same_status, same_statuses}
use Rattle.nvm_explain.specs.Once.{once}
use Rattle.nvm_explain.proofs.Meeting.{filter_all, first_met, met}

-- the statuses that were met, and of those that are left each other one once
abbrev pub met_and_left : List Statuses → List Statuses → List Statuses
met_and_left earlier left = earlier ++ filter (λ s. not (is_met earlier s)) (once same_statuses left)

both_true : (b c : Bool) → (b && c) ≡ true → (b ≡ true) × (c ≡ true)
both_true true c h = (refl, h)
both_true false c h = absurd cc

status_eq : (s t : Status) → same_status s t ≡ true → s ≡ t
status_eq s t h =
    let parts = both_true (s.sct == t.sct) (s.sc == t.sc) h in
    ap₂ (λ type code. record { sct = type; sc = code }) (eqb-true s.sct t.sct parts.0) (eqb-true s.sc t.sc parts.1)

statuses_eq : (s t : Statuses) → same_statuses s t ≡ true → s ≡ t
statuses_eq (One s) (One t) h = ap (λ x. One x) (status_eq s t h)
statuses_eq (One s) (Two t u) h = absurd cc
statuses_eq (Two s t) (One u) h = absurd cc
statuses_eq (Two s t) (Two u v) h =
    let parts = both_true (same_status s u) (same_status t v) h in
    ap₂ (λ x y. Two x y) (status_eq s u parts.0) (status_eq t v parts.1)

or_false : (b : Bool) → (b || false) ≡ b
or_false true = refl
or_false false = refl

or_more : (b x y z : Bool) → x ≡ (y || z) → (b || x) ≡ ((b || y) || z)
or_more true x y z same = refl
or_more false x y z same = same

met_push : (earlier : List Statuses) (s t : Statuses) → is_met (earlier ++ t ∷ []) s ≡ (is_met earlier s || same_statuses s t)
met_push [] s t = or_false (same_statuses s t)
met_push (u ∷ earlier) s t = or_more (same_statuses s u) _ _ _ (met_push earlier s t)

neither : (b c : Bool) → not (b || c) ≡ (not c && not b)
neither true true = refl
neither true false = refl
neither false true = refl
neither false false = refl

-- What was met before adds nothing.
met_before : (earlier : List Statuses) (s : Statuses) (left : List Statuses) → is_met earlier s ≡ true
    → met_and_left earlier (s ∷ left) ≡ met_and_left earlier left
met_before earlier s left here =
    ap (λ more. earlier ++ more) (met same_statuses (λ t. not (is_met earlier t)) s left (ap not here)
    (λ t same. ap not (subst (λ (u : Statuses). is_met earlier u ≡ true) (sym (statuses_eq t s same)) here)))

-- What wasn't met is next.
met_next : (earlier : List Statuses) (s : Statuses) (left : List Statuses) → is_met earlier s ≡ false
    → met_and_left earlier (s ∷ left) ≡ met_and_left (earlier ++ s ∷ []) left
met_next earlier s left here =
    ap (λ more. earlier ++ more) (first_met same_statuses (λ t. not (is_met earlier t)) (λ t. not (is_met (earlier ++ s ∷ []) t)) s left (ap not here)
    (λ t. ap not (met_push earlier t s) ∙ neither (is_met earlier t) (same_statuses t s)))
    ∙ sym (append_assoc earlier (s ∷ []) _)

one_more : (earlier : List Statuses) (s : Statuses) (left : List Statuses) (known : Bool) → is_met earlier s ≡ known
    → met_and_left (if known then earlier else earlier ++ s ∷ []) left ≡ met_and_left earlier (s ∷ left)
one_more earlier s left true here = sym (met_before earlier s left here)
one_more earlier s left false here = sym (met_next earlier s left here)

-- The next that is left is taken up.
met_one : (earlier : List Statuses) (s : Statuses) (left : List Statuses)
    → met_and_left (met_with earlier s) left ≡ met_and_left earlier (s ∷ left)
met_one earlier s left = one_more earlier s left (is_met earlier s) refl

-- What the next job ended with is taken up.
pub met_step : (earlier others : List Statuses) (work : List RecordedJob) (k : ℕ) (it : RecordedJob) → k < length work
    → it ≡ get_or work k it → met_and_left (met_with earlier it.statuses) (map (λ d. d.statuses) (drop (k + 1) work) ++ others)
    ≡ met_and_left earlier (map (λ d. d.statuses) (drop k work) ++ others)
met_step earlier others work k it low is =
    let left : List RecordedJob → List Statuses = λ (more : List RecordedJob). met_and_left earlier (map (λ d. d.statuses) more ++ others) in
    met_one earlier it.statuses _
    ∙ (ap (λ (d : RecordedJob). left (d ∷ drop (k + 1) work)) is ∙ sym (at_drop_more left work k it low))

-- Where none was met, each is there once.
pub none_met : (left : List Statuses) → met_and_left [] left ≡ once same_statuses left
none_met left = filter_all (λ s. not (is_met [] s)) (λ s. refl) (once same_statuses left)
