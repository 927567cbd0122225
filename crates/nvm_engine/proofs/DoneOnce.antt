-- Workers that went on until no job was left have done each job once.
use Rattle.std.proofs.Common.{◌≡◌, ◌≢◌, ℕ, ◌+◌, ◌<◌, ◌≤◌, List, [], ◌∷◌, ◌++◌, length, subst, refl, sym, ap, ◌∙◌, arith, All, eqb, ne_eqb, cond, Bool}
use Rattle.std.proofs.lemmas.List.Sums.{sum_by-cons, sum_by_push}
use Rattle.std.proofs.lemmas.List.Elements.{All-head, All-tail}
use Rattle.atomic_table.proofs.Lists.{at_last}
use Rattle.nvm_record.specs.Lists.{IsAt}
use Rattle.nvm_engine.proofs.Places.{all_at}
use Rattle.nvm_engine.specs.Claims.{ClaimState, IsClaims, IsDrawn, HasEnded, HaveEnded, AreDoneOnce, times, times_in}

-- What isn't there doesn't come.
never : (x bound : ℕ) (xs : List ℕ) → bound ≤ x → All (λ y. y < bound) xs → times x xs ≡ 0
never x bound [] le all = refl
never x bound (y ∷ ys) le all =
    let rest : times x ys ≡ 0 = never x bound ys le (All-tail (λ z. z < bound) y ys all) in
    let lt : y < bound = All-head (λ z. z < bound) y ys all in
    let not : y ≢ x = λ is. omega arith in
    let here : cond {A = ℕ} (eqb y x) 1 0 ≡ 0 = ap (λ (c : Bool). cond {A = ℕ} c 1 0) (ne_eqb y x not) in
    let cons : times x (y ∷ ys) ≡ cond {A = ℕ} (eqb y x) 1 0 + times x ys = sum_by-cons (λ z. cond {A = ℕ} (eqb z x) 1 0) y ys in
    omega arith

-- A worker did a job as often as it drew it.
done_as_drawn : (jobs x : ℕ) (done drawn : List ℕ) → x < jobs → HasEnded jobs done drawn → times x drawn ≡ times x done
done_as_drawn jobs x done drawn lt ended =
    let le : jobs ≤ ended.last = ended.past in
    let not : ended.last ≢ x = λ is. omega arith in
    let other : cond {A = ℕ} (eqb ended.last x) 1 0 ≡ 0 = ap (λ (c : Bool). cond {A = ℕ} c 1 0) (ne_eqb ended.last x not) in
    let push : times x (done ++ ended.last ∷ []) ≡ times x done + cond {A = ℕ} (eqb ended.last x) 1 0 = sum_by_push (λ z. cond {A = ℕ} (eqb z x) 1 0) done ended.last in
    let after : times x drawn ≡ times x (done ++ ended.last ∷ []) = ap (times x) ended.after in
    omega arith

all_as_drawn : (jobs x : ℕ) (dones lists : List (List ℕ)) → x < jobs → HaveEnded jobs dones lists → times_in x lists ≡ times_in x dones
all_as_drawn jobs x [] [] lt all = refl
all_as_drawn jobs x [] (drawn ∷ lists) lt all = absurd all
all_as_drawn jobs x (done ∷ dones) [] lt all = absurd all
all_as_drawn jobs x (done ∷ dones) (drawn ∷ lists) lt all =
    let rest : times_in x lists ≡ times_in x dones = all_as_drawn jobs x dones lists lt all.1 in
    let here : times x drawn ≡ times x done = done_as_drawn jobs x done drawn lt all.0.1 in
    let mine : times_in x (drawn ∷ lists) ≡ times x drawn + times_in x lists = sum_by-cons (times x) drawn lists in
    let theirs : times_in x (done ∷ dones) ≡ times x done + times_in x dones = sum_by-cons (times x) done dones in
    omega arith

none_else : (jobs x : ℕ) (dones lists : List (List ℕ)) → jobs ≤ x → HaveEnded jobs dones lists → times_in x dones ≡ 0
none_else jobs x [] lists le all = refl
none_else jobs x (done ∷ dones) [] le all = absurd all
none_else jobs x (done ∷ dones) (drawn ∷ lists) le all =
    let rest : times_in x dones ≡ 0 = none_else jobs x dones lists le all.1 in
    let here : times x done ≡ 0 = never x jobs done le all.0.0 in
    let cons : times_in x (done ∷ dones) ≡ times x done + times_in x dones = sum_by-cons (times x) done dones in
    omega arith

-- The word has come past the jobs.
word_past : (jobs word : ℕ) (dones lists : List (List ℕ)) → 0 < length lists → HaveEnded jobs dones lists → All (IsDrawn jobs word) lists → jobs < word
word_past jobs word dones [] some all each = absurd (omega arith)
word_past jobs word [] (drawn ∷ lists) some all each = absurd all
word_past jobs word (done ∷ dones) (drawn ∷ lists) some all each =
    let ended = all.0.1 in
    let is : IsDrawn jobs word drawn = All-head (IsDrawn jobs word) drawn lists each in
    let le : jobs ≤ ended.last = ended.past in
    let last : ended.last < word = all_at (λ x. x < word) drawn (length done) ended.last is.below
    (subst (λ (xs : List ℕ). IsAt xs (length done) ended.last) (sym ended.after) (at_last done ended.last (length done) refl)) in
    omega arith

pub done_once : (jobs : ℕ) (s : ClaimState) (dones : List (List ℕ)) → IsClaims jobs s → 0 < length s.lists → HaveEnded jobs dones s.lists → AreDoneOnce jobs dones
done_once jobs s dones claims some all =
    let far : jobs < s.word = word_past jobs s.word dones s.lists some all claims.each in
    record {
      below = λ x lt. sym (all_as_drawn jobs x dones s.lists lt all) ∙ claims.once.below x (omega arith);
      others = λ x le. none_else jobs x dones s.lists le all;
    }
