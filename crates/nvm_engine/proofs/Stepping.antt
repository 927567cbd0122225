-- Each step on a counter's word keeps the rule of its table.
use Rattle.std.proofs.Common.{◌≡◌, ℕ, ◌+◌, ◌%◌, ◌<◌, ◌≤◌, ◌^◌, List, [], ◌∷◌, ◌++◌, length, take, drop, slice_index, slice_index_or, subst, refl, sym, ap, ◌∙◌, arith, All, mod-eq_of_lt}
use mathlib.Core.Option.{some, some-injective}
use lib.ListN.{get_elem?}
use Rattle.atomic_table.specs.Table.{State, Step, Act, keeps, stepped, Valid, carried_after, Allows, Splits, Joins, Final, Seen, opening}
use Rattle.atomic_table.proofs.Lists.{set_else}
use Rattle.nvm_record.specs.Lists.{IsAt}
use Rattle.nvm_engine.specs.declared.bounds.Bounds.{Bounds}
use Rattle.nvm_engine.specs.Claims.{IsDrawn, IsClaims, HasCome}
use Rattle.nvm_engine.specs.Inside.Rule.{IsRuled, no_numbers}
use Rattle.nvm_engine.specs.Inside.Plays.{Sits, resting, HasDrawn, draws}
use Rattle.nvm_engine.proofs.Places.{all_at}
use Rattle.nvm_engine.proofs.Sharing.{drawn_at, shared_draw, shared_split, shared_join, shared_opening, word_small, claims_at_the_end, come_with_all}

-- What a step owes at a word.
abbrev Owes : Bounds → State (Unit {0}) (List (List ℕ)) → ℕ → Sits → (ℕ → Sits → Type 0) → List ℕ → Type 0
Owes b t id m then words =
    (w : List (List ℕ)) × (a : Act (Unit {0})) × Valid t.homes m.1 a
    × IsRuled b (stepped (record { words = words; homes = t.homes; views = t.views }) 0 ((slice_index words 0 + 1) % 18446744073709551616) id m.1 w a)
    × then (slice_index words 0) (w, carried_after m.1 a)

has_drawn : (n : ℕ) (drawn : List ℕ) → All (λ x. x < n) drawn → HasDrawn n (resting (drawn ∷ [])) (resting ((drawn ++ n ∷ []) ∷ []))
has_drawn n drawn below old is =
    let only : List (List ℕ) → List ℕ = λ lists. slice_index_or lists 0 [] in
    let same : drawn ≡ old = ap (λ (m : Sits). only m.0) is in (
      ap (λ (d : List ℕ). resting ((d ++ n ∷ []) ∷ [])) same,
      subst (λ (d : List ℕ). All (λ x. x < n) d) same below,
    )

draw_rests : (st : Step (Unit {0})) (b : Bounds) (slots id : ℕ) (drawn : List ℕ) → All (λ x. x < b.jobs) drawn
    → Allows (IsRuled b) slots id (resting (drawn ∷ [])) 0 (λ n. (n + 1) % 18446744073709551616) (draws st (resting (drawn ∷ [])))
draw_rests st b slots id drawn low t ruled long at small =
    let word = ruled.word in
    let m = resting (drawn ∷ []) in
    let most : word ≤ b.jobs + b.workers = word_small b word t.views ruled.claims in
    let jobs : b.jobs < 2 ^ 32 = ruled.jobs in
    let workers : b.workers < 2 ^ 16 = ruled.workers in
    let no_wrap : (word + 1) % 18446744073709551616 ≡ word + 1 = mod-eq_of_lt (omega arith) in
    let go : Owes b t id m (draws st m) (word ∷ []) = (
      (drawn ++ word ∷ []) ∷ [],
      keeps,
      tt,
      record {
        jobs = ruled.jobs;
        workers = ruled.workers;
        word = word + 1;
        words = ap (λ (n : ℕ). n ∷ []) no_wrap;
        claims = shared_draw b word t.views id drawn ruled.claims at low;
      },
      has_drawn word drawn (drawn_at b word t.views id drawn ruled.claims at).below,
    ) in
    subst (Owes b t id m (draws st m)) (sym ruled.words) go

pub draw_allowed : (st : Step (Unit {0})) (b : Bounds) (slots id : ℕ) (drawn : List ℕ) (m : Sits) → m ≡ resting (drawn ∷ []) → All (λ x. x < b.jobs) drawn
    → Allows (IsRuled b) slots id m 0 (λ n. (n + 1) % 18446744073709551616) (draws st m)
draw_allowed st b slots id drawn m is low =
    subst (λ (x : Sits). Allows (IsRuled b) slots id x 0 (λ n. (n + 1) % 18446744073709551616) (draws st x)) (sym is) (draw_rests st b slots id drawn low)

pub split_allowed : (b : Bounds) (id : ℕ) (lists : List (List ℕ)) → Splits {S = Unit {0}} (IsRuled b) id lists (take 1 lists) (drop 1 lists)
split_allowed b id lists t ruled at =
    record {
      jobs = ruled.jobs;
      workers = ruled.workers;
      word = ruled.word;
      words = ruled.words;
      claims = shared_split b ruled.word t.views id lists ruled.claims at;
    }

pub join_allowed : (b : Bounds) (id other : ℕ) (lists others : List (List ℕ)) → Joins {S = Unit {0}} (IsRuled b) id lists other others (lists ++ others) []
join_allowed b id other lists others t ruled at apart other_at =
    let here : IsAt t.views other others = sym (set_else t.views id other (lists ++ others) apart) ∙ other_at in
    record {
      jobs = ruled.jobs;
      workers = ruled.workers;
      word = ruled.word;
      words = ruled.words;
      claims = shared_join b ruled.word t.views id other lists others ruled.claims at other_at
          (all_at (All (IsDrawn b.jobs ruled.word)) t.views other others ruled.claims.each here);
    }

pub opening_ruled : (b : Bounds) → b.jobs < 2 ^ 32 → b.workers < 2 ^ 16 → IsRuled b (opening (0 ∷ []) [] (no_numbers b))
opening_ruled b jobs workers =
    record { jobs = jobs; workers = workers; word = 0; words = refl; claims = shared_opening b }

-- The word at the end, and the lists of the last seat.
pub closing : (b : Bounds) (id : ℕ) (lists : List (List ℕ)) (words : List ℕ) (slots : List (Unit {0})) (word : ℕ) → length lists ≡ b.workers
    → get_elem? words 0 ≡ some word → Final (Seen (IsRuled b) id lists) words slots
    → IsClaims b.jobs (record { word = word; lists = lists }) × HasCome b.jobs b.workers word lists
closing b id lists words slots word all read final =
    let ruled = final.1.0 in
    let there : ruled.word ∷ [] ≡ words = sym ruled.words ∙ final.2 in
    let same : ruled.word ≡ word = some-injective ruled.word word (ap (λ (ws : List ℕ). get_elem? ws 0) there ∙ read) in
    subst (λ (n : ℕ). IsClaims b.jobs (record { word = n; lists = lists }) × HasCome b.jobs b.workers n lists) same (
      claims_at_the_end b ruled.word final.0.views id lists ruled.claims final.1.1 all,
      come_with_all b ruled.word final.0.views id lists ruled.claims final.1.1 all,
    )
