-- A draw leads from claims to claims.
use Rattle.std.proofs.Common.{◌≡◌, ℕ, zero, suc, ◌+◌, List, [], ◌∷◌, ◌++◌, set, subst, refl, sym, arith, eqb, cond}
use Rattle.std.proofs.lemmas.List.Sums.{sum_by_push}
use Rattle.std.proofs.lemmas.List.Elements.{All-set, All-weaker, All-replicate}
use Rattle.nvm_engine.specs.Claims.{ClaimState, IsClaims, IsDrawn, opening_claims, Draws, DrawsLead, IsReached, times, times_in}
use Rattle.nvm_engine.proofs.Places.{all_at}
use Rattle.nvm_engine.proofs.Sharing.{come_once_more, drawn_later, drawn_more, counts_nothing, new_list}
use Rattle.nvm_engine.proofs.Totals.{sum_set}

pub opening_is : (jobs workers : ℕ) → IsClaims jobs (opening_claims workers)
opening_is jobs workers =
    record {
      once = record { below = λ x lt. absurd (omega arith); others = λ x le. counts_nothing (times x) workers refl };
      each = All-replicate (IsDrawn jobs 0) workers [] (new_list jobs);
    }

pub draw_keeps : (jobs : ℕ) (s t : ClaimState) → IsClaims jobs s → Draws jobs s t → IsClaims jobs t
draw_keeps jobs s t claims draw =
    let new : List ℕ = draw.drawn ++ s.word ∷ [] in
    let lists : List (List ℕ) = set s.lists draw.worker new in
    let mine : IsDrawn jobs s.word draw.drawn = all_at (IsDrawn jobs s.word) s.lists draw.worker draw.drawn claims.each draw.at in
    let after : IsClaims jobs (record { word = s.word + 1; lists = lists }) =
    record {
      once = come_once_more s.word (λ x. times_in x s.lists) (λ x. times_in x lists) claims.once
          (λ x.
          let one : times_in x lists + times x draw.drawn ≡ times_in x s.lists + times x new = sum_set (times x) s.lists draw.worker draw.drawn new draw.at in
          let push : times x new ≡ times x draw.drawn + cond {A = ℕ} (eqb s.word x) 1 0 = sum_by_push (λ y. cond {A = ℕ} (eqb y x) 1 0) draw.drawn s.word in
          omega arith);
      each = All-set (IsDrawn jobs (s.word + 1)) s.lists draw.worker new (drawn_more jobs s.word draw.drawn mine draw.goes_on)
          (All-weaker (IsDrawn jobs s.word) (IsDrawn jobs (s.word + 1)) (drawn_later jobs s.word) s.lists claims.each);
    } in
    let there : (let x : ClaimState = record { word = s.word + 1; lists = lists } in x) ≡ t = λ i. record { word = sym draw.word i; lists = sym draw.lists i } in
    subst (IsClaims jobs) there after

led : (jobs n : ℕ) (s t : ClaimState) → DrawsLead jobs n s t → IsClaims jobs s → IsClaims jobs t
led jobs zero s t is claims = subst (IsClaims jobs) (sym is) claims
led jobs (suc n) s t draws claims = draw_keeps jobs draws.0 t (led jobs n s draws.0 draws.1 claims) draws.2

pub reached_are_claims : (jobs workers : ℕ) (s : ClaimState) → IsReached jobs workers s → IsClaims jobs s
reached_are_claims jobs workers s reached = led jobs reached.0 (opening_claims workers) s reached.1 (opening_is jobs workers)
