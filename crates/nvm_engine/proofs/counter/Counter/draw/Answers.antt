use Rattle.std.proofs.Common.{◌≡◌, ◌∙◌, ℕ, ◌<◌, List, ◌∷◌, [], ◌++◌, All, Option, IfSome, ap, subst, sym, arith}
use Rattle.std.proofs.lemmas.List.Elements.{All-push}
use Rattle.nvm_engine.specs.Counters.{ClaimView, CounterName}
use Rattle.nvm_engine.specs.Inside.Plays.{Sits}
use Rattle.nvm_engine.specs.Inside.Seats.{only}
use Rattle.nvm_engine.proofs.Dealt.{one_rests}
use Rattle.nvm_engine.proofs.counter.Counter.draw.Goals as goal
use Rattle.nvm_engine.proofs.counter.Counter.draw.Goals.{then-number-from, else-number-from}

pub invariant_of-claim : goal.invariant_of-claim
invariant_of-claim c =
    one_rests c.draw-number.new.token.seat.me _ (c.draw-number.ensures.drawn (only c.claim.inside.token.seat.me.0) c.claim.invariant).0

pub returns-clause-rises : goal.returns-clause-rises
returns-clause-rises c =
    let n = c.draw-number.result in
    let lists = c.claim.inside.token.seat.me.0 in
    let same : only lists ≡ c.args.claim.now.drawn = ap (λ (v : ClaimView). v.drawn) c.claim.view_is in
    let above : All (λ x. x < n) c.args.claim.now.drawn =
    subst (λ (d : List ℕ). All (λ x. x < n) d) same (c.draw-number.ensures.drawn (only lists) c.claim.invariant).1 in
    let P : Option ℕ → Type 0 = λ r. IfSome r (λ k. All (λ x. x < k) c.args.claim.now.drawn) in
    elim c.if-number-from.branch [
      | then-number-from w ↦ subst P (sym w.result-is) above
      | else-number-from w ↦ subst P (sym w.result-is) tt
    ]

pub returns-clause-goes_on : goal.returns-clause-goes_on
returns-clause-goes_on c =
    let n = c.draw-number.result in
    let jobs = c.args.self.now.jobs in
    let lists = c.claim.inside.token.seat.me.0 in
    let same : only lists ≡ c.args.claim.now.drawn = ap (λ (v : ClaimView). v.drawn) c.claim.view_is in
    let drawn : only c.draw-number.new.token.seat.me.0 ≡ c.args.claim.now.drawn ++ n ∷ [] =
    ap (λ (m : Sits). only m.0) (c.draw-number.ensures.drawn (only lists) c.claim.invariant).0 ∙ ap (λ (d : List ℕ). d ++ n ∷ []) same in
    let count : c.from.result ≡ jobs = c.from.ensures ∙ ap (λ (v : CounterName). v.jobs) c.self.view_is in
    let P : Option ℕ → Type 0 = λ r. IfSome r (λ k. All (λ x. x < jobs) (only c.draw-number.new.token.seat.me.0)) in
    elim c.if-number-from.branch [
      | then-number-from w ↦ (
          let lt : n < c.from.result = w.if-number-from.true in
          subst P (sym w.result-is) (subst (λ (d : List ℕ). All (λ x. x < jobs) d) (sym drawn) (All-push (λ x. x < jobs) c.args.claim.now.drawn n c.requires.goes_on (omega arith)))
          )
      | else-number-from w ↦ subst P (sym w.result-is) tt
    ]
