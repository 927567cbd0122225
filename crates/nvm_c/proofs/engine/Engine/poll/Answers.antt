use Rattle.std.proofs.Common.{◌≡◌, ◌∙◌, Option, Some, MatchOption, ap, sym, subst}
use Rattle.nvm_c.specs.Engines.{CanGoOn, seen_by, space_of}
use Rattle.nvm_c.specs.declared.engine.Pending.{Pending}
use Rattle.nvm_c.specs.declared.engine.Pending.TheVariants.{UnderWay, Waiting}
use Rattle.nvm_c.proofs.Steps.{polls_of}
use Rattle.nvm_c.proofs.engine.Engine.poll.Goals as goal

pub returns-in-UnderWay-clause-polls : goal.returns-in-UnderWay-clause-polls
returns-in-UnderWay-clause-polls c =
    let e = c.args.self.now in
    let p : Pending = UnderWay c.in-UnderWay.number c.in-UnderWay.job c.in-UnderWay.under_way in
    let is : e.pending ≡ Some p = sym c.take.ensures.value ∙ c.in-Some-take.is ∙ ap (λ (q : Pending). Some q) c.in-UnderWay.is in
    let can : CanGoOn (space_of e) p (seen_by e) e.log =
    subst (λ (o : Option Pending). MatchOption o (Unit {0}) (λ q. CanGoOn (space_of e) q (seen_by e) e.log)) is c.requires.pending in
    polls_of e c.go_on.new.self p _ _ is can.begun c.go_on.result
    (record { progress = λ start begun. c.go_on.ensures.progress start begun.1; space = c.go_on.ensures.space; number = c.go_on.ensures.number })

pub returns-in-Waiting-clause-polls : goal.returns-in-Waiting-clause-polls
returns-in-Waiting-clause-polls c =
    let e = c.args.self.now in
    let p : Pending = Waiting c.in-Waiting.waiting in
    let is : e.pending ≡ Some p = sym c.take.ensures.value ∙ c.in-Some-take.is ∙ ap (λ (q : Pending). Some q) c.in-Waiting.is in
    let can : CanGoOn (space_of e) p (seen_by e) e.log =
    subst (λ (o : Option Pending). MatchOption o (Unit {0}) (λ q. CanGoOn (space_of e) q (seen_by e) e.log)) is c.requires.pending in
    polls_of e c.try_again.new.self p _ _ is can.begun c.try_again.result
    (record { progress = c.try_again.ensures.progress; space = c.try_again.ensures.space; number = c.try_again.ensures.number })
