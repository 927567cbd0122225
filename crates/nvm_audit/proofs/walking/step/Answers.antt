use Rattle.std.proofs.Common.{arith}
use Rattle.nvm_audit.specs.Inside.Audited.{view_of_shown}
use Rattle.nvm_audit.proofs.Entered.{leads_to_next, leads_to_fault}
use Rattle.nvm_audit.proofs.Places.{stands_read, get_or_there}
use Rattle.nvm_audit.proofs.walking.step.Goals as goal

pub entry_fault-requires-clause-claimed : goal.entry_fault-requires-clause-claimed
entry_fault-requires-clause-claimed c = λ entry at.
    let whole = c.requires.claimed.whole in
    let there = c.requires.there in
    c.requires.claimed.each c.args.place entry c.index.result.now at
    (stands_read c.args.claimed.now.items c.args.place c.index.result.now (omega (arith, whole, there)) c.index.ensures)

pub returns-in-Some : goal.returns-in-Some
returns-in-Some c =
    let u = view_of_shown c.args.u.now in
    let entry = get_or_there u.history c.args.place c.requires.there in
    leads_to_fault u c.args.place entry.0 c.in-Some.fault entry.1 (c.in-Some.ensures entry.0 entry.1) c.requires.walked.leads

pub advance-requires-clause-right : goal.advance-requires-clause-right
advance-requires-clause-right c = λ entry at. (c.in-None.ensures entry at).0

pub returns-in_ok-advance-in-None : goal.returns-in_ok-advance-in-None
returns-in_ok-advance-in-None c =
    let u = view_of_shown c.args.u.now in
    let entry = get_or_there u.history c.args.place c.requires.there in
    record {
      lies = c.advance.ensures.lies;
      held = c.in_ok-advance-in-None.ensures.held;
      long = c.judge_at.ensures.each;
      judged = c.judge_at.ensures.judged;
      leads = leads_to_next u c.args.place entry.0 entry.1 (c.in-None.ensures entry.0 entry.1) c.requires.walked.leads;
    }
