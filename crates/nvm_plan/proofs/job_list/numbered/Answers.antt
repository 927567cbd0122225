use Rattle.std.proofs.Common.{◌≡◌, ap, sym, ◌∙◌}
use Rattle.std.specs.List.{enumerate_from}
use Rattle.std.proofs.lemmas.List.{map-id}
use Rattle.std.proofs.lemmas.Iterator.Adapters.{YieldsList-from_vec}
use Rattle.std.proofs.lemmas.Iterator.Consumers.{YieldsList-from_enumerate, YieldsList-end}
use Rattle.nvm_plan.proofs.WaitingHosts.{numbered_of, numbered_all}
use Rattle.nvm_plan.proofs.job_list.numbered.Goals as goal

pub returns : goal.returns
returns c =
    let whole = YieldsList-end (YieldsList-from_enumerate (YieldsList-from_vec c.args.hosts.items (cc) (cc)) (cc)) c.loop-place.yielded c.loop-place.place-iterator c.loop-place.yielded_by c.next.result c.next.new.self c.in-None.is c.next.ensures.steps in
    let all : c.loop-place.yielded ≡ enumerate_from 0 c.args.hosts.items = sym (map-id c.loop-place.yielded) ∙ whole.0 in
    c.loop-place.invariant ∙ ap numbered_of all ∙ numbered_all 0 c.args.hosts.items
