use Rattle.std.proofs.Common.{◌≡◌, ◌*◌, ◌≤◌, List, length, map, get_or, All, arith}
use Rattle.std.proofs.lemmas.List.{length-map}
use Rattle.std.proofs.lemmas.List.Elements.{All-map}
use Rattle.nvm_record.specs.Entry.{IsWhole}
use Rattle.nvm_record.specs.declared.command.Command.{Command}
use Rattle.nvm_engine.proofs.Reading.{known_body}
use Rattle.nvm_engine.proofs.engine.jobs_of.Goals as goal

pub returns-clause-fit : goal.returns-clause-fit
returns-clause-fit c = λ ns whole.
    let hosts : List (List Command) = map (λ host. host.items) c.args.hosts.items in
    let count : length hosts ≡ length c.args.hosts.items = length-map c.args.hosts.items (λ host. host.items) in
    let few : length c.args.hosts.items ≤ 64 = c.requires.hosts in
    c.jobs_fit.ensures ns hosts c.in_ok-jobs.jobs.items (omega arith) (All-map (λ (commands : List Command). All (IsWhole ns.block_size) commands) (λ host. host.items) c.args.hosts.items whole) c.in_ok-jobs.ensures

pub returns-clause-few : goal.returns-clause-few
returns-clause-few c =
    let hosts : List (List Command) = map (λ host. host.items) c.args.hosts.items in
    let count : length hosts ≡ length c.args.hosts.items = length-map c.args.hosts.items (λ host. host.items) in
    let few : length c.args.hosts.items ≤ 64 = c.requires.hosts in
    let most : length c.in_ok-jobs.jobs.items ≤ length hosts * 65536 = c.no_more_jobs_than_commands.ensures.most hosts c.in_ok-jobs.jobs.items 65536 (All-map (λ (commands : List Command). length commands ≤ 65536) (λ host. host.items) c.args.hosts.items c.requires.commands) c.in_ok-jobs.ensures in
    omega arith

pub returns-clause-known : goal.returns-clause-known
returns-clause-known c = λ size whole k job lt.
    let hosts : List (List Command) = map (λ host. host.items) c.args.hosts.items in
    known_body size (get_or c.in_ok-jobs.jobs.items k job).body
    (c.jobs_are_of_their_hosts.ensures.whole size hosts c.in_ok-jobs.jobs.items
    (All-map (λ (commands : List Command). All (IsWhole size) commands) (λ host. host.items) c.args.hosts.items whole) c.in_ok-jobs.ensures k job lt)
