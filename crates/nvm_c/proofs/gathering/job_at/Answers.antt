use Rattle.std.proofs.Common.{◌<◌, length, refl, rules}
use Rattle.nvm_c.proofs.Places.{at_index, at_map}
use Rattle.nvm_c.proofs.gathering.job_at.Goals as goal

pub returns-clause-its : goal.returns-clause-its
returns-clause-its c =
    let port = c.args.spot.port in let place = c.args.spot.place in
    let own = c.index-own.result.now in let did = c.index-did.result.now in
    let own_lt : port < length c.args.jobs.now.items = search rules in
    let did_lt : port < length c.args.done.now.items = search rules in
    let job_lt : place < length own.items = search rules in
    let one_lt : place < length did.items = search rules in
    record {
      port = port;
      place = place;
      own = own.items;
      did = did.items;
      one = c.index-one.result.now;
      jobs_at = at_map (λ own'. own'.items) c.args.jobs.now.items port own (at_index c.args.jobs.now.items port own own_lt c.index-own.ensures);
      done_at = at_map (λ did'. did'.items) c.args.done.now.items port did (at_index c.args.done.now.items port did did_lt c.index-did.ensures);
      job_at = at_index own.items place c.index-job.result.now job_lt c.index-job.ensures;
      one_at = at_index did.items place c.index-one.result.now one_lt c.index-one.ensures;
      is_number = c.if-not-has_number.ensures refl;
    }
