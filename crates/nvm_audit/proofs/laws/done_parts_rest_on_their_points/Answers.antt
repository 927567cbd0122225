use Rattle.nvm_audit.proofs.DoneParts as done
use Rattle.nvm_audit.proofs.laws.done_parts_rest_on_their_points.Goals as goal

pub returns : goal.returns
returns c = done.done_parts_rest
