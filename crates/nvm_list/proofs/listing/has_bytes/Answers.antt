use Rattle.std.proofs.Common.{◌<◌, ℕ, get_or, rules}
use Rattle.nvm_list.proofs.ByteValues.{byte_at}
use Rattle.nvm_list.proofs.listing.has_bytes.Goals as goal

pub returns : goal.returns
returns c = let each : (i : ℕ) → get_or c.args.bytes.now i 0 < 256 = search rules in byte_at c.args.bytes.now each
