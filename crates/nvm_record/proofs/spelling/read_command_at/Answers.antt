use Rattle.std.proofs.Common.{◌≡◌, ◌+◌, ◌-◌, ◌≤◌, ℕ, length, slice_range, take, drop, ap, sym, ◌∙◌, arith}
use Rattle.std.proofs.lemmas.List.{drop-drop, take_rest, length-take-le}
use Rattle.nvm_record.specs.Entry.{IsEntryOf, called_for, data_kept}
use Rattle.nvm_record.specs.declared.command.Command.{Command}
use Rattle.nvm_record.proofs.HostFileLemmas.{begins_with}
use Rattle.nvm_record.proofs.WholeCommands.{wanted, whole}
use Rattle.nvm_record.proofs.spelling.read_command_at.Goals as goal

pub returns-clause-command : goal.returns-clause-command
returns-clause-command c =
    let all = drop c.args.from c.args.bytes.now in
    let left : take (length c.as_slice.result.now - c.args.from) (drop c.args.from c.as_slice.result.now) ≡ all =
    take_rest c.as_slice.result.now c.args.from ∙ ap (drop c.args.from) c.as_slice.ensures in
    let n = c.data_length-wanted.result in
    let fields = c.entry_fields-fields.result in
    let read : Command = record { cid = fields.cid; nsid = fields.nsid; fuse = fields.fuse; op = fields.op; slba = fields.slba; nlb = fields.nlb; payload = c.in_ok-payload.payload } in
    let first : c.split_at.result.0.now ≡ take 64 all = c.split_at.ensures.front ∙ ap (take 64) left in
    let second : c.split_at.result.1.now ≡ drop 64 all = c.split_at.ensures.back ∙ ap (drop 64) left in
    let enough : n ≤ length (drop 64 all) = rw (← second) (omega arith) in
    let entry : IsEntryOf c.split_at.result.0.now read = record {
      whole = c.split_at.ensures.front_len;
      op = c.entry_fields-fields.ensures.op;
      fuse = c.entry_fields-fields.ensures.fuse;
      cid = c.entry_fields-fields.ensures.cid;
      nsid = c.entry_fields-fields.ensures.nsid;
      slba = c.entry_fields-fields.ensures.slba;
      nlb = c.entry_fields-fields.ensures.nlb;
    } in
    let needed : n ≡ called_for c.args.size c.split_at.result.0.now =
    c.data_length-wanted.ensures ∙ wanted c.args.size c.split_at.result.0.now fields.nr read entry c.entry_fields-fields.ensures.nr in
    let found : slice_range c.args.bytes.now (c.args.from + 64) (c.args.from + 64 + n) ≡ take n (drop 64 all) =
    ap (λ (k : ℕ). take k (drop (c.args.from + 64) c.args.bytes.now)) (omega arith) ∙ ap (take n) (sym (drop-drop 64 c.args.from c.args.bytes.now)) in
    let kept : c.in_ok-payload.payload ≡ data_kept fields.op (take n (drop 64 all)) = c.in_ok-payload.ensures.bytes ∙ ap (data_kept fields.op) found in
    let rest : drop (c.args.from + 64 + n) c.args.bytes.now ≡ drop n (drop 64 all) =
    ap (λ (k : ℕ). drop k c.args.bytes.now) (omega arith) ∙ sym (drop-drop (64 + n) c.args.from c.args.bytes.now) ∙ sym (drop-drop n 64 all) in
    rw rest (begins_with c.args.size all read n (rw (← left) (omega arith)) (rw (← first) needed) enough (rw (← first) entry) kept)

pub returns-clause-whole : goal.returns-clause-whole
returns-clause-whole c =
    let all = drop c.args.from c.args.bytes.now in
    let left : take (length c.as_slice.result.now - c.args.from) (drop c.args.from c.as_slice.result.now) ≡ all =
    take_rest c.as_slice.result.now c.args.from ∙ ap (drop c.args.from) c.as_slice.ensures in
    let n = c.data_length-wanted.result in
    let fields = c.entry_fields-fields.result in
    let read : Command = record { cid = fields.cid; nsid = fields.nsid; fuse = fields.fuse; op = fields.op; slba = fields.slba; nlb = fields.nlb; payload = c.in_ok-payload.payload } in
    let entry : IsEntryOf c.split_at.result.0.now read = record {
      whole = c.split_at.ensures.front_len;
      op = c.entry_fields-fields.ensures.op;
      fuse = c.entry_fields-fields.ensures.fuse;
      cid = c.entry_fields-fields.ensures.cid;
      nsid = c.entry_fields-fields.ensures.nsid;
      slba = c.entry_fields-fields.ensures.slba;
      nlb = c.entry_fields-fields.ensures.nlb;
    } in
    let second : c.split_at.result.1.now ≡ drop 64 all = c.split_at.ensures.back ∙ ap (drop 64) left in
    let enough : n ≤ length (drop 64 all) = rw (← second) (omega arith) in
    let found : slice_range c.args.bytes.now (c.args.from + 64) (c.args.from + 64 + n) ≡ take n (drop 64 all) =
    ap (λ (k : ℕ). take k (drop (c.args.from + 64) c.args.bytes.now)) (omega arith) ∙ ap (take n) (sym (drop-drop 64 c.args.from c.args.bytes.now)) in
    let long : length (slice_range c.args.bytes.now (c.args.from + 64) (c.args.from + 64 + n)) ≡ n = ap length found ∙ length-take-le n (drop 64 all) enough in
    whole c.args.size c.split_at.result.0.now (slice_range c.args.bytes.now (c.args.from + 64) (c.args.from + 64 + n)) fields.nr read (record {
      entry = entry;
      nr = c.entry_fields-fields.ensures.nr;
      byte = omega arith;
      wanted = long ∙ c.data_length-wanted.ensures;
      payload = c.in_ok-payload.ensures.bytes;
      again = c.in_ok-payload.ensures.again;
    })
