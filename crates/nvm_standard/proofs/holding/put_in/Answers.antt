use Rattle.std.proofs.Common.{◌≡◌, ℕ, ◌+◌, ◌-◌, Some, None, map, option_map, ap, sym, ◌∙◌}
use Rattle.nvm_standard.specs.PointView.{seen}
use Rattle.nvm_standard.specs.Contents.{put_at}
use Rattle.nvm_standard.specs.Inside.Held.{after_blocks}
use Rattle.nvm_standard.specs.OrderView.{block_of, seen_content, seen_placed}
use Rattle.nvm_standard.proofs.Blocks.{put_here, put_there, put_none, same_medium}
use Rattle.nvm_standard.proofs.holding.put_in.Goals as goal

pub returns-in-Some-clause-holds : goal.returns-in-Some-clause-holds
returns-in-Some-clause-holds c = λ t m size holds.
    let q = seen c.args.point.now in
    let p = seen_placed c.args.placed.now in
    let b = c.args.block in
    let put : put_at c.args.size q.put p.value (b - q.first) ≡ Some (block_of c.args.size (seen_content c.in-Some.content)) =
    sym c.put_at.ensures ∙ ap (option_map (λ k. block_of c.args.size (seen_content k))) c.in-Some.is in
    c.hold.ensures.holds t (after_blocks c.args.size q p b m) (after_blocks c.args.size q p (b + 1) m) holds
    (put_here c.args.size q p b m (block_of c.args.size (seen_content c.in-Some.content)) c.requires.at put
    ∙ ap (λ (s : ℕ). block_of s (seen_content c.in-Some.content)) (sym size))
    (λ x ne. put_there c.args.size q p b m x ne)

pub returns-in_default-clause-holds : goal.returns-in_default-clause-holds
returns-in_default-clause-holds c = λ t m size holds.
    let q = seen c.args.point.now in
    let p = seen_placed c.args.placed.now in
    let b = c.args.block in
    let put : put_at c.args.size q.put p.value (b - q.first) ≡ None =
    sym c.put_at.ensures ∙ ap (option_map (λ k. block_of c.args.size (seen_content k))) c.in_default.is in
    same_medium t (map seen_content c.args.held.now.items) (after_blocks c.args.size q p b m) (after_blocks c.args.size q p (b + 1) m)
    (put_none c.args.size q p b m put) holds
