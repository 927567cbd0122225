use Rattle.std.proofs.Common.{rules, subst}
use Rattle.nvm_file.specs.EntryReading.{history_at, entry_at}
use Rattle.nvm_file.specs.Fields.{items_at}
use Rattle.nvm_file.specs.Inside.Rest.{EndsWith, left_of}
use Rattle.nvm_file.proofs.EntryEnds.{entry_ends, items_end}
use Rattle.nvm_file.proofs.entry.history_of.Goals as goal

pub returns-then-count-eq0 : goal.returns-then-count-eq0
unfolding history_at items_at
returns-then-count-eq0 c = search rules

pub up_to-requires : goal.up_to-requires
up_to-requires c =
    let frame = c.args.frame.now in
    let place = c.place_in-place.result in
    subst (λ bytes. EndsWith bytes (left_of c.in_ok-history.after)) c.in_share.ensures
    (items_end (λ _. entry_at frame place) (λ _. entry_ends frame place) 0 c.in_ok-count.count (left_of c.in_share.result) (c.in_ok-history.history.items, left_of c.in_ok-history.after) c.in_ok-history.ensures)
