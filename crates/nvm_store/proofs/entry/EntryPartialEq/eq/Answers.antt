use Rattle.std.proofs.Common.{◌≡◌, ◌↔◌, IsTrue, rules}
use Rattle.std.proofs.lemmas.Bool.Decides.{same_from_decides}
use Rattle.nvm_store.specs.Inside.SameEntries.{same_entry}
use Rattle.nvm_store.proofs.EntryEquality.{same_entry_decides}
use Rattle.nvm_store.proofs.entry.EntryPartialEq.eq.Goals as goal

pub returns-then-self-other-2-clause-value : goal.returns-then-self-other-2-clause-value
returns-then-self-other-2-clause-value c =
    let a = c.args.self.now in
    let b = c.args.other.now in
    let same : IsTrue c.is_same.result ↔ (a ≡ b) = search rules in
    same_from_decides c.is_same.result (same_entry a b) same (same_entry_decides a b)
