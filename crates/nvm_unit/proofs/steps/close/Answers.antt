use Rattle.std.proofs.Common.{◌≡◌, ap, sym, refl, subst, ◌∙◌, List, Option, Some, IsSome}
use Rattle.std.specs.Slots.{slots_items}
use Rattle.atomic_table.specs.Table.{Final, Seen}
use Rattle.nvm_store.specs.HistoryEntry.{HistoryEntry}
use Rattle.nvm_unit.specs.declared.views.Group.{Group}
use Rattle.nvm_unit.specs.Inside.Book.{Recorded, recorded}
use Rattle.nvm_unit.specs.Ends.{HasCome, IsWholeHistory}
use Rattle.nvm_unit.specs.Inside.Plays.{Sits}
use Rattle.nvm_unit.specs.Inside.Rule.{IsRuled}
use Rattle.nvm_unit.proofs.Closing.{closing}
use Rattle.nvm_unit.proofs.Lists.{at_one}
use Rattle.nvm_unit.proofs.steps.close.Goals as goal

pub unwrap-book-requires : goal.unwrap-book-requires
unwrap-book-requires g c =
    let b = c.args.desk.table.shared.key in
    let seat = c.args.token.seat in
    let slots = slots_items c.close_with-closed.result.slots in
    let words = slots_items c.close_with-closed.result.words in
    let rests = ap (λ (m : Sits). m.0) c.requires.rests in
    let final = subst (λ (g : Group). Final (Seen (IsRuled b) seat.id g) words slots) rests c.close_with-closed.ensures.values.2 in
    let end = closing b seat.id seat.me.0.passes words slots c.requires.all final in
    let book : c.take.result ≡ Some (recorded b end.0) = at_one slots 0 c.take.result (Some (recorded b end.0)) c.take.ensures.value end.1 in
    subst (λ (x : Option Recorded). IsSome x) (sym book) refl

pub returns : goal.returns
returns g c =
    let b = c.args.desk.table.shared.key in
    let seat = c.args.token.seat in
    let slots = slots_items c.close_with-closed.result.slots in
    let words = slots_items c.close_with-closed.result.words in
    let rests = ap (λ (m : Sits). m.0) c.requires.rests in
    let final = subst (λ (g : Group). Final (Seen (IsRuled b) seat.id g) words slots) rests c.close_with-closed.ensures.values.2 in
    let end = closing b seat.id seat.me.0.passes words slots c.requires.all final in
    let found : c.take.result ≡ Some (recorded b end.0) = at_one slots 0 c.take.result (Some (recorded b end.0)) c.take.ensures.value end.1 in
    let both : Some c.unwrap-book.result ≡ Some (recorded b end.0) = sym c.unwrap-book.ensures ∙ found in
    let book : c.unwrap-book.result ≡ recorded b end.0 = cc in
    let items : g.K.Kept.told c.into_kept.result ≡ end.0 = c.into_kept.ensures ∙ ap (λ (x : Recorded). x.history) book in
    record {
      whole = subst (λ (h : List HistoryEntry). IsWholeHistory b seat.me.0.passes h) (sym items) end.2;
      events = subst (λ (h : List HistoryEntry). HasCome b seat.me.0.passes h) (sym items) end.3;
    }
