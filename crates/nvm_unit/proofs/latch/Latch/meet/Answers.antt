use Rattle.std.proofs.Common.{◌≡◌, ◌≤◌, ◌^◌, ap, sym, subst, ◌∙◌, length, arith, inl, [], ◌∷◌, false}
use Rattle.nvm_unit.specs.declared.steps.Token.{Token}
use Rattle.nvm_unit.specs.Inside.Seats.{only}
use Rattle.nvm_unit.specs.declared.bounds.Bounds.{Bounds}
use Rattle.nvm_unit.specs.Inside.Book.{recorded}
use Rattle.nvm_unit.specs.Inside.Snapshot.{IsSnapshotOf}
use Rattle.nvm_unit.specs.Inside.Plays.{resting}
use Rattle.nvm_unit.specs.Views.{shown}
use Rattle.nvm_unit.proofs.Together.{rests_as, first_stays, others_go, both_join, both_found, together, book_of_both, both_back, both_shown, both_few}
use Rattle.nvm_unit.proofs.latch.Latch.meet.Goals as goal

pub book_mut-book-requires-clause-held : goal.book_mut-book-requires-clause-held
book_mut-book-requires-clause-held g c =
    let p = only c.args.one.now.seat.me.0.passes in
    let o = only c.args.other.now.seat.me.0.passes in
    let first : c.split-spare.new.token.seat.me ≡ resting (p ∷ []) = first_stays _ _ p [] c.requires.one_rests c.split-spare.ensures.first in
    let joining : c.replace-joining.result.seat.me ≡ resting (o ∷ []) = ap (λ (t : Token _). t.seat.me) c.replace-joining.ensures.value ∙ c.requires.other_rests in
    let both : c.join.new.token.seat.me ≡ resting (p ∷ o ∷ []) = both_join _ _ _ (p ∷ []) (o ∷ []) first joining c.join.ensures.joined in
    let held = c.hold.ensures.held in
    let h = held.1 in
    let a = together held.0 h p o _ _ both held.2 in
    (both_found h p o, h, recorded held.0 h, a.at)

pub put-requires-clause-few : goal.put-requires-clause-few
put-requires-clause-few g c =
    let p = only c.args.one.now.seat.me.0.passes in
    let o = only c.args.other.now.seat.me.0.passes in
    let first : c.split-spare.new.token.seat.me ≡ resting (p ∷ []) = first_stays _ _ p [] c.requires.one_rests c.split-spare.ensures.first in
    let joining : c.replace-joining.result.seat.me ≡ resting (o ∷ []) = ap (λ (t : Token _). t.seat.me) c.replace-joining.ensures.value ∙ c.requires.other_rests in
    let both : c.join.new.token.seat.me ≡ resting (p ∷ o ∷ []) = both_join _ _ _ (p ∷ []) (o ∷ []) first joining c.join.ensures.joined in
    let held = c.hold.ensures.held in
    let h = held.1 in
    let a = together held.0 h p o _ _ both held.2 in
    let book = c.book_mut-book.result.now in
    let there = c.book_mut-book.ensures.value in
    let short : length book.history ≤ 2 ^ 62 = both_few held.0 h p o _ a book there c.requires.limit in
    let count = c.entries-entries.ensures in
    omega arith

pub put-requires-clause-ready : goal.put-requires-clause-ready
put-requires-clause-ready g c =
    let p = only c.args.one.now.seat.me.0.passes in
    let o = only c.args.other.now.seat.me.0.passes in
    let first : c.split-spare.new.token.seat.me ≡ resting (p ∷ []) = first_stays _ _ p [] c.requires.one_rests c.split-spare.ensures.first in
    let joining : c.replace-joining.result.seat.me ≡ resting (o ∷ []) = ap (λ (t : Token _). t.seat.me) c.replace-joining.ensures.value ∙ c.requires.other_rests in
    let both : c.join.new.token.seat.me ≡ resting (p ∷ o ∷ []) = both_join _ _ _ (p ∷ []) (o ∷ []) first joining c.join.ensures.joined in
    let held = c.hold.ensures.held in
    let h = held.1 in
    let a = together held.0 h p o _ _ both held.2 in
    let book = c.book_mut-book.result.now in
    let there = c.book_mut-book.ensures.value in
    inl (both_found h p o, h, held.0, both_back held.0 h p o _ a book there c.entries-entries.result c.entries-entries.ensures)

pub split-requires-clause-rests : goal.split-requires-clause-rests
split-requires-clause-rests g c =
    let p = only c.args.one.now.seat.me.0.passes in
    let o = only c.args.other.now.seat.me.0.passes in
    let first : c.split-spare.new.token.seat.me ≡ resting (p ∷ []) = first_stays _ _ p [] c.requires.one_rests c.split-spare.ensures.first in
    let joining : c.replace-joining.result.seat.me ≡ resting (o ∷ []) = ap (λ (t : Token _). t.seat.me) c.replace-joining.ensures.value ∙ c.requires.other_rests in
    let both : c.join.new.token.seat.me ≡ resting (p ∷ o ∷ []) = both_join _ _ _ (p ∷ []) (o ∷ []) first joining c.join.ensures.joined in
    let held = c.hold.ensures.held in
    let h = held.1 in
    let a = together held.0 h p o _ _ both held.2 in
    let book = c.book_mut-book.result.now in
    let there = c.book_mut-book.ensures.value in
    let back : c.put.new.token.seat.me ≡ resting (shown false (length h) h p ∷ shown false (length h) h o ∷ []) =
    both_shown held.0 h p o _ a book there c.entries-entries.result c.entries-entries.ensures _ c.put.ensures.returned in
    rests_as _ _ back

pub returns-clause-met : goal.returns-clause-met
returns-clause-met g c =
    let p = only c.args.one.now.seat.me.0.passes in
    let o = only c.args.other.now.seat.me.0.passes in
    let first : c.split-spare.new.token.seat.me ≡ resting (p ∷ []) = first_stays _ _ p [] c.requires.one_rests c.split-spare.ensures.first in
    let joining : c.replace-joining.result.seat.me ≡ resting (o ∷ []) = ap (λ (t : Token _). t.seat.me) c.replace-joining.ensures.value ∙ c.requires.other_rests in
    let both : c.join.new.token.seat.me ≡ resting (p ∷ o ∷ []) = both_join _ _ _ (p ∷ []) (o ∷ []) first joining c.join.ensures.joined in
    let held = c.hold.ensures.held in
    let h = held.1 in
    let a = together held.0 h p o _ _ both held.2 in
    let book = c.book_mut-book.result.now in
    let there = c.book_mut-book.ensures.value in
    let pages = book_of_both held.0 h p o _ a book there in
    let back : c.put.new.token.seat.me ≡ resting (shown false (length h) h p ∷ shown false (length h) h o ∷ []) =
    both_shown held.0 h p o _ a book there c.entries-entries.result c.entries-entries.ensures _ c.put.ensures.returned in (
      h,
      subst (IsSnapshotOf c.snapshot.result) (pages ∙ ap (λ (x : Bounds). recorded x h) (sym a.bounds)) c.snapshot.ensures.shown,
      subst (IsSnapshotOf c.snapshot-2.result) (pages ∙ ap (λ (x : Bounds). recorded x h) (sym a.other_bounds)) c.snapshot-2.ensures.shown,
      a.finds,
      a.other_finds,
      first_stays _ _ _ _ back c.split.ensures.first,
      others_go _ _ _ _ back c.split.ensures.others,
    )
