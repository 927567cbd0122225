use Rattle.std.proofs.Common.{◌≡◌, ◌≤◌, ◌^◌, ap, sym, subst, ◌∙◌, ℕ, length, arith}
use Rattle.nvm_store.specs.ActRef.{lent_operation_of}
use Rattle.nvm_store.specs.Place.{IsCovered}
use Rattle.nvm_unit.specs.declared.bounds.Bounds.{Bounds}
use Rattle.nvm_unit.specs.declared.views.PassView.{PassView}
use Rattle.nvm_unit.specs.Inside.Parts.{seated}
use Rattle.nvm_unit.specs.Inside.Snapshot.{IsSnapshotOf}
use Rattle.nvm_unit.specs.Passes.{UnitName}
use Rattle.nvm_unit.specs.Replies.{Makes}
use Rattle.nvm_unit.proofs.Changing.{attempted, change_within, change_ready, change_ends}
use Rattle.nvm_unit.proofs.EventsKept.{FollowsLawfully}
use Rattle.nvm_unit.proofs.OnePass.{whole}
use Rattle.nvm_unit.proofs.unit.Unit.change_held.Goals as goal

abbrev bounds_of : UnitName → Bounds
bounds_of unit = unit.bounds

abbrev limit_of : Bounds → ℕ
limit_of b = b.limit

pub put-requires-clause-few : goal.put-requires-clause-few
put-requires-clause-few g c =
    let op = lent_operation_of c.args.act in
    let book = c.book_mut-book.result.now in
    let book' = c.attempt-changed.new.book in
    let m = c.args.parts.now.token.seat.me in
    let has = c.requires.has in
    let there = c.book_mut-book.ensures.value in
    let bounds = ap bounds_of c.self.view_is ∙ sym has.bounds in
    let done = attempted c.attempt-changed.result c.self.inside.bounds.limit c.args.parts.now.number c.args.job op book book' (seated m) (ap limit_of bounds) c.requires.numbered c.attempt-changed.ensures in
    let covered = subst (λ (b : Bounds). IsCovered b.place op) (sym has.bounds) c.requires.covered in
    let within : length book'.history ≤ (seated m).bounds.limit = change_within c.args.self.now m has book book' there c.args.job op c.attempt-changed.result done (c.acts_and_looks.ensures.acts c.args.act) covered in
    let limit : c.self.inside.bounds.limit ≡ (seated m).bounds.limit = ap limit_of bounds in
    let most : c.self.inside.bounds.limit ≤ 2 ^ 62 = c.self.invariant.1 in
    let count = c.entries-entries.ensures in
    omega arith

pub put-requires-clause-ready : goal.put-requires-clause-ready
put-requires-clause-ready g c =
    let op = lent_operation_of c.args.act in
    let book = c.book_mut-book.result.now in
    let book' = c.attempt-changed.new.book in
    let m = c.args.parts.now.token.seat.me in
    let has = c.requires.has in
    let there = c.book_mut-book.ensures.value in
    let bounds = ap bounds_of c.self.view_is ∙ sym has.bounds in
    let done = attempted c.attempt-changed.result c.self.inside.bounds.limit c.args.parts.now.number c.args.job op book book' (seated m) (ap limit_of bounds) c.requires.numbered c.attempt-changed.ensures in
    let covered = subst (λ (b : Bounds). IsCovered b.place op) (sym has.bounds) c.requires.covered in
    change_ready c.args.self.now m has book book' there c.args.job op c.attempt-changed.result done (c.acts_and_looks.ensures.acts c.args.act) covered c.entries-entries.result c.entries-entries.ensures

pub returns : goal.returns
returns g c =
    let op = lent_operation_of c.args.act in
    let book = c.book_mut-book.result.now in
    let book' = c.attempt-changed.new.book in
    let m = c.args.parts.now.token.seat.me in
    let has = c.requires.has in
    let there = c.book_mut-book.ensures.value in
    let bounds = ap bounds_of c.self.view_is ∙ sym has.bounds in
    let done = attempted c.attempt-changed.result c.self.inside.bounds.limit c.args.parts.now.number c.args.job op book book' (seated m) (ap limit_of bounds) c.requires.numbered c.attempt-changed.ensures in
    let covered = subst (λ (b : Bounds). IsCovered b.place op) (sym has.bounds) c.requires.covered in
    let law : FollowsLawfully = λ place history entry lawful follows. (c.lawful_with_one_more.ensures place history entry).1 (lawful, follows) in
    let ends = change_ends c.args.self.now m has book book' there c.args.job op c.attempt-changed.result done (c.acts_and_looks.ensures.acts c.args.act) covered c.entries-entries.result c.entries-entries.ensures law c.put.new.token.seat.me c.put.ensures.returned c.put.ensures.added in
    record {
      of =
          record {
            table = c.put.ensures.at ∙ c.requires.at;
            bounds = ap (λ (p : PassView). p.bounds) (ap seated ends.2.0) ∙ ends.3;
            kept = λ keeps. sym (ap (λ (unit : UnitName). unit.versions) c.self.view_is) ∙ c.show.ensures.kept keeps;
          };
      whole = whole _ ends.0 ends.2.0 (c.requires.numbered ∙ sym ends.4) (subst (IsSnapshotOf c.show.new.snapshot) ends.2.2 c.show.ensures.shown) ends.2.1;
      made = subst (λ (q : PassView). Makes c.attempt-changed.result (seated m) c.args.job op q) (sym (ap seated ends.2.0)) ends.1;
    }
