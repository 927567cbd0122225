use Rattle.std.proofs.Common.{◌≡◌, ◌<◌, length, map, sym, subst, ◌∙◌, inl, inr, arith}
use Rattle.std.proofs.lemmas.Bool.{cases_eq, false≢true}
use Rattle.nvm_record.specs.Lists.{IsAt}
use Rattle.nvm_trace.specs.declared.step.Step.{Step}
use Rattle.nvm_trace.specs.Timely.{IsLate}
use Rattle.nvm_trace.proofs.Places.{below, one_there, placed, stands_read}
use Rattle.nvm_trace.proofs.Latest.{room_there}
use Rattle.nvm_trace.proofs.timing.first_late.Goals as goal

pub is_late-requires : goal.is_late-requires
is_late-requires c =
    let steps = c.args.steps.now.items in
    let low : c.loop-place.place < length steps = omega (arith, c.loop-place-test.true, c.len-place-end.ensures) in
    c.raise_all.ensures.room c.index.result.now
    (room_there (map (λ row. row.items) c.note_all.new.rows.items) steps c.loop-place.place c.index.result.now c.note_all.ensures.room low c.index.ensures)

pub returns-then-is_late : goal.returns-then-is_late
returns-then-is_late c =
    let steps = c.args.steps.now.items in
    let low : c.loop-place.place < length steps = omega (arith, c.loop-place-test.true, c.len-place-end.ensures) in
    let each = c.raise_all.ensures.raised steps c.note_all.ensures.noted in
    record {
      late = c.index.result.now;
      there = stands_read steps c.loop-place.place c.index.result.now low c.index.ensures;
      is = (c.is_late.ensures steps each).0 c.if-is_late.true;
      before = c.loop-place.invariant;
    }

pub loop-place-preserved : goal.loop-place-preserved
loop-place-preserved c = λ k s under at late.
    let steps = c.args.steps.now.items in
    let place = c.loop-place.place in
    let low : place < length steps = omega (arith, c.loop-place-test.true, c.len-place-end.ensures) in
    let each = c.raise_all.ensures.raised steps c.note_all.ensures.noted in
    elim (cases_eq k place) [
      | inl e ↦
          let there = stands_read steps place c.index.result.now low c.index.ensures in
          let same : s ≡ c.index.result.now = one_there steps place s c.index.result.now (subst (λ n. IsAt steps n s) e at) there in
          let is = (c.is_late.ensures steps each).1 (subst (λ (t : Step). IsLate steps t) same late) in
          false≢true (sym c.if-is_late.false ∙ is)
      | inr apart ↦ c.loop-place.invariant k s (omega (arith, under, apart)) at late
    ]

pub returns : goal.returns
returns c = λ s has late.
    let steps = c.args.steps.now.items in
    let there = placed steps s has in
    let low = below steps there.0 s there.1 in
    c.loop-place.invariant there.0 s (omega (arith, low, c.loop-place-test.false, c.len-place-end.ensures)) there.1 late
