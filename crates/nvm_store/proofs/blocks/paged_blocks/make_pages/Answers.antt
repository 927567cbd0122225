use Rattle.std.proofs.Common.{ℕ, ◌+◌, ◌*◌, ◌≤◌, length, inl, inr, refl, ◌∙◌, subst, arith}
use Rattle.std.proofs.lemmas.Bool.Decides.{eqb_tells}
use Rattle.nvm_record.specs.Lists.{IsAt}
use Rattle.nvm_store.proofs.FlatBytes.{mul_le}
use Rattle.nvm_store.proofs.Gathering.{named_le}
use Rattle.nvm_store.proofs.Numbering.{one_at}
use Rattle.nvm_store.proofs.blocks.paged_blocks.make_pages.Goals.{then-at-eq0, else-at-eq0}
use Rattle.nvm_store.proofs.blocks.paged_blocks.make_pages.Goals as goal

pub overflow_add-missing : goal.overflow_add-missing
overflow_add-missing c =
    let few = c.loop-place.invariant.few in
    let many = c.requires.sound.few in
    omega (arith, few, many, c.requires.range)

pub loop-place-preserved : goal.loop-place-preserved
loop-place-preserved c =
    let seen = c.loop-place.invariant.seen in
    let few = c.loop-place.invariant.few in
    elim c.if-at-eq0.branch [
      | then-at-eq0 w ↦
          let more = w.missing-is in
          record {
            seen = omega (arith, seen, more);
            few = omega (arith, seen, more, c.loop-place-test.true);
            own = λ none. absurd (omega (arith, more, none));
          }
      | else-at-eq0 w ↦
          let same = w.missing-is in
          record {
            seen = omega (arith, seen, same);
            few = omega (arith, few, same);
            own =
                λ none i n from below at.
                elim (eqb_tells i c.loop-place.place) [
                  | inl here ↦
                      let e =
                      one_at c.args.numbers.now c.loop-place.place n c.at.result (subst (λ (k : ℕ). IsAt c.args.numbers.now k n) here.1 at) c.at.ensures.is in
                      omega (arith, e, w.if-at-eq0.false)
                  | inr other ↦
                      c.loop-place.invariant.own (omega (arith, same, none)) i n from (let off = other.1 in omega (arith, below, off)) at
                ];
          }
    ]

pub returns-then-missing-eq0-clause-own : goal.returns-then-missing-eq0-clause-own
returns-then-missing-eq0-clause-own c i n from below at =
    c.loop-place.invariant.own (omega (arith, c.if-missing-eq0.true)) i n from (omega (arith, below, c.loop-place-test.false)) at

pub overflow_mul-missing : goal.overflow_mul-missing
overflow_mul-missing c =
    let few = c.loop-place.invariant.few in
    let many = c.requires.sound.few in
    omega (arith, few, many, c.requires.range)

pub reserve-requires : goal.reserve-requires
reserve-requires c =
    let numbers = c.args.numbers.now in
    let pages = c.args.pages.now in
    let missing = c.loop-place.missing in
    let few = c.loop-place.invariant.few in
    let many = c.requires.sound.few in
    let le = named_le numbers in
    let count = c.requires.sound.gathered.count in
    let small = c.requires.sound.small in
    let fits : length pages.list + missing * 8 ≤ 68719476744 = omega (arith, few, many, le, count, c.requires.range) in
    let far = mul_le (length pages.list + missing * 8) 68719476744 pages.size fits in
    omega (arith, far, small)

pub loop-place-2-init : goal.loop-place-2-init
loop-place-2-init c =
    rw (c.reserve.ensures, c.reserve-2.ensures)
    (record {
      sound = c.requires.sound;
      size = refl;
      len = refl;
      same = refl;
      own = λ i n from below at. absurd (omega (arith, from, below));
      others = λ i n at some. inr at;
    })

pub make_page-requires-clause-place : goal.make_page-requires-clause-place
make_page-requires-clause-place c =
    let len = c.loop-place-2.invariant.len in
    omega (arith, len, c.requires.range, c.loop-place-2-test.true)

pub loop-place-2-preserved : goal.loop-place-2-preserved
loop-place-2-preserved c =
    let l = c.loop-place-2 in
    record {
      sound = c.make_page.ensures.sound;
      size = c.make_page.ensures.size ∙ l.invariant.size;
      len = c.make_page.ensures.len ∙ l.invariant.len;
      same = c.make_page.ensures.same ∙ l.invariant.same;
      own =
          λ i n from below at.
          elim (eqb_tells i l.place) [
            | inl here ↦ c.in_ok-make_page.ensures.own n (subst (λ (k : ℕ). IsAt c.make_page.new.numbers k n) here.1 at)
            | inr other ↦
                elim (eqb_tells n 0) [
                  | inl none ↦
                      let before = c.make_page.ensures.others i n at none.1 in
                      l.invariant.own i n from (let off = other.1 in omega (arith, below, off)) before
                  | inr some ↦ let off = some.1 in omega (arith, off)
                ]
          ];
      others =
          λ i n at some.
          elim (c.make_page.ensures.elsewhere i n at) [
            | inl here ↦ inl (omega (arith, here, l.auto.place), omega (arith, here, c.loop-place-2-test.true))
            | inr before ↦ l.invariant.others i n before some
          ];
    }

pub returns-in_err-make_page-clause-others : goal.returns-in_err-make_page-clause-others
returns-in_err-make_page-clause-others c i n at some =
    let l = c.loop-place-2 in
    elim (c.make_page.ensures.elsewhere i n at) [
      | inl here ↦ inl (omega (arith, here, l.auto.place), omega (arith, here, c.loop-place-2-test.true))
      | inr before ↦ l.invariant.others i n before some
    ]
