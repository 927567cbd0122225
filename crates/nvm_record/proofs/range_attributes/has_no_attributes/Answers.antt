use Rattle.std.proofs.Common.{◌≡◌, ◌<◌, ◌++◌, List, ℕ, Bool, true, false, not, refl, length, take, drop, ap, sym, ◌∙◌, arith}
use Rattle.std.proofs.lemmas.Bool.{eqb-true, eq-eqb}
use Rattle.std.proofs.lemmas.List.{nil_from_length, take-append-drop}
use Rattle.std.proofs.lemmas.Slice.Eq.{bytes_eq-Decides}
use Rattle.nvm_record.specs.Ranges.{data_of_ranges, range_bytes, range_count, ranges_of}
use Rattle.nvm_record.proofs.RangeAttributes.{front_more, next_is, nothing_left, nothing_more}
use Rattle.nvm_record.proofs.range_attributes.has_no_attributes.Goals as goal

true_by_not : (b : Bool) → not b ≡ false → b ≡ true
true_by_not true h = refl
true_by_not false h = cc

pub returns-then-ne : goal.returns-then-ne
returns-then-ne c =
    let payload : List ℕ = c.args.payload.now in
    let i : ℕ = c.loop-place.place in
    let here : i < range_count payload = omega arith in (
      (λ never. cc),
      (λ (all : payload ≡ data_of_ranges (ranges_of payload)).
          let next : take 16 c.loop-place.rest.now ≡ range_bytes c.at.result = next_is payload c.loop-place.rest.now i c.at.result here c.at.ensures c.loop-place.invariant.front all in
          let same : c.split_at.result.0.now ≡ c.as_slice.result.now = c.split_at.ensures.front ∙ next ∙ sym c.bytes.ensures.bytes ∙ sym c.as_slice.ensures in
          sym (ap not ((bytes_eq-Decides c.split_at.result.0.now c.as_slice.result.now).1 same)) ∙ sym c.ne.ensures ∙ c.if-ne.true),
    )

pub loop-place-preserved : goal.loop-place-preserved
loop-place-preserved c =
    let payload : List ℕ = c.args.payload.now in
    let rest : List ℕ = c.loop-place.rest.now in
    let after : List ℕ = c.split_at.result.1.now in
    let i : ℕ = c.loop-place.place in
    let here : i < range_count payload = omega arith in
    let same : c.split_at.result.0.now ≡ c.as_slice.result.now =
    (bytes_eq-Decides c.split_at.result.0.now c.as_slice.result.now).0 (true_by_not _ (sym c.ne.ensures ∙ c.if-ne.false)) in
    let definition : take 16 rest ≡ range_bytes c.at.result = sym c.split_at.ensures.front ∙ same ∙ c.as_slice.ensures ∙ c.bytes.ensures.bytes in
    let split : rest ≡ range_bytes c.at.result ++ after =
    sym (take-append-drop 16 rest) ∙ ap (λ (x : List ℕ). x ++ drop 16 rest) definition
    ∙ ap (λ (x : List ℕ). range_bytes c.at.result ++ x) (sym c.split_at.ensures.back) in
    record {
      left = omega (arith, c.split_at.ensures.back_len, c.loop-place.invariant.left);
      front = front_more payload rest after i c.at.result here c.at.ensures split c.loop-place.invariant.front;
    }

pub returns : goal.returns
returns c =
    let payload : List ℕ = c.args.payload.now in
    let rest : List ℕ = c.loop-place.rest.now in
    let i : ℕ = c.loop-place.place in
    let front = c.loop-place.invariant.front in (
      (λ e. nothing_left payload rest i (omega arith) front (nil_from_length rest (eqb-true (length rest) 0 (sym c.is_empty.ensures ∙ e)))),
      (λ all. c.is_empty.ensures ∙ eq-eqb (length rest) 0 (ap length (nothing_more payload rest i (omega arith) front all))),
    )
