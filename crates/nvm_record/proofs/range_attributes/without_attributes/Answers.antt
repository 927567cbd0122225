use Rattle.std.proofs.Common.{◌≡◌, ◌<◌, ◌++◌, List, ℕ, length, take, ap, sym, ◌∙◌, subst, arith}
use Rattle.std.proofs.lemmas.Result.{IfOk-weaker}
use Rattle.std.proofs.lemmas.List.Elements.{All-more}
use Rattle.nvm_record.specs.Ranges.{FitsItsBytes, data_of_ranges, range_count, ranges_of}
use Rattle.nvm_record.specs.declared.lba_range.LbaRange.{LbaRange}
use Rattle.nvm_record.proofs.RangeAttributes.{all_taken, data_more}
use Rattle.nvm_record.proofs.RangesReadBack.{length-ranges_of, get_or-ranges_of, read_back}
use Rattle.nvm_record.proofs.range_attributes.without_attributes.Goals as goal

pub loop-place-preserved : goal.loop-place-preserved
loop-place-preserved c =
    let payload : List ℕ = c.args.payload.now in
    let rs : List LbaRange = ranges_of payload in
    let i : ℕ = c.loop-place.place in
    let r : LbaRange = c.at-range.result in
    let here : i < range_count payload = omega arith in
    let inside : i < length rs = omega (arith, length-ranges_of payload) in
    record {
      bytes = c.in_ok-extend_from_slice.ensures.items
          ∙ ap (λ (x : List ℕ). x ++ c.bytes.result) c.loop-place.invariant.bytes
          ∙ ap (λ (x : List ℕ). data_of_ranges (take i rs) ++ x) c.bytes.ensures.bytes
          ∙ data_more payload i r here c.at-range.ensures;
      fit = All-more FitsItsBytes rs i r inside c.loop-place.invariant.fit
          (subst FitsItsBytes (c.at-range.ensures ∙ sym (get_or-ranges_of payload i r here)) c.bytes.ensures.fits);
    }

pub returns-clause-bytes : goal.returns-clause-bytes
returns-clause-bytes c =
    let payload : List ℕ = c.args.payload.now in
    let i : ℕ = c.loop-place.place in
    IfOk-weaker c.new.result (λ p. p ≡ c.loop-place.kept.items) (λ p. p ≡ data_of_ranges (ranges_of payload))
    (λ p e. e ∙ c.loop-place.invariant.bytes ∙ ap data_of_ranges (all_taken payload i (omega arith))) c.new.ensures

pub returns-clause-again : goal.returns-clause-again
returns-clause-again c =
    let payload : List ℕ = c.args.payload.now in
    let rs : List LbaRange = ranges_of payload in
    let i : ℕ = c.loop-place.place in
    IfOk-weaker c.new.result (λ p. p ≡ c.loop-place.kept.items) (λ p. ranges_of p ≡ rs)
    (λ p e. ap ranges_of (e ∙ c.loop-place.invariant.bytes) ∙ read_back (take i rs) c.loop-place.invariant.fit ∙ all_taken payload i (omega arith)) c.new.ensures
