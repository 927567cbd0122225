use Rattle.std.proofs.Common.{◌≡◌, [], ◌∷◌, ◌++◌, List, append_assoc, ap, sym, ◌∙◌, rules}
use Rattle.std.proofs.lemmas.List.{append-nil, flat_map_more}
use Rattle.std.proofs.lemmas.Result.{IfOk-weaker}
use Rattle.std.proofs.lemmas.List.Elements.{All-push}
use Rattle.nvm_record.specs.declared.lba_range.LbaRange.{LbaRange}
use Rattle.nvm_record.specs.Ranges.{cut_ranges, ranges_of, range_bytes, data_of_ranges, FitsItsBytes}
use Rattle.nvm_store.proofs.cut_ranges.cut_data.Goals as goal

pub loop-range-preserved : goal.loop-range-preserved
loop-range-preserved c =
    let seen = c.loop-range.yielded in
    let x = c.in-Some.range in
    let rest = c.next.new.self in
    let next : c.loop-range.range-iterator ≡ x ∷ rest = search rules in
    record {
      split = append_assoc seen (x ∷ []) rest ∙ ap (λ (l : List LbaRange). seen ++ l) (sym next) ∙ c.loop-range.invariant.split;
      bytes =
          c.in_ok-extend_from_slice.ensures.items
          ∙ rw (c.loop-range.invariant.bytes, c.bytes.ensures.bytes) (flat_map_more range_bytes [] seen x);
      fit = All-push FitsItsBytes seen x c.loop-range.invariant.fit c.bytes.ensures.fits;
    }

pub returns : goal.returns
returns c =
    let rs = ranges_of c.args.ranges.now in
    let seen = c.loop-range.yielded in
    let end : c.loop-range.range-iterator ≡ [] = search rules in
    let all : seen ≡ cut_ranges c.args.first c.args.blocks rs =
    sym (append-nil seen) ∙ ap (λ (l : List LbaRange). seen ++ l) (sym end) ∙ c.loop-range.invariant.split in
    let again : ranges_of (data_of_ranges seen) ≡ seen = c.ranges_are_read_back.ensures.again seen c.loop-range.invariant.fit in
    IfOk-weaker c.new-2.result (λ p. p ≡ c.loop-range.bytes.items) (λ p. ranges_of p ≡ cut_ranges c.args.first c.args.blocks rs)
    (λ p is. ap ranges_of (is ∙ c.loop-range.invariant.bytes) ∙ again ∙ all) c.new-2.ensures
