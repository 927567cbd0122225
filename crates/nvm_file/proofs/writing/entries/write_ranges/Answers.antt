use Rattle.std.proofs.Common.{◌≡◌, ◌++◌, ◌<◌, take, sym, ap, subst, ◌∙◌, arith, rules}
use Rattle.std.specs.Io.KnownBytes.{Appends}
use Rattle.std.specs.List.{flat_map}
use Rattle.byteorder.specs.Endian.{little_bytes}
use Rattle.nvm_record.specs.Ranges.{range_at, range_count, ranges_of}
use Rattle.nvm_text.proofs.Taking.{within, loop_front, loop_next}
use Rattle.nvm_file.specs.EntrySpelling.{cut_bytes}
use Rattle.nvm_file.proofs.CutRanges.{next_range, all_ranges}
use Rattle.nvm_file.proofs.writing.entries.write_ranges.Goals as goal

pub returns-in_err-hand_noting-clause-front : goal.returns-in_err-hand_noting-clause-front
returns-in_err-hand_noting-clause-front g c =
    let payload = c.args.payload.now in
    within c.from_residual.result _ _ _ (little_bytes 2 (range_count payload)) (flat_map cut_bytes (ranges_of payload))
    (c.two_bytes.ensures ∙ ap (little_bytes 2) c.range_count-count.ensures) c.in_err-hand_noting.ensures.front

pub returns-in_err-hand_noting-2-clause-front : goal.returns-in_err-hand_noting-2-clause-front
returns-in_err-hand_noting-2-clause-front g c =
    let payload = c.args.payload.now in
    let i = c.loop-place.place in
    let below : i < range_count payload = search rules in
    let is : c.extent_bytes.result ≡ cut_bytes (range_at payload i) = c.extent_bytes.ensures ∙ ap cut_bytes c.at-range.ensures in
    let done = flat_map cut_bytes (take i (ranges_of payload)) in
    loop_front c.from_residual-in_err-hand_noting-2.result cut_bytes (ranges_of payload) i _ _ _ (little_bytes 2 (range_count payload))
    c.extent_bytes.result (next_range payload i below ∙ ap (λ l. done ++ l) (sym is)) c.loop-place.invariant c.in_err-hand_noting-2.ensures.front

pub loop-place-preserved : goal.loop-place-preserved
loop-place-preserved g c =
    let payload = c.args.payload.now in
    let i = c.loop-place.place in
    let below : i < range_count payload = search rules in
    let is : c.extent_bytes.result ≡ cut_bytes (range_at payload i) = c.extent_bytes.ensures ∙ ap cut_bytes c.at-range.ensures in
    let done = flat_map cut_bytes (take i (ranges_of payload)) in
    loop_next cut_bytes (ranges_of payload) i _ _ _ (little_bytes 2 (range_count payload))
    c.extent_bytes.result (next_range payload i below ∙ ap (λ l. done ++ l) (sym is)) c.loop-place.invariant c.in_ok-hand_noting-2.ensures.whole

pub returns-clause-whole : goal.returns-clause-whole
returns-clause-whole g c =
    let payload = c.args.payload.now in
    let end : c.loop-place.place ≡ range_count payload = omega (arith, c.loop-place.auto.place-end, c.loop-place-test.false, c.range_count-count.ensures) in
    let all : take c.loop-place.place (ranges_of payload) ≡ ranges_of payload = ap (λ n. take n (ranges_of payload)) end ∙ all_ranges payload in
    subst (λ rs. Appends (g.W.Write.contents c.args.writer.now) (g.W.Write.contents c.loop-place.writer)
    (little_bytes 2 (range_count payload) ++ flat_map cut_bytes rs)) all c.loop-place.invariant
