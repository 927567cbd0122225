use Rattle.std.proofs.Common.{◌≡◌, ◌<◌, length, map, replicate, subst, sym, refl, take, arith}
use Rattle.std.proofs.lemmas.List.{length-map}
use Rattle.std.proofs.lemmas.Option.{get_or_from_slice_get}
use Rattle.nvm_record.specs.Medium.{zero_medium}
use Rattle.nvm_standard.specs.PointView.{seen_table}
use Rattle.nvm_standard.specs.Contents.{with_first, with_one}
use Rattle.nvm_standard.specs.Fits.{FitsFirst}
use Rattle.nvm_standard.specs.Inside.Held.{Holds}
use Rattle.nvm_standard.specs.OrderView.{seen_content, seen_first, seen_order}
use Rattle.nvm_standard.specs.declared.order.Content.TheVariants.{Zeroes}
use Rattle.nvm_standard.proofs.First.{first_more, one_here, one_there, zeroes_hold, first_all}
use Rattle.nvm_standard.proofs.Standing.{read_seen}
use Rattle.nvm_standard.proofs.holding.first_blocks.Goals as goal

pub hold-requires : goal.hold-requires
hold-requires c =
    let t = seen_table c.args.points.now in
    let fs = c.args.order.now.first.items in
    let k = c.loop-place.place in
    let f = c.index-first.result.now in
    let inside : k < length fs = omega arith in
    let at = read_seen seen_first fs k f inside c.index-first.ensures in
    let same = length-map fs seen_first in
    let all = c.requires k (seen_first f) (omega (arith, inside, same)) in
    let fits : FitsFirst t (seen_first f) = subst (FitsFirst t) (get_or_from_slice_get (map seen_first fs) k (seen_first f) (seen_first f) at) all in
    let many = c.loop-place.invariant.all in
    let long = length-map c.loop-place.held.items seen_content in
    let low : f.block < t.nsze = fits.inside in
    omega (arith, many, long, low)

pub loop-place-init : goal.loop-place-init
loop-place-init c =
    let t = seen_table c.args.points.now in
    let items : c.in_ok-held.held.items ≡ replicate t.nsze Zeroes = c.in_ok-held.ensures.items_if_clones_equal (λ y e. e) in
    rw items (zeroes_hold t seen_content Zeroes (λ size x. refl))

pub loop-place-preserved : goal.loop-place-preserved
loop-place-preserved c =
    let t = seen_table c.args.points.now in
    let o = seen_order c.args.order.now in
    let size = t.block_size in
    let fs = c.args.order.now.first.items in
    let k = c.loop-place.place in
    let f = c.index-first.result.now in
    let at = read_seen seen_first fs k f (omega arith) c.index-first.ensures in
    let m = with_first size (take k o.first) (zero_medium size) in
    let more = first_more size o.first k (seen_first f) (zero_medium size) at in
    subst (Holds t (map seen_content c.hold.new.held.items)) (sym more)
    (c.hold.ensures.holds t m (λ x. with_one size (seen_first f) m x) c.loop-place.invariant (one_here size (seen_first f) m)
    (λ x ne. one_there size (seen_first f) m x ne))

pub returns : goal.returns
returns c =
    let t = seen_table c.args.points.now in
    let o = seen_order c.args.order.now in
    let same = length-map c.args.order.now.first.items seen_first in
    subst (Holds t (map seen_content c.loop-place.held.items)) (first_all t o c.loop-place.place (omega (arith, same, c.loop-place-test.false)))
    c.loop-place.invariant
