use Rattle.std.proofs.Common.{◌≡◌, ◌==◌, ℕ, suc, ◌+◌, Bool, ◌&&◌, bytes_eq, get_or, take, sym, ap, ◌∙◌, arith}
use Rattle.nvm_record.proofs.GroupsEqual.{one_more}
use Rattle.nvm_record.proofs.equality.is_group_equal.Goals as goal

pub loop-place-preserved : goal.loop-place-preserved
loop-place-preserved c =
    let a = c.args.one.now in
    let b = c.args.other.now in
    let i = c.loop-place.place in
    let next : suc i ≡ i + 1 = omega arith in
    ap (λ (s : Bool). s && (get_or a i 0 == get_or b i 0)) c.loop-place.invariant
    ∙ sym (one_more a b i (omega (arith, c.requires.one)) (omega (arith, c.requires.other)))
    ∙ ap (λ (n : ℕ). bytes_eq (take n a) (take n b)) next
