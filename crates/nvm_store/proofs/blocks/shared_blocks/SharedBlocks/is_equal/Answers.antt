use Rattle.std.proofs.Common.{◌≡◌, ◌+◌, ◌-◌, ◌++◌, [], List, ℕ, length, sym, ap, ◌∙◌, arith, refl}
use Rattle.std.proofs.lemmas.List.{append_cancel_left}
use Rattle.std.proofs.lemmas.Slice.Eq.{bytes_eq-Decides}
use Rattle.std.specs.Bool.{one_answer}
use Rattle.std.specs.Str.{bytes_eq}
use Rattle.nvm_record.specs.Medium.{joined}
use Rattle.nvm_store.specs.Inside.Rewrite.{stretch_of}
use Rattle.nvm_store.proofs.Data.{empty_tells, tells_other}
use Rattle.nvm_store.proofs.Stretches.{next_stretch, joined-append}
use Rattle.nvm_store.proofs.blocks.shared_blocks.SharedBlocks.is_equal.Goals as goal

pub returns-in_default : goal.returns-in_default
returns-in_default c =
    let stretch = c.stretch-stretch.result.now in
    let n = length stretch in
    let rest = stretch_of (c.loop-left.from + n) (c.loop-left.left - n) c.args.self.now in
    let next = next_stretch c.args.self.now stretch c.loop-left.from c.loop-left.left n c.stretch-stretch.ensures.is c.stretch-stretch.ensures.few in
    tells_other (joined (stretch_of c.args.at c.args.count c.args.self.now)) c.args.payload.now
    (λ same. c.in_default.ensures (joined rest) (sym (joined-append stretch rest) ∙ sym (ap joined next) ∙ c.loop-left.invariant.on same))

pub loop-left-preserved : goal.loop-left-preserved
loop-left-preserved c =
    let stretch = c.stretch-stretch.result.now in
    let n = length stretch in
    let rest = stretch_of (c.loop-left.from + n) (c.loop-left.left - n) c.args.self.now in
    let next = next_stretch c.args.self.now stretch c.loop-left.from c.loop-left.left n c.stretch-stretch.ensures.is c.stretch-stretch.ensures.few in
    let cut = ap joined next ∙ joined-append stretch rest in
    record {
      range = omega (arith, c.stretch-stretch.ensures.few, c.loop-left.invariant.range);
      on = λ same. append_cancel_left (joined stretch) (joined rest) c.in-Some.behind.now
          (sym cut ∙ c.loop-left.invariant.on same ∙ sym c.in-Some.ensures);
      back = λ same. c.loop-left.invariant.back (cut ∙ ap (λ (l : List ℕ). joined stretch ++ l) same ∙ c.in-Some.ensures);
    }

pub returns : goal.returns
returns c =
    let rest = c.loop-left.rest.now in
    let done : c.loop-left.left ≡ 0 = omega arith in
    let none : joined (stretch_of c.loop-left.from c.loop-left.left c.args.self.now) ≡ [] = rw done refl in
    let tells = empty_tells c.is_empty.result rest c.is_empty.ensures in
    let whole = joined (stretch_of c.args.at c.args.count c.args.self.now) in
    one_answer c.is_empty.result (bytes_eq whole c.args.payload.now)
    (λ yes. c.loop-left.invariant.back (none ∙ tells.0 yes), λ same. tells.1 (sym none ∙ c.loop-left.invariant.on same))
    (bytes_eq-Decides whole c.args.payload.now)
