use Rattle.std.proofs.Common.{◌≡◌, ◌+◌, ◌-◌, [], sym, ◌∙◌, arith, refl}
use Rattle.std.proofs.lemmas.List.{append_cancel_left}
use Rattle.std.proofs.lemmas.Slice.Eq.{bytes_eq-Decides}
use Rattle.std.specs.Bool.{one_answer}
use Rattle.std.specs.Str.{bytes_eq}
use Rattle.nvm_record.specs.Medium.{joined}
use Rattle.nvm_store.specs.Inside.Rewrite.{stretch_of}
use Rattle.nvm_store.proofs.Data.{empty_tells, tells_other}
use Rattle.nvm_store.proofs.blocks.paged_blocks.PagedBlocks.is_equal.Goals as goal

pub returns-in_default : goal.returns-in_default
returns-in_default c =
    let l = c.loop-left in
    let n = c.stretch-stretch.result.len in
    let rest = joined (stretch_of (l.from + n) (l.left - n) c.args.self.now.list) in
    tells_other (joined (stretch_of c.args.at c.args.count c.args.self.now.list)) c.args.payload.now
    (λ same. c.in_default.ensures rest (let left = l.invariant.on same in cc (c.bytes-bytes.ensures.bytes, c.stretch-stretch.ensures.parts.bytes, left)))

pub loop-left-preserved : goal.loop-left-preserved
loop-left-preserved c =
    let l = c.loop-left in
    let n = c.stretch-stretch.result.len in
    let parts = c.stretch-stretch.ensures.parts in
    let rest = joined (stretch_of (l.from + n) (l.left - n) c.args.self.now.list) in
    let own = c.bytes-bytes.result.now in
    let behind = c.in-Some.behind.now in
    record {
      range = omega (arith, c.stretch-stretch.ensures.few, l.invariant.range);
      unmarked = sym (parts.rest (parts.unmarked l.invariant.unmarked)) ∙ l.invariant.unmarked;
      on = λ same. append_cancel_left own rest behind (let left = l.invariant.on same in cc (c.bytes-bytes.ensures.bytes, parts.bytes, left, c.in-Some.ensures));
      back = λ same. l.invariant.back (cc (c.bytes-bytes.ensures.bytes, parts.bytes, same, c.in-Some.ensures));
    }

pub returns : goal.returns
returns c =
    let rest = c.loop-left.rest.now in
    let done : c.loop-left.left ≡ 0 = omega arith in
    let none : joined (stretch_of c.loop-left.from c.loop-left.left c.args.self.now.list) ≡ [] = rw done refl in
    let tells = empty_tells c.is_empty.result rest c.is_empty.ensures in
    let whole = joined (stretch_of c.args.at c.args.count c.args.self.now.list) in
    one_answer c.is_empty.result (bytes_eq whole c.args.payload.now)
    (λ yes. c.loop-left.invariant.back (none ∙ tells.0 yes), λ same. tells.1 (sym none ∙ c.loop-left.invariant.on same))
    (bytes_eq-Decides whole c.args.payload.now)
