use Rattle.std.proofs.Common.{List, ℕ, OnErr, subst, refl, take, drop, take-append-drop}
use Rattle.std.proofs.lemmas.List.{take_rest}
use Rattle.nvm_text.specs.Handed.{TakesFront}
use Rattle.nvm_text.proofs.Taking.{then_front}
use Rattle.nvm_text.proofs.handing.hand_noting.Goals as goal

pub returns-in-Ok-2-clause-front : goal.returns-in-Ok-2-clause-front
returns-in-Ok-2-clause-front g c =
    let bytes = c.args.bytes.now in
    let n = c.in-Ok.count in
    subst (λ (l : List ℕ). OnErr c.hand_rest.result (TakesFront (g.W.Write.contents c.args.writer.now) (g.W.Write.contents c.hand_rest.new.writer) l)) (take-append-drop n bytes)
    (then_front c.hand_rest.result _ _ _ _ (take n bytes) _ (drop n bytes) refl (take_rest bytes n) c.in-Ok.ensures.bytes c.hand_rest.ensures.front)
