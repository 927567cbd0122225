use Rattle.std.proofs.Common.{◌≡◌, ℕ, ◌-◌, List, [], length, ◌++◌, refl, sym, ap, subst, ◌∙◌, rules, append_assoc, append-nil, take, drop, take-append-drop, drop_of_length-le}
use Rattle.std.specs.Io.KnownBytes.{Appends}
use Rattle.std.proofs.lemmas.List.{take_rest}
use Rattle.std.proofs.KnownBytes.{Appends-nil, Appends-kept, Appends-trans}
use Rattle.nvm_text.proofs.handing.hand_rest.Goals as goal
use Rattle.nvm_text.proofs.handing.hand_rest.Goals.{in-Ok, in-Err+else-ne}

-- the first n of what is left have been taken
moves_on : (all done rest : List ℕ) (n : ℕ) → all ≡ done ++ rest → all ≡ (done ++ take n rest) ++ take (length rest - n) (drop n rest)
moves_on all done rest n split =
    split ∙ ap (λ l. done ++ l) (sym (take-append-drop n rest)) ∙ sym (append_assoc done (take n rest) (drop n rest))
    ∙ ap (λ l. (done ++ take n rest) ++ l) (sym (take_rest rest n))

pub loop-init : goal.loop-init
loop-init g c = ([], refl, Appends-nil _)

pub returns-then-is_empty-clause-whole : goal.returns-then-is_empty-clause-whole
returns-then-is_empty-clause-whole g c =
    let (done, split, appended) = c.loop.invariant in
    let rest = c.loop.rest.now in
    let empty : rest ≡ [] = drop_of_length-le rest {i = 0} (search rules) in
    subst (Appends _ _) (sym (split ∙ ap (λ l. done ++ l) empty ∙ append-nil done)) appended

pub returns-in-Ok-eq0-clause-front : goal.returns-in-Ok-eq0-clause-front
returns-in-Ok-eq0-clause-front g c =
    let (done, split, appended) = c.loop.invariant in
    let rest = c.loop.rest.now in
    let n = c.in-Ok-eq0.field-0 in (
      done ++ take n rest,
      drop n rest,
      split ∙ ap (λ l. done ++ l) (sym (take-append-drop n rest)) ∙ sym (append_assoc done (take n rest) (drop n rest)),
      Appends-trans _ _ _ done (take n rest) appended c.in-Ok-eq0.ensures.bytes,
    )

pub returns-then-ne-clause-front : goal.returns-then-ne-clause-front
returns-then-ne-clause-front g c =
    let (done, split, appended) = c.loop.invariant in
    (done, c.loop.rest.now, split, Appends-kept _ _ _ done appended c.in-Err.ensures.bytes)

pub loop-preserved : goal.loop-preserved
loop-preserved g c =
    let (done, split, appended) = c.loop.invariant in
    elim c.match-write.branch [
      | in-Ok w ↦
          let rest = c.loop.rest.now in
          let n = w.in-Ok.count in
          rw w.rest-is (done ++ take n rest, moves_on _ done rest n split, Appends-trans _ _ _ done (take n rest) appended w.in-Ok.ensures.bytes)
      | in-Err+else-ne w ↦
          rw w.rest-is (done, split, Appends-kept _ _ _ done appended w.in-Err.ensures.bytes)
    ]

pub returns-clause-front : goal.returns-clause-front
returns-clause-front g c =
    let (done, split, appended) = c.loop.invariant in
    (done, c.loop.rest.now, split, appended)
