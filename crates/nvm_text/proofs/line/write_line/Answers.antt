use Rattle.std.proofs.Common.{◌≡◌, ℕ, List, [], ◌∷◌, ◌++◌, ◌∙◌, ap, append_assoc, codes, subst}
use Rattle.std.specs.Io.KnownBytes.{Appends}
use Rattle.nvm_text.specs.Handed.{TakesFront}
use Rattle.nvm_text.proofs.Taking.{behind, both, first_of, on_err, on_err_then, on_ok_then}
use Rattle.nvm_text.specs.Runs.{runs}
use Rattle.nvm_text.specs.Lines.{identifiers, name_of, runs_text, status_text}
use Rattle.nvm_text.proofs.TextPieces.{after_four}
use Rattle.nvm_text.proofs.line.write_line.Goals as goal

-- The front of a line of data, and the data.
joins : (told name space status bytes : List ℕ) → (told ++ (name ++ (space ++ (status ++ 32 ∷ [])))) ++ bytes ≡ told ++ (name ++ (space ++ (status ++ 32 ∷ bytes)))
joins told name space status bytes =
    after_four told name space (status ++ 32 ∷ []) bytes ∙ ap (λ (l : List ℕ). told ++ (name ++ (space ++ l))) (append_assoc status (32 ∷ []) bytes)

pub returns-in-None-clause-front : goal.returns-in-None-clause-front
returns-in-None-clause-front g c =
    rw c.in-None.is (on_err_then c.hand.result (λ failed. subst (TakesFront _ _) (c.as_slice.ensures ∙ c.front_of.ensures) failed) c.hand.ensures.front)

pub returns-in_err-hand-in-Some-clause-front : goal.returns-in_err-hand-in-Some-clause-front
returns-in_err-hand-in-Some-clause-front g c =
    let told = identifiers c.args.host c.args.cid in
    let name = name_of c.args.op in
    let status = status_text c.args.status in
    let after = runs_text (runs c.in-Some.data) ++ codes "\n" in
    rw c.in-Some.is (on_err c.from_residual.result (subst (TakesFront _ _) (joins told name (codes " ") status after)
    (first_of _ _ _ (told ++ (name ++ (codes " " ++ (status ++ 32 ∷ [])))) after (c.as_slice-in-Some.ensures ∙ c.front_of-in-Some.ensures) c.in_err-hand-in-Some.ensures.front)))

pub returns-in_err-write_runs-in-Some-clause-front : goal.returns-in_err-write_runs-in-Some-clause-front
returns-in_err-write_runs-in-Some-clause-front g c =
    let told = identifiers c.args.host c.args.cid in
    let name = name_of c.args.op in
    let status = status_text c.args.status in
    let shown = runs_text (runs c.in-Some.data) in
    let after = shown ++ codes "\n" in
    rw c.in-Some.is (on_err c.from_residual-in_err-write_runs-in-Some.result (subst (TakesFront _ _) (joins told name (codes " ") status after)
    (behind _ _ _ _ (told ++ (name ++ (codes " " ++ (status ++ 32 ∷ [])))) after (c.as_slice-in-Some.ensures ∙ c.front_of-in-Some.ensures) c.in_ok-hand-in-Some.ensures.whole
    (first_of _ _ _ shown (codes "\n") (ap (λ l. runs_text (runs l)) c.as_slice-in-Some-2.ensures) c.in_err-write_runs-in-Some.ensures.front))))

pub returns-in_ok-write_runs-in-Some-clause-whole : goal.returns-in_ok-write_runs-in-Some-clause-whole
returns-in_ok-write_runs-in-Some-clause-whole g c =
    let told = identifiers c.args.host c.args.cid in
    let name = name_of c.args.op in
    let status = status_text c.args.status in
    let shown = runs_text (runs c.in-Some.data) in
    let after = shown ++ codes "\n" in
    rw c.in-Some.is (on_ok_then c.hand-in-Some-2.result (λ taken. subst (Appends _ _) (joins told name (codes " ") status after)
    (both _ _ _ _ (told ++ (name ++ (codes " " ++ (status ++ 32 ∷ [])))) after (c.as_slice-in-Some.ensures ∙ c.front_of-in-Some.ensures) c.in_ok-hand-in-Some.ensures.whole
    (both _ _ _ _ shown (codes "\n") (ap (λ l. runs_text (runs l)) c.as_slice-in-Some-2.ensures) c.in_ok-write_runs-in-Some.ensures.whole taken))) c.hand-in-Some-2.ensures.whole)

pub returns-in_ok-write_runs-in-Some-clause-front : goal.returns-in_ok-write_runs-in-Some-clause-front
returns-in_ok-write_runs-in-Some-clause-front g c =
    let told = identifiers c.args.host c.args.cid in
    let name = name_of c.args.op in
    let status = status_text c.args.status in
    let shown = runs_text (runs c.in-Some.data) in
    let after = shown ++ codes "\n" in
    rw c.in-Some.is (on_err_then c.hand-in-Some-2.result (λ failed. subst (TakesFront _ _) (joins told name (codes " ") status after)
    (behind _ _ _ _ (told ++ (name ++ (codes " " ++ (status ++ 32 ∷ [])))) after (c.as_slice-in-Some.ensures ∙ c.front_of-in-Some.ensures) c.in_ok-hand-in-Some.ensures.whole
    (behind _ _ _ _ shown (codes "\n") (ap (λ l. runs_text (runs l)) c.as_slice-in-Some-2.ensures) c.in_ok-write_runs-in-Some.ensures.whole failed))) c.hand-in-Some-2.ensures.front)
