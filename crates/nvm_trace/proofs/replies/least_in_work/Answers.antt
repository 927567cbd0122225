use Rattle.std.proofs.Common.{◌≡◌, ◌++◌, ◌∷◌, [], ◌+◌, ◌<◌, ℕ, List, Option, length, take, sym, ap, subst, ◌∙◌, arith, append-nil, append_assoc, inl, inr, map}
use Rattle.std.proofs.lemmas.Bool.{false≢true}
use Rattle.std.proofs.lemmas.List.{take_all}
use Rattle.nvm_audit.specs.RecordedJob.{RecordedJob}
use Rattle.nvm_trace.specs.Pieces.{piece}
use Rattle.nvm_trace.specs.Inside.Replies.{IsLeastWrong}
use Rattle.nvm_trace.proofs.Gathered.{taken}
use Rattle.nvm_trace.proofs.Differing.{least_kept, least_taken}
use Rattle.nvm_trace.proofs.replies.least_in_work.Goals as goal
use Rattle.nvm_trace.proofs.replies.least_in_work.Goals.{then-not-agrees_if_traced, else-not-agrees_if_traced}

pub loop-k-init : goal.loop-k-init
loop-k-init c = λ seen old.
    subst (λ (s : List RecordedJob). IsLeastWrong c.args.geometry.now (map (λ o. piece o.whole.now o.cut) c.args.owners.now.items) s c.args.least) (sym (append-nil seen)) old

pub loop-k-preserved : goal.loop-k-preserved
loop-k-preserved c = λ seen old.
    let ns = c.args.geometry.now in
    let traced = (map (λ o. piece o.whole.now o.cut) c.args.owners.now.items) in
    let work = c.args.work.now.items in
    let k = c.loop-k.k in
    let d = c.index-done.result.now in
    let low : k < length work = omega (arith, c.loop-k-test.true, c.len-k-end.ensures) in
    let more : (seen ++ take k work) ++ d ∷ [] ≡ seen ++ take (k + 1) work =
    append_assoc seen (take k work) (d ∷ []) ∙ ap (λ ds. seen ++ ds) (sym (taken work k d low c.index-done.ensures)) in
    let before = c.loop-k.invariant seen old in
    let job : c.done.inside.job ≡ d.job = ap (λ (e : RecordedJob). e.job) c.done.view_is in
    subst (λ (s : List RecordedJob). IsLeastWrong ns traced s c.if-not-agrees_if_traced.least) more
    (elim c.if-not-agrees_if_traced.branch [
      | then-not-agrees_if_traced w ↦
          let e = w.least_of.ensures in
          let under = e.below in
          subst (λ (o : Option ℕ). IsLeastWrong ns traced ((seen ++ take k work) ++ d ∷ []) o) (sym w.least-is)
          (least_taken ns traced (seen ++ take k work) d c.loop-k.least w.least_of.result
          (λ agrees. false≢true (sym w.if-not-agrees_if_traced.true ∙ c.agrees_if_traced.ensures.1 agrees)) (omega (arith, under, job)) e.before
          (elim e.one [ inl same ↦ inl (same ∙ job) | inr same ↦ inr same ]) before)
      | else-not-agrees_if_traced w ↦
          subst (λ (o : Option ℕ). IsLeastWrong ns traced ((seen ++ take k work) ++ d ∷ []) o) (sym w.least-is)
          (least_kept ns traced (seen ++ take k work) d c.loop-k.least (c.agrees_if_traced.ensures.0 w.if-not-agrees_if_traced.false) before)
    ])

pub returns : goal.returns
returns c = λ seen old.
    let work = c.args.work.now.items in
    let all = take_all c.loop-k.k work (omega (arith, c.loop-k-test.false, c.len-k-end.ensures)) in
    subst (λ (ds : List RecordedJob). IsLeastWrong c.args.geometry.now (map (λ o. piece o.whole.now o.cut) c.args.owners.now.items) (seen ++ ds) c.loop-k.least) all
    (c.loop-k.invariant seen old)
