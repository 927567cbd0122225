use Rattle.std.proofs.Common.{ℕ, ◌++◌, ◌∷◌, [], List, map, take, string_bytes, sym, subst, ap, ◌∙◌, inl, inr}
use Rattle.std.proofs.lemmas.List.{map-append}
use Rattle.std.proofs.lemmas.Result.{err_from_is_err_and}
use Rattle.nvm_commands.specs.Expecting.{IsExpectationFault}
use Rattle.nvm_commands.specs.Files.{IsReadFault}
use Rattle.nvm_commands.proofs.Reading.{one_of, paths_more}
use Rattle.nvm_commands.proofs.read_list.read_lists.Goals as goal

pub returns-in_err-bytes-clause-fault : goal.returns-in_err-bytes-clause-fault
returns-in_err-bytes-clause-fault g c =
    let p = err_from_is_err_and c.from_residual-in_err-bytes.result c.from_residual-in_err-bytes.ensures.1 in
    let it = c.path-item.result in
    let fault = c.in_err-bytes.field-0.0.fault in
    let read : IsReadFault (string_bytes it) fault = subst (λ (bytes : List ℕ). IsReadFault bytes fault) c.as_str-path.ensures.value c.in_err-bytes.ensures in
    rw (p.1, p.2) (inl (inr (one_of IsReadFault c.args.paths.now c.loop-path.path-index it fault c.loop-path-test.true (sym c.path-item.is) read)))

pub returns-in_err-split-clause-fault : goal.returns-in_err-split-clause-fault
returns-in_err-split-clause-fault g c =
    let p = err_from_is_err_and c.from_residual-in_err-split.result c.from_residual-in_err-split.ensures.1 in
    let it = c.path-item.result in
    let list : List ℕ = c.deref.result.now in
    let fault = c.in_err-split.field-0.0.fault in
    let wrong : IsExpectationFault (string_bytes it) list fault =
    subst (λ (bytes : List ℕ). IsExpectationFault bytes list fault) c.as_str-path.ensures.value c.in_err-split.ensures.fault in
    rw (p.1, p.2)
    (inr (inr (one_of (λ path of. (text : List ℕ) × IsExpectationFault path text of) c.args.paths.now c.loop-path.path-index it fault c.loop-path-test.true (sym c.path-item.is) (list, wrong))))

pub loop-path-preserved : goal.loop-path-preserved
loop-path-preserved g c =
    let paths = c.args.paths.now in
    let all : List (List ℕ) = map (λ path. string_bytes path) paths in
    let k = c.loop-path.path-index in
    let it = c.path-item.result in
    let now : List ℕ = c.in_ok-split.split.path.now in
    ap (map (λ list. list.path.now)) c.in_ok-push.ensures.items
    ∙ map-append (λ list. list.path.now) c.loop-path.lists.items _
    ∙ ap (λ (some : List (List ℕ)). some ++ now ∷ []) c.loop-path.invariant
    ∙ ap (λ (bytes : List ℕ). take k all ++ bytes ∷ []) (c.in_ok-split.ensures.path ∙ c.as_str-path.ensures.value)
    ∙ sym (paths_more paths k it c.loop-path-test.true (sym c.path-item.is))
