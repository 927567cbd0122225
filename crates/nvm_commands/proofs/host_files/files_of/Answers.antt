use Rattle.std.proofs.Common.{◌≡◌, ℕ, ◌+◌, ◌<◌, List, [], ◌∷◌, ◌++◌, length, map, take, get_or, ap, sym, ◌∙◌, subst, inl, inr}
use Rattle.std.proofs.lemmas.List.{take_more, get_or-map, length-map}
use Rattle.nvm_commands.specs.Ran.{AreFilesOf, IsFileOf}
use Rattle.nvm_commands.specs.RunFaults.{IsLineFault, IsListsFault}
use Rattle.nvm_commands.specs.declared.fault.Fault.{Fault}
use Rattle.nvm_commands.proofs.HostFiles.{one_more, first_fault}
use Rattle.nvm_commands.proofs.host_files.files_of.Goals as goal

pub loop-list-preserved : goal.loop-list-preserved
loop-list-preserved c =
    let size = c.args.size in
    let place = c.loop-list.list-index in
    let lists = c.args.lists.now in
    let it = c.list-item.result in
    let texts : List (List ℕ) = map (λ list. list.text.items) lists in
    let long : place < length texts = subst (λ (n : ℕ). place < n) (sym (length-map lists (λ list. list.text.items))) c.loop-list-test.true in
    let its : get_or texts place it.text.items ≡ it.text.items =
    get_or-map (λ list. list.text.items) lists place it it.text.items c.loop-list-test.true ∙ ap (λ list. list.text.items) (sym c.list-item.is) in
    let one : take (place + 1) texts ≡ take place texts ++ it.text.items ∷ [] =
    take_more texts place it.text.items long ∙ ap (λ (text : List ℕ). take place texts ++ text ∷ []) its in
    let file : List ℕ = c.in-Ok.file in
    let is : IsFileOf size it.text.items file = subst (λ (text : List ℕ). IsFileOf size text file) c.deref.ensures.value c.in-Ok.ensures.file in
    let before : List (List ℕ) = c.loop-list.files.items in
    let more : List (List ℕ) = before ++ file ∷ [] in
    subst (λ (files : List (List ℕ)). AreFilesOf size (take (place + 1) texts) files) (sym c.in_ok-push-in-Ok.ensures.items)
    (subst (λ (some : List (List ℕ)). AreFilesOf size some more) (sym one)
    (one_more size (take place texts) before it.text.items file c.loop-list.invariant is))

pub returns-in-Err-clause-fault : goal.returns-in-Err-clause-fault
returns-in-Err-clause-fault c =
    let size = c.args.size in
    let place = c.loop-list.list-index in
    let lists = c.args.lists.now in
    let it = c.list-item.result in
    let fault = c.in-Err.fault in
    let low = c.loop-list-test.true in
    let paths : List (List ℕ) = map (λ list. list.path.now) lists in
    let texts : List (List ℕ) = map (λ list. list.text.items) lists in
    let paths_low : place < length paths = subst (λ (n : ℕ). place < n) (sym (length-map lists (λ list. list.path.now))) low in
    let texts_low : place < length texts = subst (λ (n : ℕ). place < n) (sym (length-map lists (λ list. list.text.items))) low in
    let path_is : get_or paths place [] ≡ it.path.now =
    get_or-map (λ list. list.path.now) lists place it [] low ∙ ap (λ list. list.path.now) (sym c.list-item.is) in
    let text_is : get_or texts place [] ≡ it.text.items =
    get_or-map (λ list. list.text.items) lists place it [] low ∙ ap (λ list. list.text.items) (sym c.list-item.is) in
    elim c.in-Err.ensures.fault [
      | inl line ↦
          let here : IsLineFault size it.path.now it.text.items fault =
          subst (λ (text : List ℕ). IsLineFault size it.path.now text fault) c.deref.ensures.value line in
          let there : IsLineFault size (get_or paths place []) (get_or texts place []) fault =
          subst (λ (path : List ℕ). IsLineFault size path (get_or texts place []) fault) (sym path_is)
          (subst (λ (text : List ℕ). IsLineFault size it.path.now text fault) (sym text_is) here) in
          inl (subst (λ (f : Fault). IsListsFault size paths texts f) (sym c.of_commands.ensures)
          (first_fault size place paths texts c.loop-list.files.items fault paths_low texts_low c.loop-list.invariant there))
      | inr none ↦ inr (c.of_commands.ensures ∙ none)
    ]
