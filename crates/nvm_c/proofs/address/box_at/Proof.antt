-- What the address owns is what `from_raw` asks for, at the allocator that is brought.
use Rattle.std.proofs.Common.{◌≡◌, List, [], ◌∷◌, ◌++◌, refl}
use mir.Syntax.{a_type, dcons, dnil}
use mir.MapTy.{inst_fn}
use mir.Val.{Val}
use base.Logic.{SProp, id⊢}
use base.Fml.{flft, ftrue}
use prog.Wp.{WpFn}
use contract.BorrowLft.{◌⊑◌}
use contract.Monad.{fact}
use contract.Running.{tables}
use types.Kit.{‵, raw, prop, at_ret, ◌⊛◌, some, later, ◌$◌, ◌∵◌, !, qed, by, move, drop, split, split3, join, pick, use1, await, rewrite, regoal, fsplit, fjoin, feq_i}
use types.Run.{stop, fld, of_opd, no_more, and_then, first, blocks, exec, returns, enter}
use types.ByLocal.{alloc_all, pass_all, free_all, look_at, get, get_in, sets, lands_last, env}
use types.Part.{whole, sub}
use denote.Laws.{Is, shows}
use denote.Param.{param, layout, bounded}
use denote.Param.Laws.{param_laws}
use denote.RattleType.{RattleType, owns}
use denote.RawPtr.{ptr_val}
use denote.Signature.{plain, types_at}
use denote.Steps.{nothing, heard, peeks}
use denote.Triple.Call.{calls_at_last}
use denote.Triple.Clauses.{lasts}
use denote.Triple.Spec.{triple_of}
use denote.Triple.Walked.{Stays, stay_dropped, walk_of}
use Rattle.core.proofs.alloc.Calls.{Goes-blank}
use Rattle.core.proofs.alloc.Shapes.{after}
use Rattle.core.proofs.atomic.Steps.{fm}
use Rattle.core.proofs.cell.Inside.{one}
use Rattle.std.proofs.raw_atomic.Walks.{proved_at, leaves}
use Rattle.std_alloc.proofs.boxed.Box.TheLaws as laws_of_box
use Rattle.std_alloc.proofs.boxed.Box.from_raw.Met as from_raw
use Rattle.std_alloc.specs.Box.Ownership.{box_owns}
use Rattle.std_alloc.specs.contracts.boxed.Box as boxes
use Rattle.std_alloc.specs.contracts.boxed.Box.from_raw as asked
use Rattle.nvm_c.proofs.Words.{word_of, pointer_fits, word_fits}
use Rattle.nvm_c.proofs.address.Address.TheLaws as laws_of_address
use Rattle.nvm_c.specs.contracts.address.Address as address
use Rattle.nvm_c.specs.contracts.address.box_at as f
use Rattle.nvm_c.proofs.address.box_at.Statement.{statement}
use Rattle.nvm_c.proofs.address.box_at.Code as code

pub box_at_spec : {M : Type 1} → statement M
box_at_spec 𝓤 𝓛 𝓜 𝓡 wired X Z LX LZ g d dz allocates ends_z =
    let R : RattleType = param 0 X in let A : RattleType = param 1 Z in
    let LR = param_laws 0 X LX in let LA = param_laws 1 Z LZ in
    let B : RattleType = boxes.the_row R A g in
    let kinds = bounded (a_type ∷ a_type ∷ []) (X, (Z, tt)) (dcons d (dcons dz dnil)) in
    let fn = inst_fn kinds code.function in
    let 𝓣 = tables 𝓤 𝓛.H 𝓜 𝓡 𝓡.env in
    let S = f.ended X Z g d dz in
    let c = f.clauses X Z g d dz 𝓛 𝓜.mem 𝓡.returns in
    let by_alloc = plain (λ _. A) in let by_place = plain (λ _. address.the_row R A g) in
    let stays : Stays S.signature.params S.kept = (stay_dropped by_alloc S.kept.0, (stay_dropped by_place S.kept.1.0, tt)) in
    let Raw = triple_of 𝓛 (asked.signature X Z g d dz) (asked.spec X Z g d dz 𝓛 𝓜.mem 𝓡.returns) in
    proved_at 𝓛 S stays c 𝓜 𝓡 (Goes-blank 𝓛 2 by_alloc S.kept.0 (λ κs x e. tt), (Goes-blank 𝓛 2 by_place S.kept.1.0 (λ κs x e. tt), tt)) (f.Key.name kinds) fn
    (code.unfolded 𝓤 𝓛.H 𝓜 𝓡 wired (X, (Z, tt)) d dz) (λ z are.
    let κs = z.0.0 in let qs = z.0.1 in let alloc = z.0.3.0 in let place = z.0.3.1.0 in let vs = z.0.4.0 in let us = z.0.4.1.0 in
    let Post : Val → SProp 𝓤 = (walk_of 𝓛 S stays c).post z in
    let found = one (layout A) vs ((LA.lawful 𝓛).typed alloc vs are.0) in let w = found.0 in
    let told : us ≡ word_of place.at ∷ [] = (laws_of_address.lowers R A g LR LA).val_is place us are.1.0 in
    let tokens = ‵ (flft κs.0 qs.0) ⊛ ‵ (flft κs.1.0 qs.1.0) ⊛ ‵ ftrue in
    qed 𝓛 ((tokens ⊛ ‵ (owns (types_at S.signature.params κs) z.0.3 z.0.4)) ∷
    (raw (fact 𝓤 (κs.0 ⊑ X.lives)) ⊛ raw (fact 𝓤 (κs.1.0 ⊑ Z.lives)) ⊛ raw (fact 𝓤 (place.owner ≡ alloc))) ∷ []) ∵
    regoal ! (λ (ps : List Val × List Val). prop (WpFn 𝓤 𝓛.H 𝓣.C 𝓣.Λ fn (ps.0 ++ (ps.1 ++ [])) Post)) (λ i. (found.1 i, told i)) refl $
    split ! $ move ! (1 ∷ []) $ fsplit ! $ move ! (1 ∷ []) $ fsplit ! $ fsplit ! $ drop ! $
    -- [what the address owns; nothing; the allocator; the tokens; what is required]
    move ! (4 ∷ []) $ split3 ! $ move ! (2 ∷ []) $ heard ! (place.owner ≡ alloc) (λ same.
    rewrite ! 2 (λ (o : Z.Denot). ‵ (box_owns (g.dealloc_token o) R place.at place.value)) same refl $
    rewrite ! 4 (λ (ws : List Val). ‵ (A.own_val alloc ws)) found.1 refl $
    move ! (1 ∷ 2 ∷ []) $ join ! $ move ! (1 ∷ 0 ∷ []) $ join ! $
    move ! (1 ∷ []) $ feq_i ! (List Val) (ptr_val place.at ∷ []) (ptr_val place.at ∷ []) refl $ fjoin ! $ move ! (2 ∷ 0 ∷ []) $ fjoin ! $
    move ! (2 ∷ 0 ∷ []) $ join ! $ join ! $
    let y : Raw.Ghost = ((κs, qs, tt, (alloc, (place.at, tt)), (w ∷ [], (ptr_val place.at ∷ [], tt))), place.value) in
    use1 𝓛 (raw (Raw.pre y)) (id⊢ 𝓤 _) $
    enter ! 𝓣.C 𝓣.Λ fn (w ∷ word_of place.at ∷ []) Post $ alloc_all ! (λ l. pass_all ! refl (found.2, (word_fits R A g place.at, tt)) $
    sets ! (of_opd ! (get_in ! (fld ! refl (stop !)) (sub ! 0 refl (whole !)))) refl (pointer_fits place.at) $
    first ! $ blocks ! $ sets ! (of_opd ! (get ! refl)) refl found.2 $
    calls_at_last ! (fm 𝓛 𝓜 𝓡) Raw (from_raw.met 𝓤 𝓛 𝓜 𝓡 (code.calls-std_alloc::boxed::Box::from_raw 𝓡.env wired) X Z LX LZ g d dz allocates ends_z) y
    (and_then ! (get ! refl) (and_then ! (get ! refl) (no_more !))) (λ u.
    use1 𝓛 (later (some (λ (b : B.Denot). (tokens ⊛ ‵ (B.own_val b (u ∷ []))) ⊛ some (λ (ends : Unit {0} × (Unit {0} × Unit {0})).
    ‵ (lasts (asked.ended X Z g d dz) κs (alloc, (place.at, tt)) ends) ⊛ (raw (fact 𝓤 (b.value ≡ place.value)) ⊛ raw (fact 𝓤 (b.alloc ≡ alloc))))))) (id⊢ 𝓤 _) $
    await ! tt $ pick ! (λ b. split ! $ split ! $ move ! (1 ∷ []) $ peeks ! B (Is B) (shows 𝓛 B) b (u ∷ []) (λ is.
    let fits = (((laws_of_box.the_row_laws R A g LR LA).lawful 𝓛).typed b (u ∷ []) is).0 in
    lands_last ! refl fits $ exec ! 𝓣.C 𝓣.Λ (env fn.locals l) (after 2 fn.body) (at_ret (env fn.locals l) Post) $
    sets ! (of_opd ! (get ! refl)) refl fits $ returns ! (look_at ! 0 refl) $ free_all ! refl $
    -- [the box; the tokens; what the call ensures]
    move ! (2 ∷ []) $ pick ! (λ ends. split3 ! $ drop ! $ move ! (1 ∷ []) $ drop ! $
    nothing ! $ nothing ! $ fjoin ! $ nothing ! $ fjoin ! $ move ! (3 ∷ 0 ∷ 2 ∷ 1 ∷ []) $
    by ! (leaves 𝓛 S stays c z u b (tt, (tt, tt)) (tt, (tt, tt))))))))))
