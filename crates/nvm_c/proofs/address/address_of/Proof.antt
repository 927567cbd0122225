-- `into_raw` is handed all that came in. What it leaves is the address's.
use Rattle.std.proofs.Common.{◌≡◌, List, [], ◌∷◌, ◌++◌, refl, ap}
use mir.Syntax.{a_type, dcons, dnil}
use mir.MapTy.{inst_fn}
use mir.Val.{Val}
use base.Logic.{SProp, emp, id⊢}
use base.Fml.{flft, ftrue}
use prog.Wp.{WpFn}
use contract.Monad.{fact, fact_i}
use contract.Running.{tables}
use types.Kit.{‵, raw, prop, ◌⊛◌, some, later, ◌$◌, ◌∵◌, !, qed, by, move, drop, split, pick, use0, use1, await, rewrite, regoal, fjoin, feq_l}
use types.Run.{of_opd, no_more, and_then, returns, enter}
use types.ByLocal.{alloc_all, pass_all, free_all, look_at, get, sets, lands_as}
use types.Part.{agg}
use denote.Builtin.{RawPtr}
use denote.Exit.{no}
use denote.Param.{param, layout, bounded}
use denote.Param.Laws.{param_laws}
use denote.RawPtr.{Ptr}
use denote.RattleType.{RattleType}
use denote.Signature.{plain}
use denote.Steps.{nothing, only}
use denote.Triple.Call.{calls_at}
use denote.Triple.Clauses.{lasts}
use denote.Triple.Spec.{triple_of}
use denote.Triple.Walked.{Stays, stay_dropped, walk_of}
use Rattle.core.proofs.alloc.Calls.{Goes-blank}
use Rattle.core.proofs.atomic.Steps.{fm}
use Rattle.core.proofs.cell.Inside.{one}
use Rattle.std.proofs.raw_atomic.Walks.{proved_at, leaves}
use Rattle.std_alloc.proofs.boxed.Box.TheLaws as laws_of_box
use Rattle.std_alloc.proofs.boxed.Box.into_raw.Met as into_raw
use Rattle.std_alloc.specs.Box.Ownership.{box_owns}
use Rattle.std_alloc.specs.contracts.boxed.Box as boxes
use Rattle.std_alloc.specs.contracts.boxed.Box.into_raw as asked
use Rattle.nvm_c.proofs.Words.{word_of, pointer_fits, word_fits, Fields, fields_of}
use Rattle.nvm_c.specs.contracts.address.Address as address
use Rattle.nvm_c.specs.contracts.address.address_of as f
use Rattle.nvm_c.proofs.address.address_of.Statement.{statement}
use Rattle.nvm_c.proofs.address.address_of.Code as code

pub address_of_spec : {M : Type 1} → statement M
address_of_spec 𝓤 𝓛 𝓜 𝓡 wired X Z LX LZ g d dx dz allocates ends_x ends_z =
    let R : RattleType = param 0 X in
    let A : RattleType = param 1 Z in
    let B : RattleType = boxes.the_row R A g in
    let kinds = bounded (a_type ∷ a_type ∷ []) (X, (Z, tt)) (dcons d (dcons dx (dcons dz dnil))) in
    let fn = inst_fn kinds code.function in
    let 𝓣 = tables 𝓤 𝓛.H 𝓜 𝓡 𝓡.env in
    let S = f.ended X Z g d dx dz in
    let c = f.clauses X Z g d dx dz 𝓛 𝓜.mem 𝓡.returns in
    let stays : Stays S.signature.params S.kept = (stay_dropped (plain (λ _. B)) no, tt) in
    let Raw = triple_of 𝓛 (asked.signature X Z g d dz dx) (asked.spec X Z g d dz dx 𝓛 𝓜.mem 𝓡.returns) in
    proved_at 𝓛 S stays c 𝓜 𝓡 (Goes-blank 𝓛 2 (plain (λ _. B)) no (λ κs x e. tt), tt) (f.Key.name kinds) fn
    (code.unfolded 𝓤 𝓛.H 𝓜 𝓡 wired (X, (Z, tt)) d dx dz) (λ z are.
    let κs = z.0.0 in let qs = z.0.1 in let whole = z.0.3.0 in let vs = z.0.4.0 in
    let Post : Val → SProp 𝓤 = (walk_of 𝓛 S stays c).post z in
    let found = one (layout B) vs (((laws_of_box.the_row_laws R A g (param_laws 0 X LX) (param_laws 1 Z LZ)).lawful 𝓛).typed whole vs are.0) in
    let w = found.0 in let good = found.2 in
    let with_words : List Val → Raw.Ghost = λ us. ((κs, qs, tt, (whole, tt), (us, tt)), tt) in
    let tokens = ‵ (flft κs.0 qs.0) ⊛ ‵ (flft κs.1.0 qs.1.0) ⊛ ‵ ftrue in
    qed 𝓛 (raw (Raw.pre (with_words vs)) ∷ []) ∵
    rewrite ! 0 (λ (us : List Val). raw (Raw.pre (with_words us))) found.1 refl $
    regoal ! (λ (us : List Val). prop (WpFn 𝓤 𝓛.H 𝓣.C 𝓣.Λ fn (us ++ []) Post)) found.1 refl $
    enter ! 𝓣.C 𝓣.Λ fn (w ∷ []) Post $ alloc_all ! (λ l. pass_all ! refl (good, tt) $
    sets ! (of_opd ! (get ! refl)) refl good $
    calls_at ! (fm 𝓛 𝓜 𝓡) Raw (into_raw.met 𝓤 𝓛 𝓜 𝓡 (code.calls-std_alloc::boxed::Box::into_raw 𝓡.env wired) X Z LX LZ g d dz dx allocates ends_z ends_x)
    (with_words (w ∷ [])) (and_then ! (get ! refl) (no_more !)) (λ u.
    use1 𝓛 (later (some (λ (r : Ptr). (tokens ⊛ ‵ (RawPtr.own_val r (u ∷ []))) ⊛ some (λ (ends : (Unit {0} × (Unit {0} × Unit {0})) × Unit {0}).
    ‵ (lasts (asked.ended X Z g d dz dx) κs (whole, tt) ends) ⊛ ‵ (box_owns (g.dealloc_token whole.alloc) R r whole.value))))) (id⊢ 𝓤 _) $
    await ! tt $ pick ! (λ r. split ! $ split ! $ move ! (1 ∷ []) $ feq_l ! (λ is. move ! (1 ∷ []) $ pick ! (λ ends. split ! $ drop ! $
    let fits = pointer_fits r in let all_fit = word_fits R A g r in
    -- [the value and the right to free it; the tokens; the locals]
    lands_as ! (ap only is) refl fits $
    sets ! (agg ! (no_more !)) refl (tt, tt) $
    sets ! (agg ! (and_then ! (get ! refl) (and_then ! (get ! refl) (no_more !)))) refl all_fit $
    returns ! (look_at ! 0 refl) $ free_all ! refl $
    let place : (address.the_row R A g).Denot = record { at = r; by = record {}; owner = whole.alloc; value = whole.value } in
    let Said : Type 0 = (place.value ≡ whole.value) × (place.owner ≡ whole.alloc) in
    use0 𝓛 (‵ ((Fields R A g).own_val (r, (record {}, tt)) (word_of r ∷ []))) (fields_of R A g 𝓛 r) $ fjoin ! $
    use0 𝓛 (raw (fact 𝓤 Said)) (fact_i 𝓤 Said (emp 𝓤) (refl, refl)) $ nothing ! $ nothing ! $ fjoin ! $
    move ! (3 ∷ 0 ∷ 2 ∷ 1 ∷ []) $ by ! (leaves 𝓛 S stays c z (word_of r) place ((tt, (tt, tt)), tt) (tt, tt))))))))
