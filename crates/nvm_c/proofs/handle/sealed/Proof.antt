-- The engine stays where it lies. The address alone is kept, and that the engine is sound.
use Rattle.std.proofs.Common.{◌≡◌, List, [], ◌∷◌, ◌++◌, refl}
use mir.Val.{Val}
use base.Logic.{SProp, emp}
use prog.Wp.{WpFn}
use contract.Monad.{fact, fact_i}
use contract.Running.{tables}
use types.Kit.{‵, raw, prop, ◌⊛◌, ◌$◌, ◌∵◌, !, qed, by, move, keep, drop, split, use0, regoal, fsplit, fjoin, fpack}
use types.Run.{stop, fld, of_opd, no_more, and_then, returns, enter}
use types.ByLocal.{alloc_all, pass_all, free_all, look_at, get, get_in, sets}
use types.Part.{whole, sub, agg}
use denote.RattleType.{RattleType, owns}
use denote.Signature.{plain, types_at}
use denote.Steps.{nothing, heard}
use denote.Triple.Entry.{alive}
use denote.Triple.Walked.{Stays, stay_dropped, walk_of}
use Rattle.core.proofs.alloc.Calls.{Goes-blank}
use Rattle.std.proofs.alloc.Global.TheLaws as laws_of_global
use Rattle.std.proofs.raw_atomic.Walks.{proved_at, leaves}
use Rattle.std.specs.Prelude.{Some}
use Rattle.std.specs.Box.Ownership.{box_owns}
use Rattle.std.specs.contracts.alloc.Global as global
use Rattle.std.specs.contracts.impls.GlobalAllocator.TheImpl.{ghosts}
use Rattle.nvm_c.proofs.Words.{word_of, word_fits, pointer_fits, held_word, held_fits, HeldFields, held_fields}
use Rattle.nvm_c.proofs.address.Address.TheLaws as laws_of_address
use Rattle.nvm_c.proofs.engine.Engine.TheLaws as laws_of_engine
use Rattle.nvm_c.specs.Engines.{IsSound}
use Rattle.nvm_c.specs.Held.{heap}
use Rattle.nvm_c.specs.contracts.address.Address as address
use Rattle.nvm_c.specs.contracts.engine.Engine as engine
use Rattle.nvm_c.specs.contracts.handle.Held as held
use Rattle.nvm_c.specs.contracts.handle.sealed as f
use Rattle.nvm_c.proofs.handle.sealed.Statement.{statement}
use Rattle.nvm_c.proofs.handle.sealed.Code as code

abbrev Place : RattleType
Place = address.the_row engine.the_row global.the_row ghosts

abbrev stays : Stays f.ended.signature.params f.ended.kept
stays = (stay_dropped (plain (λ _. Place)) f.ended.kept.0, tt)

pub sealed_spec : {M : Type 1} → statement M
sealed_spec 𝓤 𝓛 𝓜 𝓡 wired =
    let 𝓣 = tables 𝓤 𝓛.H 𝓜 𝓡 𝓡.env in let fn = code.function in
    let c = f.clauses 𝓛 𝓜.mem 𝓡.returns in
    proved_at 𝓛 f.ended stays c 𝓜 𝓡 (Goes-blank 𝓛 0 (plain (λ _. Place)) f.ended.kept.0 (λ κs x e. tt), tt) f.Key.name fn (code.unfolded 𝓤 𝓛.H 𝓜 𝓡 wired) (λ z are.
    let place = z.0.3.0 in let e = place.value in let at = place.at in
    let Post : Val → SProp 𝓤 = (walk_of 𝓛 f.ended stays c).post z in
    let told : z.0.4.0 ≡ word_of at ∷ [] = (laws_of_address.lowers engine.the_row global.the_row ghosts laws_of_engine.the_row_laws laws_of_global.the_row_laws).val_is place z.0.4.0 are.0 in
    let kept : held.the_row.Denot = record { at = at; engine = Some e } in
    qed 𝓛 ((raw (alive 𝓛 f.ended.signature z.0.0 z.0.1) ⊛ ‵ (owns (types_at f.ended.signature.params z.0.0) z.0.3 z.0.4)) ∷ raw (fact 𝓤 (IsSound e)) ∷ []) ∵
    move ! (1 ∷ []) $ heard ! (IsSound e) (λ sound.
    regoal ! (λ (us : List Val). prop (WpFn 𝓤 𝓛.H 𝓣.C 𝓣.Λ fn (us ++ []) Post)) told refl $
    split ! $ move ! (1 ∷ []) $ fsplit ! $ fsplit ! $ drop ! $
    -- [the value and the right to free it; nothing; no tokens]
    enter ! 𝓣.C 𝓣.Λ fn (word_of at ∷ []) Post $ alloc_all ! (λ l. pass_all ! refl (word_fits engine.the_row global.the_row ghosts at, tt) $
    sets ! (of_opd ! (get_in ! (fld ! refl (stop !)) (sub ! 0 refl (whole !)))) refl (pointer_fits at) $
    sets ! (of_opd ! (get ! refl)) refl (pointer_fits at) $
    sets ! (agg ! (and_then ! (get ! refl) (no_more !))) refl (held_fits at) $
    returns ! (look_at ! 0 refl) $ free_all ! refl $
    fpack ! (IsSound e) (λ _. box_owns (ghosts.dealloc_token heap) engine.the_row at e) sound $
    use0 𝓛 (‵ (HeldFields.own_val (at, tt) (held_word at ∷ []))) (held_fields 𝓛 at) $ fjoin ! $
    use0 𝓛 (raw (fact 𝓤 (kept.engine ≡ Some e))) (fact_i 𝓤 (kept.engine ≡ Some e) (emp 𝓤) refl) $
    nothing ! $ nothing ! $ fjoin ! $ keep ! (4 ∷ 0 ∷ 2 ∷ 1 ∷ []) $ by ! (leaves 𝓛 f.ended stays c z (held_word at) kept (tt, tt) (tt, tt)))))
