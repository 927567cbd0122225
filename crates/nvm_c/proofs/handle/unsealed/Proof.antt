-- The address of the engine that is held, with what was kept of it.
use Rattle.std.proofs.Common.{◌≡◌, List, [], ◌∷◌, ◌++◌, refl}
use mir.Val.{Val}
use base.Logic.{SProp, emp}
use prog.Wp.{WpFn}
use contract.Monad.{fact, fact_i}
use contract.Running.{tables}
use types.Kit.{‵, raw, prop, ◌⊛◌, ◌$◌, ◌∵◌, !, qed, by, move, keep, drop, split, use0, rewrite, regoal, fsplit, fjoin, fpick}
use types.Run.{stop, fld, of_opd, no_more, and_then, returns, enter}
use types.ByLocal.{alloc_all, pass_all, free_all, look_at, get, get_in, sets}
use types.Part.{whole, sub, agg}
use denote.RattleType.{RattleType, owns}
use denote.Signature.{plain, types_at}
use denote.Steps.{nothing, heard}
use denote.Triple.Entry.{alive}
use denote.Triple.Walked.{Stays, stay_dropped, walk_of}
use Rattle.core.proofs.alloc.Calls.{Goes-blank}
use Rattle.std.proofs.raw_atomic.Walks.{proved_at, leaves}
use Rattle.std.proofs.lemmas.Bool.{false≢true}
use Rattle.std.specs.Prelude.{Option, Some, None, IsSome}
use Rattle.std.specs.contracts.alloc.Global as global
use Rattle.std.specs.contracts.impls.GlobalAllocator.TheImpl.{ghosts}
use Rattle.nvm_c.proofs.Words.{word_of, word_fits, pointer_fits, held_word, held_fits, Fields, fields_of}
use Rattle.nvm_c.proofs.handle.Held.TheLaws as laws_of_held
use Rattle.nvm_c.specs.Engines.{IsSound}
use Rattle.nvm_c.specs.Held.{heap, held_at}
use Rattle.nvm_c.specs.declared.engine.Engine.{Engine}
use Rattle.nvm_c.specs.contracts.address.Address as address
use Rattle.nvm_c.specs.contracts.engine.Engine as engine
use Rattle.nvm_c.specs.contracts.handle.Held as held
use Rattle.nvm_c.specs.contracts.handle.unsealed as f
use Rattle.nvm_c.proofs.handle.unsealed.Statement.{statement}
use Rattle.nvm_c.proofs.handle.unsealed.Code as code

one_of : (o : Option Engine) → IsSome o → (e : Engine) × (o ≡ Some e)
one_of (Some e) is = (e, refl)
one_of None is = absurd (false≢true is)

abbrev stays : Stays f.ended.signature.params f.ended.kept
stays = (stay_dropped (plain (λ _. held.the_row)) f.ended.kept.0, tt)

pub unsealed_spec : {M : Type 1} → statement M
unsealed_spec 𝓤 𝓛 𝓜 𝓡 wired =
    let 𝓣 = tables 𝓤 𝓛.H 𝓜 𝓡 𝓡.env in let fn = code.function in
    let c = f.clauses 𝓛 𝓜.mem 𝓡.returns in
    let Place : RattleType = address.the_row engine.the_row global.the_row ghosts in
    proved_at 𝓛 f.ended stays c 𝓜 𝓡 (Goes-blank 𝓛 0 (plain (λ _. held.the_row)) f.ended.kept.0 (λ κs x e. tt), tt) f.Key.name fn (code.unfolded 𝓤 𝓛.H 𝓜 𝓡 wired) (λ z are.
    let kept = z.0.3.0 in let at = kept.at in
    let Post : Val → SProp 𝓤 = (walk_of 𝓛 f.ended stays c).post z in
    let told : z.0.4.0 ≡ held_word at ∷ [] = laws_of_held.lowers.val_is kept z.0.4.0 are.0 in
    qed 𝓛 ((raw (alive 𝓛 f.ended.signature z.0.0 z.0.1) ⊛ ‵ (owns (types_at f.ended.signature.params z.0.0) z.0.3 z.0.4)) ∷ raw (fact 𝓤 (IsSome kept.engine)) ∷ []) ∵
    move ! (1 ∷ []) $ heard ! (IsSome kept.engine) (λ open_one. let found = one_of kept.engine open_one in let e = found.0 in
    regoal ! (λ (us : List Val). prop (WpFn 𝓤 𝓛.H 𝓣.C 𝓣.Λ fn (us ++ []) Post)) told refl $
    split ! $ move ! (1 ∷ []) $ fsplit ! $ fsplit ! $ drop ! $
    -- [what is held; nothing; no tokens]
    rewrite ! 0 (λ (o : Option Engine). ‵ (held_at at o)) found.1 refl $ fpick ! (λ sound.
    enter ! 𝓣.C 𝓣.Λ fn (held_word at ∷ []) Post $ alloc_all ! (λ l. pass_all ! refl (held_fits at, tt) $
    sets ! (of_opd ! (get_in ! (fld ! refl (stop !)) (sub ! 0 refl (whole !)))) refl (pointer_fits at) $
    sets ! (of_opd ! (get ! refl)) refl (pointer_fits at) $
    sets ! (agg ! (no_more !)) refl (tt, tt) $
    sets ! (agg ! (and_then ! (get ! refl) (and_then ! (get ! refl) (no_more !)))) refl (word_fits engine.the_row global.the_row ghosts at) $
    returns ! (look_at ! 0 refl) $ free_all ! refl $
    let place : Place.Denot = record { at = at; by = record {}; owner = heap; value = e } in
    let Said : Type 0 = (kept.engine ≡ Some e) × IsSound e in
    use0 𝓛 (‵ ((Fields engine.the_row global.the_row ghosts).own_val (at, (record {}, tt)) (word_of at ∷ []))) (fields_of engine.the_row global.the_row ghosts 𝓛 at) $ fjoin ! $
    use0 𝓛 (raw (fact 𝓤 Said)) (fact_i 𝓤 Said (emp 𝓤) (found.1, sound)) $
    nothing ! $ nothing ! $ fjoin ! $ keep ! (4 ∷ 0 ∷ 2 ∷ 1 ∷ []) $ by ! (leaves 𝓛 f.ended stays c z (word_of at) place (tt, tt) (tt, tt))))))
