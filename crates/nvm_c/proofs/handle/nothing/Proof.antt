-- Nothing lies at null, and nothing is held there.
use Rattle.std.proofs.Common.{◌≡◌, [], ◌∷◌, refl}
use base.Logic.{emp}
use base.Fml.{ftrue}
use contract.Monad.{fact, fact_i}
use types.Kit.{‵, raw, ◌$◌, ◌∵◌, !, qed, by, drop, use0, fjoin}
use types.Run.{lit, no_more, and_then, returns, enter}
use types.ByLocal.{alloc_all, pass_all, free_all, look_at, sets}
use types.Part.{agg}
use denote.RawPtr.{null_ptr}
use denote.Steps.{nothing}
use denote.Triple.Entry.{on_entry}
use denote.Triple.Walked.{Stays}
use Rattle.std.proofs.raw_atomic.Walks.{proved, leaves}
use Rattle.std.specs.Prelude.{None}
use Rattle.nvm_c.proofs.Words.{held_word, held_fits, HeldFields, held_fields}
use Rattle.nvm_c.specs.contracts.handle.Held.{the_row}
use Rattle.nvm_c.specs.contracts.handle.nothing as f
use Rattle.nvm_c.proofs.handle.nothing.Statement.{statement}
use Rattle.nvm_c.proofs.handle.nothing.Code as code

abbrev stays : Stays f.ended.signature.params f.ended.kept
stays = tt

pub nothing_spec : {M : Type 1} → statement M
nothing_spec 𝓤 𝓛 𝓜 𝓡 wired =
    let c = f.clauses 𝓛 𝓜.mem 𝓡.returns in
    proved 𝓛 f.ended stays c 𝓜 𝓡 tt f.Key.name code.function (code.unfolded 𝓤 𝓛.H 𝓜 𝓡 wired) (λ κs. tt) (λ κs. tt) (λ κs qs bounds a ghost are.
    let none : the_row.Denot = record { at = null_ptr; engine = None } in
    qed 𝓛 (raw (on_entry 𝓛 f.ended.signature κs qs a tt) ∷ ‵ ftrue ∷ []) ∵ drop ! $ drop ! $
    enter ! _ _ _ _ _ $ alloc_all ! (λ l. pass_all ! refl tt $
    sets ! (agg ! (and_then ! (lit ! tt) (no_more !))) refl (held_fits null_ptr) $
    returns ! (look_at ! 0 refl) $ free_all ! refl $
    use0 𝓛 (raw (fact 𝓤 (none.engine ≡ None))) (fact_i 𝓤 (none.engine ≡ None) (emp 𝓤) refl) $
    nothing ! $ use0 𝓛 (‵ (HeldFields.own_val (null_ptr, tt) (held_word null_ptr ∷ []))) (held_fields 𝓛 null_ptr) $ fjoin ! $
    nothing ! $ nothing ! $ by ! (leaves 𝓛 f.ended stays c ((κs, qs, bounds, a, tt), ghost) (held_word null_ptr) none tt tt)))
