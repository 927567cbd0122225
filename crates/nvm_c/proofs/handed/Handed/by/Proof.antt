-- The body makes a struct that has no bytes, and the proof says which list it stands for: the bytes that were handed over.
use Rattle.std.proofs.Common.{[], ◌∷◌, refl}
use Rattle.std.proofs.raw_atomic.Walks.{proved}
use mir.Syntax.{named}
use mir.Val.{Val, vstruct, vnil}
use types.Kit.{‵, raw, ◌⊛◌, ◌$◌, ◌∵◌, !, qed, done, move, keep, split, fjoin, suffices}
use types.Part.{agg}
use types.Run.{enter, returns, no_more}
use types.ByLocal.{alloc_all, pass_all, free_all, look_at, sets}
use denote.Builtin.{RefOf}
use denote.Exit.{yes}
use denote.RattleType.{owns}
use denote.Ref.{shr_vals, shr_Tells}
use denote.Signature.{Slot, plain, named_lft, types_at}
use denote.Steps.{nothing, owned}
use denote.Struct.Owning.{shape}
use denote.Struct.Struct.{Struct, Struct-Makes}
use denote.Triple.Entry.{alive}
use denote.Triple.Walked.{Stays, walk_of, says, stay_dropped, Goes-dropped, ends_at}
use Rattle.nvm_c.specs.Inside.Handing.{bytes_handed}
use Rattle.nvm_c.specs.contracts.handed.Handed as Handed
use Rattle.nvm_c.specs.contracts.handed.Handing as Handing
use Rattle.nvm_c.specs.contracts.handed.Handed.by as f
use Rattle.nvm_c.proofs.handed.Handed.by.Statement.{statement}
use Rattle.nvm_c.proofs.handed.Handed.by.Code as code

abbrev handing : Slot 2
handing = RefOf (0 ∷ []) tt (plain (λ κs. Handing.the_row (named_lft 2 1 tt κs))) (λ _. tt)

abbrev stayed : Stays f.ended.signature.params f.ended.kept
stayed = (stay_dropped handing yes, tt)

-- a value of no bytes
abbrev bare : Val
bare = vstruct vnil

pub by_spec : {M : Type 1} → statement M
by_spec 𝓤 𝓛 𝓜 𝓡 wired =
    let c = f.clauses 𝓛 𝓜.mem 𝓡.returns in
    proved 𝓛 f.ended stayed c 𝓜 𝓡 (Goes-dropped 𝓛 2 handing yes (λ κs x w. refl), tt)
    f.Key.name code.function (code.unfolded 𝓤 𝓛.H 𝓜 𝓡 wired)
    (λ κs. (shr_vals, tt)) (λ κs. (shr_Tells (named 0) κs.0 (Handing.the_row (named_lft 2 1 tt κs)), tt)) (λ κs qs bounds a g are.
    let y : (walk_of 𝓛 f.ended stayed c).Ghost = ((κs, qs, bounds, a, (shr_vals a.0, tt)), g) in
    let handed : (Handed.the_row).Denot = record { bytes = bytes_handed a.0.now } in
    let fields = shape Handed.the_type in
    qed 𝓛 ((raw (alive 𝓛 f.signature κs qs) ⊛ ‵ (owns (types_at f.signature.params κs) a y.0.4)) ∷ raw ((c κs a).requires g) ∷ []) ∵
    keep ! (0 ∷ []) $ split ! $ keep ! (0 ∷ []) $
    enter ! _ _ _ _ _ $ alloc_all ! (λ l. pass_all ! refl ((tt, tt), tt) $
    sets ! (agg ! (no_more !)) refl (tt, tt) $
    returns ! (look_at ! 0 refl) $ free_all ! refl $
    -- [the tokens]
    suffices ! _ (ends_at 𝓛 f.ended stayed c y bare handed (tt, tt) (tt, tt)) $ says ! refl $
    nothing ! $ owned ! (Struct fields) _ (Struct-Makes 𝓛 fields tt) tt (bare ∷ []) (tt, (refl, tt)) $ fjoin ! $
    nothing ! $ nothing ! $ fjoin ! $ move ! (2 ∷ 0 ∷ 1 ∷ []) $ done !))
