-- The machine's values of what holds a pointer, and that such a struct's fields own nothing.
--     word_of      of an address: the pointer, and the mark that names the allocator, which is empty
--     held_word    of what C holds: the pointer
use Rattle.std.proofs.Common.{[], ◌∷◌, refl}
use lib.Dec.{T, lit<}
use seplogic.Ra.Ura.{Ura}
use mir.Syntax.{ty_ptr}
use mir.Val.{Val, vstruct, vcons, vnil, has_ty, WT}
use base.Logic.{ent, emp}
use types.Logic.{Logic, sem}
use denote.RattleType.{RattleType}
use denote.Param.{layout}
use denote.RawPtr.{Ptr, block_ptr, null_ptr, ptr_val}
use denote.Shadow.{makes_shadow}
use denote.Struct.Owning.{shape}
use denote.Struct.Struct.{Struct}
use Rattle.std_alloc.proofs.ResultValues.{and_tt}
use Rattle.core.specs.declared.alloc.Allocator.{Ghosts}
use Rattle.nvm_c.specs.contracts.address.Address as address
use Rattle.nvm_c.specs.contracts.handle.Held as held

abbrev pub word_of : Ptr → Val
word_of at = vstruct (vcons (ptr_val at) (vcons (vstruct vnil) vnil))

pub pointer_fits : (at : Ptr) → T (has_ty ty_ptr (ptr_val at)) × WT (ptr_val at)
pointer_fits (block_ptr b o) = (tt, tt)
pointer_fits null_ptr = (tt, record { fits = lit< tt })

module _ (R Z : RattleType) (g : Ghosts Z.Denot) where
  abbrev pub Fields : RattleType
  Fields = Struct (shape (address.the_type R Z g))

  pub word_fits : (at : Ptr) → T (has_ty (layout (address.the_row R Z g)) (word_of at)) × WT (word_of at)
  word_fits at = (and_tt _ (pointer_fits at).0, ((pointer_fits at).1, (tt, tt)))

  -- A pointer and the mark own nothing, so their struct is made of nothing.
  pub fields_of : {M : Type 1} {𝓤 : Ura M} (𝓛 : Logic 𝓤) (at : Ptr) → ent 𝓤 (emp 𝓤) (sem 𝓛 (Fields.own_val (at, (record {}, tt)) (word_of at ∷ [])))
  fields_of 𝓛 at = makes_shadow 𝓛 (Fields.own_val (at, (record {}, tt)) (word_of at ∷ [])) (λ _. (tt, (tt, ((λ _. (tt, tt)), tt))))
      ((ptr_val at ∷ [], (vstruct vnil ∷ [], tt)), (refl, (refl, ((tt, (refl, tt)), tt))))

abbrev pub held_word : Ptr → Val
held_word at = vstruct (vcons (ptr_val at) vnil)

abbrev pub HeldFields : RattleType
HeldFields = Struct (shape held.the_type)

pub held_fits : (at : Ptr) → T (has_ty (layout held.the_row) (held_word at)) × WT (held_word at)
held_fits at = (and_tt _ (pointer_fits at).0, ((pointer_fits at).1, tt))

pub held_fields : {M : Type 1} {𝓤 : Ura M} (𝓛 : Logic 𝓤) (at : Ptr) → ent 𝓤 (emp 𝓤) (sem 𝓛 (HeldFields.own_val (at, tt) (held_word at ∷ [])))
held_fields 𝓛 at = makes_shadow 𝓛 (HeldFields.own_val (at, tt) (held_word at ∷ [])) (λ _. (tt, (tt, tt))) ((ptr_val at ∷ [], tt), (refl, (refl, tt)))
