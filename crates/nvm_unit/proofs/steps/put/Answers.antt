use Rattle.std.proofs.Common.{◌*◌, refl, arith, inl, inr}
use mathlib.Core.Option.{none}
use Rattle.atomic_table.specs.Table.{step}
use Rattle.nvm_unit.proofs.EventsKept.{FollowsLawfully}
use Rattle.nvm_unit.proofs.Putting.{return_allowed, append_allowed}
use Rattle.nvm_unit.proofs.steps.put.Goals as goal

pub store-requires : goal.store-requires
store-requires g c =
    let desk = c.args.desk.now in
    let b = desk.table.shared.key in
    let st = step desk.table.shared.table_id.slots 0 (2 * c.args.entries) 0 none in
    let law : FollowsLawfully = λ place history entry lawful follows. (c.lawful_with_one_more.ensures place history entry).1 (lawful, follows) in (
      c.requires.at,
      omega (arith, desk.sized),
      elim c.requires.ready [
        | inl r ↦ return_allowed g.D.Decides.decides st b r.2 _ _ c.args.entries _ r.0 r.1 refl r.3
        | inr a ↦ append_allowed law g.D.Decides.decides st b _ _ c.args.entries _ a.0 a.1 a.2 refl a.3
      ],
    )

pub returns-clause-returned : goal.returns-clause-returned
returns-clause-returned g c = (c.store.ensures.2 c.args.entries refl).0

pub returns-clause-added : goal.returns-clause-added
returns-clause-added g c = (c.store.ensures.2 c.args.entries refl).1

pub returns-clause-event : goal.returns-clause-event
returns-clause-event g c = (c.store.ensures.2 c.args.entries refl).2
