-- States to which events lead.
use Rattle.std.proofs.Common.{◌≡◌, List, [], ◌∷◌, ◌++◌, subst, refl, Option}
use Rattle.atomic_table.specs.Table.{State}
use Rattle.nvm_unit.specs.declared.bounds.Bounds.{Bounds}
use Rattle.nvm_unit.specs.declared.views.Group.{Group}
use Rattle.nvm_unit.specs.Inside.Book.{Recorded}
use Rattle.nvm_unit.specs.Machine.{UnitState, opening_state}
use Rattle.nvm_unit.specs.Events.{Event, Happens, Lead, IsReached}
use Rattle.nvm_unit.specs.Knowledge.{IsKnown}
use Rattle.nvm_unit.specs.Inside.Rule.{table_of, IsRuled}

-- One event more leads on.
lead_more : (b : Bounds) (s : UnitState) (events : List Event) (t : UnitState) (event : Event) (u : UnitState) → Lead b s events t → Happens b t event u
    → Lead b s (events ++ event ∷ []) u
lead_more b s [] t event u same happens = (u, subst (λ (x : UnitState). Happens b x event u) same happens, refl)
lead_more b s (first ∷ events) t event u leads happens = (leads.0, leads.1, lead_more b leads.0 events t event u leads.2 happens)

-- The table shows what one event more leads to.
pub ruled_after : (b : Bounds) (s t : UnitState) (event : Event) (table : State (Option Recorded) Group) → IsReached b s → Happens b s event t
    → table ≡ table_of b t → IsKnown b t → IsRuled b table
ruled_after b s t event table reached happens shows kept =
    (t, shows, kept, (reached.0 ++ event ∷ [], lead_more b (opening_state b) reached.0 s event t reached.1 happens))

-- A new unit is reached by no event.
pub opening_reached : (b : Bounds) → IsReached b (opening_state b)
opening_reached b = ([], refl)
