-- The passes of a new unit.
use Rattle.std.proofs.Common.{◌≡◌, Bool, ℕ, zero, suc, ◌+◌, map, length, refl, ap, ◌∙◌, arith}
use Rattle.atomic_table.specs.Seated.{TableId}
use Rattle.nvm_unit.specs.declared.bounds.Bounds.{Bounds}
use Rattle.nvm_unit.specs.Ends.{pass_at, new_passes, AreAllPassesOf}
use Rattle.nvm_unit.specs.Machine.{newcomers, newcomers_from}
use Rattle.nvm_record.specs.Lists.{IsAt}
use Rattle.nvm_unit.specs.Passes.{PassState, UnitName}
use Rattle.nvm_unit.specs.Views.{newcomer}
use Rattle.nvm_unit.proofs.Dealing.{new_is_of}
use Rattle.nvm_unit.proofs.EventsKept.{newcomer_back}
use Rattle.nvm_unit.proofs.Lists.{at_map_back}

newcomers_count : (table : TableId) (keeps : Bool) (b : Bounds) (from n : ℕ) → length (map (pass_at table keeps) (newcomers_from b from n)) ≡ n
newcomers_count table keeps b from zero = refl
newcomers_count table keeps b from (suc n) = ap suc (newcomers_count table keeps b (suc from) n)

pub new_pass_is : (unit : UnitName) (i : ℕ) (pass : PassState) → IsAt (new_passes unit) i pass → pass ≡ pass_at unit.table unit.versions (newcomer unit.bounds i)
new_pass_is unit i pass at =
    let p = at_map_back (pass_at unit.table unit.versions) (newcomers unit.bounds) i pass at in
    let new = newcomer_back unit.bounds 0 unit.bounds.passes i p.0 p.1 in
    let same : 0 + i ≡ i = omega arith in
    p.2 ∙ ap (pass_at unit.table unit.versions) (new.0 ∙ ap (newcomer unit.bounds) same)

pub all_new : (unit : UnitName) → AreAllPassesOf unit (new_passes unit)
all_new unit =
    record {
      count = newcomers_count unit.table unit.versions unit.bounds 0 unit.bounds.passes;
      each = λ i pass at. (new_is_of unit i pass at, ap (λ (x : PassState). x.view.number) (new_pass_is unit i pass at));
    }
