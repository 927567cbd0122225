use Rattle.nvm_store.proofs.Replays.{lawful_beginning, lawful_last, lawful_push}
use Rattle.std.proofs.Common.{[], ◌∷◌}
use Rattle.nvm_store.proofs.laws.lawful_with_one_more.Goals as goal

pub returns : goal.returns
returns c place history entry = (
  λ lawful. (
    lawful_beginning place history (entry ∷ []) lawful,
    lawful_last place history entry lawful,
  ),
  λ both. lawful_push place history entry both.0 both.1,
)
