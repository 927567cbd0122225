use Rattle.std.proofs.Common.{ℕ, suc, List, [], ◌∷◌, All, refl}
use Rattle.std.proofs.lemmas.List.Elements.{All-nil, All-cons}
use Rattle.nvm_record.specs.Lists.{IsAt}
use Rattle.nvm_space.specs.Ports.{PortState, IsPortOf}
use Rattle.nvm_thread_tests.proofs.threads.spaces.opened.Goals as goal

-- What is so at each place is so of all.
all_of : (P : PortState → Type 0) (ports : List PortState) → ((i : ℕ) (port : PortState) → IsAt ports i port → P port) → All P ports
all_of P [] each = All-nil P
all_of P (port ∷ ports) each = All-cons P port ports (each 0 port refl) (all_of P ports (λ i other at. each (suc i) other at))

pub returns-in-Ok-new : goal.returns-in-Ok-new
returns-in-Ok-new c = all_of (IsPortOf c.in-Ok-new.opened.0) _ (λ i port at. (c.in-Ok-new.ensures.all.each i port at).0)
