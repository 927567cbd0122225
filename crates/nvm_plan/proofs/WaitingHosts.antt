-- The hosts that wait for their turn: each one's number, and its commands that no job has yet.
use Rattle.std.proofs.Common.{◌≡◌, ℕ, ◌+◌, List, [], ◌∷◌, ◌++◌, map, Vec, Global, refl, ap}
use Rattle.std.specs.List.{enumerate_from}
use Rattle.std.proofs.lemmas.List.{map_push}
use Rattle.nvm_record.specs.declared.command.Command.{Command}
use Rattle.nvm_plan.specs.declared.job_list.Waiting.{Waiting}

abbrev pub Queue : Type 0
Queue = List (ℕ × List Command)

abbrev pub queue_of : List Waiting → Queue
queue_of ws = map (λ w. (w.host, w.commands.items)) ws

-- hosts that were counted from 0, numbered from 1
abbrev pub numbered_of : List (ℕ × Vec Command Global) → Queue
numbered_of ps = map (λ p. (p.0 + 1, p.1.items)) ps

pub numbered_all : (a : ℕ) (hosts : List (Vec Command Global)) → numbered_of (enumerate_from a hosts) ≡ enumerate_from (a + 1) (map (λ v. v.items) hosts)
numbered_all a [] = refl
numbered_all a (v ∷ vs) = ap (λ (q : Queue). (a + 1, v.items) ∷ q) (numbered_all (a + 1) vs)

pub queue_push : (ws : List Waiting) (w : Waiting) → queue_of (ws ++ w ∷ []) ≡ queue_of ws ++ (w.host, w.commands.items) ∷ []
queue_push ws w = map_push (λ (v : Waiting). let p : ℕ × List Command = (v.host, v.commands.items) in p) ws w
