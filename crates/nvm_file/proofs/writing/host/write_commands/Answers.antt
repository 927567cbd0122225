use Rattle.std.proofs.Common.{◌≡◌, ℕ, ◌+◌, ◌<◌, List, [], ◌∷◌, ◌++◌, length, get_or, take, append-nil, refl, sym, ap, ◌∙◌}
use Rattle.std.specs.List.{flat_map}
use Rattle.std.proofs.lemmas.List.{take_more}
use Rattle.std.proofs.lemmas.List.Concat.{flat_map-append, flat_map-cons}
use Rattle.nvm_record.specs.Entry.{spelling_of}
use Rattle.nvm_record.specs.HostFile.{file_name}
use Rattle.nvm_text.proofs.Taking.{within, loop_front, loop_next}
use Rattle.nvm_file.proofs.writing.host.write_commands.Goals as goal

-- the bytes of one item more
next_of : {T : Type 0} (f : T → List ℕ) (xs : List T) (i : ℕ) (x : T) → i < length xs → x ≡ get_or xs i x
    → flat_map f (take (i + 1) xs) ≡ flat_map f (take i xs) ++ f x
next_of f xs i x below is =
    ap (flat_map f) (take_more xs i x below ∙ ap (λ y. take i xs ++ y ∷ []) (sym is)) ∙ flat_map-append f (take i xs) (x ∷ [])
    ∙ ap (λ l. flat_map f (take i xs) ++ l) (flat_map-cons f x [] ∙ append-nil (f x))

pub returns-in_err-hand_noting-clause-front : goal.returns-in_err-hand_noting-clause-front
returns-in_err-hand_noting-clause-front g c =
    within c.from_residual.result _ _ _ file_name (flat_map spelling_of c.args.commands.now) refl c.in_err-hand_noting.ensures.front

pub returns-in_err-write_command-clause-front : goal.returns-in_err-write_command-clause-front
returns-in_err-write_command-clause-front g c =
    let commands = c.args.commands.now in
    let i = c.loop-command.command-index in
    let next = next_of spelling_of commands i c.command-item.result c.loop-command-test.true c.command-item.is in
    loop_front c.from_residual-in_err-write_command.result spelling_of commands i _ _ _ file_name
    (spelling_of c.command-item.result) next c.loop-command.invariant.written c.in_err-write_command.ensures.front

pub loop-command-preserved : goal.loop-command-preserved
loop-command-preserved g c =
    let commands = c.args.commands.now in
    let i = c.loop-command.command-index in
    let next = next_of spelling_of commands i c.command-item.result c.loop-command-test.true c.command-item.is in
    record {
      written = loop_next spelling_of commands i _ _ _ file_name (spelling_of c.command-item.result) next
          c.loop-command.invariant.written c.in_ok-write_command.ensures.whole;
    }
