-- Reading lines one after the other.
use Rattle.std.proofs.Common.{◌≡◌, ℕ, ◌+◌, List, [], ◌∷◌, ◌++◌, length, Option, Some, None, Result, Ok, Err, refl, sym, ap, ◌∙◌, append_assoc, arith}
use Rattle.std.proofs.lemmas.List.{append-nil, length_push}
use Rattle.nvm_record.specs.declared.command.Command.{Command}
use Rattle.nvm_list.specs.Words.{words}
use Rattle.nvm_list.specs.Lists.{on_line, in_front, followed_by, commands_from}
use Rattle.nvm_list.specs.declared.fault.ListFault.{ListFault}

-- commands after those that were read before
abbrev pub behind : List Command → Result (List Command) ListFault → Result (List Command) ListFault
behind front (Err fault) = Err fault
behind front (Ok cs) = Ok (front ++ cs)

pub behind_none : (read : Result (List Command) ListFault) → behind [] read ≡ read
behind_none (Err fault) = refl
behind_none (Ok cs) = refl

regroup : (front : List Command) (c : Command) (read : Result (List Command) ListFault) → behind front (in_front c read) ≡ behind (front ++ c ∷ []) read
regroup front c (Err fault) = refl
regroup front c (Ok cs) = ap (λ (ds : List Command). Ok ds) (sym (append_assoc front (c ∷ []) cs))

-- what is in the lines that are left, after the commands so far
abbrev pub left : ℕ → ℕ → List Command → List (List ℕ) → Result (List Command) ListFault
left size line front texts = behind front (commands_from size line (length front + 1) texts)

abbrev rest_read : ℕ → ℕ → List Command → List (List ℕ) → Result (Option Command) ListFault → Result (List Command) ListFault
rest_read size line front texts here = behind front (followed_by here (length front + 1) (λ next. commands_from size (line + 1) next texts))

at_line_is : (size line : ℕ) (front : List Command) (text : List ℕ) (texts parts : List (List ℕ)) (here : Result (Option Command) ListFault) → parts ≡ text ∷ texts
    → on_line size line (length front + 1) (words text) ≡ here → left size line front parts ≡ rest_read size line front texts here
at_line_is size line front text texts parts here cut read =
    ap (λ (ps : List (List ℕ)). left size line front ps) cut ∙ ap (λ (r : Result (Option Command) ListFault). rest_read size line front texts r) read

pub goes_on : (size line : ℕ) (front : List Command) (c : Command) (text : List ℕ) (texts parts : List (List ℕ)) (whole : Result (List Command) ListFault) → parts ≡ text ∷ texts
    → on_line size line (length front + 1) (words text) ≡ Ok (Some c) → left size line front parts ≡ whole → left size (line + 1) (front ++ c ∷ []) texts ≡ whole
goes_on size line front c text texts parts whole cut read so_far =
    let one_more : length (front ++ c ∷ []) + 1 ≡ length front + 1 + 1 = omega (arith, length_push front c) in
    ap (λ (n : ℕ). behind (front ++ c ∷ []) (commands_from size (line + 1) n texts)) one_more
    ∙ sym (regroup front c (commands_from size (line + 1) (length front + 1 + 1) texts))
    ∙ sym (at_line_is size line front text texts parts (Ok (Some c)) cut read) ∙ so_far

pub passes : (size line : ℕ) (front : List Command) (text : List ℕ) (texts parts : List (List ℕ)) (whole : Result (List Command) ListFault) → parts ≡ text ∷ texts
    → on_line size line (length front + 1) (words text) ≡ Ok None → left size line front parts ≡ whole → left size (line + 1) front texts ≡ whole
passes size line front text texts parts whole cut read so_far = sym (at_line_is size line front text texts parts (Ok None) cut read) ∙ so_far

pub stops : (size line : ℕ) (front : List Command) (fault : ListFault) (text : List ℕ) (texts parts : List (List ℕ)) (whole : Result (List Command) ListFault) → parts ≡ text ∷ texts
    → on_line size line (length front + 1) (words text) ≡ Err fault → left size line front parts ≡ whole → whole ≡ Err fault
stops size line front fault text texts parts whole cut read so_far = sym so_far ∙ at_line_is size line front text texts parts (Err fault) cut read

pub ends : (size line : ℕ) (front : List Command) (whole : Result (List Command) ListFault) → left size line front [] ≡ whole → whole ≡ Ok front
ends size line front whole so_far = sym so_far ∙ ap (λ (cs : List Command). Ok cs) (append-nil front)
