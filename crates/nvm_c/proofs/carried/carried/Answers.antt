use Rattle.std.proofs.Common.{◌≡◌, ◌∙◌, ◌+◌, ◌++◌, [], ap, get_or, length, List, ℕ, sym, subst, arith}
use Rattle.nvm_record.specs.Entry.{called_for}
use Rattle.nvm_c.specs.Carried.{IsLengthWith, carried_alone}
use Rattle.nvm_c.proofs.BufferLengths.{alone, of_one, of_two, together}
use Rattle.nvm_c.proofs.carried.carried.Goals as goal

pub returns-in-len1-clause-length : goal.returns-in-len1-clause-length
returns-in-len1-clause-length c = λ is.
    let size : ℕ = c.args.block_size in
    let entry : List ℕ = get_or c.args.entries.now 0 [] in
    let whole : length entry ≡ 64 = c.told-entries 0 (omega arith) in
    let count : c.carried_alone.result ≡ carried_alone size entry =
    c.carried_alone.ensures ∙ ap (λ (n : ℕ). carried_alone n entry) c.in-Some.ensures.1 in
    of_one size c.args.entries.now c.carried_alone.result c.in-len1.len_at_least c.in-len1.len_below
    (subst (λ (n : ℕ). IsLengthWith size entry n) (sym count) (alone size entry whole))

pub returns-in-len2-clause-length : goal.returns-in-len2-clause-length
returns-in-len2-clause-length c = λ is.
    let size : ℕ = c.args.block_size in
    let first : List ℕ = get_or c.args.entries.now 0 [] in
    let second : List ℕ = get_or c.args.entries.now 1 [] in
    let one : length first ≡ 64 = c.told-entries 0 (omega arith) in
    let other : length second ≡ 64 = c.told-entries 1 (omega arith) in
    let a : c.called.result ≡ called_for size first =
    c.called.ensures.value ∙ ap (λ (n : ℕ). called_for n first) c.in-Some.ensures.1 in
    let b : c.called-in-len2.result ≡ called_for size second =
    c.called-in-len2.ensures.value ∙ ap (λ (n : ℕ). called_for n second) c.in-Some.ensures.1 in
    let count : c.called.result + c.called-in-len2.result ≡ called_for size first + called_for size second =
    ap (λ (n : ℕ). n + c.called-in-len2.result) a ∙ ap (λ (n : ℕ). called_for size first + n) b in
    of_two size c.args.entries.now (c.called.result + c.called-in-len2.result) c.in-len2.len_at_least c.in-len2.len_below
    (subst (λ (n : ℕ). IsLengthWith size (first ++ second) n) (sym count) (together size first second one other))
