-- Words after spaces, one list after another.
use Rattle.std.proofs.Common.{◌≡◌, List, ℕ, [], ◌∷◌, ◌++◌, codes, refl, sym, ap, ◌∙◌, append_assoc}
use Rattle.nvm_record.specs.declared.command.Command.{Command}
use Rattle.nvm_text.specs.Lines.{name_of}
use Rattle.nvm_list.specs.Listing.{operand_words, deallocate_words, fuse_words, cid_words, nsid_words, behind_spaces, command_text}

pub spaced_append : (xs ys : List (List ℕ)) → behind_spaces (xs ++ ys) ≡ behind_spaces xs ++ behind_spaces ys
spaced_append [] ys = refl
spaced_append (x ∷ xs) ys =
    ap (λ (t : List ℕ). codes " " ++ (x ++ t)) (spaced_append xs ys) ∙ ap (λ (t : List ℕ). codes " " ++ t) (sym (append_assoc x (behind_spaces xs) (behind_spaces ys)))

pub command_spaced : (place : ℕ) (c : Command) (deallocate fuse : List ℕ) → deallocate ≡ behind_spaces (deallocate_words c.op) → fuse ≡ behind_spaces (fuse_words c.fuse)
    → name_of c.op ++ (behind_spaces (operand_words c) ++ (deallocate ++ (fuse ++ (behind_spaces (cid_words place c.cid) ++ behind_spaces (nsid_words c.nsid))))) ≡ command_text place c
command_spaced place c deallocate fuse is_deallocate is_fuse =
    let d = deallocate_words c.op in
    let f = fuse_words c.fuse in
    let i = cid_words place c.cid in
    let n = nsid_words c.nsid in
    let last = ap (λ (t : List ℕ). t ++ (behind_spaces i ++ behind_spaces n)) is_fuse ∙ ap (λ (t : List ℕ). behind_spaces f ++ t) (sym (spaced_append i n)) ∙ sym (spaced_append f (i ++ n)) in
    let all = ap (λ (t : List ℕ). t ++ (fuse ++ (behind_spaces i ++ behind_spaces n))) is_deallocate ∙ ap (λ (t : List ℕ). behind_spaces d ++ t) last ∙ sym (spaced_append d (f ++ (i ++ n))) in
    ap (λ (t : List ℕ). name_of c.op ++ t) (ap (λ (t : List ℕ). behind_spaces (operand_words c) ++ t) all ∙ sym (spaced_append (operand_words c) (d ++ (f ++ (i ++ n)))))
