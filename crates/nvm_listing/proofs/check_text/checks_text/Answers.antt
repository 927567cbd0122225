use Rattle.std.proofs.Common.{◌≡◌, ◌≤◌, ◌++◌, ℕ, List, length, drop, sym, ap, ◌∙◌, append-nil, string_bytes}
use Rattle.std.proofs.Math.ListN.{drop_of_length-le}
use Rattle.nvm_listing.specs.CheckText.{unmet_lines, count_line}
use Rattle.nvm_listing.specs.declared.check.Check.{Check}
use Rattle.nvm_listing.proofs.check_text.checks_text.Goals as goal

all_lines : (checks : List Check) (k : ℕ) (text : List ℕ) → length checks ≤ k → text ++ unmet_lines (drop k checks) ≡ unmet_lines checks
    → text ≡ unmet_lines checks
all_lines checks k text le whole =
    sym (append-nil text) ∙ ap (λ (rest : List Check). text ++ unmet_lines rest) (sym (drop_of_length-le checks le)) ∙ whole

pub returns : goal.returns
returns c =
    let checks = c.args.checks.now in
    let lines = all_lines checks c.loop-check.check-index (string_bytes c.loop-check.text) c.loop-check-test.false c.loop-check.invariant in
    c.in_ok-write.ensures.bytes ∙ ap (λ (text : List ℕ). text ++ count_line (length checks) c.unmet_count-unmet.result) lines
    ∙ ap (λ (n : ℕ). unmet_lines checks ++ count_line (length checks) n) c.unmet_count-unmet.ensures
