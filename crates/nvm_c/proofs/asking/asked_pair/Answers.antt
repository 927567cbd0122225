use Rattle.std.proofs.Common.{◌≡◌, ◌∙◌, ◌++◌, ℕ, List, length, take, drop, ap, refl, subst, arith}
use Rattle.nvm_record.specs.Entry.{IsSpelling, called_for}
use Rattle.nvm_c.proofs.AtOnce.{piece_back, piece_front}
use Rattle.nvm_c.proofs.asking.asked_pair.Goals as goal

-- The first piece is as long as the first entry calls for, so the pieces behind each other are cut between them.
pub returns-clause-asked : goal.returns-clause-asked
returns-clause-asked c =
    let size = c.args.geometry.now.block_size in
    let entries : List ℕ = c.args.entries.now in
    let compared : List ℕ = c.args.compared.now in
    let written : List ℕ = c.args.written.now in
    let here : length compared ≡ c.called.result = omega (arith, c.if-compared-called.false) in
    let cut : length compared ≡ called_for size (take 64 entries) =
    here ∙ c.called.ensures.value ∙ ap (λ (n : ℕ). called_for n c.split_at.result.0.now) c.block_size-size.ensures.value ∙ ap (called_for size) c.split_at.ensures.front in
    let front = piece_front compared written (called_for size (take 64 entries)) cut in
    let back = piece_back compared written (called_for size (take 64 entries)) cut in
    record {
      by_host = refl;
      body = record {
        whole = c.requires;
        first = subst (λ (bytes : List ℕ). IsSpelling size (take 64 entries ++ bytes) c.in_ok-compare.compare) front
            (subst (λ (entry : List ℕ). IsSpelling size (entry ++ compared) c.in_ok-compare.compare) c.split_at.ensures.front
            (subst (λ (n : ℕ). IsSpelling n (c.split_at.result.0.now ++ compared) c.in_ok-compare.compare) c.block_size-size.ensures.value c.in_ok-compare.ensures.spelled));
        second = subst (λ (bytes : List ℕ). IsSpelling size (drop 64 entries ++ bytes) c.in_ok-write.write) back
            (subst (λ (entry : List ℕ). IsSpelling size (entry ++ written) c.in_ok-write.write) c.split_at.ensures.back
            (subst (λ (n : ℕ). IsSpelling n (c.split_at.result.1.now ++ written) c.in_ok-write.write) c.block_size-size.ensures.value c.in_ok-write.ensures.spelled));
      };
    }
