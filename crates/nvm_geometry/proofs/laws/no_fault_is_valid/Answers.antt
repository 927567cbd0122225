use Rattle.std.proofs.Common.{◌≡◌, ◌≢◌, ℕ, ◌<◌, inl, inr, arith}
use Rattle.std.proofs.lemmas.Bool.{cases_eq}
use Rattle.nvm_record.specs.BlockSize.{IsBlockSize}
use Rattle.nvm_geometry.specs.Faults.{most_blocks}
use Rattle.nvm_geometry.proofs.laws.no_fault_is_valid.Goals as goal

-- it is decided whether a number is a block size
block_size_decided : (bytes : ℕ) → ¬ (¬ (IsBlockSize bytes)) → IsBlockSize bytes
block_size_decided bytes h =
    elim (cases_eq bytes 512) [
      | inl e ↦ inl e
      | inr n ↦
          elim (cases_eq bytes 4096) [ inl e ↦ inr e | inr o ↦ absurd (h (λ s. elim s [ inl e ↦ n e | inr e ↦ o e ])) ]
    ]

pub returns-clause-valid : goal.returns-clause-valid
returns-clause-valid c ns n =
    let some : ns.nsze ≡ 0 → ⊥ = λ e. n.0 (inl e) in
    let few : most_blocks < ns.nsze → ⊥ = λ e. n.0 (inr e) in
    let none : ns.nabsn ≡ 0 → ns.nabo ≡ 0 = λ e. elim (cases_eq ns.nabo 0) [ inl z ↦ z | inr o ↦ absurd (n.1.1.0 (e, o)) ] in
    let offset : ns.nabsn ≢ 0 → ns.nabsn < ns.nabo → ⊥ = λ e o. n.1.1.1.0 (e, o) in
    let write : ns.nabsn ≢ 0 → ns.nabsn < ns.nawun → ⊥ = λ e o. n.1.1.1.1.0 (e, o) in
    let pair : ns.nabsn ≢ 0 → ns.nabsn < ns.nacwu → ⊥ = λ e o. n.1.1.1.1.1.0 (e, o) in
    record {
      some = omega (arith, some);
      size = omega (arith, few);
      block_size = block_size_decided ns.block_size n.1.0;
      no_boundary = none;
      offset = elim (cases_eq ns.nabsn 0) [ inl e ↦ omega (arith, e, none e) | inr o ↦ omega (arith, offset o) ];
      write_unit = λ o. omega (arith, write o);
      pair_unit = λ o. omega (arith, pair o);
      units = omega (arith, n.1.1.1.1.1.1.0);
    }

pub returns-clause-no_fault : goal.returns-clause-no_fault
returns-clause-no_fault c ns v = (
  (λ h. elim h [ inl e ↦ omega (arith, e, v.some) | inr e ↦ omega (arith, e, v.size) ]),
  (
    (λ h. h v.block_size),
    (
      (λ h. h.1 (v.no_boundary h.0)),
      (
        (λ h. omega (arith, h.1, v.offset)),
        ((λ h. omega (arith, h.1, v.write_unit h.0)), ((λ h. omega (arith, h.1, v.pair_unit h.0)), ((λ h. omega (arith, h, v.units)), tt))),
      ),
    ),
  ),
)
