-- What `==` of entries computes is true exactly where they are equal.
use Rattle.std.proofs.Common.{◌≡◌, ℕ, zero, suc, List, [], ◌∷◌, ◌&&◌, nat_eq, Decides, refl, sym, ap, ◌∙◌}
use Rattle.std.specs.Cmp.Lexicographic.{pointwise}
use Rattle.std.specs.List.{flat_map}
use Rattle.std.proofs.lemmas.Bool.Decides.{Decides-and, Decides-eqb}
use Rattle.std.proofs.lemmas.Slice.Eq.{slice_eq-Decides}
use Rattle.nvm_record.specs.declared.lba_range.LbaRange.{LbaRange}
use Rattle.nvm_record.specs.Step.{Deed, writes, zeroes, uncorrectable, reads, compares, pairs, deallocates}
use Rattle.nvm_store.specs.HistoryEntry.{HistoryEntry}
use Rattle.nvm_store.specs.Inside.SameEntries.{kind_of, payload_of, new_payload_of, same_entry}

-- the ranges of these numbers
abbrev ranges_in : List ℕ → List LbaRange
ranges_in [] = []
ranges_in (first ∷ []) = []
ranges_in (first ∷ blocks ∷ rest) = record { first = first; blocks = blocks } ∷ ranges_in rest

ranges_again : (rs : List LbaRange) → ranges_in (flat_map (λ r. r.first ∷ r.blocks ∷ []) rs) ≡ rs
ranges_again [] = refl
ranges_again (r ∷ rs) = ap (λ (l : List LbaRange). r ∷ l) (ranges_again rs)

-- the deed of this kind with these data
abbrev deed_of : ℕ → List ℕ → List ℕ → Deed
deed_of zero payload new = writes payload
deed_of (suc zero) payload new = zeroes
deed_of (suc (suc zero)) payload new = uncorrectable
deed_of (suc (suc (suc zero))) payload new = reads
deed_of (suc (suc (suc (suc zero)))) payload new = compares payload
deed_of (suc (suc (suc (suc (suc zero))))) payload new = pairs payload new
deed_of (suc (suc (suc (suc (suc (suc n)))))) payload new = deallocates (ranges_in payload)

deed_again : (d : Deed) → deed_of (kind_of d) (payload_of d) (new_payload_of d) ≡ d
deed_again (writes payload) = refl
deed_again zeroes = refl
deed_again uncorrectable = refl
deed_again reads = refl
deed_again (compares payload) = refl
deed_again (pairs payload new) = refl
deed_again (deallocates ranges) = ap deallocates (ranges_again ranges)

-- Deeds of one kind with the same data are one.
same_deeds : (d e : Deed) → kind_of d ≡ kind_of e → payload_of d ≡ payload_of e → new_payload_of d ≡ new_payload_of e → d ≡ e
same_deeds d e kind payload new =
    sym (deed_again d)
    ∙ ap (λ (k : ℕ). deed_of k (payload_of d) (new_payload_of d)) kind
    ∙ ap (λ (l : List ℕ). deed_of (kind_of e) l (new_payload_of d)) payload
    ∙ ap (λ (l : List ℕ). deed_of (kind_of e) (payload_of e) l) new
    ∙ deed_again e

-- The entries have the same parts.
record SameParts (a b : HistoryEntry) : Type 0 where
  pass : a.pass ≡ b.pass
  job : a.job ≡ b.job
  first : a.operation.first ≡ b.operation.first
  blocks : a.operation.blocks ≡ b.operation.blocks
  kind : kind_of a.operation.deed ≡ kind_of b.operation.deed
  payload : payload_of a.operation.deed ≡ payload_of b.operation.deed
  new : new_payload_of a.operation.deed ≡ new_payload_of b.operation.deed

entries_of_parts : (a b : HistoryEntry) → SameParts a b → a ≡ b
entries_of_parts a b same =
    let deed : a.operation.deed ≡ b.operation.deed = same_deeds a.operation.deed b.operation.deed same.kind same.payload same.new in
    ap (λ (n : ℕ). record { pass = n; job = a.job; operation = a.operation }) same.pass
    ∙ ap (λ (n : ℕ). record { pass = b.pass; job = n; operation = a.operation }) same.job
    ∙ ap (λ (n : ℕ). record { pass = b.pass; job = b.job; operation = record { first = n; blocks = a.operation.blocks; deed = a.operation.deed } }) same.first
    ∙ ap (λ (n : ℕ). record { pass = b.pass; job = b.job; operation = record { first = b.operation.first; blocks = n; deed = a.operation.deed } }) same.blocks
    ∙ ap (λ (d : Deed). record { pass = b.pass; job = b.job; operation = record { first = b.operation.first; blocks = b.operation.blocks; deed = d } }) deed

lists : (xs ys : List ℕ) → Decides (pointwise nat_eq xs ys) (xs ≡ ys)
lists xs ys = slice_eq-Decides Decides-eqb xs ys (pointwise nat_eq xs ys) refl

pub same_entry_decides : (a b : HistoryEntry) → Decides (same_entry a b) (a ≡ b)
same_entry_decides a b =
    let o = a.operation in
    let p = b.operation in
    let numbers = Decides-and (nat_eq a.pass b.pass) (nat_eq a.job b.job) (Decides-eqb a.pass b.pass) (Decides-eqb a.job b.job) in
    let range = Decides-and (nat_eq o.first p.first) (nat_eq o.blocks p.blocks) (Decides-eqb o.first p.first) (Decides-eqb o.blocks p.blocks) in
    let x = pointwise nat_eq (payload_of o.deed) (payload_of p.deed) in
    let y = pointwise nat_eq (new_payload_of o.deed) (new_payload_of p.deed) in
    let k = nat_eq (kind_of o.deed) (kind_of p.deed) in
    let data_same = Decides-and x y (lists (payload_of o.deed) (payload_of p.deed)) (lists (new_payload_of o.deed) (new_payload_of p.deed)) in
    let deed = Decides-and k (x && y) (Decides-eqb (kind_of o.deed) (kind_of p.deed)) data_same in
    let operation = Decides-and (nat_eq o.first p.first && nat_eq o.blocks p.blocks) (k && (x && y)) range deed in
    let all = Decides-and (nat_eq a.pass b.pass && nat_eq a.job b.job) ((nat_eq o.first p.first && nat_eq o.blocks p.blocks) && (k && (x && y))) numbers operation in (
      λ e.
          let h = all.0 e in
          entries_of_parts a b
          (record {
            pass = h.0.0;
            job = h.0.1;
            first = h.1.0.0;
            blocks = h.1.0.1;
            kind = h.1.1.0;
            payload = h.1.1.1.0;
            new = h.1.1.1.1;
          }),
      λ e.
          all.1 (
            (ap (λ (x : HistoryEntry). x.pass) e, ap (λ (x : HistoryEntry). x.job) e),
            (
              (ap (λ (x : HistoryEntry). x.operation.first) e, ap (λ (x : HistoryEntry). x.operation.blocks) e),
              (
                ap (λ (x : HistoryEntry). kind_of x.operation.deed) e,
                (ap (λ (x : HistoryEntry). payload_of x.operation.deed) e, ap (λ (x : HistoryEntry). new_payload_of x.operation.deed) e),
              ),
            ),
          ),
    )
