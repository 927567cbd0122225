-- The pieces of a trace beside a record's jobs, one piece after the other.
use Rattle.std.proofs.Common.{◌≡◌, ℕ, zero, suc, ◌+◌, ◌<◌, List, [], ◌∷◌, ◌++◌, length, map, take, drop, get_or, sym, ap, subst, ◌∙◌, refl, inl, inr, arith}
use Rattle.std.proofs.lemmas.Bool.{cases_lt}
use Rattle.std.proofs.lemmas.List.{length-append, append_assoc, take-append-drop}
use Rattle.std.proofs.lemmas.Grind.{flat_map-append}
use Rattle.std.proofs.lemmas.List.FromFn.{get_or-range_with_len, length-range_with_len}
use Rattle.std.specs.List.{range_with_len}
use mathlib.Core.Option.{some-injective}
use Rattle.nvm_record.specs.Lists.{IsAt}
use Rattle.nvm_plan.specs.declared.job.Job.{Job}
use Rattle.nvm_geometry.specs.Namespace.{Namespace}
use Rattle.nvm_trace.specs.declared.cut.Cut.TheVariants.{Block}
use Rattle.nvm_trace.specs.declared.reads.Reads.{Reads}
use Rattle.nvm_trace.specs.declared.judging.Judging.{Judging}
use Rattle.nvm_trace.specs.declared.traced_job.TracedJob.{TracedJob}
use Rattle.nvm_trace.specs.declared.witness_fault.WitnessFault.{WitnessFault}
use Rattle.nvm_trace.specs.declared.witness_fault.WitnessFault.TheVariants.{NamespaceDiffers, JobDiffers, NoPreparation, Unlawful, ReplyDiffers, TimeBack, NoMemory}
use Rattle.nvm_trace.specs.Inside.Matching.{AreMatched, IsFirstOther, IsOtherFault}
use Rattle.nvm_trace.specs.Pieces.{Piece, piece, pieces_of, pieces_in, job_of}
use Rattle.nvm_trace.proofs.Gathered.{taken, flat_taken}
use Rattle.nvm_trace.proofs.Places.{none_stands, below, read_is, stands_read, at_map}

module _ {A : Type 0} where
  pub at_left : (xs ys : List A) (i : ℕ) (x : A) → IsAt xs i x → IsAt (xs ++ ys) i x
  at_left [] ys i x e = absurd (none_stands i x e)
  at_left (y ∷ xs) ys zero x e = e
  at_left (y ∷ xs) ys (suc i) x e = at_left xs ys i x e

  pub at_below : (xs ys : List A) (i : ℕ) (x : A) → i < length xs → IsAt (xs ++ ys) i x → IsAt xs i x
  at_below [] ys i x low e = absurd (omega (arith, low))
  at_below (y ∷ xs) ys zero x low e = e
  at_below (y ∷ xs) ys (suc i) x low e = at_below xs ys i x (omega (arith, low)) e

  pub at_end : (xs : List A) (x : A) → IsAt (xs ++ x ∷ []) (length xs) x
  at_end [] x = refl
  at_end (y ∷ xs) x = at_end xs x

  pub at_last : (xs : List A) (x y : A) → IsAt (xs ++ x ∷ []) (length xs) y → x ≡ y
  at_last [] x y e = some-injective x y e
  at_last (z ∷ xs) x y e = at_last xs x y e

module _ (ns : Namespace) (ps : List Piece) (jobs : List Job) (owners : List Piece) (m : AreMatched ns ps jobs owners) where
  -- The next job of the record is this piece.
  pub matched_more : (next : Piece) → IsAt jobs (length owners) (job_of ns next) → AreMatched ns (ps ++ next ∷ []) jobs (owners ++ next ∷ [])
  matched_more next there = record {
    owners_are = ap (λ (os : List Piece). os ++ next ∷ []) m.owners_are;
    each = λ number p at. elim (cases_lt number (length ps)) [
      | inl low ↦ m.each number p (at_below ps (next ∷ []) number p low at)
      | inr high ↦
          let within = below (ps ++ next ∷ []) number p at in
          let long = length-append ps (next ∷ []) in
          let last : number ≡ length ps = omega (arith, within, long, high) in
          let all = ap length m.owners_are in
          let is = at_last ps next p (subst (λ (n : ℕ). IsAt (ps ++ next ∷ []) n p) last at) in
          subst (λ (q : Piece). IsAt jobs number (job_of ns q)) is (subst (λ (n : ℕ). IsAt jobs n (job_of ns next)) (all ∙ sym last) there)
    ];
  }

  -- It isn't.
  pub other_found : (next : Piece) (number : ℕ) → number ≡ length owners → (IsAt jobs number (job_of ns next) → ⊥)
      → IsFirstOther ns (ps ++ next ∷ []) jobs number
  other_found next number is differs =
      let place : number ≡ length ps = is ∙ ap length m.owners_are in
      record {
        other = next;
        there = subst (λ (n : ℕ). IsAt (ps ++ next ∷ []) n next) (sym place) (at_end ps next);
        differs = differs;
        before = λ k p low at. m.each k p (at_below ps (next ∷ []) k p (omega (arith, low, place)) at);
      }

module _ (ns : Namespace) (ps qs : List Piece) (jobs : List Job) where
  other_in_more : (number : ℕ) → IsFirstOther ns ps jobs number → IsFirstOther ns (ps ++ qs) jobs number
  other_in_more number first =
      let within = below ps number first.other first.there in
      record {
        other = first.other;
        there = at_left ps qs number first.other first.there;
        differs = first.differs;
        before = λ k p low at. first.before k p low (at_below ps qs k p (omega (arith, low, within)) at);
      }

  -- A fault of the first pieces is one of all.
  pub fault_in_more : (fault : WitnessFault) → IsOtherFault ns ps jobs fault → IsOtherFault ns (ps ++ qs) jobs fault
  fault_in_more NamespaceDiffers is = is
  fault_in_more (JobDiffers number) is = other_in_more number is
  fault_in_more (NoPreparation number) is = is
  fault_in_more (Unlawful fault) is = is
  fault_in_more (ReplyDiffers number) is = is
  fault_in_more (TimeBack number spot) is = is
  fault_in_more NoMemory is = is

module _ (ps all : List Piece) (k : ℕ) (p : Piece) (there : IsAt all k p) where
  -- One piece more of these.
  pub one_more : (ps ++ take k all) ++ p ∷ [] ≡ ps ++ take (k + 1) all
  one_more =
      append_assoc ps (take k all) (p ∷ [])
      ∙ ap (λ (qs : List Piece). ps ++ qs) (sym (taken all k p (below all k p there) (sym (read_is all k p p there))))

  pub fault_there : (ns : Namespace) (jobs : List Job) (fault : WitnessFault) → IsOtherFault ns ((ps ++ take k all) ++ p ∷ []) jobs fault
      → IsOtherFault ns (ps ++ all) jobs fault
  fault_there ns jobs fault is =
      subst (λ (qs : List Piece). IsOtherFault ns qs jobs fault)
      (append_assoc ps (take (k + 1) all) (drop (k + 1) all) ∙ ap (λ (qs : List Piece). ps ++ qs) (take-append-drop (k + 1) all))
      (fault_in_more ns (ps ++ take (k + 1) all) (drop (k + 1) all) jobs fault
      (subst (λ (qs : List Piece). IsOtherFault ns qs jobs fault) one_more is))

-- The piece for block k.
pub block_there : (j : TracedJob) (blocks k : ℕ) → k < blocks → IsAt (map (piece j) (map Block (range_with_len 0 blocks))) k (piece j (Block k))
block_there j blocks k low =
    let numbers = range_with_len 0 blocks in
    let long = length-range_with_len 0 blocks in
    let read = get_or-range_with_len 0 blocks k k low in
    let there = stands_read numbers k k (omega (arith, low, long)) (omega (arith, read)) in
    at_map (piece j) (map Block numbers) k (Block k) (at_map Block numbers k k there)

-- A fault of the pieces of the first jobs is one of all.
pub fault_in_all : (judging : Judging) (ns : Namespace) (reads : Reads) (all : List TracedJob) (i : ℕ) (j : TracedJob) → i < length all → j ≡ get_or all i j
    → (jobs : List Job) (fault : WitnessFault) → IsOtherFault ns (pieces_in judging ns reads (take i all) ++ pieces_of judging ns reads j) jobs fault
    → IsOtherFault ns (pieces_in judging ns reads all) jobs fault
fault_in_all judging ns reads all i j low is jobs fault of =
    let f = pieces_of judging ns reads in
    let front = take (i + 1) all in
    let rest = drop (i + 1) all in
    subst (λ (qs : List Piece). IsOtherFault ns qs jobs fault)
    (sym (flat_map-append f front rest) ∙ ap (λ (js : List TracedJob). pieces_in judging ns reads js) (take-append-drop (i + 1) all))
    (fault_in_more ns (pieces_in judging ns reads front) (pieces_in judging ns reads rest) jobs fault
    (subst (λ (qs : List Piece). IsOtherFault ns qs jobs fault) (flat_taken f [] all i j low is) of))
