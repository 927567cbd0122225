-- The data of a Read, cut into what each of its parts read.
use Rattle.std.proofs.Common.{◌≡◌, ℕ, ◌+◌, ◌-◌, ◌*◌, ◌≤◌, List, [], ◌∷◌, ◌++◌, length, map, take, drop, Option, Some, unwrap_or, sym, ap, ap₂, subst, ◌∙◌, append_assoc, length-append, add-mul, add-zero, zero-mul, arith}
use Rattle.std.specs.List.{AllByRecursion}
use Rattle.std.proofs.Math.Seq.{take-append_seam, drop-append_seam}
use Rattle.nvm_record.specs.Step.{Operation}
use Rattle.nvm_geometry.specs.Namespace.{Namespace}
use Rattle.nvm_geometry.specs.Parts.{blocks_below, blocks_in, units_of_range, data_part, piece_in, pieces_of, AreInLine}
use Rattle.nvm_plan.specs.Outcome.{units_told, data_told}
use Rattle.nvm_plan.specs.Reply.{Reply}

-- The pieces of a range in the namespace are in line.
abbrev pub StandInLine : Type 0
StandInLine = (ns : Namespace) (first blocks : ℕ) → first + blocks ≤ ns.nsze → AreInLine first blocks (pieces_of ns first blocks)

-- The part read the bytes of its blocks in its unit.
pub record ReadItsBlocks (ns : Namespace) (first blocks : ℕ) (r : Reply) : Type 0 where
  pub bytes : List ℕ
  pub read : r.payload ≡ Some bytes
  pub long : length bytes ≡ blocks_in ns first blocks r.part.unit * ns.block_size

-- What the part read is what data has of its blocks.
abbrev pub IsCutOf : Namespace → ℕ → ℕ → List ℕ → Reply → Type 0
IsCutOf ns first blocks all r =
    r.payload ≡ Some (data_part ns.block_size (blocks_below ns first blocks r.part.unit) (blocks_in ns first blocks r.part.unit) all)

-- what is between two ends
between : (front bytes rest : List ℕ) (a b : ℕ) → length front ≡ a → length bytes ≡ b
    → take b (drop a (front ++ (bytes ++ rest))) ≡ bytes
between front bytes rest a b long_front long_bytes =
    subst (λ (n : ℕ). take b (drop n (front ++ (bytes ++ rest))) ≡ bytes) long_front
    (subst (λ (n : ℕ). take n (drop (length front) (front ++ (bytes ++ rest))) ≡ bytes) long_bytes
    (ap (take (length bytes)) (drop-append_seam front (bytes ++ rest)) ∙ take-append_seam bytes rest))

-- The parts from some place on, where `front` is the data of those before it.
cut : (ns : Namespace) (first blocks skipped left : ℕ) (front : List ℕ) (replies : List Reply) → length front ≡ skipped * ns.block_size
    → AreInLine (first + skipped) left (map (piece_in ns first blocks) (units_told replies))
    → AllByRecursion (ReadItsBlocks ns first blocks) replies
    → AllByRecursion (IsCutOf ns first blocks (front ++ data_told replies)) replies × (length (data_told replies) ≡ left * ns.block_size)
cut ns first blocks skipped left front [] long line each =
    let none : left ≡ 0 = line in
    (tt, rw none (sym (zero-mul ns.block_size)))
cut ns first blocks skipped left front (r ∷ rs) long line each =
    let size = ns.block_size in
    let n = blocks_in ns first blocks r.part.unit in
    let bytes = each.0.bytes in
    let start : first + blocks_below ns first blocks r.part.unit ≡ first + skipped = line.0 in
    let here : skipped ≡ blocks_below ns first blocks r.part.unit = omega (arith, start) in
    let read : data_told (r ∷ rs) ≡ bytes ++ data_told rs = ap (λ (o : Option (List ℕ)). unwrap_or o [] ++ data_told rs) each.0.read in
    let whole : front ++ data_told (r ∷ rs) ≡ (front ++ bytes) ++ data_told rs =
    ap (λ (xs : List ℕ). front ++ xs) read ∙ sym (append_assoc front bytes (data_told rs)) in
    let long_front : length (front ++ bytes) ≡ (skipped + n) * size =
    length-append front bytes ∙ ap₂ (λ (a b : ℕ). a + b) long each.0.long ∙ sym (add-mul skipped n size) in
    let place : first + skipped + n ≡ first + (skipped + n) = omega arith in
    let rest =
    cut ns first blocks (skipped + n) (left - n) (front ++ bytes) rs long_front
    (subst (λ (at : ℕ). AreInLine at (left - n) (map (piece_in ns first blocks) (units_told rs))) place line.3) each.1 in
    let mine : IsCutOf ns first blocks (front ++ data_told (r ∷ rs)) r =
    each.0.read
    ∙ ap (λ (xs : List ℕ). Some xs)
    (sym (ap (λ (xs : List ℕ). take (n * size) (drop (blocks_below ns first blocks r.part.unit * size) (front ++ xs))) read
    ∙ between front bytes (data_told rs) (blocks_below ns first blocks r.part.unit * size) (n * size)
    (long ∙ ap (λ (k : ℕ). k * size) here) each.0.long)) in
    let others : AllByRecursion (IsCutOf ns first blocks (front ++ data_told (r ∷ rs))) rs =
    subst (λ (xs : List ℕ). AllByRecursion (IsCutOf ns first blocks xs) rs) (sym whole) rest.0 in
    let fits : n ≤ left = line.2 in
    let sum : n + (left - n) ≡ left = omega (arith, fits) in (
      (mine, others),
      ap (λ (xs : List ℕ). length xs) read ∙ length-append bytes (data_told rs) ∙ ap₂ (λ (a b : ℕ). a + b) each.0.long rest.1
          ∙ sym (add-mul n (left - n) size) ∙ ap (λ (k : ℕ). k * size) sum,
    )

-- The data of all parts of a Read, joined, is as long as its blocks, and each part read what is of its unit.
pub read_is_cut : StandInLine → (ns : Namespace) (op : Operation) (replies : List Reply) → op.first + op.blocks ≤ ns.nsze
    → units_told replies ≡ units_of_range ns op.first op.blocks → AllByRecursion (ReadItsBlocks ns op.first op.blocks) replies
    → AllByRecursion (IsCutOf ns op.first op.blocks (data_told replies)) replies × (length (data_told replies) ≡ op.blocks * ns.block_size)
read_is_cut in_line ns op replies inside units each =
    let line : AreInLine op.first op.blocks (map (piece_in ns op.first op.blocks) (units_told replies)) =
    subst (λ (us : List ℕ). AreInLine op.first op.blocks (map (piece_in ns op.first op.blocks) us)) (sym units)
    (in_line ns op.first op.blocks inside) in
    cut ns op.first op.blocks 0 op.blocks [] replies (sym (zero-mul ns.block_size))
    (subst (λ (at : ℕ). AreInLine at op.blocks (map (piece_in ns op.first op.blocks) (units_told replies))) (sym (add-zero op.first)) line) each
