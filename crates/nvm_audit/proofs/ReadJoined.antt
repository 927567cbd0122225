-- What the parts of a Read read of some bytes, joined, is these bytes.
use Rattle.std.proofs.Common.{◌≡◌, ℕ, ◌+◌, ◌-◌, ◌*◌, ◌≤◌, List, [], ◌∷◌, ◌++◌, length, map, take, drop, Some, unwrap_or, sym, ap, subst, ◌∙◌, add-mul, zero-mul, arith}
use Rattle.std.proofs.lemmas.List.{take-append-drop, drop_all, drop-drop}
use Rattle.std.specs.List.{AllByRecursion, flat_map}
use Rattle.nvm_geometry.specs.Namespace.{Namespace}
use Rattle.nvm_geometry.specs.Parts.{blocks_below, blocks_in, units_of_range, data_part, piece_in, pieces_of, AreInLine}
use Rattle.nvm_plan.specs.Outcome.{units_told, data_told}
use Rattle.nvm_plan.specs.Reply.{Reply}

-- What the law below says that is used here.
abbrev pub StandInLine : Type 0
StandInLine = (ns : Namespace) (first blocks : ℕ) → first + blocks ≤ ns.nsze → AreInLine first blocks (pieces_of ns first blocks)

module _ (ns : Namespace) (first blocks : ℕ) (bytes : List ℕ) where
  -- what the bytes have of the unit's blocks
  abbrev pub bytes_in : ℕ → List ℕ
  bytes_in unit = data_part ns.block_size (blocks_below ns first blocks unit) (blocks_in ns first blocks unit) bytes

  -- the bytes of these units, where those of `skipped` blocks come before them
  from : (skipped left : ℕ) (units : List ℕ) → AreInLine (first + skipped) left (map (piece_in ns first blocks) units)
      → length bytes ≡ (skipped + left) * ns.block_size → flat_map bytes_in units ≡ drop (skipped * ns.block_size) bytes
  from skipped left [] line long =
      let none : skipped + left ≡ skipped = omega (arith, line) in
      let all : length bytes ≡ skipped * ns.block_size = long ∙ ap (λ (n : ℕ). n * ns.block_size) none in
      sym (drop_all (skipped * ns.block_size) bytes (subst (λ (n : ℕ). length bytes ≤ n) all (omega arith)))
  from skipped left (unit ∷ units) line long =
      let size = ns.block_size in
      let n = blocks_in ns first blocks unit in
      let start : first + blocks_below ns first blocks unit ≡ first + skipped = line.0 in
      let here : blocks_below ns first blocks unit ≡ skipped = omega (arith, start) in
      let fits : n ≤ left = line.2 in
      let sum : skipped + left ≡ skipped + n + (left - n) = omega (arith, fits) in
      let place : first + skipped + n ≡ first + (skipped + n) = omega arith in
      let rest =
      from (skipped + n) (left - n) units
      (subst (λ (at : ℕ). AreInLine at (left - n) (map (piece_in ns first blocks) units)) place line.3)
      (long ∙ ap (λ (k : ℕ). k * size) sum) in
      let behind : drop ((skipped + n) * size) bytes ≡ drop (n * size) (drop (skipped * size) bytes) =
      ap (λ (k : ℕ). drop k bytes) (add-mul skipped n size) ∙ sym (drop-drop (n * size) (skipped * size) bytes) in
      ap (λ (k : ℕ). take (n * size) (drop (k * size) bytes) ++ flat_map bytes_in units) here
      ∙ ap (λ (l : List ℕ). take (n * size) (drop (skipped * size) bytes) ++ l) (rest ∙ behind)
      ∙ take-append-drop (n * size) (drop (skipped * size) bytes)

  -- each part read what the bytes have of its blocks
  joined : (replies : List Reply) → AllByRecursion (λ reply. reply.payload ≡ Some (bytes_in reply.part.unit)) replies
      → data_told replies ≡ flat_map bytes_in (units_told replies)
  joined [] each = λ i. []
  joined (reply ∷ replies) each =
      ap (λ o. unwrap_or o [] ++ data_told replies) each.0 ∙ ap (λ (l : List ℕ). bytes_in reply.part.unit ++ l) (joined replies each.1)

  pub read_joined : StandInLine → first + blocks ≤ ns.nsze → length bytes ≡ blocks * ns.block_size → (replies : List Reply)
      → units_told replies ≡ units_of_range ns first blocks
      → AllByRecursion (λ reply. reply.payload ≡ Some (bytes_in reply.part.unit)) replies
      → data_told replies ≡ bytes
  read_joined in_line inside long replies units each =
      let start : first ≡ first + 0 = omega arith in
      let count : blocks ≡ 0 + blocks = omega arith in
      joined replies each
      ∙ ap (flat_map bytes_in) units
      ∙ from 0 blocks (units_of_range ns first blocks)
      (subst (λ (at : ℕ). AreInLine at blocks (pieces_of ns first blocks)) start (in_line ns first blocks inside))
      (long ∙ ap (λ (n : ℕ). n * ns.block_size) count)
      ∙ ap (λ (n : ℕ). drop n bytes) (zero-mul ns.block_size)
