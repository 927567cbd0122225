-- Each command that a record of the version can hold is read of its spelling.
use Rattle.std.proofs.Common.{◌≡◌, ◌⊎◌, ℕ, ◌+◌, ◌*◌, ◌-◌, ◌/◌, ◌%◌, ◌≤◌, Bool, true, false, cond, leb, List, ◌++◌, length, Ok, inl, inr, refl, sym, ap, subst, ◌∙◌, arith}
use Rattle.std.proofs.lemmas.Bool.{and_from, le-leb}
use Rattle.std.proofs.lemmas.Slice.Eq.{bytes_eq-Decides}
use Rattle.std.specs.Str.{bytes_eq}
use Rattle.nvm_record.specs.declared.command.Command.{Command}
use Rattle.nvm_record.specs.declared.op.Op.{Op}
use Rattle.nvm_record.specs.declared.op.Op.TheVariants.{Write, Read, WriteUncorrectable, Compare, WriteZeroes, Dataset, Other}
use Rattle.nvm_record.specs.Entry.{HasDataOf, HasFieldsInRange, HasRanges, IsUnknownDataset, IsWhole, data_length, entry_of, spelling_of}
use Rattle.nvm_record.specs.Op.{carries_ranges, IsProperOp}
use Rattle.nvm_record.specs.Ranges.{data_of_ranges, most_ranges, range_count, ranges_of}
use Rattle.nvm_audit.specs.declared.version.Version.{Version}
use Rattle.nvm_audit.specs.declared.version.Version.TheVariants.{One, Two}
use Rattle.nvm_audit.specs.Recordable.{HoldsCommand}
use Rattle.nvm_file.specs.declared.scope.Scope.{Scope}
use Rattle.nvm_file.specs.declared.standing.Standing.{Standing}
use Rattle.nvm_file.specs.CommandReading.{command_at, fields_in, may_follow, may_stand}
use Rattle.nvm_file.proofs.CommandsAgain.{command_again}
use Rattle.nvm_file.proofs.CommandsReturn.{dataset_back, fields_back, fields_by}
use Rattle.nvm_file.proofs.CutRanges.{count_of_ranges, length_of_ranges}

data_is : (size : ℕ) (op : Op) (c : Command) (nr : ℕ) → carries_ranges op ≡ false → HasDataOf size op c
    → length c.payload ≡ data_length size op c.nlb nr
data_is size Write c nr none h = h
data_is size Read c nr none h = h
data_is size WriteUncorrectable c nr none h = h
data_is size Compare c nr none h = h
data_is size WriteZeroes c nr none h = h
data_is size (Dataset deallocate) c nr none h = absurd cc
data_is size (Other opcode) c nr none h = h

known_by : (version : Version) (size : ℕ) (c : Command) → IsWhole size c ⊎ IsUnknownDataset c → HoldsCommand version c
    → IsProperOp c.op ⊎ ((version ≡ One) × (c.op ≡ Other 9))
known_by One size c (inl whole) known = inl whole.op
known_by One size c (inr unknown) known = inr (refl, unknown.op)
known_by Two size c (inl whole) known = inl whole.op
known_by Two size c (inr unknown) known = absurd (known unknown.op)

length_by : (size : ℕ) (c : Command) (nr : ℕ) → carries_ranges c.op ≡ false → IsWhole size c ⊎ IsUnknownDataset c
    → length c.payload ≡ data_length size c.op c.nlb nr
length_by size c nr none (inl whole) = data_is size c.op c nr none whole.payload
length_by size c nr none (inr unknown) =
    subst (λ (o : Op). length c.payload ≡ data_length size o c.nlb nr) (sym unknown.op) unknown.payload

follows_plainly : (op : Op) (payload : List ℕ) → carries_ranges op ≡ false → may_follow op payload ≡ true
unfolding may_follow
follows_plainly op payload none = rw none refl

follows_ranges : (op : Op) (payload : List ℕ) → carries_ranges op ≡ true → range_count payload ≤ most_ranges
    → payload ≡ data_of_ranges (ranges_of payload) → may_follow op payload ≡ true
unfolding may_follow
follows_ranges op payload some few plain =
    let same = (bytes_eq-Decides payload (data_of_ranges (ranges_of payload))).1 plain in
    rw some (and_from (leb (range_count payload) most_ranges) (bytes_eq payload (data_of_ranges (ranges_of payload)))
    (le-leb (range_count payload) most_ranges few) same)

-- Where ranges are whole, the eight bits in the entry say how many there are.
bits_say : (len count : ℕ) → count ≡ len / 16 → len ≡ count * 16 → 1 ≤ count → count ≤ 256
    → len ≡ ((len / 16 - 1) % 256 + 1) * 16
bits_say len count c e some few = omega (arith, c, e, some, few)

module _ (scope : Scope) (standing : Standing) (c : Command) (rest : List ℕ)
    (range : HasFieldsInRange c) (stands : may_stand standing (fields_by c) ≡ true) where
  pub plain_again : carries_ranges c.op ≡ false → IsWhole scope.geometry.block_size c ⊎ IsUnknownDataset c → HoldsCommand scope.version c
      → command_at scope standing (spelling_of c ++ rest) ≡ Ok (c, rest)
  plain_again none whole known =
      let size = scope.geometry.block_size in
      command_again scope standing c rest (fields_back scope.version c none (known_by scope.version size c whole known) range)
      (λ t. absurd (not_both (carries_ranges c.op) none t)) stands
      (length_by size c (fields_by c).nr none whole) (follows_plainly c.op c.payload none)
    where
      not_both : (b : Bool) → b ≡ false → b ≡ true → ⊥
      not_both true f t = absurd cc
      not_both false f t = absurd cc

  pub dataset_again : (deallocate : Bool) → scope.version ≡ Two → c.op ≡ Dataset deallocate → HasRanges c
      → command_at scope standing (spelling_of c ++ rest) ≡ Ok (c, rest)
  dataset_again deallocate two op h =
      let size = scope.geometry.block_size in
      let some : carries_ranges c.op ≡ true = ap carries_ranges op in
      let fields : fields_in scope.version (entry_of c) ≡ fields_by c =
      subst (λ (v : Version). fields_in v (entry_of c) ≡ fields_by c) (sym two) (dataset_back c deallocate op h.slba h.nlb range) in
      let whole : length c.payload ≡ range_count c.payload * 16 =
      ap length h.plain ∙ length_of_ranges (ranges_of c.payload) ∙ ap (λ (n : ℕ). n * 16) (count_of_ranges c.payload) in
      let bits = bits_say (length c.payload) (range_count c.payload) refl whole h.some h.few in
      let len : length c.payload ≡ data_length size c.op c.nlb (fields_by c).nr =
      subst (λ (o : Op). length c.payload ≡ data_length size o c.nlb (cond (carries_ranges o) ((length c.payload / 16 - 1) % 256) 0))
      (sym op) bits in
      command_again scope standing c rest fields (λ _. h.nlb) stands len (follows_ranges c.op c.payload some h.few h.plain)
