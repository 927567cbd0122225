-- The ranges of a Dataset Management are whole exactly where their context attributes are 0.
use Rattle.std.proofs.Common.{◌≡◌, ◌↔◌, ℕ, ◌≤◌, Bool, true, false, ◌&&◌, leb, IsTrue, List, length, refl, sym, arith}
use Rattle.std.proofs.lemmas.Bool.{and_from, and_parts, le-leb, leb-true}
use Rattle.std.proofs.lemmas.Slice.Eq.{bytes_eq-Decides}
use Rattle.std.specs.Str.{bytes_eq}
use Rattle.nvm_record.specs.declared.command.Command.{Command}
use Rattle.nvm_record.specs.declared.op.Op.{Op}
use Rattle.nvm_record.specs.declared.op.Op.TheVariants.{Write, Read, WriteUncorrectable, Compare, WriteZeroes, Dataset, Other}
use Rattle.nvm_record.specs.Entry.{HasDataOf, IsWhole, data_length}
use Rattle.nvm_record.specs.Op.{carries_ranges, IsProperOp}
use Rattle.nvm_record.specs.Ranges.{data_of_ranges, most_ranges, range_count, ranges_of}
use Rattle.nvm_file.specs.CommandReading.{NamesOnePlace, may_follow}

-- What the ranges of a command of this opcode are.
abbrev pub IsPlain : List ℕ → Type 0
IsPlain payload = payload ≡ data_of_ranges (ranges_of payload)

-- What a Dataset Management has is few ranges, without context attributes.
pub plain : (size : ℕ) (op : Op) (c : Command) → carries_ranges op ≡ true → HasDataOf size op c
    → (range_count c.payload ≤ most_ranges) × IsPlain c.payload
plain size Write c t h = absurd cc
plain size Read c t h = absurd cc
plain size WriteUncorrectable c t h = absurd cc
plain size Compare c t h = absurd cc
plain size WriteZeroes c t h = absurd cc
plain size (Dataset deallocate) c t h = (h.few, h.plain)
plain size (Other opcode) c t h = absurd cc

pub whole_ranges : (size : ℕ) (op : Op) (c : Command) (nr : ℕ) → carries_ranges op ≡ true → (c.slba ≡ 0) × (c.nlb ≡ 0)
    → range_count c.payload ≤ most_ranges → length c.payload ≡ data_length size op c.nlb nr → IsPlain c.payload
    → HasDataOf size op c × IsProperOp op
whole_ranges size Write c nr t none lt len h = absurd cc
whole_ranges size Read c nr t none lt len h = absurd cc
whole_ranges size WriteUncorrectable c nr t none lt len h = absurd cc
whole_ranges size Compare c nr t none lt len h = absurd cc
whole_ranges size WriteZeroes c nr t none lt len h = absurd cc
whole_ranges size (Dataset deallocate) c nr t none lt len h =
    (record { slba = none.0; nlb = none.1; some = omega (arith, len); few = lt; plain = h }, tt)
whole_ranges size (Other opcode) c nr t none lt len h = absurd cc

alike : (a b : Bool) → (a ≡ true → b ≡ true) → (b ≡ true → a ≡ true) → a ≡ b
alike true b f g = sym (f refl)
alike false true f g = g refl
alike false false f g = refl

pub followed : (size : ℕ) (c : Command) (nr : ℕ) (whole : Bool) → NamesOnePlace c.op c.slba c.nlb
    → length c.payload ≡ data_length size c.op c.nlb nr → carries_ranges c.op ≡ true
    → (IsTrue whole ↔ IsWhole size c) → whole ≡ may_follow c.op c.payload
unfolding may_follow
followed size c nr whole place len t iff =
    let few = leb (range_count c.payload) most_ranges in
    let same = bytes_eq c.payload (data_of_ranges (ranges_of c.payload)) in
    let decides = bytes_eq-Decides c.payload (data_of_ranges (ranges_of c.payload)) in
    let both : whole ≡ (few && same) = alike whole _
    (λ e. let h = plain size c.op c t (iff.0 e).payload in and_from few same (le-leb _ _ h.0) (decides.1 h.1))
    (λ e.
    let h = and_parts few same e in
    let is = whole_ranges size c.op c nr t (place t) (leb-true _ _ h.0) len (decides.0 h.1) in
    iff.1 (record { payload = is.0; op = is.1 })) in
    rw t both
