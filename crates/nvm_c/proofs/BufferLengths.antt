-- How long the buffer is with which entries ask for a job.
use Rattle.std.proofs.Common.{◌≡◌, ◌∙◌, ◌++◌, ℕ, ◌+◌, ◌*◌, ◌%◌, ◌<◌, ◌≤◌, Bool, true, false, if◌then◌else◌, IsTrue, List, [], ◌∷◌, length, get_or, take, drop, slice_index, ap, sym, subst, refl, arith}
use Rattle.std.proofs.Math.Seq.{drop-append_seam, take-append_seam}
use Rattle.std.proofs.lemmas.List.{length-append, length-drop, length-take-le, take-append-drop}
use Rattle.byteorder.specs.Endian.{little_number}
use Rattle.nvm_record.specs.Entry.{IsEntryOf, IsSpelling, called_for, data_kept, data_length}
use Rattle.nvm_record.specs.Op.{carries_ranges, fuse_of}
use Rattle.nvm_record.specs.declared.command.Command.{Command}
use Rattle.nvm_record.specs.declared.op.Op.{Op}
use Rattle.nvm_record.specs.declared.op.Op.TheVariants.{Write, Read, WriteUncorrectable, Compare, WriteZeroes, Dataset, Other}
use Rattle.nvm_plan.specs.declared.job.Body.{Body}
use Rattle.nvm_plan.specs.declared.job.Body.TheVariants.{Single, Pair}
use Rattle.nvm_c.specs.Asked.{AskFor, IsAskedTogether, op_in, reads}
use Rattle.nvm_c.specs.Carried.{IsCarried, IsLengthWith, carried_alone}

-- the command of an entry and this data
abbrev command : List ℕ → List ℕ → Command
command entry bytes =
    record {
      cid = little_number 2 (drop 2 entry);
      nsid = little_number 4 (drop 4 entry);
      fuse = fuse_of (slice_index entry 1 % 4);
      op = op_in entry;
      slba = if carries_ranges (op_in entry) then 0 else little_number 8 (drop 40 entry);
      nlb = if carries_ranges (op_in entry) then 0 else little_number 2 (drop 48 entry);
      payload = data_kept (op_in entry) bytes;
    }

module _ (size : ℕ) (entry : List ℕ) (whole : length entry ≡ 64) (bytes : List ℕ) where
  front : take 64 (entry ++ bytes) ≡ entry
  front = ap (λ (n : ℕ). take n (entry ++ bytes)) (sym whole) ∙ take-append_seam entry bytes

  back : drop 64 (entry ++ bytes) ≡ bytes
  back = ap (λ (n : ℕ). drop n (entry ++ bytes)) (sym whole) ∙ drop-append_seam entry bytes

  -- Data that spells a command is as long as its entry calls for.
  pub long : (c : Command) → IsSpelling size (entry ++ bytes) c → length bytes ≡ called_for size entry
  long c spelled = sym (ap length back) ∙ spelled.called_for ∙ ap (called_for size) front

  is_entry : IsEntryOf entry (command entry bytes)
  is_entry = record { whole = whole; op = refl; fuse = refl; cid = refl; nsid = refl; slba = refl; nlb = refl }

  -- Data that is as long spells a command.
  pub spells : length bytes ≡ called_for size entry → (c : Command) × IsSpelling size (entry ++ bytes) c
  spells is = (
    command entry bytes,
    record {
      entry = rw front is_entry;
      payload = sym (ap (data_kept (op_in entry)) back);
      called_for = ap length back ∙ is ∙ sym (ap (called_for size) front);
    },
  )

-- A Read calls for no data.
no_data : (size : ℕ) (op : Op) (nlb nr : ℕ) → reads op ≡ true → data_length size op nlb nr ≡ 0
no_data size Read nlb nr is = refl
no_data size Write nlb nr is = cc
no_data size WriteUncorrectable nlb nr is = cc
no_data size Compare nlb nr is = cc
no_data size WriteZeroes nlb nr is = cc
no_data size (Dataset deallocate) nlb nr is = cc
no_data size (Other opcode) nlb nr is = cc

module _ (size : ℕ) (entry : List ℕ) (whole : length entry ≡ 64) (blocks : ℕ) where
  abbrev Asks : Bool → List ℕ → Command → Type 0
  Asks b buffer c = IsSpelling size (entry ++ (if b then [] else buffer)) c × (IsTrue b → length buffer ≡ blocks)

  only_by : (b : Bool) (buffer : List ℕ) (c : Command) → Asks b buffer c → length buffer ≡ (if b then blocks else called_for size entry)
  only_by true buffer c asks = asks.1 refl
  only_by false buffer c asks = long size entry whole buffer c asks.0

  taken_by : (b : Bool) → (b ≡ true → called_for size entry ≡ 0) → (buffer : List ℕ)
      → length buffer ≡ (if b then blocks else called_for size entry) → (c : Command) × Asks b buffer c
  taken_by true none buffer is = let found = spells size entry whole [] (sym (none refl)) in (found.0, (found.1, λ _. is))
  taken_by false none buffer is = let found = spells size entry whole buffer is in (found.0, (found.1, λ h. cc h))

module _ (size : ℕ) (entry : List ℕ) (whole : length entry ≡ 64) where
  only_alone : (buffer : List ℕ) (body : Body) → AskFor size entry buffer body → length buffer ≡ carried_alone size entry
  only_alone buffer (Single c) asked =
      only_by size entry whole ((little_number 2 (drop 48 entry) + 1) * size) (reads (op_in entry)) buffer c (asked.spelled, asked.room)
  only_alone buffer (Pair c d) asked = absurd (omega (arith, whole, asked.whole))

  pub alone : IsLengthWith size entry (carried_alone size entry)
  alone = record {
    taken = λ host buffer is.
        let none = no_data size (op_in entry) (little_number 2 (drop 48 entry)) (slice_index entry 40) in
        let found = taken_by size entry whole ((little_number 2 (drop 48 entry) + 1) * size) (reads (op_in entry)) none buffer is in (
          record { host = host; body = Single found.0 },
          record { by_host = refl; body = record { whole = whole; spelled = found.1.0; room = found.1.1 } },
        );
    only = λ host buffer job asked. only_alone buffer job.body asked.body;
  }

module _ (size : ℕ) (first second : List ℕ) (one : length first ≡ 64) (other : length second ≡ 64) where
  front_of : take 64 (first ++ second) ≡ first
  front_of = ap (λ (n : ℕ). take n (first ++ second)) (sym one) ∙ take-append_seam first second

  back_of : drop 64 (first ++ second) ≡ second
  back_of = ap (λ (n : ℕ). drop n (first ++ second)) (sym one) ∙ drop-append_seam first second

  both : length (first ++ second) ≡ 128
  both = length-append first second ∙ ap (λ (k : ℕ). k + length second) one ∙ ap (λ (k : ℕ). 64 + k) other

  -- The two parts of a buffer are as long as it is.
  parts : (n : ℕ) (buffer : List ℕ) → length (take n buffer) + length (drop n buffer) ≡ length buffer
  parts n buffer = sym (length-append (take n buffer) (drop n buffer)) ∙ ap length (take-append-drop n buffer)

  only_both : (buffer : List ℕ) (c d : Command) → IsAskedTogether size (first ++ second) buffer c d
      → length buffer ≡ called_for size first + called_for size second
  only_both buffer c d asked =
      let n : ℕ = called_for size first in
      let front : IsSpelling size (first ++ take n buffer) c =
      subst (λ (e : List ℕ). IsSpelling size (e ++ take (called_for size e) buffer) c) front_of asked.first in
      let behind : IsSpelling size (second ++ drop (called_for size (take 64 (first ++ second))) buffer) d =
      subst (λ (e : List ℕ). IsSpelling size (e ++ drop (called_for size (take 64 (first ++ second))) buffer) d) back_of asked.second in
      let back : IsSpelling size (second ++ drop n buffer) d =
      subst (λ (e : List ℕ). IsSpelling size (second ++ drop (called_for size e) buffer) d) front_of behind in
      let a : length (take n buffer) ≡ n = long size first one (take n buffer) c front in
      let b : length (drop n buffer) ≡ called_for size second = long size second other (drop n buffer) d back in
      sym (parts n buffer) ∙ ap (λ (k : ℕ). k + length (drop n buffer)) a ∙ ap (λ (k : ℕ). n + k) b

  taken_both : (buffer : List ℕ) → length buffer ≡ called_for size first + called_for size second
      → (c : Command) × ((d : Command) × IsAskedTogether size (first ++ second) buffer c d)
  taken_both buffer is =
      let n : ℕ = called_for size first in
      let a : length (take n buffer) ≡ n = length-take-le n buffer (omega (arith, is)) in
      let b : length (drop n buffer) ≡ called_for size second = length-drop n buffer ∙ omega (arith, is) in
      let c = spells size first one (take n buffer) a in
      let d = spells size second other (drop n buffer) b in (
        c.0,
        (
          d.0,
          record {
            whole = both;
            first = subst (λ (e : List ℕ). IsSpelling size (e ++ take (called_for size e) buffer) c.0) (sym front_of) c.1;
            second = subst (λ (e : List ℕ). IsSpelling size (e ++ drop (called_for size (take 64 (first ++ second))) buffer) d.0) (sym back_of)
                (subst (λ (e : List ℕ). IsSpelling size (second ++ drop (called_for size e) buffer) d.0) (sym front_of) d.1);
          },
        ),
      )

  only_together : (buffer : List ℕ) (body : Body) → AskFor size (first ++ second) buffer body
      → length buffer ≡ called_for size first + called_for size second
  only_together buffer (Single c) asked = absurd (omega (arith, both, asked.whole))
  only_together buffer (Pair c d) asked = only_both buffer c d asked

  pub together : IsLengthWith size (first ++ second) (called_for size first + called_for size second)
  together = record {
    taken = λ host buffer is.
        let found = taken_both buffer is in
        (record { host = host; body = Pair found.0 found.1.0 }, record { by_host = refl; body = found.1.1 });
    only = λ host buffer job asked. only_together buffer job.body asked.body;
  }

-- The number of entries is what they are taken for.
pub of_one : (size : ℕ) (es : List (List ℕ)) (count : ℕ) → 1 ≤ length es → length es < 2
    → IsLengthWith size (get_or es 0 []) count → IsCarried size es count
of_one size [] count some few is = absurd (omega (arith, some))
of_one size (e ∷ []) count some few is = is
of_one size (e ∷ (f ∷ rest)) count some few is = absurd (omega (arith, few))

pub of_two : (size : ℕ) (es : List (List ℕ)) (count : ℕ) → 2 ≤ length es → length es < 3
    → IsLengthWith size (get_or es 0 [] ++ get_or es 1 []) count → IsCarried size es count
of_two size [] count some few is = absurd (omega (arith, some))
of_two size (e ∷ []) count some few is = absurd (omega (arith, some))
of_two size (e ∷ (f ∷ [])) count some few is = is
of_two size (e ∷ (f ∷ (g ∷ rest))) count some few is = absurd (omega (arith, few))
