-- Reading a host file from its front.
use Rattle.std.proofs.Common.{inl, inr, ◌≡◌, ℕ, ◌+◌, ◌<◌, ◌≤◌, List, [], ◌∷◌, ◌++◌, length, take, drop, All, refl, sym, ap, ◌∙◌, subst, arith, append_assoc, length-append}
use Rattle.std.proofs.Math.Seq.{take-append_seam, drop-append_seam}
use Rattle.std.proofs.lemmas.List.{take-append-drop, length-take-le}
use Rattle.std.proofs.lemmas.List.Elements.{All-append, All-from_recursion}
use Rattle.nvm_record.specs.Entry.{BeginsWith, IsEntryOf, IsWhole, called_for, data_kept}
use Rattle.nvm_record.specs.HostFile.{BeginsWithAll, IsCutFault, IsAnsweredFault, file_name}
use Rattle.nvm_record.specs.declared.command.Command.{Command}
use Rattle.nvm_record.specs.declared.host_fault.HostFault.{HostFault}
use Rattle.nvm_record.specs.declared.host_fault.HostFault.TheVariants.{BadName, Truncated, TooMany, NoMemory}

-- the command at the front of the bytes, by its entry and the data after it
pub begins_with : (size : ℕ) (bytes : List ℕ) (c : Command) (n : ℕ) → 64 ≤ length bytes → n ≡ called_for size (take 64 bytes) → n ≤ length (drop 64 bytes)
    → IsEntryOf (take 64 bytes) c → c.payload ≡ data_kept c.op (take n (drop 64 bytes)) → BeginsWith size bytes c (drop n (drop 64 bytes))
begins_with size bytes c n whole wanted enough entry payload =
    let found : List ℕ = take n (drop 64 bytes) in
    let front : List ℕ = take 64 bytes ++ found in
    let long : length (take 64 bytes) ≡ 64 = length-take-le 64 bytes whole in
    let first : take 64 front ≡ take 64 bytes = subst (λ (k : ℕ). take k front ≡ take 64 bytes) long (take-append_seam (take 64 bytes) found) in
    let second : drop 64 front ≡ found = subst (λ (k : ℕ). drop k front ≡ found) long (drop-append_seam (take 64 bytes) found) in (
      front,
      sym (append_assoc (take 64 bytes) found (drop n (drop 64 bytes))
          ∙ ap (λ (x : List ℕ). take 64 bytes ++ x) (take-append-drop n (drop 64 bytes))
          ∙ take-append-drop 64 bytes),
      record {
        entry = rw first entry;
        payload = rw second payload;
        called_for = ap length second ∙ length-take-le n (drop 64 bytes) enough ∙ wanted ∙ ap (called_for size) (sym first);
      },
    )

-- So far the file gave these commands, and this is left.
pub record IsReading (size : ℕ) (bytes : List ℕ) (cs : List Command) (rest : List ℕ) : Type 0 where
  pub commands : BeginsWithAll size (drop 4 bytes) cs rest
  pub few : length cs ≤ 65536
  pub name : take 4 bytes ≡ file_name
  pub whole : All (IsWhole size) cs

-- One command more.
pub begins_more : (size : ℕ) (bytes : List ℕ) (cs : List Command) (rest : List ℕ) (c : Command) (after : List ℕ) → BeginsWithAll size bytes cs rest → BeginsWith size rest c after → BeginsWithAll size bytes (cs ++ c ∷ []) after
begins_more size bytes [] rest c after h k = (after, subst (λ (b : List ℕ). BeginsWith size b c after) (sym h) k, refl)
begins_more size bytes (d ∷ cs) rest c after h k = (h.0, h.1, begins_more size h.0 cs rest c after h.2 k)

pub reading_more : (size : ℕ) (bytes : List ℕ) (cs : List Command) (rest : List ℕ) (c : Command) (after : List ℕ) → length cs < 65536 → IsReading size bytes cs rest → BeginsWith size rest c after → IsWhole size c → IsReading size bytes (cs ++ c ∷ []) after
reading_more size bytes cs rest c after few h k whole = record {
  commands = begins_more size (drop 4 bytes) cs rest c after h.commands k;
  few = omega (arith, length-append cs (c ∷ []));
  name = h.name;
  whole = All-append (IsWhole size) cs (c ∷ []) h.whole (All-from_recursion (IsWhole size) (c ∷ []) (whole, tt));
}

-- What isn't whole there is the file's first fault.
pub reading_fault : (size : ℕ) (bytes : List ℕ) (cs : List Command) (rest : List ℕ) (offset : ℕ) (f : HostFault) → length cs < 65536 → IsReading size bytes cs rest → offset + length rest ≡ length bytes → IsCutFault size rest offset f → IsAnsweredFault size bytes f
reading_fault size bytes cs rest offset BadName few h place k = absurd k
reading_fault size bytes cs rest offset (Truncated found) few h place (inside, cut, e) = inl (cs, rest, inside, record { name = h.name; commands = h.commands; few = few; cut = cut; place = omega arith })
reading_fault size bytes cs rest offset TooMany few h place k = absurd k
reading_fault size bytes cs rest offset NoMemory few h place k = inr refl

-- Bytes are left after as many commands as a file may have.
pub reading_too_many : (size : ℕ) (bytes : List ℕ) (cs : List Command) (rest : List ℕ) → length cs ≡ 65536 → (rest ≡ [] → ⊥) → IsReading size bytes cs rest → IsAnsweredFault size bytes TooMany
reading_too_many size bytes cs [] many left h = absurd (left refl)
reading_too_many size bytes cs (byte ∷ rest) many left h = inl (cs, byte ∷ rest, record { name = h.name; commands = h.commands; many = many; left = omega arith })
