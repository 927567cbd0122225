-- The file of whole commands is read as exactly these.
use Rattle.std.proofs.Common.{◌≡◌, ℕ, ◌+◌, ◌≤◌, List, [], ◌∷◌, ◌++◌, length, drop, All, refl, sym, ap, ◌∙◌, subst, append_assoc}
use Rattle.std.specs.List.{flat_map, AllByRecursion}
use Rattle.std.proofs.lemmas.List.{append-nil, drop_all}
use Rattle.std.proofs.lemmas.List.Elements.{recursion_from_All}
use Rattle.nvm_record.specs.Entry.{IsWhole, IsSpelling, spelling_of}
use Rattle.nvm_record.specs.HostFile.{BeginsWithAll, IsHostFile, file_of}
use Rattle.nvm_record.specs.declared.command.Command.{Command}

abbrev pub SpellsItself : Command → Type 0
SpellsItself c = (size : ℕ) → IsWhole size c → IsSpelling size (spelling_of c) c

begins : (size : ℕ) (cs : List Command) → AllByRecursion SpellsItself cs → AllByRecursion (IsWhole size) cs → BeginsWithAll size (flat_map spelling_of cs) cs []
begins size [] spelled whole = refl
begins size (c ∷ cs) spelled whole = (flat_map spelling_of cs, (spelling_of c, refl, spelled.0 size whole.0), begins size cs spelled.1 whole.1)

pub read_again : (size : ℕ) (cs : List Command) (bytes : List ℕ) → bytes ≡ file_of cs → AllByRecursion SpellsItself cs → All (IsWhole size) cs → length cs ≤ 65536 → IsHostFile size bytes cs
read_again size cs bytes e spelled whole few =
    subst (λ (b : List ℕ). IsHostFile size b cs) (sym e) (record {
      name = refl;
      commands = begins size cs spelled (recursion_from_All (IsWhole size) cs whole);
      few = few;
    })

-- one command more is written
pub written_more : (bytes : List ℕ) (c : Command) (cs : List Command) (i : ℕ) (whole : List ℕ) → drop i cs ≡ c ∷ drop (i + 1) cs
    → bytes ++ flat_map spelling_of (drop i cs) ≡ whole → (bytes ++ spelling_of c) ++ flat_map spelling_of (drop (i + 1) cs) ≡ whole
written_more bytes c cs i whole here so_far =
    append_assoc bytes (spelling_of c) (flat_map spelling_of (drop (i + 1) cs))
    ∙ ap (λ (ds : List Command). bytes ++ flat_map spelling_of ds) (sym here) ∙ so_far

pub spelled_more : (c : Command) (cs : List Command) (i : ℕ) → drop i cs ≡ c ∷ drop (i + 1) cs → SpellsItself c
    → (AllByRecursion SpellsItself (drop i cs) → AllByRecursion SpellsItself cs) → AllByRecursion SpellsItself (drop (i + 1) cs) → AllByRecursion SpellsItself cs
spelled_more c cs i here this so_far rest = so_far (subst (λ (ds : List Command). AllByRecursion SpellsItself ds) (sym here) (this, rest))

pub all_spelled : (cs : List Command) (i : ℕ) → length cs ≤ i → (AllByRecursion SpellsItself (drop i cs) → AllByRecursion SpellsItself cs) → AllByRecursion SpellsItself cs
all_spelled cs i le h = h (subst (λ (ds : List Command). AllByRecursion SpellsItself ds) (sym (drop_all i cs le)) tt)

pub all_written : (bytes : List ℕ) (cs : List Command) (i : ℕ) → length cs ≤ i → bytes ++ flat_map spelling_of (drop i cs) ≡ file_of cs → bytes ≡ file_of cs
all_written bytes cs i le so_far =
    sym (append-nil bytes) ∙ ap (λ (ds : List Command). bytes ++ flat_map spelling_of ds) (sym (drop_all i cs le)) ∙ so_far
