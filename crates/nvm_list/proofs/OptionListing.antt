-- Options that are listed are read again.
use Rattle.std.proofs.Common.{◌≡◌, ℕ, ◌%◌, ◌<◌, ◌==◌, Bool, true, false, if◌then◌else◌, List, [], ◌∷◌, ◌++◌, codes, decimal, Option, Some, None, unwrap_or, Ok, refl, sym, ap, ◌∙◌, arith}
use Rattle.std.specs.List.{AllByRecursion}
use Rattle.std.proofs.lemmas.Bool.{eqb-true}
use Rattle.nvm_record.specs.Op.{carries_ranges}
use Rattle.nvm_record.specs.declared.op.Op.{Op}
use Rattle.nvm_record.specs.declared.op.Op.TheVariants as ops
use Rattle.nvm_record.specs.declared.op.Fuse.{Fuse}
use Rattle.nvm_record.specs.declared.op.Fuse.TheVariants.{Normal, First, Second, Reserved}
use Rattle.nvm_record.specs.declared.command.Command.{Command}
use Rattle.nvm_list.specs.Expecting.{◌>>=◌}
use Rattle.nvm_list.specs.Options.{Options, no_options, with_cid, with_nsid, options_after, options}
use Rattle.nvm_list.specs.Listing.{deallocate_words, fuse_words, cid_words, nsid_words, option_words}
use Rattle.nvm_list.proofs.PlainText.{IsPlainWord}
use Rattle.nvm_list.proofs.NumberListing.{decimal_word, number_again}

abbrev given : Bool → Option Fuse → Option ℕ → Option ℕ → Options
given deallocate fuse cid nsid = record { fuse = fuse; cid = cid; nsid = nsid; deallocate = deallocate }

abbrev fuse_given : Fuse → Option Fuse
fuse_given Normal = None
fuse_given First = Some First
fuse_given Second = Some Second
fuse_given Reserved = Some Reserved

-- whether the operation deallocates
abbrev pub bit_of : Op → Bool
bit_of ops.Write = false
bit_of ops.Read = false
bit_of ops.WriteUncorrectable = false
bit_of ops.Compare = false
bit_of ops.WriteZeroes = false
bit_of (ops.Dataset deallocate) = deallocate
bit_of (ops.Other opcode) = false

bit_again : (op : Op) (rest : List (List ℕ)) → options_after (carries_ranges op) no_options (deallocate_words op ++ rest) ≡ options_after (carries_ranges op) (given (bit_of op) None None None) rest
bit_again ops.Write rest = refl
bit_again ops.Read rest = refl
bit_again ops.WriteUncorrectable rest = refl
bit_again ops.Compare rest = refl
bit_again ops.WriteZeroes rest = refl
bit_again (ops.Dataset true) rest = refl
bit_again (ops.Dataset false) rest = refl
bit_again (ops.Other opcode) rest = refl

fuse_again : (ranges bit : Bool) (fuse : Fuse) (rest : List (List ℕ)) → options_after ranges (given bit None None None) (fuse_words fuse ++ rest) ≡ options_after ranges (given bit (fuse_given fuse) None None) rest
fuse_again ranges bit Normal rest = refl
fuse_again ranges bit First rest = refl
fuse_again ranges bit Second rest = refl
fuse_again ranges bit Reserved rest = refl

-- an option that is left out where it is what stands for it
abbrev unless : Bool → ℕ → Option ℕ
unless b n = if b then None else Some n

cid_by : (ranges bit b : Bool) (fuse : Option Fuse) (cid : ℕ) (rest : List (List ℕ)) → cid < 65536
    → options_after ranges (given bit fuse None None) ((if b then [] else (codes "cid=" ++ decimal cid) ∷ []) ++ rest) ≡ options_after ranges (given bit fuse (unless b cid) None) rest
cid_by ranges bit true fuse cid rest fits = refl
cid_by ranges bit false fuse cid rest fits =
    ap (λ (n : Option ℕ). with_cid (given bit fuse None None) n >>= λ more. options_after ranges more rest) (number_again 65535 cid (omega arith) (omega arith))

nsid_by : (ranges bit b : Bool) (fuse : Option Fuse) (cid : Option ℕ) (nsid : ℕ) → nsid < 4294967296
    → options_after ranges (given bit fuse cid None) (if b then [] else (codes "nsid=" ++ decimal nsid) ∷ []) ≡ Ok (given bit fuse cid (unless b nsid))
nsid_by ranges bit true fuse cid nsid fits = refl
nsid_by ranges bit false fuse cid nsid fits =
    ap (λ (n : Option ℕ). with_nsid (given bit fuse cid None) n >>= λ more. options_after ranges more []) (number_again 4294967295 nsid (omega arith) (omega arith))

-- the options that a command can't do without
abbrev pub options_of : ℕ → Command → Options
options_of place c = given (bit_of c.op) (fuse_given c.fuse) (unless (c.cid == place % 65536) c.cid) (unless (c.nsid == 1) c.nsid)

pub options_again : (place : ℕ) (c : Command) → c.cid < 65536 → c.nsid < 4294967296 → options (carries_ranges c.op) (option_words place c) ≡ Ok (options_of place c)
options_again place c cid nsid =
    bit_again c.op (fuse_words c.fuse ++ (cid_words place c.cid ++ nsid_words c.nsid))
    ∙ fuse_again (carries_ranges c.op) (bit_of c.op) c.fuse (cid_words place c.cid ++ nsid_words c.nsid)
    ∙ cid_by (carries_ranges c.op) (bit_of c.op) (c.cid == place % 65536) (fuse_given c.fuse) c.cid (nsid_words c.nsid) cid
    ∙ nsid_by (carries_ranges c.op) (bit_of c.op) (c.nsid == 1) (fuse_given c.fuse) (unless (c.cid == place % 65536) c.cid) c.nsid nsid

pub fuse_is : (fuse : Fuse) → unwrap_or (fuse_given fuse) Normal ≡ fuse
fuse_is Normal = refl
fuse_is First = refl
fuse_is Second = refl
fuse_is Reserved = refl

unless_is : (b : Bool) (n m : ℕ) → (b ≡ true → n ≡ m) → unwrap_or (unless b n) m ≡ n
unless_is true n m h = sym (h refl)
unless_is false n m h = refl

pub number_is : (n m : ℕ) → unwrap_or (unless (n == m) n) m ≡ n
number_is n m = unless_is (n == m) n m (λ e. eqb-true n m e)

-- ---- the words are plain

bit_plain : (op : Op) (rest : List (List ℕ)) → AllByRecursion IsPlainWord rest → AllByRecursion IsPlainWord (deallocate_words op ++ rest)
bit_plain ops.Write rest h = h
bit_plain ops.Read rest h = h
bit_plain ops.WriteUncorrectable rest h = h
bit_plain ops.Compare rest h = h
bit_plain ops.WriteZeroes rest h = h
bit_plain (ops.Dataset true) rest h = (record { some = omega arith; plain = (omega arith, (omega arith, (omega arith, (omega arith, (omega arith, (omega arith, (omega arith, (omega arith, (omega arith, (omega arith, tt)))))))))) }, h)
bit_plain (ops.Dataset false) rest h = h
bit_plain (ops.Other opcode) rest h = h

fuse_plain : (fuse : Fuse) (rest : List (List ℕ)) → AllByRecursion IsPlainWord rest → AllByRecursion IsPlainWord (fuse_words fuse ++ rest)
fuse_plain Normal rest h = h
fuse_plain First rest h = (record { some = omega arith; plain = (omega arith, (omega arith, (omega arith, (omega arith, (omega arith, tt))))) }, h)
fuse_plain Second rest h = (record { some = omega arith; plain = (omega arith, (omega arith, (omega arith, (omega arith, (omega arith, (omega arith, tt)))))) }, h)
fuse_plain Reserved rest h = (record { some = omega arith; plain = (omega arith, (omega arith, (omega arith, (omega arith, (omega arith, (omega arith, (omega arith, (omega arith, tt)))))))) }, h)

cid_plain : (b : Bool) (cid : ℕ) (rest : List (List ℕ)) → cid < 65536 → AllByRecursion IsPlainWord rest → AllByRecursion IsPlainWord ((if b then [] else (codes "cid=" ++ decimal cid) ∷ []) ++ rest)
cid_plain true cid rest fits h = h
cid_plain false cid rest fits h = (record { some = omega arith; plain = (omega arith, (omega arith, (omega arith, (omega arith, (decimal_word cid (omega arith)).plain)))) }, h)

nsid_plain : (b : Bool) (nsid : ℕ) → nsid < 4294967296 → AllByRecursion IsPlainWord (if b then [] else (codes "nsid=" ++ decimal nsid) ∷ [])
nsid_plain true nsid fits = tt
nsid_plain false nsid fits = (record { some = omega arith; plain = (omega arith, (omega arith, (omega arith, (omega arith, (omega arith, (decimal_word nsid (omega arith)).plain))))) }, tt)

pub options_plain : (place : ℕ) (c : Command) → c.cid < 65536 → c.nsid < 4294967296 → AllByRecursion IsPlainWord (option_words place c)
options_plain place c cid nsid =
    bit_plain c.op (fuse_words c.fuse ++ (cid_words place c.cid ++ nsid_words c.nsid))
    (fuse_plain c.fuse (cid_words place c.cid ++ nsid_words c.nsid) (cid_plain (c.cid == place % 65536) c.cid (nsid_words c.nsid) cid (nsid_plain (c.nsid == 1) c.nsid nsid)))
