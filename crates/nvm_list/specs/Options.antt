-- The words after a command: its place in a fused operation, its identifier, its namespace, and whether ranges are
-- deallocated.
use Rattle.std.specs.Prelude.{ℕ, Bool, true, false, if◌then◌else◌, List, [], ◌∷◌, take, drop, codes, Option, Some, None, Result, Ok, Err}
use Rattle.std.specs.Str.{bytes_eq}
use Rattle.nvm_record.specs.declared.op.Fuse.{Fuse}
use Rattle.nvm_record.specs.declared.op.Fuse.TheVariants.{First, Second, Reserved}
use Rattle.nvm_list.specs.Numbers.{number}
use Rattle.nvm_list.specs.Expecting.{◌>>=◌, expect}
use Rattle.nvm_list.specs.declared.expected.Expected.{Expected}
use Rattle.nvm_list.specs.declared.expected.Expected.TheVariants as expecting

-- what is given of the options
pub record Options : Type 0 where
  pub fuse : Option Fuse
  pub cid : Option ℕ
  pub nsid : Option ℕ
  pub deallocate : Bool

abbrev pub no_options : Options
no_options = record { fuse = None; cid = None; nsid = None; deallocate = false }

-- an option that isn't given yet
abbrev pub once : {A : Type 0} → Option A → Result Options Expected → Result Options Expected
once None given = given
once (Some x) given = Err expecting.OptionOnce

abbrev pub with_fuse : Options → Fuse → Result Options Expected
with_fuse o fuse =
    once o.fuse (Ok (record { fuse = Some fuse; cid = o.cid; nsid = o.nsid; deallocate = o.deallocate }))

abbrev pub with_cid : Options → Option ℕ → Result Options Expected
with_cid o cid =
    once o.cid
    (expect expecting.Cid cid
    >>= λ n. Ok (record { fuse = o.fuse; cid = Some n; nsid = o.nsid; deallocate = o.deallocate }))

abbrev pub with_nsid : Options → Option ℕ → Result Options Expected
with_nsid o nsid =
    once o.nsid
    (expect expecting.Nsid nsid
    >>= λ n. Ok (record { fuse = o.fuse; cid = o.cid; nsid = Some n; deallocate = o.deallocate }))

abbrev pub with_deallocate : Options → Result Options Expected
with_deallocate o =
    if o.deallocate
    then Err expecting.OptionOnce
    else Ok (record { fuse = o.fuse; cid = o.cid; nsid = o.nsid; deallocate = true })

-- what only a command on ranges may have
abbrev pub with_range_option : Options → List ℕ → Result Options Expected
with_range_option o word =
    if bytes_eq word (codes "deallocate") then with_deallocate o else Err expecting.RangeOptionName

-- the options with one more, which a word says after a command that is on ranges, or on blocks
abbrev pub with_option : Bool → Options → List ℕ → Result Options Expected
with_option ranges o word =
    if bytes_eq word (codes "first") then with_fuse o First else
    if bytes_eq word (codes "second") then with_fuse o Second else
    if bytes_eq word (codes "reserved") then with_fuse o Reserved else
    if bytes_eq (take 4 word) (codes "cid=") then with_cid o (number 65535 (drop 4 word)) else
    if bytes_eq (take 5 word) (codes "nsid=") then with_nsid o (number 4294967295 (drop 5 word)) else
    if ranges then with_range_option o word else Err expecting.OptionName

abbrev pub options_after : Bool → Options → List (List ℕ) → Result Options Expected
options_after ranges o [] = Ok o
options_after ranges o (word ∷ words) = with_option ranges o word >>= λ more. options_after ranges more words

abbrev pub options : Bool → List (List ℕ) → Result Options Expected
options ranges words = options_after ranges no_options words
