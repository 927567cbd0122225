-- How commands are listed: a line each, with the options that it can't do without.
use Rattle.std.specs.Prelude.{ℕ, ◌+◌, ◌%◌, ◌==◌, if◌then◌else◌, List, [], ◌∷◌, ◌++◌, map, codes, decimal}
use Rattle.nvm_record.specs.Op.{carries_blocks, carries_ranges}
use Rattle.nvm_record.specs.Ranges.{ranges_of}
use Rattle.nvm_record.specs.declared.lba_range.LbaRange.{LbaRange}
use Rattle.nvm_record.specs.declared.op.Op.{Op}
use Rattle.nvm_record.specs.declared.op.Op.TheVariants as ops
use Rattle.nvm_record.specs.declared.op.Fuse.{Fuse}
use Rattle.nvm_record.specs.declared.op.Fuse.TheVariants.{Normal, First, Second, Reserved}
use Rattle.nvm_record.specs.declared.command.Command.{Command}
use Rattle.nvm_text.specs.Runs.{runs}
use Rattle.nvm_text.specs.Lines.{name_of, runs_text}
use Rattle.nvm_list.specs.Commas.{joined}

-- where the blocks start, and how many there are
abbrev pub place_words : Command → List (List ℕ)
place_words c = decimal c.slba ∷ decimal (c.nlb + 1) ∷ []

-- the data as the longest runs of equal bytes
abbrev pub data_words : Command → List (List ℕ)
data_words c = if carries_blocks c.op then runs_text (runs c.payload) ∷ [] else []

-- where the range starts, and how many blocks it has
abbrev pub range_text : LbaRange → List ℕ
range_text r = decimal r.first ++ (codes "+" ++ decimal r.blocks)

-- ranges, joined by commas
abbrev pub ranges_text : List LbaRange → List ℕ
ranges_text rs = joined (map range_text rs)

-- what the command is on: its ranges, or its blocks and their data
abbrev pub operand_words : Command → List (List ℕ)
operand_words c =
    if carries_ranges c.op then ranges_text (ranges_of c.payload) ∷ [] else place_words c ++ data_words c

-- none where nothing is deallocated
abbrev pub deallocate_words : Op → List (List ℕ)
deallocate_words ops.Write = []
deallocate_words ops.Read = []
deallocate_words ops.WriteUncorrectable = []
deallocate_words ops.Compare = []
deallocate_words ops.WriteZeroes = []
deallocate_words (ops.Dataset deallocate) = if deallocate then codes "deallocate" ∷ [] else []
deallocate_words (ops.Other opcode) = []

abbrev pub fuse_words : Fuse → List (List ℕ)
fuse_words Normal = []
fuse_words First = codes "first" ∷ []
fuse_words Second = codes "second" ∷ []
fuse_words Reserved = codes "reserved" ∷ []

-- none where the identifier is the command's place
abbrev pub cid_words : ℕ → ℕ → List (List ℕ)
cid_words place cid = if cid == place % 65536 then [] else (codes "cid=" ++ decimal cid) ∷ []

-- none where the namespace is 1
abbrev pub nsid_words : ℕ → List (List ℕ)
nsid_words nsid = if nsid == 1 then [] else (codes "nsid=" ++ decimal nsid) ∷ []

abbrev pub option_words : ℕ → Command → List (List ℕ)
option_words place c = deallocate_words c.op ++ (fuse_words c.fuse ++ (cid_words place c.cid ++ nsid_words c.nsid))

-- words, each after a space
abbrev pub behind_spaces : List (List ℕ) → List ℕ
behind_spaces [] = []
behind_spaces (word ∷ words) = codes " " ++ (word ++ behind_spaces words)

-- the command at a place of its list, in words
abbrev pub command_text : ℕ → Command → List ℕ
command_text place c = name_of c.op ++ behind_spaces (operand_words c ++ option_words place c)

-- the line of the command at a place of the list
abbrev pub listed_line : ℕ → Command → List ℕ
listed_line place c =
    name_of c.op
    ++ (behind_spaces (operand_words c ++ option_words place c) ++ codes "\n")

-- the lines of commands, of which the first is at place `place`
abbrev pub listing_from : ℕ → List Command → List ℕ
listing_from place [] = []
listing_from place (c ∷ cs) = listed_line place c ++ listing_from (place + 1) cs

abbrev pub listing : List Command → List ℕ
listing cs = listing_from 1 cs
