-- Which kinds of jobs a mix gives: those whose weight isn't 0, and Reads.
use Rattle.std.specs.Prelude.{◌<◌}
use Rattle.nvm_generate.specs.declared.kind.Kind.{Kind}
use Rattle.nvm_generate.specs.declared.kind.Kind.TheVariants as kinds
use Rattle.nvm_generate.specs.declared.load.Mix.{Mix}

abbrev pub IsKindOf : Mix → Kind → Type 0
IsKindOf mix kinds.Write = 0 < mix.write
IsKindOf mix kinds.Read = Unit {0}
IsKindOf mix kinds.Compare = 0 < mix.compare
IsKindOf mix kinds.Pair = 0 < mix.pair
IsKindOf mix kinds.Zeroes = 0 < mix.zeroes
IsKindOf mix kinds.Uncorrectable = 0 < mix.uncorrectable
IsKindOf mix kinds.Deallocate = 0 < mix.deallocate
