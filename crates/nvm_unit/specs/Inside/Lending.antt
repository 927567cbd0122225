-- What a seat ends as, once the book in its slot was lent.
use Rattle.std.specs.Prelude.{Some}
use Rattle.std.specs.Borrow.{Lends, Fml, RattleType, MutBor}
use Rattle.atomic_table.specs.Lent.{seat_with}
use Rattle.nvm_unit.specs.declared.kept.Kept.{Ghosts}
use Rattle.nvm_unit.specs.declared.steps.Token.{Token}
use Rattle.nvm_unit.specs.contracts.book.Book.{the_row as book_row}
use Rattle.nvm_unit.specs.contracts.steps.Token.{the_row}
use Rattle.nvm_unit.specs.Inside.Book.{Recorded}

-- the seat, with this book in the slot that it holds
abbrev pub with_book : {K : Type 0} → Token K → Recorded → Token K
with_book token book = record { seat = seat_with token.seat 0 (Some book) }

abbrev pub lends_book : (K : RattleType) → Ghosts K.Denot → MutBor (Token K.Denot) → MutBor Recorded → Fml
lends_book K kept token r = Lends (the_row K kept) (book_row K kept) token r (with_book token.now)
