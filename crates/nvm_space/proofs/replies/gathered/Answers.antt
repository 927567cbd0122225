use Rattle.std.proofs.Common.{inl, inr, refl, sym, IsSome, subst}
use Rattle.nvm_space.proofs.PartReplies.{none_added, some_added}
use Rattle.nvm_space.proofs.replies.gathered.Goals as goal

pub returns-in_default : goal.returns-in_default
returns-in_default c = λ unit. inl (refl, refl, none_added c.args.bytes.now.items c.args.reply.payload c.in_default.is)

pub returns-in-Ok : goal.returns-in-Ok
returns-in-Ok c = λ unit. inl (refl, refl, some_added c.args.bytes.now.items c.add.new.bytes.items c.in-Some.payload c.args.reply.payload c.in-Some.is c.in-Ok.ensures)

pub returns-in-Err : goal.returns-in-Err
returns-in-Err c = λ unit. inr (subst IsSome (sym c.in-Some.is) refl, refl, refl)
