-- What is known after an entry that succeeds.
use Rattle.std.proofs.Common.{◌≡◌, ◌&&◌, Bool, true, subst}

-- after a success what is left decides
pub after_success : (b y z : Bool) → b ≡ true → (b && y) ≡ z → y ≡ z
after_success b y z succeeds h = subst (λ (x : Bool). (x && y) ≡ z) succeeds h
