-- The text of the first run, and of the others.
use Rattle.std.proofs.Common.{◌≡◌, ◌≢◌, ℕ, ◌<◌, ◌-◌, List, ◌∷◌, ◌++◌, ◌∙◌, ap, sym, arith, drop, get_or, length, length-drop, take}
use Rattle.std.proofs.lemmas.List.{take_rest}
use Rattle.nvm_text.specs.Runs.{run_of, runs}
use Rattle.nvm_text.specs.Lines.{comma_before, run_text, runs_text}
use Rattle.nvm_text.proofs.EqualBytes.{AreEqual, first_run_is}
use Rattle.nvm_text.proofs.JoinedRuns.{run_and_rest}

module _ (bytes : List ℕ) (n : ℕ) (equal : AreEqual bytes n) where
  -- the bytes after the first run
  abbrev pub after : List ℕ
  after = take (length bytes - n) (drop n bytes)

  pub fewer_after : length after < length bytes
  fewer_after = rw (take_rest bytes n) (omega (arith, length-drop n bytes, equal.some, equal.within))

  pub first_and_after : (n < length bytes → get_or bytes n 0 ≢ get_or bytes 0 0)
      → runs_text (runs bytes) ≡ (run_text (run_of n (get_or bytes 0 0)) ++ comma_before after) ++ runs_text (runs after)
  first_and_after longest =
      let r = run_of n (get_or bytes 0 0) in
      ap runs_text (first_run_is bytes n equal longest) ∙ ap (λ l. runs_text (r ∷ runs l)) (sym (take_rest bytes n)) ∙ sym (run_and_rest r after)
