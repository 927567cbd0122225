-- At which place the last change is.
use Rattle.std.proofs.Common.{◌≡◌, ℕ, ◌+◌, ◌<◌, ◌≤◌, arith, if◌then◌else◌, Bool, true, false, List, [], ◌∷◌, Option, Some, None, IfSome, drop, length, option_map, subst, sym, ◌∙◌}
use Rattle.std.proofs.lemmas.List.{at_drop_all}
use Rattle.std.specs.Option.{option_or}
use Rattle.nvm_record.specs.declared.lba_range.LbaRange.{LbaRange}
use Rattle.nvm_store.specs.HistoryEntry.{HistoryEntry}
use Rattle.nvm_explain.specs.LastChange.{last_change, last_change_from, reaches_one}

-- the place of either is low
either : (n : ℕ) (a b : Option (ℕ × HistoryEntry)) → IfSome a (λ f. f.0 < n) → IfSome b (λ f. f.0 < n)
    → IfSome (option_or a b) (λ f. f.0 < n)
either n None b low other = other
either n (Some f) b low other = low

this_one : (n place : ℕ) (entry : HistoryEntry) (is : Bool) → place < n
    → IfSome {T = ℕ × HistoryEntry} (if is then Some (place, entry) else None) (λ f. f.0 < n)
this_one n place entry true low = low
this_one n place entry false low = tt

-- It is one of those of the entries.
among : (range : LbaRange) (place n : ℕ) (entries : List HistoryEntry) → place + length entries ≡ n
    → IfSome (last_change_from range place entries) (λ f. f.0 < n)
among range place n [] is = tt
among range place n (entry ∷ entries) is =
    either n (last_change_from range (place + 1) entries) _ (among range (place + 1) n entries (omega (arith, is)))
    (this_one n place entry (reaches_one range entry.operation) (omega (arith, is)))

shown_low : {A : Type 0} (show : A → ℕ × HistoryEntry) (n : ℕ) (found : Option A) → IfSome (option_map show found) (λ f. f.0 < n)
    → IfSome found (λ a. (show a).0 < n)
shown_low show n None low = tt
shown_low show n (Some a) low = low

-- So is that of what was found once no entries are left.
pub found_among : {A : Type 0} (show : A → ℕ × HistoryEntry) (range : LbaRange) (place : ℕ) (entries : List HistoryEntry)
    (found : Option A) → length entries ≤ place
    → option_or (last_change_from range place (drop place entries)) (option_map show found) ≡ last_change range entries
    → IfSome found (λ a. (show a).0 < length entries)
found_among show range place entries found past is =
    let whole = sym (at_drop_all (λ (es : List HistoryEntry). option_or (last_change_from range place es) (option_map show found)) entries place past) ∙ is in
    shown_low show (length entries) found
    (subst (λ (f : Option (ℕ × HistoryEntry)). IfSome f (λ it. it.0 < length entries)) (sym whole) (among range 0 (length entries) entries (omega arith)))
