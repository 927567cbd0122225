-- The statuses that are answered have names of their own.
use Rattle.std.proofs.Common.{◌≡◌, ◌≢◌, ℕ, if◌then◌else◌, List, [], ◌∷◌, Option, Some, None, refl, sym, ap, ◌∙◌, subst, inl, inr}
use Rattle.std.specs.List.{AllByRecursion}
use Rattle.std.specs.Str.{bytes_eq}
use Rattle.nvm_record.specs.declared.status.Status.{Status}
use Rattle.nvm_engine.specs.StatusNames.{NamedStatus, status_table, unknown_status, status_name, StandsIn, HasName}

-- what holds of each row's status holds of each that is there
of_rows : (P : Status → Type 0) (rows : List NamedStatus) → AllByRecursion (λ row. P row.status) rows → (s : Status) → StandsIn rows s → P s
of_rows P [] all s there = absurd there
of_rows P (row ∷ rows) all s (inl is) = subst P (sym is) all.0
of_rows P (row ∷ rows) all s (inr there) = of_rows P rows all.1 s there

-- the status that rows have of a name
abbrev named_by : List NamedStatus → List ℕ → Option Status
named_by [] name = None
named_by (row ∷ rows) name = if bytes_eq name row.name then Some row.status else named_by rows name

abbrev IsFound : Status → Type 0
IsFound s = named_by status_table (status_name s) ≡ Some s

each_found : AllByRecursion (λ row. IsFound row.status) status_table
unfolding status_name
each_found = (refl, (refl, (refl, (refl, (refl, (refl, (refl, (refl, (refl, (refl, (refl, tt)))))))))))

found : (s : Status) → HasName s → IsFound s
found s there = of_rows IsFound status_table each_found s there

abbrev some : Status → Option Status
some s = Some s

same_found : (s t : Status) → some s ≡ some t → s ≡ t
same_found s t e = cc

not_none : (s : Status) → some s ≡ None → ⊥
not_none s e = absurd cc

pub apart : (s t : Status) → HasName s → HasName t → status_name s ≡ status_name t → s ≡ t
apart s t a b same = same_found s t (sym (found s a) ∙ ap (named_by status_table) same ∙ found t b)

none_unknown : named_by status_table unknown_status ≡ None
none_unknown = refl

pub known : (s : Status) → HasName s → status_name s ≢ unknown_status
known s a same = not_none s (sym (found s a) ∙ ap (named_by status_table) same ∙ none_unknown)
