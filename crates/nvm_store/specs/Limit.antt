use Rattle.std.specs.Prelude.{ℕ, ◌≤◌}

-- How many entries a unit's history may have at most: 1 to 4,194,304.
abbrev pub IsLimit : ℕ → Type 0
IsLimit n = (1 ≤ n) × (n ≤ 4194304)
