use Rattle.std.specs.Prelude.{ℕ, ◌==◌, ◌&&◌, Bool, not, nat_lt}

-- A byte that ends no field, item, key, value or member: no blank, no control character, no `,`, `=` or `@`.
abbrev pub ends_nothing : ℕ → Bool
ends_nothing b = nat_lt 32 b && not (b == 44) && not (b == 61) && not (b == 64)
