-- Ranks: by what open leaves are chosen; and the lesser of two bounds.
use Rattle.std.specs.Prelude.{⊤, ℤ, ◌<ℤ◌, ◌≡◌, ◌≤◌, ◌⊎◌, Option, Some, None, int_lt, if◌then◌else◌}
use Rattle.search_nodes.specs.declared.rank.Rank.{Rank}

-- the first bound is not known and the second one is, or it is the lower one
abbrev pub IsLowerBound : Option ℤ → Option ℤ → Type 0
IsLowerBound None (Some least) = ⊤
IsLowerBound (Some bound) (Some least) = bound <ℤ least
IsLowerBound None None = ⊥
IsLowerBound (Some bound) None = ⊥

-- the first rank has the lower bound, or the same one and is at least as deep
abbrev pub ComesBefore : Rank → Rank → Type 0
ComesBefore r q = IsLowerBound r.bound q.bound ⊎ ((r.bound ≡ q.bound) × (q.depth ≤ r.depth))

-- the lesser of two bounds, where there are any
abbrev pub lesser_of : Option ℤ → Option ℤ → Option ℤ
lesser_of None other = other
lesser_of (Some bound) None = Some bound
lesser_of (Some bound) (Some other) = Some (if int_lt other bound then other else bound)
