-- The rule of one deck's deque.
use Rattle.std.specs.Prelude.{◌≡◌, ℕ, ◌+◌, ◌-◌, ◌<◌, ◌≤◌, ⊤, Bool, true, false, List, [], ◌∷◌, ◌++◌, length}
use mathlib.Core.Option.{some}
use lib.ListN.{get_elem?}
use Rattle.block_deques.specs.declared.block.Block.{Block}
use Rattle.block_deques.specs.declared.block.Hand.{Hand}

-- the weights of the blocks, added up
abbrev pub weigh : (Block → ℕ) → List Block → ℕ
weigh h [] = 0
weigh h (x ∷ xs) = h x + weigh h xs

-- what the views give, added up
abbrev pub total : (Hand → ℕ) → List Hand → ℕ
total f [] = 0
total f (v ∷ vs) = f v + total f vs

-- the indexes rise, from the one and below the other
abbrev pub Rises : ℕ → ℕ → List Block → Type 0
Rises low high [] = ⊤
Rises low high (x ∷ xs) = (low ≤ x.index) × (x.index < high) × Rises (x.index + 1) high xs

-- the indexes are the numbers from the one on
abbrev pub IsNumbered : ℕ → List Block → Type 0
IsNumbered n [] = ⊤
IsNumbered n (x ∷ xs) = (x.index ≡ n) × IsNumbered (n + 1) xs

-- the view with these fields
abbrev pub hand : ℕ → Bool → List Block → List Block → List Block → Hand
hand parts owner put taken joined = record { parts = parts; owner = owner; put = put; taken = taken; joined = joined }

-- the parts of the right to know the whole
abbrev pub all_parts : ℕ
all_parts = 1024

-- the owner knows all that was put; what a pass took rises; a pass with no part took nothing
abbrev pub Fits : ℕ → ℕ → List Block → ℕ → Hand → Type 0
Fits writer at puts port v = (v.owner ≡ true → (port ≡ writer) × (v.put ≡ puts)) × Rises 0 at v.taken × (v.parts ≡ 0 → (v.taken ≡ []) × (v.joined ≡ []))

-- what was taken, and behind it what the deque holds, are the blocks that were put, numbered from 0
pub record Kept (items : List Block) (views : List Hand) : Type 0 where
  pub writer : ℕ
  pub front : List Block
  pub numbered : IsNumbered 0 (front ++ items)
  pub weights : (h : Block → ℕ) → total (λ v. weigh h v.taken + weigh h v.joined) views ≡ weigh h front
  pub parts : total (λ v. v.parts) views ≡ all_parts
  pub each : (port : ℕ) (v : Hand) → get_elem? views port ≡ some v → Fits writer (length front) (front ++ items) port v

-- some blocks more are put
abbrev pub Puts : Hand → List Block → Hand → Type 0
Puts v xs w = w ≡ hand v.parts v.owner (v.put ++ xs) v.taken v.joined

-- the indexes of what one taker took rise
abbrev pub IsRising : List Block → Type 0
IsRising xs = (high : ℕ) × Rises 0 high xs

-- some blocks more are taken, and the indexes of all that was taken rise
abbrev pub Took : Hand → List Block → Hand → Type 0
Took v xs w = (w ≡ hand v.parts v.owner v.put (v.taken ++ xs) v.joined) × IsRising w.taken

-- the rule can hold of an empty deque where a pass knows this. Other passes may have taken all else, so this does not say that the deque was empty
pub record WasEmpty (v : Hand) : Type 0 where
  pub views : List Hand
  pub port : ℕ
  pub kept : Kept [] views
  pub here : get_elem? views port ≡ some v

-- the owner once it has given one part away
abbrev pub owner_after : Hand → Hand
owner_after v = hand (v.parts - 1) v.owner v.put v.taken v.joined

-- a pass for a thief: one part
abbrev pub thief : Hand
thief = hand 1 false [] [] []

-- a pass that was taken in
abbrev pub spent_hand : Hand
spent_hand = hand 0 false [] [] []

-- one takes in what the other took
abbrev pub both : Hand → Hand → Hand
both v w = hand (v.parts + w.parts) v.owner v.put v.taken (v.joined ++ (w.taken ++ w.joined))

-- what was put is what this pass and those that it joined took, and what the deque holds
abbrev pub Sums : Hand → List Block → Type 0
Sums v items = (h : Block → ℕ) → weigh h v.put ≡ (weigh h v.taken + weigh h v.joined) + weigh h items

-- who knows the whole takes a block, which was put
abbrev pub Drained : Hand → List Block → Hand → Type 0
Drained v xs w = Took v xs w × (length w.taken + length w.joined ≤ length w.put)
